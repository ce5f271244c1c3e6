use Rattle.std.proofs.Common.{◌≡◌, ◌++◌, take}
use Rattle.std.specs.List.{flat_map}
use Rattle.plain_evaluation.specs.Page.{attr_bytes}
use Rattle.plain_page.specs.Buffer.{bytes_of}
use Rattle.plain_page.specs.Seen.{view_in}
use Rattle.plain_page.proofs.page.Writer.attrs.Given as goal

abbrev pub invariant-loop-attr : goal.invariant-loop-attr
invariant-loop-attr l = bytes_of l.page ≡ bytes_of l.initial.page ++ flat_map (attr_bytes (view_in l.self) l.key) (take l.attr-index l.attrs)
