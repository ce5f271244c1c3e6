use Rattle.std.proofs.Common.{◌≡◌, ◌++◌, drop, Some}
use Rattle.std.specs.List.{flat_map}
use Rattle.plain_evaluation.specs.Page.{items_bytes}
use Rattle.plain_page.specs.Buffer.{bytes_of}
use Rattle.plain_page.specs.Seen.{view_in}
use Rattle.plain_page.proofs.page.Writer.+writing.Given as goal

abbrev pub invariant-items-loop-item : goal.invariant-items-loop-item
invariant-items-loop-item l = bytes_of l.page ++ items_bytes (view_in l.self) (drop l.item-index l.items) l.key ≡ bytes_of l.initial.page ++ items_bytes (view_in l.self) l.items l.key

abbrev pub invariant-each-loop-at : goal.invariant-each-loop-at
invariant-each-loop-at l = bytes_of l.page ++ flat_map (λ row. items_bytes (view_in l.self) l.items (Some row.key)) (drop l.at l.rows.rows) ≡ bytes_of l.initial.page ++ flat_map (λ row. items_bytes (view_in l.self) l.items (Some row.key)) l.rows.rows
