use Rattle.std.proofs.Common.{◌≡◌, ◌++◌, map, take}
use Rattle.std.specs.String.{string_bytes}
use Rattle.script_reader.proofs.texts.add_texts.Given as goal

abbrev pub invariant-loop-text : goal.invariant-loop-text
invariant-loop-text l = record {
  texts : l.component.texts ≡ l.initial.component.texts ++ map string_bytes (take l.text-index l.texts);
  items : l.component.items ≡ l.initial.component.items;
}
