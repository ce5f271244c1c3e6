use Rattle.std.proofs.Common.{◌≡◌, take}
use Rattle.script_names.proofs.what.all_fields.Given as goal

abbrev pub invariant-loop-name : goal.invariant-loop-name
invariant-loop-name l = l.fields ≡ take l.name-index l.names
