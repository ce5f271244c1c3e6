-- All that a script keeps for its component.
use Rattle.std.proofs.Common.{ℕ, List}
use Rattle.component_items.specs.declared.component.Component.{Component}
use Rattle.component_items.specs.Kept.{IsKept}
use Rattle.script_items.specs.declared.operation.ScriptOp.{ScriptOp}
use Rattle.script_items.specs.KeptFor.{IsKeptFor}
use Rattle.script_meaning.specs.Script.{IsScript}
use Rattle.script_meaning.proofs.Grows.{texts_only_grow}
use Rattle.script_meaning.proofs.KeptFew.{scripts_are_short}
use Rattle.script_meaning.proofs.KeptPaths.{names_are_members}
use Rattle.script_meaning.proofs.KeptWords.{words_are_in_the_table}

pub scripts_are_kept : (component : Component) (first_line : ℕ) (bytes : List ℕ) (script : List (List (List ScriptOp))) (texts : List (List ℕ)) → IsKept component → IsScript component first_line bytes script texts
    → IsKeptFor component script texts
scripts_are_kept component first_line bytes script texts is_kept is = record {
  names = names_are_members component first_line bytes script texts is_kept is;
  words = words_are_in_the_table component first_line bytes script texts is_kept is;
  few = scripts_are_short component first_line bytes script texts is;
  grown = texts_only_grow component first_line bytes script texts is;
}
