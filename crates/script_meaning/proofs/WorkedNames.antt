-- The names of the component of the worked rows, and how a row is shown.
use Rattle.std.proofs.Common.{◌≡◌, ℕ, List, Some, [], ◌∷◌, ◌++◌, pos}
use Rattle.values.specs.declared.code.Code.TheVariants.{Empty, Number}
use Rattle.component_items.proofs.FoldLemmas.{at-Signal, at-Memo, at-Store, at-Area, at-Element, at-If, at-Effect}
use Rattle.script_meaning.specs.Names.{Declaration, declared, a_signal, a_memo, a_store, an_area, another, item_names, names_of}
use Rattle.component_items.specs.declared.refusal.Refusal.{Refusal}
use Rattle.script_meaning.specs.Computed.{Read, read_of, refusal_of}
use Rattle.script_meaning.specs.Script.{IsScript, IsNoScript}
use Rattle.script_meaning.specs.Worked.{worked_texts, worked_items, worked_component}
use Rattle.script_meaning.proofs.Decided.{computed_refusal, computed_script}

abbrev pub worked_names : List Declaration
worked_names =
    declared 0 1 (a_signal 0) ++ declared 0 2 (a_memo 1) ++ declared 0 3 (a_store 2 (4 ∷ 5 ∷ []) (Number (pos 0) ∷ Empty ∷ [])) ++
    declared 0 6 (an_area 1) ++ declared 1 7 (a_signal 7) ++ declared 1 9 (an_area 2) ++ declared 2 10 (a_signal 9) ++ declared 0 11 another

pub named : names_of worked_items ≡ worked_names
unfolding item_names
named = simp (at-Signal, at-Memo, at-Store, at-Area, at-Element, at-If, at-Effect)

pub refused_row : {bytes : List ℕ} {why : Refusal} → refusal_of worked_texts worked_names 1 bytes ≡ Some why → IsNoScript worked_component 1 bytes why
refused_row {bytes = bytes} {why = why} is = computed_refusal worked_component worked_names 1 bytes why named is

pub script_row : {bytes : List ℕ} {r : Read} → read_of worked_texts worked_names 1 bytes ≡ Some r → IsScript worked_component 1 bytes r.phases r.texts
script_row {bytes = bytes} {r = r} is = computed_script worked_component worked_names 1 bytes r named is
