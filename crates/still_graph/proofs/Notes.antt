-- What a phase noted, and what is held behind it.
use Rattle.std.proofs.Common.{◌≡◌, ℕ, zero, suc, ◌+◌, ◌&&◌, if◌then◌else◌, Bool, true, false, List, [], ◌∷◌, Option, Some, None, map, slice_index_or, refl, sym, ap, ◌∙◌, arith}
use Rattle.std.specs.Prelude.{unwrap_or, filter_map}
use Rattle.values.specs.declared.plan.Fact.{Fact}
use Rattle.values.specs.declared.plan.Fact.TheVariants as fact
use Rattle.values.specs.declared.plan.Noted.{Noted}
use Rattle.store_fields.specs.declared.edit.Verdict.{Verdict}
use Rattle.script_items.specs.Script.{numbered}
use Rattle.component_items.specs.declared.component.Component.{Component}
use Rattle.plain_evaluation.specs.Held.{Held}
use Rattle.run_meaning.specs.Entries.{disposed_by, disposed_in}
use Rattle.run_meaning.specs.Edits.{Ordered, held_edited, held_written, edit_of, edits_of}
use Rattle.run_meaning.specs.Lane.{Done}
use Rattle.run_meaning.specs.Phase.{Phase}
use Rattle.run_meaning.specs.Run.{held_disposed}
use Rattle.run_history.specs.Going.{is_edit_by}
use Rattle.run_weave.specs.Lanes.{verdict_of}
use Rattle.phase_edits.specs.Told.{edit_numbers, AreTold}
use Rattle.still_graph.specs.Settling.{held_folded, keeps_rows, all_keep_rows}

-- ---- where no row comes or goes

both_true : (a b : Bool) → (a && b) ≡ true → (a ≡ true) × (b ≡ true)
both_true true b e = (refl, e)
both_true false b e = cc

none_of : {B : Type 0} (f : Noted → Option B) → ((e : Noted) → keeps_rows e.fact ≡ true → f e ≡ None) → (es : List Noted) → all_keep_rows es ≡ true → filter_map f es ≡ []
none_of f non [] all = refl
none_of f non (e ∷ es) all =
    let both = both_true (keeps_rows e.fact) (all_keep_rows es) all in
    simp (non e both.0, none_of f non es both.1)

no_disposal : (f : Fact) (n : ℕ) → keeps_rows f ≡ true → disposed_by (record { number = n; fact = f }) ≡ None
no_disposal (fact.Write row code) n is = refl
no_disposal (fact.Change row code) n is = refl
no_disposal (fact.Ran row code) n is = refl
no_disposal (fact.Void row) n is = refl
no_disposal (fact.Disposed owner) n is = cc
no_disposal (fact.Edit pass index) n is = cc

no_edit : (lanes : List (List Done)) (f : Fact) (n : ℕ) → keeps_rows f ≡ true → edit_of lanes (record { number = n; fact = f }) ≡ None
no_edit lanes (fact.Write row code) n is = refl
no_edit lanes (fact.Change row code) n is = refl
no_edit lanes (fact.Ran row code) n is = refl
no_edit lanes (fact.Void row) n is = refl
no_edit lanes (fact.Disposed owner) n is = cc
no_edit lanes (fact.Edit pass index) n is = cc

not_by : (pass : ℕ) (f : Fact) → keeps_rows f ≡ true → is_edit_by pass f ≡ false
not_by pass (fact.Write row code) is = refl
not_by pass (fact.Change row code) is = refl
not_by pass (fact.Ran row code) is = refl
not_by pass (fact.Void row) is = refl
not_by pass (fact.Disposed owner) is = cc
not_by pass (fact.Edit by index) is = cc

pub none_disposed : (es : List Noted) → all_keep_rows es ≡ true → disposed_in es ≡ []
none_disposed = none_of disposed_by (λ e is. no_disposal e.fact e.number is)

none_edited : (lanes : List (List Done)) (es : List Noted) → all_keep_rows es ≡ true → edits_of lanes es ≡ []
none_edited lanes = none_of (edit_of lanes) (λ e is. no_edit lanes e.fact e.number is)

none_numbered : (pass : ℕ) (es : List Noted) → all_keep_rows es ≡ true → edit_numbers pass es ≡ []
none_numbered pass = none_of (λ (e : Noted). if is_edit_by pass e.fact then Some e.number else None) (λ e is. ap (λ (b : Bool). if b then Some e.number else None) (not_by pass e.fact is))

no_verdicts : (pass : ℕ) → unwrap_or (numbered {A = List Verdict} [] pass) [] ≡ []
no_verdicts zero = refl
no_verdicts (suc pass) = refl

-- no pass has a verdict
pub nothing_told : (p : Phase) (verdicts : List (List Verdict)) → verdicts ≡ [] → all_keep_rows p.entries ≡ true → AreTold p verdicts
nothing_told p verdicts empty all = record { each = λ pass is. ap (λ (vs : List (List Verdict)). unwrap_or (numbered vs pass) []) empty ∙ no_verdicts pass ∙ sym (ap (λ (ns : List ℕ). map (verdict_of p) ns) (none_numbered pass p.entries all)) }

-- ---- what is held behind a phase

pub folded_writes : (component : Component) (p : Phase) (held : Held) → all_keep_rows p.entries ≡ true → held ≡ held_written p.opened p.entries → held ≡ held_folded component p
folded_writes component p held all is = is
    ∙ sym (ap (λ (xs : List Ordered). held_edited xs (held_written p.opened p.entries)) (none_edited p.lanes p.entries all))
    ∙ sym (ap (λ (owners : List ℕ). held_disposed component owners (held_edited (edits_of p.lanes p.entries) (held_written p.opened p.entries))) (none_disposed p.entries all))
