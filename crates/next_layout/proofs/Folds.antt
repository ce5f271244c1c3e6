-- What a phase leaves of held state, step by step.
use Rattle.std.proofs.Common.{◌≡◌, ◌⊎◌, ⊎_elim, inl, inr, ℕ, zero, suc, if◌then◌else◌, Bool, true, false, List, [], ◌∷◌, length, Some, None, refl, sym, ap, ◌∙◌}
use Rattle.std.specs.Prelude.{slice_index_or, slice_set}
use Rattle.values.specs.declared.plan.Noted.{Noted}
use Rattle.store_fields.specs.declared.edit.Edit.{Edit}
use Rattle.store_fields.specs.declared.edit.EditOp.{EditOp}
use Rattle.store_fields.specs.declared.edit.Verdict.{Verdict}
use Rattle.component_items.specs.declared.component.Component.{Component}
use Rattle.sources.specs.declared.opening.Opened as rows
use Rattle.sources.specs.Rows.{value_in}
use Rattle.plain_evaluation.specs.Held.{Holding, nothing, value, stored, arrived, Held, holding_of, is_live, arrived_in, arrived_held, first_held}
use Rattle.plain_evaluation.specs.Killed.{going_with, killed}
use Rattle.plain_evaluation.specs.Place.{Place}
use Rattle.plain_evaluation.proofs.Goings.{has_number}
use Rattle.plain_evaluation.proofs.Nesting.{holding_left, live_left}
use Rattle.held_state.specs.Holds.{no_form, form_of, owner_around, HoldsAsSaid}
use Rattle.held_state.specs.State.{HeldState, IsOf, with_held}
use Rattle.script_items.specs.Script.{numbered}
use Rattle.run_meaning.specs.Entries.{disposed_in}
use Rattle.run_meaning.specs.Edits.{Ordered, changed, change, held_changed, held_edited}
use Rattle.run_meaning.specs.Run.{held_disposed}
use Rattle.phase_graph.specs.Graph.{GraphState}
use Rattle.phase_edits.specs.Posts.{posted_edits, verdicts_by}
use Rattle.held_rows.specs.Shown.{held_shown}
use Rattle.next_layout.specs.Next.{IsFolded}
use Rattle.next_layout.proofs.Shown.{same_arrived}

-- ---- no owner comes back to life

lived_without : (component : Component) (owners : List ℕ) (held : Held) (owner : ℕ) → is_live (held_disposed component owners held) owner ≡ true → is_live held owner ≡ true
lived_without component [] held owner lives = lives
lived_without component (x ∷ owners) held owner lives =
    here (has_number (going_with component x).owners owner) (is_live held owner) (sym (live_left (going_with component x) held owner) ∙ lived_without component owners (killed component x held) owner lives)
  where
    here : (gone was : Bool) → (if gone then false else was) ≡ true → was ≡ true
    here true was e = cc
    here false was e = e

live_edited : (xs : List Ordered) (held : Held) → (held_edited xs held).live ≡ held.live
live_edited [] held = refl
live_edited (x ∷ xs) held = live_edited xs (held_changed x.edit held)

pub lived_before : (component : Component) (old : HeldState) (places : List Place) (graph : GraphState) (es : List Noted) (state : HeldState) (verdicts : List (List Verdict)) → IsFolded component old places graph es state verdicts
    → (owner : ℕ) → is_live state.held owner ≡ true → is_live old.held owner ≡ true
lived_before component old places graph es state verdicts folded owner lives =
    let shown : Held = held_shown places (value_in graph.rows) old.held in
    let edited : Held = held_edited (posted_edits graph.edits es) shown in
    sym (ap (λ (flags : List Bool). slice_index_or flags owner false) (live_edited (posted_edits graph.edits es) shown))
    ∙ lived_without component (disposed_in es) edited owner (sym (ap (λ (s : HeldState). is_live s.held owner) folded.held) ∙ lives)

-- ---- no other key arrives

changed_arrived : (op : EditOp) (holding : Holding) → arrived_in (changed op holding).holding ≡ arrived_in holding
changed_arrived op nothing = refl
changed_arrived op (value code) = refl
changed_arrived op (stored store) = refl
changed_arrived op (arrived key) = refl

set_arrived : (holdings : List Holding) (i id : ℕ) (holding : Holding) → arrived_in holding ≡ arrived_in (slice_index_or holdings i nothing) → arrived_in (slice_index_or (slice_set holdings i holding) id nothing) ≡ arrived_in (slice_index_or holdings id nothing)
set_arrived [] i id holding same = refl
set_arrived (h ∷ hs) zero zero holding same = same
set_arrived (h ∷ hs) zero (suc id) holding same = refl
set_arrived (h ∷ hs) (suc i) zero holding same = refl
set_arrived (h ∷ hs) (suc i) (suc id) holding same = set_arrived hs i id holding same

edited_arrived : (xs : List Ordered) (held : Held) (id : ℕ) → arrived_held (held_edited xs held) id ≡ arrived_held held id
edited_arrived [] held id = refl
edited_arrived (x ∷ xs) held id =
    edited_arrived xs (held_changed x.edit held) id
    ∙ set_arrived held.holdings x.edit.store id (change x.edit held).holding (changed_arrived x.edit.op (holding_of held x.edit.store))

disposed_holds : (component : Component) (owners : List ℕ) (held : Held) (id : ℕ) → (holding_of (held_disposed component owners held) id ≡ nothing) ⊎ (holding_of (held_disposed component owners held) id ≡ holding_of held id)
disposed_holds component [] held id = inr refl
disposed_holds component (x ∷ owners) held id = ⊎_elim (λ none. inl none) (λ same. here (has_number (going_with component x).ids id) (same ∙ holding_left (going_with component x) held id)) (disposed_holds component owners (killed component x held) id)
  where
    here : (gone : Bool) → holding_of (held_disposed component owners (killed component x held)) id ≡ (if gone then nothing else holding_of held id)
        → (holding_of (held_disposed component owners (killed component x held)) id ≡ nothing) ⊎ (holding_of (held_disposed component owners (killed component x held)) id ≡ holding_of held id)
    here true e = inl e
    here false e = inr e

no_key : (holding : Holding) → form_of holding ≡ no_form → arrived_in holding ≡ None
no_key nothing e = refl
no_key (value code) e = cc
no_key (stored store) e = cc
no_key (arrived key) e = cc

-- what held nothing holds nothing
formless : (component : Component) (held later : Held) → HoldsAsSaid component held → HoldsAsSaid component later → (id : ℕ) → is_live later (owner_around component id) ≡ true → form_of (holding_of later id) ≡ no_form → form_of (holding_of held id) ≡ no_form
formless component held later was is id live none = was.each id ∙ at (is_live held (owner_around component id))
  where
    first : form_of (holding_of (first_held component) id) ≡ no_form
    first = sym (is.each id ∙ ap (λ (b : Bool). if b then form_of (holding_of (first_held component) id) else no_form) live) ∙ none

    at : (b : Bool) → (if b then form_of (holding_of (first_held component) id) else no_form) ≡ no_form
    at true = first
    at false = refl

pub arrived_before : (component : Component) (old : HeldState) (places : List Place) (graph : GraphState) (es : List Noted) (state : HeldState) (verdicts : List (List Verdict)) → IsFolded component old places graph es state verdicts → IsOf component old
    → (id : ℕ) → is_live state.held (owner_around component id) ≡ true → arrived_held state.held id ≡ arrived_held old.held id
arrived_before component old places graph es state verdicts folded of id live = ⊎_elim gone stays (disposed_holds component (disposed_in es) edited id)
  where
    shown : Held
    shown = held_shown places (value_in graph.rows) old.held

    edited : Held
    edited = held_edited (posted_edits graph.edits es) shown

    is : holding_of state.held id ≡ holding_of (held_disposed component (disposed_in es) edited) id
    is = ap (λ (s : HeldState). holding_of s.held id) folded.held

    gone : holding_of (held_disposed component (disposed_in es) edited) id ≡ nothing → arrived_held state.held id ≡ arrived_held old.held id
    gone none =
        ap arrived_in (is ∙ none)
        ∙ sym (no_key (holding_of old.held id) (formless component old.held state.held of.holds folded.fits.holds id live (ap form_of (is ∙ none))))

    stays : holding_of (held_disposed component (disposed_in es) edited) id ≡ holding_of edited id → arrived_held state.held id ≡ arrived_held old.held id
    stays same = ap arrived_in (is ∙ same) ∙ edited_arrived (posted_edits graph.edits es) shown id ∙ same_arrived places (value_in graph.rows) old.held id

-- ---- the phase, folded

module _ (component : Component) (old : HeldState) (places : List Place) (graph : GraphState) (es : List Noted) where
  -- the writes, the edits and the disposals of the phase, one behind the other
  pub is_folded : (xs : List rows.Opened) (posts : List (List Edit)) (start back edited state : HeldState) (verdicts : List (List Verdict)) → xs ≡ graph.rows → posts ≡ graph.edits → start ≡ old
      → back ≡ with_held start (held_shown places (value_in xs) start.held)
      → edited ≡ with_held back (held_edited (posted_edits posts es) back.held)
      → state ≡ with_held edited (held_disposed component (disposed_in es) edited.held)
      → IsOf component state
      → length verdicts ≡ length posts
      → ((pass : ℕ) (told : List Verdict) → numbered verdicts pass ≡ Some told → told ≡ verdicts_by posts pass es back.held)
      → IsFolded component old places graph es state verdicts
  is_folded xs posts start back edited state verdicts same_rows same_posts same wrote made disposed of passes told = record {
    held = disposed ∙ (λ i. with_held (edited_is i) (held_disposed component (disposed_in es) (edited_is i).held));
    fits = of;
    passes = passes ∙ ap (λ (ps : List (List Edit)). length ps) same_posts;
    told = λ pass mine at. told pass mine at ∙ (λ i. verdicts_by (same_posts i) pass es (back_is i).held);
  }
    where
      back_is : back ≡ with_held old (held_shown places (value_in graph.rows) old.held)
      back_is = wrote ∙ (λ i. with_held (same i) (held_shown places (value_in (same_rows i)) (same i).held))

      edited_is : edited ≡ with_held old (held_edited (posted_edits graph.edits es) (held_shown places (value_in graph.rows) old.held))
      edited_is = made ∙ (λ i. with_held (back_is i) (held_edited (posted_edits (same_posts i) es) (back_is i).held))
