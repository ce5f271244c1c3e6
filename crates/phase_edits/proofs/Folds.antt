-- One entry more.
use Rattle.std.proofs.Common.{◌≡◌, ◌≤◌, ℕ, zero, suc, ◌+◌, List, [], ◌∷◌, length, drop, Option, Some, None, slice_get, refl, sym, ap, ◌∙◌, arith}
use Rattle.std.specs.List.{cons_option}
use Rattle.std.proofs.lemmas.List.{drop_all}
use Rattle.values.specs.declared.plan.Noted.{Noted}
use Rattle.store_fields.specs.declared.edit.Edit.{Edit}
use Rattle.store_fields.specs.declared.edit.Verdict.{Verdict}
use Rattle.component_items.specs.declared.component.Component.{Component}
use Rattle.plain_evaluation.specs.Held.{Held}
use Rattle.held_state.specs.State.{HeldState, with_held}
use Rattle.run_meaning.specs.Entries.{disposed_in, owner_in}
use Rattle.run_meaning.specs.Edits.{Ordered, held_edited}
use Rattle.run_meaning.specs.Run.{held_disposed}
use Rattle.phase_edits.specs.Posts.{edit_made, posted_edits, verdict_made, held_made}
use Rattle.phase_edits.specs.Making.{told_of, all_told, held_left}

-- those from a place on are the one there and those behind it
pub drop_one : {A : Type 0} (xs : List A) (i : ℕ) (x : A) → slice_get xs i ≡ Some x → drop i xs ≡ x ∷ drop (i + 1) xs
drop_one [] i x is = cc
drop_one (y ∷ xs) zero x is = let same : y ≡ x = cc in ap (λ z. z ∷ xs) same
drop_one (y ∷ xs) (suc i) x is = drop_one xs i x is ∙ ap (λ k. x ∷ drop k (y ∷ xs)) {x = suc (i + 1)} {y = suc i + 1} (omega arith)

-- ---- disposals

disposal_more : (component : Component) (o : Option ℕ) (owners : List ℕ) (held : Held) → held_disposed component (cons_option o owners) held ≡ held_disposed component owners (held_left component o held)
disposal_more component None owners held = refl
disposal_more component (Some owner) owners held = refl

-- what is left is that of the start, and what is to come is done to it
pub record Disposing (component : Component) (start : HeldState) (entries : List Noted) (i : ℕ) (state : HeldState) : Type 0 where
  pub same : state ≡ with_held start state.held
  pub rest : held_disposed component (disposed_in (drop i entries)) state.held ≡ held_disposed component (disposed_in entries) start.held

pub disposing : (component : Component) (start : HeldState) (entries : List Noted) → Disposing component start entries 0 start
disposing component start entries = record { same = refl; rest = refl }

pub disposing_more : (component : Component) (start : HeldState) (entries : List Noted) (i : ℕ) (state next : HeldState) (e : Noted) → slice_get entries i ≡ Some e
    → Disposing component start entries i state → next ≡ with_held state (held_left component (owner_in e.fact) state.held) → Disposing component start entries (i + 1) next
disposing_more component start entries i state next e here so is = record {
  same = is ∙ (λ j. with_held (so.same j) (sym held_is j));
  rest =
      ap (held_disposed component (disposed_in (drop (i + 1) entries))) held_is
      ∙ sym (disposal_more component (owner_in e.fact) (disposed_in (drop (i + 1) entries)) state.held)
      ∙ ap (λ es. held_disposed component (disposed_in es) state.held) (sym (drop_one entries i e here))
      ∙ so.rest;
}
  where
    held_is : next.held ≡ held_left component (owner_in e.fact) state.held
    held_is = ap (λ (s : HeldState). s.held) is

pub disposing_ends : (component : Component) (start : HeldState) (entries : List Noted) (i : ℕ) (state : HeldState) → length entries ≤ i
    → Disposing component start entries i state → state ≡ with_held start (held_disposed component (disposed_in entries) start.held)
disposing_ends component start entries i state ends so =
    so.same ∙ ap (with_held start) (sym (ap (λ es. held_disposed component (disposed_in es) state.held) (drop_all i entries ends)) ∙ so.rest)

-- ---- edits

edit_more : (o : Option Ordered) (xs : List Ordered) (held : Held) → held_edited (cons_option o xs) held ≡ held_edited xs (held_made o held)
edit_more None xs held = refl
edit_more (Some x) xs held = refl

pub record Editing (posts : List (List Edit)) (start : HeldState) (none : List (List Verdict)) (entries : List Noted) (i : ℕ) (state : HeldState) (verdicts : List (List Verdict)) : Type 0 where
  pub same : state ≡ with_held start state.held
  pub rest : held_edited (posted_edits posts (drop i entries)) state.held ≡ held_edited (posted_edits posts entries) start.held
  pub told : all_told posts (drop i entries) state.held verdicts ≡ all_told posts entries start.held none

pub editing : (posts : List (List Edit)) (start : HeldState) (none : List (List Verdict)) (entries : List Noted) → Editing posts start none entries 0 start none
editing posts start none entries = record { same = refl; rest = refl; told = refl }

pub editing_more : (posts : List (List Edit)) (start : HeldState) (none : List (List Verdict)) (entries : List Noted) (i : ℕ) (state next : HeldState) (verdicts later : List (List Verdict)) (e : Noted) → slice_get entries i ≡ Some e
    → Editing posts start none entries i state verdicts → next ≡ with_held state (held_made (edit_made posts e) state.held) → later ≡ told_of verdicts e.fact (verdict_made (edit_made posts e) state.held)
    → Editing posts start none entries (i + 1) next later
editing_more posts start none entries i state next verdicts later e here so is told = record {
  same = is ∙ (λ j. with_held (so.same j) (sym held_is j));
  rest =
      ap (held_edited (posted_edits posts (drop (i + 1) entries))) held_is
      ∙ sym (edit_more (edit_made posts e) (posted_edits posts (drop (i + 1) entries)) state.held)
      ∙ ap (λ es. held_edited (posted_edits posts es) state.held) (sym (drop_one entries i e here))
      ∙ so.rest;
  told =
      (λ j. all_told posts (drop (i + 1) entries) (held_is j) (told j))
      ∙ ap (λ es. all_told posts es state.held verdicts) (sym (drop_one entries i e here))
      ∙ so.told;
}
  where
    held_is : next.held ≡ held_made (edit_made posts e) state.held
    held_is = ap (λ (s : HeldState). s.held) is

pub editing_ends : (posts : List (List Edit)) (start : HeldState) (none : List (List Verdict)) (entries : List Noted) (i : ℕ) (state : HeldState) (verdicts : List (List Verdict)) → length entries ≤ i
    → Editing posts start none entries i state verdicts → (state ≡ with_held start (held_edited (posted_edits posts entries) start.held)) × (verdicts ≡ all_told posts entries start.held none)
editing_ends posts start none entries i state verdicts ends so = (
  so.same ∙ ap (with_held start) (sym (ap (λ es. held_edited (posted_edits posts es) state.held) (drop_all i entries ends)) ∙ so.rest),
  sym (ap (λ es. all_told posts es state.held verdicts) (drop_all i entries ends)) ∙ so.told,
)
