-- What an id stands for when a phase opens.
use Rattle.std.proofs.Common.{◌≡◌, ℕ, ◌&&◌, if◌then◌else◌, Bool, true, false, Option, Some, None, refl, sym, ap, ◌∙◌}
use Rattle.std.specs.Prelude.{is_some}
use Rattle.std.proofs.lemmas.Bool.{true≢false}
use Rattle.values.specs.declared.code.Code.{Code}
use Rattle.component_items.specs.declared.component.Component.{Component}
use Rattle.component_items.specs.Kept.{IsKept}
use Rattle.plain_evaluation.specs.Fits.{Fits}
use Rattle.plain_evaluation.specs.Held.{Held, is_live, rows_held}
use Rattle.plain_evaluation.specs.Killed.{OwnersFit}
use Rattle.plain_evaluation.specs.Place.{place_at}
use Rattle.plain_evaluation.specs.Sound.{has_place}
use Rattle.plain_evaluation.specs.Written.{state_of, written}
use Rattle.plain_evaluation.proofs.Fitting.{rows_of_held}
use Rattle.plan_meaning.specs.Layout.{places_of, row_of}
use Rattle.plan_meaning.specs.There.{has_key, has_row, is_there}
use Rattle.plan_meaning.specs.Told.{kind_of_id, owner_of_id, store_of_id}
use Rattle.plan_meaning.proofs.Present.{written_as_due}
use Rattle.plan_meaning.proofs.Rows.{none_found, not_there}
use Rattle.run_meaning.specs.Opened.{at_row, at_none, at_dead, target_at, opened_of}

pub dead_target : (component : Component) (held : Held) (id : ℕ) (key : Option Code) → is_live held (owner_of_id component id) ≡ false → (opened_of component held).target id key ≡ at_dead (owner_of_id component id)
dead_target component held id key dead = ap (λ (b : Bool). if b then target_at (row_of (places_of (written component held)) (place_at id key)) else at_dead (owner_of_id component id)) dead

target_none : (o : Option ℕ) → target_at o ≡ at_none → o ≡ None
target_none None e = refl
target_none (Some n) e = absurd cc

module _ (component : Component) (kept : IsKept component) (held : Held) (fits : Fits component held) (nested : OwnersFit component held) (id : ℕ) (valued : is_some (kind_of_id component id) ≡ true) (live : is_live held (owner_of_id component id) ≡ true) where
  live_target : (key : Option Code) → (opened_of component held).target id key ≡ target_at (row_of (places_of (written component held)) (place_at id key))
  live_target key = ap (λ (b : Bool). if b then target_at (row_of (places_of (written component held)) (place_at id key)) else at_dead (owner_of_id component id)) live

  there_is : (store : Option ℕ) (key : Option Code) → store_of_id component id ≡ store → is_there component (state_of held) (place_at id key) ≡ has_row (state_of held) store key
  there_is store key e = λ i. valued i && live i && has_row (state_of held) (e i) key

  due : (key : Option Code) → has_place (written component held) (place_at id key) ≡ is_there component (state_of held) (place_at id key)
  due key = written_as_due component (state_of held) kept (rows_of_held component held fits) nested.areas (place_at id key)

  pub none_is : (store : ℕ) (key : Code) → store_of_id component id ≡ Some store → (opened_of component held).target id (Some key) ≡ at_none → has_key (rows_held held store) key ≡ false
  none_is store key e t =
      let none = target_none (row_of (places_of (written component held)) (place_at id (Some key))) (sym (live_target (Some key)) ∙ t) in
      sym (there_is (Some store) (Some key) e) ∙ sym (due (Some key)) ∙ none_found (written component held) (place_at id (Some key)) none

  pub is_none : (store : ℕ) (key : Code) → store_of_id component id ≡ Some store → has_key (rows_held held store) key ≡ false → (opened_of component held).target id (Some key) ≡ at_none
  is_none store key e gone = live_target (Some key) ∙ ap target_at (not_there (written component held) (place_at id (Some key)) (due (Some key) ∙ there_is (Some store) (Some key) e ∙ gone))

  pub has_target : store_of_id component id ≡ None → (row : ℕ) × ((opened_of component held).target id None ≡ at_row row)
  has_target e = at (row_of (places_of (written component held)) (place_at id None)) refl
    where
      at : (o : Option ℕ) → row_of (places_of (written component held)) (place_at id None) ≡ o → (row : ℕ) × ((opened_of component held).target id None ≡ at_row row)
      at (Some row) is = (row, live_target None ∙ ap target_at is)
      at None is = absurd (true≢false (sym (there_is None None e) ∙ sym (due None) ∙ none_found (written component held) (place_at id None) is))
