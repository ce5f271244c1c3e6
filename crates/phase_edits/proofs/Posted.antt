-- The edits of a phase are those that its passes noted.
use Rattle.std.proofs.Common.{◌≡◌, ◌≤◌, ℕ, zero, suc, List, [], ◌∷◌, length, Option, Some, None, slice_get, refl, sym, ap, ◌∙◌, arith}
use Rattle.std.specs.Prelude.{unwrap_or}
use Rattle.std.specs.List.{cons_option}
use Rattle.std.specs.Option.{option_map, option_and_then}
use Rattle.std.proofs.lemmas.Option.{slice_get_past}
use Rattle.values.specs.declared.plan.Fact.{Fact}
use Rattle.values.specs.declared.plan.Fact.TheVariants as fact
use Rattle.values.specs.declared.plan.Noted.{Noted}
use Rattle.store_fields.specs.declared.edit.Edit.{Edit}
use Rattle.script_items.specs.Script.{numbered}
use Rattle.run_meaning.specs.Lane.{Done, edits_in}
use Rattle.run_meaning.specs.Edits.{ordered, edit_at, named_edit, edits_of}
use Rattle.phase_edits.specs.Posts.{posted, posted_by, posted_edits, ArePosted}

missing : {A : Type 0} (xs : List A) (i : ℕ) → slice_get xs i ≡ None → length xs ≤ i
missing [] i is = omega arith
missing (x ∷ xs) zero is = cc
missing (x ∷ xs) (suc i) is = let rest = missing xs i is in omega arith

-- where a list is no longer than another, what the other has not it has not either
pub not_numbered : {A B : Type 0} (xs : List A) (ys : List B) (n : ℕ) → length xs ≤ length ys → numbered ys n ≡ None → numbered xs n ≡ None
not_numbered xs ys zero long is = refl
not_numbered xs ys (suc n) long is = let past = missing ys n is in slice_get_past xs n (omega arith)

module _ (lanes : List (List Done)) (posts : List (List Edit)) (are : ArePosted lanes posts) where
  abbrev of_lane : ℕ → Option (List Done) → Option Edit
  of_lane index lane = option_and_then (λ (l : List Done). slice_get (edits_in l) index) lane

  abbrev of_post : ℕ → Option (List Edit) → Option Edit
  of_post index post = option_and_then (λ (es : List Edit). slice_get es index) post

  same_posted : (pass index : ℕ) → edit_at lanes pass index ≡ posted posts pass index
  same_posted pass index = at (numbered posts pass) refl (numbered lanes pass) refl
    where
      at : (post : Option (List Edit)) → numbered posts pass ≡ post → (lane : Option (List Done)) → numbered lanes pass ≡ lane → of_lane index (numbered lanes pass) ≡ of_post index (numbered posts pass)
      at (Some es) is (Some lane) of =
          let same : es ≡ edits_in lane = are.each pass es is ∙ ap (λ (l : Option (List Done)). edits_in (unwrap_or l [])) of in
          ap (of_lane index) of ∙ ap (λ (xs : List Edit). slice_get xs index) (sym same) ∙ sym (ap (of_post index) is)
      at (Some es) is None of =
          let same : es ≡ [] = are.each pass es is ∙ ap (λ (l : Option (List Done)). edits_in (unwrap_or l [])) of in
          ap (of_lane index) of ∙ ap (λ (xs : List Edit). slice_get xs index) (sym same) ∙ sym (ap (of_post index) is)
      at None is lane of = ap (of_lane index) (not_numbered lanes posts pass are.passes is) ∙ sym (ap (of_post index) is)

  same_named : (f : Fact) (n : ℕ) → named_edit lanes f n ≡ posted_by posts f n
  same_named (fact.Write row code) n = refl
  same_named (fact.Change row code) n = refl
  same_named (fact.Ran row code) n = refl
  same_named (fact.Void row) n = refl
  same_named (fact.Disposed owner) n = refl
  same_named (fact.Edit pass index) n = ap (option_map (ordered n)) (same_posted pass index)

  pub same_edits : (es : List Noted) → edits_of lanes es ≡ posted_edits posts es
  same_edits [] = refl
  same_edits (e ∷ es) = λ i. cons_option (same_named e.fact e.number i) (same_edits es i)
