-- Lists of edits, and of numbers.
use Rattle.std.proofs.Common.{◌≡◌, inl, inr, ⊎_elim, ℕ, zero, suc, ◌+◌, ◌<◌, ◌≤◌, cond, Bool, true, false, List, [], ◌∷◌, ◌++◌, refl, sym, ap, subst, ◌∙◌, arith}
use Rattle.std.specs.Prelude.{filter}
use Rattle.std.specs.List.{range_with_len}
use Rattle.std.proofs.lemmas.List.{replicate_more}
use Rattle.values.specs.Reserved.{Reserve, room_of}
use Rattle.store_fields.specs.declared.edit.Edit.{Edit}
use Rattle.still_readers.proofs.Lists.{snoc_at, either, not_both}
use Rattle.run_meaning.specs.Words.{In}
use Rattle.run_history.proofs.Lists.{map_append}
use Rattle.phase_graph.specs.Table.{HaveRoom, edit_lists}
use Rattle.phase_graph.specs.Way.{no_edits}

pub lists_more : (xs : List (Reserve Edit)) (r : Reserve Edit) (n : ℕ) → edit_lists xs ≡ no_edits n → r.list ≡ [] → edit_lists (xs ++ r ∷ []) ≡ no_edits (n + 1)
lists_more xs r n h e = map_append (λ (l : Reserve Edit). l.list) xs (r ∷ []) ∙ (λ i. h i ++ e i ∷ []) ∙ replicate_more n []

pub room_more : (xs : List (Reserve Edit)) (r : Reserve Edit) (room : ℕ) → HaveRoom xs room → room ≤ room_of r → HaveRoom (xs ++ r ∷ []) room
room_more xs r room h l = record { each = (λ k list at. elim (snoc_at xs r k list at) [ inl w ↦ h.each k list w | inr p ↦ subst (λ (q : Reserve Edit). room ≤ room_of q) (sym p.1) l ]) }

-- ---- numbers that pass a test

pub filter_in : (test : ℕ → Bool) (xs : List ℕ) (n : ℕ) → In n xs → test n ≡ true → In n (filter test xs)
filter_in test [] n i e = absurd i
filter_in test (x ∷ xs) n i e = elim (test x) as (λ b. (test x ≡ b) → In n (cond b (x ∷ filter test xs) (filter test xs))) [
  | true ↦ λ q. ⊎_elim (λ (s : x ≡ n). inl s) (λ (t : In n xs). inr (filter_in test xs n t e)) i
  | false ↦ λ q. ⊎_elim (λ (s : x ≡ n). absurd (not_both (test n) e (sym (ap test s) ∙ q))) (λ (t : In n xs). filter_in test xs n t e) i
] refl

pub in_filter : (test : ℕ → Bool) (xs : List ℕ) (n : ℕ) → In n (filter test xs) → In n xs × (test n ≡ true)
in_filter test [] n i = absurd i
in_filter test (x ∷ xs) n i = elim (test x) as (λ b. (test x ≡ b) → In n (cond b (x ∷ filter test xs) (filter test xs)) → In n (x ∷ xs) × (test n ≡ true)) [
  | true ↦ λ q j. ⊎_elim (λ (e : x ≡ n). (inl e, subst (λ (y : ℕ). test y ≡ true) e q)) (λ t. let r = in_filter test xs n t in (inr r.0, r.1)) j
  | false ↦ λ q j. let r = in_filter test xs n j in (inr r.0, r.1)
] refl i

pub range_in : (low len n : ℕ) → low ≤ n → n < low + len → In n (range_with_len low len)
range_in low zero n a b = absurd (omega arith)
range_in low (suc len) n a b = either low n (In n (range_with_len low (suc len))) (λ e. inl e) (λ other. inr (range_in (low + 1) len n (omega arith) (omega arith)))
