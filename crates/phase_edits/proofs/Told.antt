-- What all passes are told is what each is told.
use Rattle.std.proofs.Common.{◌≡◌, ◌==◌, ℕ, zero, suc, Bool, false, if◌then◌else◌, List, [], ◌∷◌, ◌++◌, Option, Some, None, slice_get, append_assoc, refl, sym, ap, ◌∙◌, arith}
use Rattle.std.specs.Prelude.{replicate, slice_set, slice_index_or}
use Rattle.std.specs.Option.{option_map}
use Rattle.std.proofs.lemmas.List.{append-nil}
use Rattle.std.proofs.lemmas.Bool.Decides.{nat_tests}
use Rattle.values.specs.declared.plan.Fact.{Fact}
use Rattle.values.specs.declared.plan.Fact.TheVariants as fact
use Rattle.values.specs.declared.plan.Noted.{Noted}
use Rattle.store_fields.specs.declared.edit.Edit.{Edit}
use Rattle.store_fields.specs.declared.edit.Verdict.{Verdict}
use Rattle.script_items.specs.Script.{numbered}
use Rattle.plain_evaluation.specs.Held.{Held}
use Rattle.run_history.specs.Going.{is_edit_by}
use Rattle.phase_edits.specs.Posts.{edit_made, verdict_made, held_made, verdicts_by}
use Rattle.phase_edits.specs.Making.{with_told, told_of, all_told}

abbrev behind : List Verdict → Option (List Verdict) → Option (List Verdict)
behind more told = option_map (λ (t : List Verdict). t ++ more) told

behind_nothing : (told : Option (List Verdict)) → told ≡ behind [] told
behind_nothing None = refl
behind_nothing (Some t) = ap (λ (u : List Verdict). Some u) (sym (append-nil t))

behind_both : (first more : List Verdict) (told : Option (List Verdict)) → behind more (behind first told) ≡ behind (first ++ more) told
behind_both first more None = refl
behind_both first more (Some t) = ap (λ (u : List Verdict). Some u) (append_assoc t first more)

abbrev if_told : Bool → Verdict → List Verdict
if_told b v = if b then v ∷ [] else []

not_first : (n : ℕ) → (suc n == 0) ≡ false
not_first n = grind (arith, nat_tests)

first_not : (n : ℕ) → (0 == suc n) ≡ false
first_not n = grind (arith, nat_tests)

next_same : (n k : ℕ) → (suc n == suc k) ≡ (n == k)
next_same n k = grind (arith, nat_tests)

told_place : (verdicts : List (List Verdict)) (place n : ℕ) (v : Verdict) → slice_get (slice_set verdicts place (slice_index_or verdicts place [] ++ v ∷ [])) n ≡ behind (if_told (n == place) v) (slice_get verdicts n)
told_place [] place n v = refl
told_place (t ∷ verdicts) zero zero v = refl
told_place (t ∷ verdicts) zero (suc n) v = behind_nothing (slice_get verdicts n) ∙ ap (λ b. behind (if_told b v) (slice_get verdicts n)) (sym (not_first n))
told_place (t ∷ verdicts) (suc place) zero v = behind_nothing (Some t) ∙ ap (λ b. behind (if_told b v) (Some t)) (sym (first_not place))
told_place (t ∷ verdicts) (suc place) (suc n) v = told_place verdicts place n v ∙ ap (λ b. behind (if_told b v) (slice_get verdicts n)) (sym (next_same n place))

told_pass : (verdicts : List (List Verdict)) (by pass : ℕ) (v : Verdict) → numbered (with_told verdicts by v) pass ≡ behind (if_told (pass == by) v) (numbered verdicts pass)
told_pass verdicts zero zero v = refl
told_pass verdicts zero (suc n) v = behind_nothing (slice_get verdicts n) ∙ ap (λ b. behind (if_told b v) (slice_get verdicts n)) (sym (not_first n))
told_pass verdicts (suc place) zero v = refl
told_pass verdicts (suc place) (suc n) v = told_place verdicts place n v ∙ ap (λ b. behind (if_told b v) (slice_get verdicts n)) (sym (next_same n place))

told_one : (verdicts : List (List Verdict)) (f : Fact) (pass : ℕ) (v : Verdict) → numbered (told_of verdicts f v) pass ≡ behind (if_told (is_edit_by pass f) v) (numbered verdicts pass)
told_one verdicts (fact.Write row code) pass v = behind_nothing (numbered verdicts pass)
told_one verdicts (fact.Change row code) pass v = behind_nothing (numbered verdicts pass)
told_one verdicts (fact.Ran row code) pass v = behind_nothing (numbered verdicts pass)
told_one verdicts (fact.Void row) pass v = behind_nothing (numbered verdicts pass)
told_one verdicts (fact.Disposed owner) pass v = behind_nothing (numbered verdicts pass)
told_one verdicts (fact.Edit by index) pass v = told_pass verdicts by pass v

told_each : (posts : List (List Edit)) (es : List Noted) (held : Held) (verdicts : List (List Verdict)) (pass : ℕ) → numbered (all_told posts es held verdicts) pass ≡ behind (verdicts_by posts pass es held) (numbered verdicts pass)
told_each posts [] held verdicts pass = behind_nothing (numbered verdicts pass)
told_each posts (e ∷ es) held verdicts pass =
    told_each posts es (held_made (edit_made posts e) held) (told_of verdicts e.fact (verdict_made (edit_made posts e) held)) pass
    ∙ ap (behind (verdicts_by posts pass es (held_made (edit_made posts e) held))) (told_one verdicts e.fact pass (verdict_made (edit_made posts e) held))
    ∙ behind_both (if_told (is_edit_by pass e.fact) (verdict_made (edit_made posts e) held)) (verdicts_by posts pass es (held_made (edit_made posts e) held)) (numbered verdicts pass)

-- where nothing was told before
nothing_there : (count n : ℕ) (told : List Verdict) → slice_get (replicate count []) n ≡ Some told → told ≡ []
nothing_there zero n told is = cc
nothing_there (suc count) zero told is = cc
nothing_there (suc count) (suc n) told is = nothing_there count n told is

nothing_told : (count pass : ℕ) (told : List Verdict) → numbered (replicate count []) pass ≡ Some told → told ≡ []
nothing_told count zero told is = cc
nothing_told count (suc n) told is = nothing_there count n told is

pub told_from_nothing : (posts : List (List Edit)) (es : List Noted) (held : Held) (verdicts : List (List Verdict)) (count pass : ℕ) (told : List Verdict) → verdicts ≡ all_told posts es held (replicate count []) → numbered verdicts pass ≡ Some told → told ≡ verdicts_by posts pass es held
told_from_nothing posts es held verdicts count pass told is there = at (numbered (replicate count []) pass) refl
  where
    all : Some told ≡ behind (verdicts_by posts pass es held) (numbered (replicate count []) pass)
    all = sym there ∙ ap (λ vs. numbered vs pass) is ∙ told_each posts es held (replicate count []) pass

    at : (before : Option (List Verdict)) → numbered (replicate count []) pass ≡ before → told ≡ verdicts_by posts pass es held
    at None none = let e : Some told ≡ None = all ∙ ap (behind (verdicts_by posts pass es held)) none in cc
    at (Some t) some =
        let e : Some told ≡ Some (t ++ verdicts_by posts pass es held) = all ∙ ap (behind (verdicts_by posts pass es held)) some in
        let same : told ≡ t ++ verdicts_by posts pass es held = cc in
        same ∙ ap (λ (u : List Verdict). u ++ verdicts_by posts pass es held) (nothing_told count pass t some)
