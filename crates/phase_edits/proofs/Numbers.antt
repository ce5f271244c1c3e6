-- What comes of an edit, told pass by pass, is what is told by its number.
use Rattle.std.proofs.Common.{◌≡◌, ◌≤◌, ◌<◌, ◌==◌, ℕ, Bool, true, false, if◌then◌else◌, List, [], ◌∷◌, ◌++◌, length, map, Option, Some, None, refl, sym, ap, ◌∙◌, arith}
use Rattle.std.specs.Prelude.{unwrap_or, IsSome}
use Rattle.std.specs.List.{cons_option}
use Rattle.std.specs.Option.{option_map}
use Rattle.std.proofs.lemmas.Bool.Decides.{nat_tests}
use Rattle.values.specs.declared.plan.Fact.{Fact}
use Rattle.values.specs.declared.plan.Fact.TheVariants as fact
use Rattle.values.specs.declared.plan.Noted.{Noted}
use Rattle.store_fields.specs.declared.edit.Edit.{Edit}
use Rattle.store_fields.specs.declared.edit.Verdict.{Verdict}
use Rattle.store_fields.specs.declared.edit.Verdict.TheVariants.{Absent}
use Rattle.script_items.specs.Script.{numbered}
use Rattle.plain_evaluation.specs.Held.{Held}
use Rattle.run_meaning.specs.Edits.{Ordered, ordered, change, held_changed, held_written, verdict_in}
use Rattle.run_meaning.specs.Phase.{Phase}
use Rattle.run_history.specs.Going.{Numbered, is_edit_by}
use Rattle.run_weave.specs.Lanes.{verdict_of}
use Rattle.phase_edits.specs.Posts.{posted, posted_by, edit_made, posted_edits, verdict_made, held_made, verdicts_by, ArePosted}
use Rattle.phase_edits.specs.Told.{edit_numbers, AreTold}
use Rattle.phase_edits.proofs.Posted.{not_numbered, same_edits}

-- all numbers are greater
abbrev Above : ℕ → List ℕ → Type 0
Above low [] = Unit {0}
Above low (n ∷ ns) = (low < n) × Above low ns

above_less : (low high : ℕ) (ns : List ℕ) → low < high → Above high ns → Above low ns
above_less low high [] less above = tt
above_less low high (n ∷ ns) less above = ((let a = above.0 in omega arith), above_less low high ns less above.1)

map_alike : {A : Type 0} (f g : ℕ → A) (low : ℕ) (ns : List ℕ) → Above low ns → ((n : ℕ) → low < n → f n ≡ g n) → map f ns ≡ map g ns
map_alike f g low [] above same = refl
map_alike f g low (n ∷ ns) above same = λ i. same n above.0 i ∷ map_alike f g low ns above.1 same i

numbers_above : (pass low high : ℕ) (es : List Noted) → Numbered low es high → Above low (edit_numbers pass es)
numbers_above pass low high [] h = tt
numbers_above pass low high (e ∷ es) h = at (is_edit_by pass e.fact) (edit_numbers pass es) (numbers_above pass e.number high es h.3)
  where
    at : (b : Bool) (ns : List ℕ) → Above e.number ns → Above low (cons_option (if b then Some e.number else None) ns)
    at true ns above = (h.0, above_less low e.number ns h.0 above)
    at false ns above = above_less low e.number ns h.0 above

other : (n m : ℕ) → n < m → (n == m) ≡ false
other n m less = grind (arith, nat_tests)

other_less : (n m : ℕ) → m < n → (n == m) ≡ false
other_less n m less = grind (arith, nat_tests)

same : (n m : ℕ) → n ≡ m → (n == m) ≡ true
same n m is = grind (arith, nat_tests)

module _ (posts : List (List Edit)) where
  number_of : (f : Fact) (n : ℕ) (x : Ordered) → posted_by posts f n ≡ Some x → x.number ≡ n
  number_of (fact.Write row code) n x is = cc
  number_of (fact.Change row code) n x is = cc
  number_of (fact.Ran row code) n x is = cc
  number_of (fact.Void row) n x is = cc
  number_of (fact.Disposed owner) n x is = cc
  number_of (fact.Edit pass index) n x is = at (posted posts pass index) is
    where
      at : (found : Option Edit) → option_map (ordered n) found ≡ Some x → x.number ≡ n
      at None is = cc
      at (Some e) is = let named : ordered n e ≡ x = cc in ap (λ (y : Ordered). y.number) (sym named)

  abbrev told_first : Option Ordered → List Ordered → Held → ℕ → Option Verdict
  told_first o xs held n = verdict_in (cons_option o xs) held n

  -- no edit has a number that is not above these
  not_made : (low high : ℕ) (es : List Noted) (held : Held) (n : ℕ) → Numbered low es high → n ≤ low → verdict_in (posted_edits posts es) held n ≡ None
  not_made low high [] held n h small = refl
  not_made low high (e ∷ es) held n h small =
      at (edit_made posts e) refl (let a = h.0 in omega arith) (λ later. not_made e.number high es later n h.3 (let a = h.0 in omega arith))
    where
      at : (o : Option Ordered) → edit_made posts e ≡ o → n < e.number → ((later : Held) → verdict_in (posted_edits posts es) later n ≡ None) → told_first (edit_made posts e) (posted_edits posts es) held n ≡ None
      at None is below rest = ap (λ o. told_first o (posted_edits posts es) held n) is ∙ rest held
      at (Some x) is below rest =
          let number : x.number ≡ e.number = number_of e.fact e.number x is in
          ap (λ o. told_first o (posted_edits posts es) held n) is
          ∙ ap (λ (b : Bool). if b then Some (change x.edit held).verdict else verdict_in (posted_edits posts es) (held_changed x.edit held) n) (other n x.number (omega arith))
          ∙ rest (held_changed x.edit held)

  -- what a later edit is told is told behind the first
  told_later : (e : Noted) (es : List Noted) (held : Held) (n : ℕ) → e.number < n → verdict_in (posted_edits posts (e ∷ es)) held n ≡ verdict_in (posted_edits posts es) (held_made (edit_made posts e) held) n
  told_later e es held n above = at (edit_made posts e) refl
    where
      at : (o : Option Ordered) → edit_made posts e ≡ o → told_first (edit_made posts e) (posted_edits posts es) held n ≡ verdict_in (posted_edits posts es) (held_made (edit_made posts e) held) n
      at None is = (λ i. told_first (is i) (posted_edits posts es) held n) ∙ sym (ap (λ o. verdict_in (posted_edits posts es) (held_made o held) n) is)
      at (Some x) is =
          let number : x.number ≡ e.number = number_of e.fact e.number x is in
          ap (λ o. told_first o (posted_edits posts es) held n) is
          ∙ ap (λ (b : Bool). if b then Some (change x.edit held).verdict else verdict_in (posted_edits posts es) (held_changed x.edit held) n) (other_less n x.number (omega arith))
          ∙ sym (ap (λ o. verdict_in (posted_edits posts es) (held_made o held) n) is)

  -- and what the first is told
  told_now : (high : ℕ) (e : Noted) (es : List Noted) (held : Held) → Numbered e.number es high → verdict_made (edit_made posts e) held ≡ unwrap_or (verdict_in (posted_edits posts (e ∷ es)) held e.number) Absent
  told_now high e es held h = at (edit_made posts e) refl
    where
      at : (o : Option Ordered) → edit_made posts e ≡ o → verdict_made (edit_made posts e) held ≡ unwrap_or (told_first (edit_made posts e) (posted_edits posts es) held e.number) Absent
      at None is =
          ap (λ o. verdict_made o held) is
          ∙ sym (ap (λ o. unwrap_or o Absent) (not_made e.number high es held e.number h (omega arith)))
          ∙ sym (ap (λ o. unwrap_or (told_first o (posted_edits posts es) held e.number) Absent) is)
      at (Some x) is =
          let number : e.number ≡ x.number = sym (number_of e.fact e.number x is) in
          ap (λ o. verdict_made o held) is
          ∙ sym (ap (λ (b : Bool). unwrap_or (if b then Some (change x.edit held).verdict else verdict_in (posted_edits posts es) (held_changed x.edit held) e.number) Absent) (same e.number x.number number))
          ∙ sym (ap (λ o. unwrap_or (told_first o (posted_edits posts es) held e.number) Absent) is)

  -- what the edit with this number is told
  abbrev told_at : List Noted → Held → ℕ → Verdict
  told_at es held n = unwrap_or (verdict_in (posted_edits posts es) held n) Absent

  by_number : (pass low high : ℕ) (es : List Noted) (held : Held) → Numbered low es high → verdicts_by posts pass es held ≡ map (told_at es held) (edit_numbers pass es)
  by_number pass low high [] held h = refl
  by_number pass low high (e ∷ es) held h = at (is_edit_by pass e.fact) (by_number pass e.number high es (held_made (edit_made posts e) held) h.3)
    where
      others : verdicts_by posts pass es (held_made (edit_made posts e) held) ≡ map (told_at es (held_made (edit_made posts e) held)) (edit_numbers pass es) → verdicts_by posts pass es (held_made (edit_made posts e) held) ≡ map (told_at (e ∷ es) held) (edit_numbers pass es)
      others rest =
          rest
          ∙ map_alike (told_at es (held_made (edit_made posts e) held)) (told_at (e ∷ es) held) e.number (edit_numbers pass es) (numbers_above pass e.number high es h.3)
          (λ n above. ap (λ o. unwrap_or o Absent) (sym (told_later e es held n above)))

      at : (b : Bool) → verdicts_by posts pass es (held_made (edit_made posts e) held) ≡ map (told_at es (held_made (edit_made posts e) held)) (edit_numbers pass es) → (if b then verdict_made (edit_made posts e) held ∷ [] else []) ++ verdicts_by posts pass es (held_made (edit_made posts e) held) ≡ map (told_at (e ∷ es) held) (cons_option (if b then Some e.number else None) (edit_numbers pass es))
      at true rest = λ i. told_now high e es held h.3 i ∷ others rest i
      at false rest = others rest

not_none : {A : Type 0} (o : Option A) → IsSome o → o ≡ None → ⊥
not_none None there is = cc
not_none (Some x) there is = cc

pub are_told : (p : Phase) (posts : List (List Edit)) (verdicts : List (List Verdict)) → ArePosted p.lanes posts → Numbered 0 p.entries p.drawn → length posts ≤ length verdicts
    → ((pass : ℕ) (told : List Verdict) → numbered verdicts pass ≡ Some told → told ≡ verdicts_by posts pass p.entries (held_written p.opened p.entries)) → AreTold p verdicts
are_told p posts verdicts are in_order long told = record { each = λ pass there. at pass there (numbered verdicts pass) refl }
  where
    by : (pass : ℕ) → verdicts_by posts pass p.entries (held_written p.opened p.entries) ≡ map (verdict_of p) (edit_numbers pass p.entries)
    by pass =
        by_number posts pass 0 p.drawn p.entries (held_written p.opened p.entries) in_order
        ∙ ap (λ xs. map (λ n. unwrap_or (verdict_in xs (held_written p.opened p.entries) n) Absent) (edit_numbers pass p.entries)) (sym (same_edits p.lanes posts are p.entries))

    at : (pass : ℕ) → IsSome (numbered p.lanes pass) → (found : Option (List Verdict)) → numbered verdicts pass ≡ found → unwrap_or (numbered verdicts pass) [] ≡ map (verdict_of p) (edit_numbers pass p.entries)
    at pass there (Some vs) is = ap (λ o. unwrap_or o []) is ∙ told pass vs is ∙ by pass
    at pass there None is = absurd (not_none (numbered p.lanes pass) there (let passes = are.passes in not_numbered p.lanes verdicts pass (omega arith) is))
