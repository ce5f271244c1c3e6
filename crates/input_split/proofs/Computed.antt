-- What is computed is a split.
use Rattle.std.proofs.Common.{◌≡◌, ℕ, ◌+◌, ◌-◌, ◌<◌, ◌≤◌, Bool, true, false, cond, eqb, List, [], ◌∷◌, length, take, drop, get_or, slice_range, Option, Some, None, refl, sym, ◌∙◌, ap, subst, arith, ◌⊎◌, inl, inr}
use Rattle.std.proofs.lemmas.Bool.{eqb-true, eqb-false, not-true, not-false, false≢true, cases_order}
use Rattle.std.proofs.lemmas.List.{length-drop, get_or-drop, drop_more}
use Rattle.std.proofs.lemmas.List.Sums.{prefix_len-le-length, prefix_len_passes, prefix_len_stops}
use Rattle.std.specs.List.{prefix_len}
use Rattle.text_lexer.specs.Computed.{run_length}
use Rattle.input_split.specs.Computed.{is_inside, separator_from, split_at, split_of}
use Rattle.input_split.specs.Parts.{IsSplit}
use Rattle.input_split.specs.Separator.{is_separator, IsSeparator}
use Rattle.input_split.proofs.Lines.{NoneInside, none_here}

-- a choice that is known
chosen : {X : Type 0} (P : X → Type 0) (test : Bool) (a b : X) → (test ≡ true → P a) → (test ≡ false → P b) → P (cond test a b)
chosen P true a b if_true if_false = if_true refl
chosen P false a b if_true if_false = if_false refl

run_is : (test : ℕ → Bool) (bs : List ℕ) → run_length test bs ≡ prefix_len test bs
run_is test [] = refl
run_is test (b ∷ bs) = ap (λ v. cond (test b) (1 + v) 0) (run_is test bs)

-- the bytes that are left from i on
record IsRest (text : List ℕ) (i b : ℕ) (bs : List ℕ) : Type 0 where
  within : i < length text
  here : get_or text i 0 ≡ b
  next : drop (i + 1) text ≡ bs

is_rest : (text : List ℕ) (i b : ℕ) (bs : List ℕ) → drop i text ≡ b ∷ bs → IsRest text i b bs
is_rest text i b bs e =
    let size = length-drop i text in
    let some = ap length e in
    let within : i < length text = omega arith in
    let both : get_or text i 0 ∷ drop (i + 1) text ≡ b ∷ bs = sym (drop_more text i 0 within) ∙ e in
    record { within = within; here = ap (λ l. get_or l 0 0) both; next = ap (drop 1) both }

-- the bytes up to the next line feed
record IsRun (bytes : List ℕ) (at size : ℕ) : Type 0 where
  within : at + size ≤ length bytes
  inside : NoneInside bytes at (at + size)
  ends : at + size < length bytes → get_or bytes (at + size) 0 ≡ 10

to_line_feed : (bytes : List ℕ) (at : ℕ) → at ≤ length bytes → IsRun bytes at (prefix_len is_inside (drop at bytes))
to_line_feed bytes at here =
    let rest = drop at bytes in
    let size = length-drop at bytes in
    let le = prefix_len-le-length is_inside rest in
    record {
      within = omega arith;
      inside = inside;
      ends = λ less. let stops = prefix_len_stops is_inside rest 0 (omega arith) in
          sym (get_or-drop at bytes (prefix_len is_inside rest) 0) ∙ eqb-true (get_or rest (prefix_len is_inside rest) 0) 10 (not-false (eqb (get_or rest (prefix_len is_inside rest) 0) 10) stops);
    }
  where
    inside : NoneInside bytes at (at + prefix_len is_inside (drop at bytes))
    inside k low high is =
        let back : at + (k - at) ≡ k = omega arith in
        let passes = prefix_len_passes is_inside (drop at bytes) (k - at) 0 (omega arith) in
        let same : get_or (drop at bytes) (k - at) 0 ≡ get_or bytes k 0 = get_or-drop at bytes (k - at) 0 ∙ ap (λ n. get_or bytes n 0) back in
        eqb-false (get_or (drop at bytes) (k - at) 0) 10 (not-true (eqb (get_or (drop at bytes) (k - at) 0) 10) passes) (same ∙ is)

-- whether a line begins at an offset
abbrev Begins : Bool → List ℕ → ℕ → Type 0
Begins true bytes at = 0 < at → get_or bytes (at - 1) 0 ≡ 10
Begins false bytes at = (0 < at) × (get_or bytes (at - 1) 0 ≡ 10 → ⊥)

abbrev NoneBefore : List ℕ → ℕ → Type 0
NoneBefore bytes at = (start end : ℕ) → start < at → IsSeparator bytes start end → ⊥

-- the first separator, or none
abbrev IsFirst : List ℕ → Option (ℕ × ℕ) → Type 0
IsFirst bytes None = (start end : ℕ) → IsSeparator bytes start end → ⊥
IsFirst bytes (Some separator) = IsSeparator bytes separator.0 separator.1 × NoneBefore bytes separator.0

-- one more byte at which none begins
one_more : (bytes : List ℕ) (at : ℕ) → NoneBefore bytes at → ((end : ℕ) → IsSeparator bytes at end → ⊥) → NoneBefore bytes (at + 1)
one_more bytes at before none start end less s = by_order (cases_order start at)
  where
    by_order : (start ≡ at) ⊎ ((start < at) ⊎ (at < start)) → ⊥
    by_order (inl same) = none end (subst (λ n. IsSeparator bytes n end) same s)
    by_order (inr (inl earlier)) = before start end earlier s
    by_order (inr (inr later)) = omega arith

next_begins : (bytes : List ℕ) (at b : ℕ) → get_or bytes at 0 ≡ b → (test : Bool) → eqb b 10 ≡ test → Begins test bytes (at + 1)
next_begins bytes at b here true is =
    let back : at + 1 - 1 ≡ at = omega arith in
    λ some. ap (λ n. get_or bytes n 0) back ∙ here ∙ eqb-true b 10 is
next_begins bytes at b here false is =
    let back : at + 1 - 1 ≡ at = omega arith in
    (omega arith, λ ten. eqb-false b 10 is (sym here ∙ sym (ap (λ n. get_or bytes n 0) back) ∙ ten))

-- an empty line is no separator
none_at_end : (bytes : List ℕ) (at start end : ℕ) → length bytes ≤ at → NoneBefore bytes at → IsSeparator bytes start end → ⊥
none_at_end bytes at start end past before s = by_order (cases_order start at)
  where
    by_order : (start ≡ at) ⊎ ((start < at) ⊎ (at < start)) → ⊥
    by_order (inl same) =
        let ordered = s.line.ordered in
        let within = s.line.within in
        let none : end - start ≡ 0 = omega arith in
        false≢true (subst (λ n. is_separator (take n (drop start bytes)) ≡ true) none s.holds)
    by_order (inr (inl earlier)) = before start end earlier s
    by_order (inr (inr later)) = let ordered = s.line.ordered in let within = s.line.within in omega arith

found : (begins : Bool) (at : ℕ) (left bytes : List ℕ) → drop at bytes ≡ left → Begins begins bytes at → NoneBefore bytes at → IsFirst bytes (separator_from begins at left)
found begins at [] bytes e b before =
    let size = length-drop at bytes in
    let none = ap length e in
    λ start end s. none_at_end bytes at start end (omega arith) before s
found false at (b ∷ bs) bytes e begins before =
    let rest = is_rest bytes at b bs e in
    found (eqb b 10) (at + 1) bs bytes rest.next (next_begins bytes at b rest.here (eqb b 10) refl) (one_more bytes at before (λ end s. begins.1 (s.line.begins begins.0)))
found true at (b ∷ bs) bytes e begins before =
    let rest = is_rest bytes at b bs e in
    let within = rest.within in
    let size = run_length is_inside (b ∷ bs) in
    let is = run_is is_inside (b ∷ bs) ∙ ap (prefix_len is_inside) (sym e) in
    let run = subst (IsRun bytes at) (sym is) (to_line_feed bytes at (omega arith)) in
    let count : at + size - at ≡ size = omega arith in
    let line : slice_range bytes at (at + size) ≡ take size (b ∷ bs) = ap (λ n. take n (drop at bytes)) count ∙ ap (take size) e in
    chosen (IsFirst bytes) (is_separator (take size (b ∷ bs))) (Some (at, at + size)) (separator_from (eqb b 10) (at + 1) bs)
    (λ holds. (record { line = record { ordered = omega arith; within = run.within; begins = begins; inside = run.inside; ends = run.ends }; holds = ap is_separator line ∙ holds }, before))
    (λ differs. found (eqb b 10) (at + 1) bs bytes rest.next (next_begins bytes at b rest.here (eqb b 10) refl)
    (one_more bytes at before (λ end s. none_here bytes at (at + size) (omega arith) run.within run.inside run.ends (ap is_separator line ∙ differs) at end (omega arith) (omega arith) s)))

pub split_computed : (bytes : List ℕ) → IsSplit bytes (split_of bytes)
split_computed bytes = by_case (separator_from true 0 bytes) (found true 0 bytes bytes refl (λ some. absurd (omega arith)) (λ start end less s. omega arith))
  where
    by_case : (first : Option (ℕ × ℕ)) → IsFirst bytes first → IsSplit bytes (split_at bytes first)
    by_case None none = inr (record { none = none; component = refl; script = refl; line = refl })
    by_case (Some separator) is = inl (record { stop = separator.1; separator = is.0; first = is.1; script = refl; line = refl })
