-- From one line to the next.
use Rattle.std.proofs.Common.{◌≡◌, ℕ, zero, suc, ◌+◌, ◌-◌, ◌<◌, ◌≤◌, true, false, List, length, take, get_or, slice_range, sym, ◌∙◌, ap, subst, arith, ◌⊎◌, inl, inr}
use Rattle.std.specs.List.{count_by}
use Rattle.std.proofs.lemmas.Bool.{eq-eqb, ne_eqb}
use Rattle.std.proofs.lemmas.List.{take_all}
use Rattle.std.proofs.lemmas.List.Sums.{count_by_more_yes, count_by_more_no}
use Rattle.text_lexer.specs.Bytes.{is_line_feed}
use Rattle.text_lexer.specs.Place.{line_at}
use Rattle.input_split.specs.Separator.{is_separator, IsLine, IsSeparator}

abbrev pub NoneInside : List ℕ → ℕ → ℕ → Type 0
NoneInside bytes start stop = (k : ℕ) → start ≤ k → k < stop → get_or bytes k 0 ≡ 10 → ⊥

-- no line feed comes on the way
same_count : (bytes : List ℕ) (start n : ℕ) → start + n ≤ length bytes → NoneInside bytes start (start + n)
    → count_by is_line_feed (take (start + n) bytes) ≡ count_by is_line_feed (take start bytes)
same_count bytes start zero within none = let here : start + 0 ≡ start = omega arith in ap (λ m. count_by is_line_feed (take m bytes)) here
same_count bytes start (suc n) within none =
    let more : start + suc n ≡ (start + n) + 1 = omega arith in
    let no = ne_eqb (get_or bytes (start + n) 0) 10 (none (start + n) (omega arith) (omega arith)) in
    ap (λ m. count_by is_line_feed (take m bytes)) more
    ∙ count_by_more_no is_line_feed bytes (start + n) 0 (omega arith) no
    ∙ same_count bytes start n (omega arith) (λ k low high. none k low (omega arith))

-- up to the end of the line its number stays
pub line_stays : (bytes : List ℕ) (start stop : ℕ) → start ≤ stop → stop ≤ length bytes → NoneInside bytes start stop → count_by is_line_feed (take stop bytes) ≡ count_by is_line_feed (take start bytes)
line_stays bytes start stop ordered within none =
    let n : start + (stop - start) ≡ stop = omega arith in
    sym (ap (λ m. count_by is_line_feed (take m bytes)) n) ∙ same_count bytes start (stop - start) (omega arith) (λ k low high. none k low (omega arith))

-- the number of the next line
pub next_line : (bytes : List ℕ) (start stop : ℕ) → start ≤ stop → stop < length bytes → NoneInside bytes start stop → get_or bytes stop 0 ≡ 10
    → line_at 1 bytes (stop + 1) ≡ line_at 1 bytes start + 1
next_line bytes start stop ordered within none ends =
    let stays = line_stays bytes start stop ordered (omega arith) none in
    let one = count_by_more_yes is_line_feed bytes stop 0 within (eq-eqb (get_or bytes stop 0) 10 ends) in
    omega arith

-- the number of the last line
pub last_line : (bytes : List ℕ) (start : ℕ) → start ≤ length bytes → NoneInside bytes start (length bytes) → line_at 1 bytes start ≡ count_by is_line_feed bytes + 1
last_line bytes start within none =
    let stays = line_stays bytes start (length bytes) within (omega arith) none in
    let all = ap (count_by is_line_feed) (take_all (length bytes) bytes (omega arith)) in
    omega arith

-- a line that begins at the same place ends at the same place
pub one_stop : (bytes : List ℕ) (start stop end : ℕ) → start ≤ stop → stop ≤ length bytes → NoneInside bytes start stop → (stop < length bytes → get_or bytes stop 0 ≡ 10) → IsLine bytes start end
    → (end < stop → ⊥) × (stop < end → ⊥)
one_stop bytes start stop end ordered within none ends line = (
  (λ less. none end line.ordered less (line.ends (omega arith))),
  (λ more. let fits = line.within in line.inside stop ordered more (ends (omega arith))),
)

-- no separator begins in a line that is none
pub none_here : (bytes : List ℕ) (start stop : ℕ) → start ≤ stop → stop ≤ length bytes → NoneInside bytes start stop → (stop < length bytes → get_or bytes stop 0 ≡ 10)
    → is_separator (slice_range bytes start stop) ≡ false → (from end : ℕ) → start ≤ from → from ≤ stop → IsSeparator bytes from end → ⊥
none_here bytes start stop ordered within none ends differs from end low high s = by_start (from_start from low)
  where
    from_start : (n : ℕ) → start ≤ n → (start ≡ n) ⊎ (start < n)
    from_start n le = grind arith

    by_start : (start ≡ from) ⊎ (start < from) → ⊥
    by_start (inl same) =
        let line = subst (λ n. IsLine bytes n end) (sym same) s.line in
        let stops = one_stop bytes start stop end ordered within none ends line in
        let is : end ≡ stop = omega (arith, stops.0, stops.1) in
        let holds = subst (λ n. is_separator (slice_range bytes start n) ≡ true) is (subst (λ n. is_separator (slice_range bytes n end) ≡ true) (sym same) s.holds) in
        cc
    by_start (inr less) = none (from - 1) (omega arith) (omega arith) (s.line.begins (omega arith))

-- and none at all, where none begins before it
pub none_before : (bytes : List ℕ) (start stop : ℕ) → start ≤ stop → stop ≤ length bytes → NoneInside bytes start stop → (stop < length bytes → get_or bytes stop 0 ≡ 10)
    → is_separator (slice_range bytes start stop) ≡ false → ((from end : ℕ) → from < start → IsSeparator bytes from end → ⊥) → (from end : ℕ) → from < stop + 1 → IsSeparator bytes from end → ⊥
none_before bytes start stop ordered within none ends differs earlier from end less s = by_place (placed from)
  where
    placed : (n : ℕ) → (n < start) ⊎ (start ≤ n)
    placed n = grind arith

    by_place : (from < start) ⊎ (start ≤ from) → ⊥
    by_place (inl before) = earlier from end before s
    by_place (inr behind) = none_here bytes start stop ordered within none ends differs from end behind (omega arith) s
