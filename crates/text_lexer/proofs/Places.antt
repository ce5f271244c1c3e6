-- Lines and columns, from one byte to the next.
use Rattle.std.proofs.Common.{◌≡◌, ℕ, ◌+◌, ◌-◌, ◌<◌, ◌≤◌, Bool, true, false, not, cond, eqb, List, length, take, get_or, refl, ap, arith}
use Rattle.std.proofs.lemmas.List.{length-take-le, length-drop}
use Rattle.std.proofs.lemmas.List.Sums.{count_by_more_yes, count_by_more_no, count_by-le-length, suffix_len-take_yes, suffix_len-take_no, suffix_len-le-length}
use Rattle.std.specs.List.{suffix_len}
use Rattle.text_lexer.specs.Bytes.{is_line_feed}
use Rattle.text_lexer.specs.Place.{column_at, IsPlace}

abbrev is_inside : ℕ → Bool
is_inside b = not (is_line_feed b)

-- a column counts the bytes at the end of the front that are no line feeds
column_is : (text : List ℕ) (n : ℕ) → column_at text n ≡ suffix_len is_inside (take n text) + 1
column_is text n =
    let front = take n text in
    let size = length-drop (length front - suffix_len is_inside front) front in
    let le = suffix_len-le-length is_inside front in
    omega arith

pub place_bounds : (first_line : ℕ) (text : List ℕ) (offset line column : ℕ) → IsPlace first_line text offset line column → (line ≤ first_line + offset) × (column ≤ offset + 1)
place_bounds first_line text offset line column p =
    let size = length-take-le offset text p.within in
    let count = count_by-le-length is_line_feed (take offset text) in
    let le = suffix_len-le-length is_inside (take offset text) in
    let is = column_is text offset in
    let l = p.line in
    let c = p.column in
    (omega arith, omega arith)

pub place_more : (first_line : ℕ) (text : List ℕ) (offset line column : ℕ) → IsPlace first_line text offset line column → offset < length text → IsPlace first_line text (offset + 1) (cond (eqb (get_or text offset 0) 10) (line + 1) line) (cond (eqb (get_or text offset 0) 10) 1 (column + 1))
place_more first_line text offset line column p h = go (eqb (get_or text offset 0) 10) refl
  where
    go : (v : Bool) → eqb (get_or text offset 0) 10 ≡ v → IsPlace first_line text (offset + 1) (cond v (line + 1) line) (cond v 1 (column + 1))
    go true e =
        let back : offset + 1 - 1 ≡ offset = omega arith in
        let inside : is_inside (get_or text (offset + 1 - 1) 0) ≡ false = rw back (ap not e) in
        let size = suffix_len-take_no is_inside text (offset + 1) 0 (omega arith) (omega arith) inside in
        let count = count_by_more_yes is_line_feed text offset 0 h e in
        let is = column_is text (offset + 1) in
        let l = p.line in
        record { within = omega arith; line = omega arith; column = omega arith }
    go false e =
        let back : offset + 1 - 1 ≡ offset = omega arith in
        let inside : is_inside (get_or text (offset + 1 - 1) 0) ≡ true = rw back (ap not e) in
        let size = rw back at (suffix_len-take_yes is_inside text (offset + 1) 0 (omega arith) (omega arith) inside) in
        let count = count_by_more_no is_line_feed text offset 0 h e in
        let is = column_is text (offset + 1) in
        let before = column_is text offset in
        let l = p.line in
        let c = p.column in
        record { within = omega arith; line = omega arith; column = omega arith }
