-- The equations of escaped text.
use Rattle.std.proofs.Common.{◌≡◌, ℕ, ◌+◌, ◌<◌, ◌≤◌, ◌-◌, Bool, true, false, List, [], ◌∷◌, ◌++◌, length, take, drop, get_or, slice_range, refl, sym, ap, ◌∙◌, append_assoc, arith}
use Rattle.std.proofs.lemmas.List.{take_more, take_all, take-append-drop}
use Rattle.std.proofs.lemmas.List.Edits.{between_more}
use Rattle.std.proofs.Math.Seq.{take-add}
use Rattle.std.proofs.lemmas.List.Concat.{flat_map-append}
use Rattle.html_out.specs.Shown.{escaped_byte, escaped_value_byte, escaped}

pub escaped-append : (in_value : Bool) (xs ys : List ℕ) → escaped in_value (xs ++ ys) ≡ escaped in_value xs ++ escaped in_value ys
escaped-append true xs ys = flat_map-append escaped_value_byte xs ys
escaped-append false xs ys = flat_map-append escaped_byte xs ys

pub escaped-nil : (in_value : Bool) → escaped in_value [] ≡ []
escaped-nil true = refl
escaped-nil false = refl

-- one more byte that stands for itself
pub plain_more : (in_value : Bool) (text : List ℕ) (plain i : ℕ) → plain ≤ i → i < length text → escaped in_value (slice_range text plain i) ≡ slice_range text plain i → escaped in_value (get_or text i 0 ∷ []) ≡ get_or text i 0 ∷ [] → escaped in_value (slice_range text plain (i + 1)) ≡ slice_range text plain (i + 1)
plain_more in_value text plain i from within run itself =
    let more = between_more text plain i 0 from within in
    ap (escaped in_value) more ∙ escaped-append in_value (slice_range text plain i) (get_or text i 0 ∷ []) ∙ (λ k. run k ++ itself k) ∙ sym more

none_between : (text : List ℕ) (i : ℕ) → slice_range text i i ≡ []
none_between text i = let e : i - i ≡ 0 = omega arith in rw e refl

pub plain_none : (in_value : Bool) (text : List ℕ) (i : ℕ) → escaped in_value (slice_range text i i) ≡ slice_range text i i
plain_none in_value text i = ap (escaped in_value) (none_between text i) ∙ escaped-nil in_value ∙ sym (none_between text i)

front : (xs : List ℕ) (n m : ℕ) → n ≤ m → take m xs ≡ take n xs ++ slice_range xs n m
front xs n m le = ap (λ k. take k xs) {x = m} {y = n + (m - n)} (omega arith) ∙ take-add n (m - n) xs

-- a front, then a run of bytes that stand for themselves, then one byte
pub front_more : (in_value : Bool) (text : List ℕ) (plain i : ℕ) (escape : List ℕ) → plain ≤ i → i < length text → escaped in_value (slice_range text plain i) ≡ slice_range text plain i → escaped in_value (get_or text i 0 ∷ []) ≡ escape → escaped in_value (take (i + 1) text) ≡ escaped in_value (take plain text) ++ (slice_range text plain i ++ escape)
front_more in_value text plain i escape from within run is =
    ap (escaped in_value) (take_more text i 0 within ∙ ap (λ l. l ++ get_or text i 0 ∷ []) (front text plain i from) ∙ append_assoc (take plain text) (slice_range text plain i) (get_or text i 0 ∷ []))
    ∙ escaped-append in_value (take plain text) (slice_range text plain i ++ get_or text i 0 ∷ [])
    ∙ ap (λ l. escaped in_value (take plain text) ++ l) (escaped-append in_value (slice_range text plain i) (get_or text i 0 ∷ []) ∙ (λ k. run k ++ is k))

-- and then the rest
pub whole : (in_value : Bool) (text front : List ℕ) (i : ℕ) → escaped in_value (take i text) ≡ front → escaped in_value text ≡ front ++ escaped in_value (drop i text)
whole in_value text front i is = ap (escaped in_value) (sym (take-append-drop i text)) ∙ escaped-append in_value (take i text) (drop i text) ∙ ap (λ l. l ++ escaped in_value (drop i text)) is

-- at the end the run is the rest
pub rest_plain : (in_value : Bool) (text : List ℕ) (plain i : ℕ) → length text ≤ i → i ≤ length text → plain ≤ i → escaped in_value (slice_range text plain i) ≡ slice_range text plain i → escaped in_value text ≡ escaped in_value (take plain text) ++ slice_range text plain (length text)
rest_plain in_value text plain i past within from run =
    let end : i ≡ length text = omega arith in
    let all : text ≡ take plain text ++ slice_range text plain (length text) = sym (take_all (length text) text (omega arith)) ∙ front text plain (length text) (omega arith) in
    ap (escaped in_value) all ∙ escaped-append in_value (take plain text) (slice_range text plain (length text)) ∙ ap (λ l. escaped in_value (take plain text) ++ l) (ap (λ n. escaped in_value (slice_range text plain n)) (sym end) ∙ run ∙ ap (slice_range text plain) end)
