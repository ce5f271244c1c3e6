-- The bytes that an escaped text does not have.
use Rattle.std.proofs.Common.{◌≡◌, ℕ, zero, suc, ◌<◌, Bool, true, false, ◌==◌, codes, if◌then◌else◌, List, [], ◌∷◌, length, get_or, Contains, inl, inr, refl, arith}
use Rattle.std.specs.List.{flat_map, list_any}
use Rattle.std.proofs.lemmas.List.Elements.{Contains-append_cases}
use Rattle.html_out.specs.Shown.{escaped_byte, escaped_value_byte, escaped}

abbrev has : ℕ → List ℕ → Bool
has b xs = list_any (λ y. y == b) xs

not_among : (b : ℕ) (xs : List ℕ) → has b xs ≡ false → ¬ Contains xs b
not_among b [] none c = omega (arith, c.1)
not_among b (x ∷ xs) none c = at c.0 c.1 c.2 (not_among b xs others)
  where
    others : has b xs ≡ false
    others = grind arith

    at : (k : ℕ) → k < length (x ∷ xs) → get_or (x ∷ xs) k b ≡ b → ¬ Contains xs b → ⊥
    at zero l e rest = grind arith
    at (suc k) l e rest = rest (k, omega (arith, l), e)

-- what no byte's escape has, no escaped text has
lacks : (escape : ℕ → List ℕ) (b : ℕ) → ((c : ℕ) → has b (escape c) ≡ false) → (text : List ℕ) → ¬ Contains (flat_map escape text) b
lacks escape b each [] c = omega (arith, c.1)
lacks escape b each (x ∷ text) c = elim (Contains-append_cases (escape x) (flat_map escape text) b c) [ inl here ↦ not_among b (escape x) (each x) here | inr there ↦ lacks escape b each text there ]

no_tag : (c : ℕ) → has 60 (escaped_byte c) ≡ false
no_tag c = at (c == 38) (c == 60) (c == 62) refl
  where
    at : (p q r : Bool) → (c == 60) ≡ q → has 60 (if p then codes "&amp;" else (if q then codes "&lt;" else (if r then codes "&gt;" else c ∷ []))) ≡ false
    at true q r is = refl
    at false true r is = refl
    at false false true is = refl
    at false false false is = grind arith

no_tag_in_value : (c : ℕ) → has 60 (escaped_value_byte c) ≡ false
no_tag_in_value c = at (c == 34)
  where
    at : (p : Bool) → has 60 (if p then codes "&quot;" else escaped_byte c) ≡ false
    at true = refl
    at false = no_tag c

no_quotation_mark : (c : ℕ) → has 34 (escaped_value_byte c) ≡ false
no_quotation_mark c = at (c == 34) (c == 38) (c == 60) (c == 62) refl
  where
    at : (o p q r : Bool) → (c == 34) ≡ o → has 34 (if o then codes "&quot;" else (if p then codes "&amp;" else (if q then codes "&lt;" else (if r then codes "&gt;" else c ∷ [])))) ≡ false
    at true p q r is = refl
    at false true q r is = refl
    at false false true r is = refl
    at false false false true is = refl
    at false false false false is = grind arith

pub escaped-no_tag : (in_value : Bool) (text : List ℕ) → ¬ Contains (escaped in_value text) 60
escaped-no_tag true text = lacks escaped_value_byte 60 no_tag_in_value text
escaped-no_tag false text = lacks escaped_byte 60 no_tag text

pub escaped-no_quotation_mark : (text : List ℕ) → ¬ Contains (escaped true text) 34
escaped-no_quotation_mark text = lacks escaped_value_byte 34 no_quotation_mark text
