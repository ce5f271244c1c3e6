-- Words on lists of numbers.
use Rattle.std.specs.Prelude.{◌≡◌, ◌⊎◌, ℕ, ◌<◌, ◌==◌, max, min, Bool, count_by, Option, Some, None, IfSome, List, [], ◌∷◌}
use Rattle.std.specs.List.{list_any}

abbrev pub In : {A : Type 0} → A → List A → Type 0
In x [] = ⊥
In x (y ∷ ys) = (y ≡ x) ⊎ In x ys

-- each number is greater than all before it, and than `low`
abbrev pub GrowsFrom : ℕ → List ℕ → Type 0
GrowsFrom low [] = Unit {0}
GrowsFrom low (n ∷ ns) = (low < n) × GrowsFrom n ns

-- the greatest of the numbers, 0 if there is none
abbrev pub greatest : List ℕ → ℕ
greatest [] = 0
greatest (n ∷ ns) = max n (greatest ns)

abbrev pub lesser : ℕ → Option ℕ → ℕ
lesser n None = n
lesser n (Some m) = min n m

-- the least of the numbers, if there is one
abbrev pub least : List ℕ → Option ℕ
least [] = None
least (n ∷ ns) = Some (lesser n (least ns))

-- below the bound; None is no bound
abbrev pub Below : Option ℕ → ℕ → Type 0
Below bound n = IfSome bound (λ b. n < b)

-- how often the number stands in the list
abbrev pub times : ℕ → List ℕ → ℕ
times n ns = count_by (λ m. n == m) ns

abbrev pub is_among : List ℕ → ℕ → Bool
is_among ns n = list_any (λ m. n == m) ns
