-- The serials of rows that follow the keys of a store.
use Rattle.std.proofs.Common.{◌≡◌, ℕ, Bool, true, false, cond, if◌then◌else◌, Option, Some, None, List, [], ◌∷◌, map, unwrap_or, refl, ap, ◌∙◌}
use Rattle.std.specs.Map.{lookup}
use Rattle.std.specs.Option.{option_map}
use Rattle.values.specs.declared.code.Code.{Code}
use Rattle.values.specs.Evaluation.{is_same}
use Rattle.store_fields.proofs.KeyLemmas.{same_flips}
use Rattle.view_meaning.specs.Serials.{serial_among, next_after, numbered, next_behind, rows_again}
use Rattle.view_slots.specs.Home.{Home, blank_home}
use Rattle.view_rows.specs.Listed.{Row, Listed, count_after, counted, arranged, rows_arranged, serial_of_row, serials_of}

among : (rows : List (Code × Row)) (k : Code) → serial_among (map serial_of_row rows) k ≡ option_map (λ (row : Row). row.0) (lookup (is_same k) rows)
among [] k = refl
among (e ∷ rows) k =
    ap (λ b. if b then Some e.1.0 else serial_among (map serial_of_row rows) k) (same_flips e.0 k)
    ∙ ap (λ rest. if is_same k e.0 then Some e.1.0 else rest) (among rows k)
    ∙ at (is_same k e.0)
  where
    at : (b : Bool) → (if b then Some e.1.0 else option_map (λ (row : Row). row.0) (lookup (is_same k) rows)) ≡ option_map (λ (row : Row). row.0) (cond b (Some e.1) (lookup (is_same k) rows))
    at true = refl
    at false = refl

after : (o : Option Row) (next : ℕ) → next_after (option_map (λ (row : Row). row.0) o) next ≡ count_after o next
after None next = refl
after (Some row) next = refl

serial : (o : Option Row) (next : ℕ) (home : Home) → unwrap_or (option_map (λ (row : Row). row.0) o) next ≡ (unwrap_or o (next, home)).0
serial None next home = refl
serial (Some row) next home = refl

numbered-arranged : (base width : ℕ) (old : List (Code × Row)) (ks : List Code) (next : ℕ) → numbered (map serial_of_row old) ks next ≡ map serial_of_row (arranged base width old ks next)
numbered-arranged base width old [] next = refl
numbered-arranged base width old (k ∷ ks) next =
    (λ i. (k, (ap (λ o. unwrap_or o next) (among old k) ∙ serial (lookup (is_same k) old) next (blank_home base width)) i) ∷ numbered (map serial_of_row old) ks ((ap (λ o. next_after o next) (among old k) ∙ after (lookup (is_same k) old) next) i))
    ∙ ap (λ l. (k, (unwrap_or (lookup (is_same k) old) (next, blank_home base width)).0) ∷ l) (numbered-arranged base width old ks (count_after (lookup (is_same k) old) next))

behind-counted : (old : List (Code × Row)) (ks : List Code) (next : ℕ) → next_behind (map serial_of_row old) ks next ≡ counted old ks next
behind-counted old [] next = refl
behind-counted old (k ∷ ks) next =
    ap (next_behind (map serial_of_row old) ks) (ap (λ o. next_after o next) (among old k) ∙ after (lookup (is_same k) old) next)
    ∙ behind-counted old ks (count_after (lookup (is_same k) old) next)

pub serials-arranged : (base width : ℕ) (old : Listed) (ks : List Code) → rows_again (serials_of old) ks ≡ serials_of (rows_arranged base width old ks)
serials-arranged base width old ks = λ i. record { rows = numbered-arranged base width old.rows ks old.next i; next = behind-counted old.rows ks old.next i }
