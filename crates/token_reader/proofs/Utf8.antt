-- Bytes that are no UTF-8 are refused at their first bad byte.
use Rattle.std.proofs.Common.{◌≡◌, ℕ, List, sym, ◌∙◌, ap, subst}
use Rattle.std.specs.Str.{IsValidUpTo}
use Rattle.text_lexer.specs.Place.{line_at, column_at}
use Rattle.component_items.specs.declared.refusal.Place.{Place}
use Rattle.component_items.specs.declared.refusal.Refusal.TheVariants.{Bad}
use Rattle.component_items.specs.declared.refusal.Why.TheVariants.{BadUtf8}
use Rattle.part_meaning.specs.Part.{Language, IsRefused, no_utf8}

placed : ℕ → ℕ → Place
placed line column = record { line = line; column = column }

same_place : (line column : ℕ) (p : Place) → p.line ≡ line → p.column ≡ column → placed line column ≡ p
unfolding placed
same_place line column p is_line is_column = ap (λ l. placed l column) (sym is_line) ∙ ap (λ c. placed p.line c) (sym is_column)

pub refused_at : {W R D S : Type 0} (l : Language W R D S) (bytes : List ℕ) (n : ℕ) (p : Place) → IsValidUpTo bytes n
    → p.line ≡ line_at l.first_line bytes n → p.column ≡ column_at bytes n → IsRefused l bytes (Bad BadUtf8 p)
unfolding placed
refused_at l bytes n p valid line column =
    subst (λ (q : Place). IsRefused l bytes (Bad BadUtf8 q)) (same_place (line_at l.first_line bytes n) (column_at bytes n) p line column) (no_utf8 n valid)
