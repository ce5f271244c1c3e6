use Rattle.std.proofs.Common.{◌≡◌, ℕ, ◌++◌, List, codes, pos, negsuc, None, ap, ◌∙◌, append_assoc, refl}
use Rattle.std.specs.Fmt.{signed_decimal}
use Rattle.values.specs.declared.code.Code.{Code}
use Rattle.values.specs.declared.code.Code.TheVariants.{Empty, Number}
use Rattle.values.specs.declared.code.Op.TheVariants as op
use Rattle.values.specs.declared.expr.Expr.TheVariants.{Lit, Read, Binary}
use Rattle.values.specs.declared.plan.Kind.TheVariants as kind
use Rattle.values.proofs.Evaluation.{value_of-Lit, value_of-Read, value_of-Binary}
use Rattle.plain_evaluation.specs.Held.{first_held}
use Rattle.plain_evaluation.specs.Keyed.{is_keyed}
use Rattle.plain_evaluation.specs.Page.{View, view_of, items_bytes}
use Rattle.plain_evaluation.specs.Place.{outside}
use Rattle.plain_evaluation.specs.Rows.{ends, number}
use Rattle.plain_evaluation.specs.Scratch.{values_in, no_values}
use Rattle.plain_evaluation.specs.Written.{Written, put, given, derived, at_top, written}
use Rattle.plain_evaluation.proofs.Computes.{folds}
use Rattle.component_items.specs.Ids.{item_owners}
use Rattle.plain_evaluation.specs.Held.{item_first}
use Rattle.plain_evaluation.specs.Keyed.{item_keyed}
use Rattle.plain_evaluation.specs.Page.{item_bytes}
use Rattle.plain_evaluation.specs.Written.{write_item}
use Rattle.plain_evaluation.proofs.Computes.{computes}
use Rattle.plain_evaluation.proofs.worked.values.Goals as goal

pub returns-clause-product : goal.returns-clause-product
unfolding item_first write_item item_bytes item_owners item_keyed
returns-clause-product c = simp computes

pub returns-clause-product_page : goal.returns-clause-product_page
unfolding item_first write_item item_bytes item_owners item_keyed
returns-clause-product_page c = simp computes

-- the values of the three texts
abbrev ends_text : List Written
ends_text =
    put 0 (given kind.Signal (number 2147483647)) at_top
    ++ put 1 (derived kind.Memo (Binary op.Add (Read 0) (Lit (number 1)))) at_top
    ++ put 2 (derived kind.Memo (Binary op.Div (Lit (number 1)) (Lit (number 0)))) at_top
    ++ put 3 (derived kind.Memo (Binary op.Div (Lit (Number (negsuc 2147483647))) (Lit (Number (negsuc 0))))) at_top

ends_written : written ends (first_held ends) ≡ ends_text
unfolding item_first write_item item_owners
ends_written = simp folds

abbrev ends_value : ℕ → Code
ends_value id = values_in (is_keyed ends) ends_text no_values (outside id)

sum_value : ends_value 1 ≡ number 2147483647
sum_value = simp (value_of-Binary, value_of-Read, value_of-Lit)

none_value : ends_value 2 ≡ Empty
none_value = simp (value_of-Binary, value_of-Lit)

quotient_value : ends_value 3 ≡ number 2147483647
quotient_value = simp (value_of-Binary, value_of-Lit)

ends_page : (view : View) → view.texts ≡ ends.texts → view.value (outside 1) ≡ number 2147483647 → view.value (outside 2) ≡ Empty → view.value (outside 3) ≡ number 2147483647 → items_bytes view ends.items None ≡ codes "<p>" ++ signed_decimal (pos 2147483647) ++ signed_decimal (pos 2147483647) ++ codes "</p>"
unfolding item_bytes
ends_page view texts first none third = simp (folds, texts, first, none, third, append_assoc)

pub returns-clause-ends : goal.returns-clause-ends
returns-clause-ends c = ends_page (view_of ends (first_held ends)) refl
    (ap (λ ws. values_in (is_keyed ends) ws no_values (outside 1)) ends_written ∙ sum_value)
    (ap (λ ws. values_in (is_keyed ends) ws no_values (outside 2)) ends_written ∙ none_value)
    (ap (λ ws. values_in (is_keyed ends) ws no_values (outside 3)) ends_written ∙ quotient_value)
