-- The equations by which worked rows compute.
use Rattle.std.proofs.Common.{◌≡◌, [], ◌∷◌, arith}
use Rattle.std.specs.Fmt.{decimal}
use Rattle.std.proofs.lemmas.Fmt.{decimal_digit}
use Rattle.values.proofs.Evaluation.{value_of-Lit, value_of-Read, value_of-Binary}
use Rattle.component_items.specs.declared.component.Item.TheViews.{outs-Signal, outs-Memo, outs-Resource, outs-Load, outs-Store, outs-Area, outs-Element}
use Rattle.component_items.proofs.FoldLemmas.{fold-Signal, fold-Memo, fold-Resource, fold-Cleanup, fold-Load, fold-Store, fold-Area, fold-If, fold-Each, fold-Element, fold-Text, fold-Shown, at-Signal, at-Memo, at-Resource, at-Load, at-Store, at-Area, at-If, at-Each, at-Element, at-Shown, at-Text, at-Cleanup}

pub one : decimal 1 ≡ 49 ∷ []
one = decimal_digit 1 (omega arith)

pub two : decimal 2 ≡ 50 ∷ []
two = decimal_digit 2 (omega arith)

pub six : decimal 6 ≡ 54 ∷ []
six = decimal_digit 6 (omega arith)

-- a fold, and one that gives functions, at each form of item
pub ruleset folds = (fold-Signal, fold-Memo, fold-Resource, fold-Load, fold-Store, fold-Area, fold-If, fold-Each, fold-Element, fold-Text, fold-Shown, fold-Cleanup, at-Signal, at-Memo, at-Resource, at-Load, at-Store, at-Area, at-If, at-Each, at-Element, at-Text, at-Shown, at-Cleanup)

pub ruleset computes = (folds, outs-Signal, outs-Memo, outs-Resource, outs-Load, outs-Store, outs-Area, outs-Element, value_of-Lit, value_of-Read, value_of-Binary, one, two, six)
