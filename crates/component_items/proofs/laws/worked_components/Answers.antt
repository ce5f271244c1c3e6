use Rattle.std.proofs.Common.{◌≡◌, [], ◌∷◌}
use Rattle.component_items.specs.Ids.{item_ids, item_owners}
use Rattle.component_items.specs.Around.{item_listed}
use Rattle.values.specs.declared.code.Code.TheVariants.{Empty}
use Rattle.values.specs.declared.expr.Expr.TheVariants.{Read}
use Rattle.component_items.specs.declared.component.Item.TheVariants.{Store, Each, Shown}
use Rattle.component_items.specs.Counts.{item_nodes, item_maximum, maximum_in}
use Rattle.component_items.specs.Kept.{item_stands, item_sees}
use Rattle.values.proofs.PlanLemmas.{rows_in-Read}
use Rattle.component_items.proofs.FoldLemmas.{fold-Signal, fold-Memo, fold-Load, fold-Store, fold-Area, fold-Each, fold-Element, fold-Text, fold-Shown, at-Signal, at-Memo, at-Store, at-Area, at-If, at-Each, at-Element, at-Shown}
use Rattle.component_items.proofs.laws.worked_components.Goals as goal

pub returns-clause-store_ids : goal.returns-clause-store_ids
unfolding item_ids
returns-clause-store_ids c = simp fold-Store

pub returns-clause-load_ids : goal.returns-clause-load_ids
unfolding item_ids
returns-clause-load_ids c = simp fold-Load

pub returns-clause-element_ids : goal.returns-clause-element_ids
unfolding item_ids
returns-clause-element_ids c = simp (fold-Element, fold-Text, fold-Shown)

pub returns-clause-owners : goal.returns-clause-owners
unfolding item_owners
returns-clause-owners c = simp fold-Area

pub returns-clause-owner : goal.returns-clause-owner
unfolding item_listed
returns-clause-owner c = λ texts. simp (at-Element, at-Area, at-Signal)

pub returns-clause-path : goal.returns-clause-path
unfolding item_listed
returns-clause-path c = λ texts. simp (at-Area, at-Store)

-- the store of the row has three rows at most
most_rows : maximum_in (Store 0 7 3 (8 ∷ 9 ∷ []) (Empty ∷ Empty ∷ []) ∷ Each 4 0 (Shown 5 (Read 2) ∷ Shown 6 (Read 3) ∷ []) ∷ []) 0 ≡ 3
unfolding item_maximum
most_rows = simp (at-Store, at-Each, at-Shown)

pub returns-clause-nodes : goal.returns-clause-nodes
unfolding item_nodes
returns-clause-nodes c = simp (fold-Store, fold-Each, fold-Shown, most_rows)

pub returns-clause-no_signal_in_an_element : goal.returns-clause-no_signal_in_an_element
unfolding item_stands
returns-clause-no_signal_in_an_element c = simp (at-Element, at-Signal)

pub returns-clause-no_each_in_an_each : goal.returns-clause-no_each_in_an_each
unfolding item_stands
returns-clause-no_each_in_an_each c = simp at-Each

pub returns-clause-memo_in_an_if : goal.returns-clause-memo_in_an_if
unfolding item_stands
returns-clause-memo_in_an_if c = simp (at-If, at-Memo)

pub returns-clause-seen_before : goal.returns-clause-seen_before
unfolding item_sees
returns-clause-seen_before c = simp (fold-Signal, fold-Memo, rows_in-Read)

pub returns-clause-unseen_behind : goal.returns-clause-unseen_behind
unfolding item_sees
returns-clause-unseen_behind c = simp (fold-Signal, fold-Memo, rows_in-Read)
