-- The equations by which worked rows compute.
use Rattle.component_items.specs.declared.component.Item.TheViews.{outs-Signal, outs-Memo, outs-Effect, outs-Resource, outs-Load, outs-Store, outs-Area, outs-Element}
use Rattle.plain_evaluation.proofs.Computes.{folds}
use Rattle.component_items.proofs.FoldLemmas.{fold-Effect, at-Effect}
use Rattle.plan_meaning.proofs.Renamed.{renamed-Lit, renamed-Read, renamed-Binary}

pub ruleset lays_out = (folds, fold-Effect, at-Effect, outs-Signal, outs-Memo, outs-Effect, outs-Resource, outs-Load, outs-Store, outs-Area, outs-Element, renamed-Lit, renamed-Read, renamed-Binary)
