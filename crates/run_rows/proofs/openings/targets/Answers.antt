use Rattle.std.proofs.Common.{Some, None, ◌∙◌}
use Rattle.component_items.specs.Ids.{item_owners}
use Rattle.plain_evaluation.specs.Held.{item_first, first_held}
use Rattle.plain_evaluation.specs.Rows.{number, side, side_dead, titles, titles_held}
use Rattle.run_rows.proofs.Laid.{side_owner, titles_owner, target_by, side_places, dead_places, titles_places}
use Rattle.plain_evaluation.proofs.Computes.{computes}
use Rattle.run_rows.proofs.openings.targets.Goals as goal

pub returns-clause-live : goal.returns-clause-live
unfolding item_first item_owners
returns-clause-live c = target_by side (first_held side) _ _ 1 None 1 side_owner side_places ∙ simp computes

pub returns-clause-dead : goal.returns-clause-dead
returns-clause-dead c = target_by side side_dead _ _ 1 None 1 side_owner dead_places

pub returns-clause-owner : goal.returns-clause-owner
returns-clause-owner c = side_owner

pub returns-clause-field : goal.returns-clause-field
returns-clause-field c = target_by titles titles_held _ _ 2 (Some (number 2)) 0 titles_owner titles_places

pub returns-clause-no_row : goal.returns-clause-no_row
returns-clause-no_row c = target_by titles titles_held _ _ 2 (Some (number 1)) 0 titles_owner titles_places
