use Rattle.std.proofs.Common.{◌<◌, IsSomeAnd, sym, subst, arith}
use Rattle.values.specs.declared.limits.TheConstants.{MOST_LANES}
use Rattle.script_draft.proofs.LastLanes.{some_lanes}
use Rattle.script_draft.proofs.phases.begin_lane.Goals as goal

pub begin_lane-requires : goal.begin_lane-requires
begin_lane-requires c = subst (λ o. IsSomeAnd o (λ lanes. lanes < MOST_LANES)) (sym (some_lanes c.args.script.now (omega arith))) c.requires
