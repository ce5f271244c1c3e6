use Rattle.view_slots.specs.Seen.{seen_by}
use Rattle.view_slots.proofs.PlainLemmas.{branch_opened, branch_closed, none_branch}
use Rattle.view_slots.proofs.mounting.Mounting.branch.Goals as goal

pub returns-in-None-clause-open : goal.returns-in-None-clause-open
returns-in-None-clause-open c = none_branch (seen_by c.args.self.now.sight.now) c.args.self.now.key c.args.self.now.base c.args.slots.now c.args.id c.in-None.ensures.none c.truth.result

pub returns-in-Some-clause-open : goal.returns-in-Some-clause-open
returns-in-Some-clause-open c = branch_opened (seen_by c.args.self.now.sight.now) c.args.self.now.key c.args.self.now.base c.args.slots.now c.args.id c.in-Some.at _ c.with_branch.result c.in-Some.ensures.at.0 c.in-Some.ensures.at.1 c.truth-is_open.result c.with_branch.ensures.«open»

pub returns-in-Some-clause-closed : goal.returns-in-Some-clause-closed
returns-in-Some-clause-closed c = branch_closed (seen_by c.args.self.now.sight.now) c.args.self.now.key c.args.self.now.base c.args.slots.now c.args.id c.in-Some.at _ c.with_branch.result c.in-Some.ensures.at.0 c.in-Some.ensures.at.1 c.truth-is_open.result c.with_branch.ensures.closed
