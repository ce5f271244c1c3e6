use Rattle.std.proofs.Common.{sym, ap, Some}
use Rattle.run_meaning.specs.Opened.{Target, row_in}
use Rattle.run_history.specs.Calls.{get}
use Rattle.script_items.specs.declared.operation.ScriptOp.TheVariants as op
use Rattle.run_items.specs.declared.answer.Reply.TheVariants as reply
use Rattle.lane_run.proofs.Targets.{get_row_fits, dead_target}
use Rattle.lane_run.proofs.Steps.{rested, spoke}
use Rattle.lane_run.proofs.lane.do_get.Goals as goal

pub get-requires-clause-row : goal.get-requires-clause-row
get-requires-clause-row c = get_row_fits c.args.still.now c.requires.open c.args.id c.args.key c.in-Row.row c.requires.named (sym c.in-Row.ensures)

pub returns-in-Row-clause-does : goal.returns-in-Row-clause-does
returns-in-Row-clause-does c = λ past lane at.
    spoke past c.args.still.now c.get.new.self lane (get c.in-Row.row c.get.result) (record { op = op.Get c.args.id c.args.key; reply = c.get_reply.result })
    c.lanes_go_on.ensures.speaks at c.get.ensures.rest c.get.ensures.edits (λ g. c.get.ensures.call past g 1) (ap row_in (sym c.in-Row.ensures), c.get_reply.ensures)

pub returns-in-NoRow-clause-does : goal.returns-in-NoRow-clause-does
returns-in-NoRow-clause-does c = λ past lane at.
    rested past c.args.still.now lane (record { op = op.Get c.args.id c.args.key; reply = reply.NoRow }) c.lanes_go_on.ensures.rests at (ap (λ (t : Target). Some t) (sym c.in-NoRow.ensures))

pub returns-in-Dead-clause-does : goal.returns-in-Dead-clause-does
returns-in-Dead-clause-does c = λ past lane at.
    rested past c.args.still.now lane (record { op = op.Get c.args.id c.args.key; reply = reply.Disposed c.in-Dead.owner }) c.lanes_go_on.ensures.rests at
    (dead_target c.args.still.now c.requires.open c.args.id c.args.key c.in-Dead.owner (sym c.in-Dead.ensures))
