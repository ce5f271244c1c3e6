use Rattle.std.proofs.Common.{sym, ap, refl, Some}
use Rattle.run_meaning.specs.Opened.{Target, row_in}
use Rattle.run_history.specs.Calls.{set}
use Rattle.script_items.specs.declared.operation.ScriptOp.TheVariants as op
use Rattle.run_items.specs.declared.answer.Reply.TheVariants as reply
use Rattle.lane_run.proofs.Targets.{set_row_fits, dead_target}
use Rattle.lane_run.proofs.Steps.{rested, spoke}
use Rattle.lane_run.proofs.lane.do_set.Goals as goal

pub set-requires-clause-row : goal.set-requires-clause-row
set-requires-clause-row c = set_row_fits c.args.still.now c.requires.open c.args.id c.args.key c.in-Row.row c.requires.named (sym c.in-Row.ensures)

pub returns-in-Row-clause-does : goal.returns-in-Row-clause-does
returns-in-Row-clause-does c = λ past lane at.
    spoke past c.args.still.now c.set.new.self lane (set c.in-Row.row c.args.code c.set.result) (record { op = op.Set c.args.id c.args.key c.args.code; reply = c.set_reply.result })
    c.lanes_go_on.ensures.speaks at c.set.ensures.rest c.set.ensures.edits (λ g. c.set.ensures.call past g 1) (ap row_in (sym c.in-Row.ensures), refl, c.set_reply.ensures)

pub returns-in-NoRow-clause-does : goal.returns-in-NoRow-clause-does
returns-in-NoRow-clause-does c = λ past lane at.
    rested past c.args.still.now lane (record { op = op.Set c.args.id c.args.key c.args.code; reply = reply.NoRow }) c.lanes_go_on.ensures.rests at (ap (λ (t : Target). Some t) (sym c.in-NoRow.ensures))

pub returns-in-Dead-clause-does : goal.returns-in-Dead-clause-does
returns-in-Dead-clause-does c = λ past lane at.
    rested past c.args.still.now lane (record { op = op.Set c.args.id c.args.key c.args.code; reply = reply.Disposed c.in-Dead.owner }) c.lanes_go_on.ensures.rests at
    (dead_target c.args.still.now c.requires.open c.args.id c.args.key c.in-Dead.owner (sym c.in-Dead.ensures))
