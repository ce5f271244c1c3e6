use Rattle.std.proofs.Common.{ℕ, subst}
use Rattle.still_readers.proofs.Lists.{within_at}
use Rattle.still_rows.specs.Moves.{IsBelow}
use Rattle.still_rows.proofs.MovesLemmas.{recorded_within, check_below, read_below, keep_moves}
use Rattle.still_rows.proofs.bring.end.Goals as goal

pub returns-in-Check-clause-ended : goal.returns-in-Check-clause-ended
returns-in-Check-clause-ended c =
    let says = c.in-Check.ensures.says in
    let x = says.2 in
    let w = recorded_within c.args.nodes.now c.args.rows.now c.args.node.now c.args.row.now c.args.frame c.args.frame.at x.0 c.requires.good (c.requires.frame, c.requires.node, c.requires.row) x.1 in
    let y = within_at c.args.rows.now x.0.row w.1 in
    subst (λ (r : ℕ). IsBelow c.args.rows.now c.args.node.now c.args.frame r) x.2
    (check_below c.args.nodes.now c.args.rows.now c.args.node.now c.args.row.now c.args.frame c.args.frame.at x.0 y.0 c.requires.good (c.requires.frame, c.requires.node, c.requires.row) says.1 x.1 y.1 (c.requires.stopped says.1 x.0 x.1 y.0 y.1))

pub returns-in-Read-clause-ended : goal.returns-in-Read-clause-ended
returns-in-Read-clause-ended c = let says = c.in-Read.ensures.says in read_below c.args.nodes.now c.args.rows.now c.args.node.now c.args.frame c.in-Read.from c.requires.lawful c.requires.node says.1 says.2

pub returns-in-Keep-clause-ended : goal.returns-in-Keep-clause-ended
returns-in-Keep-clause-ended c = let says = c.in-Keep.ensures.says in keep_moves c.args.nodes.now c.args.rows.now c.args.node.now c.args.row.now c.args.frame (c.requires.frame, c.requires.node, c.requires.row) says.0 says.1 says.2
