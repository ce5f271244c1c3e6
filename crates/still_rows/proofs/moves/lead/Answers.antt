use Rattle.std.proofs.Common.{◌≡◌, ℕ, Some, slice_get, sym, subst}
use Rattle.still_rows.proofs.LedLemmas.{led_more}
use Rattle.still_rows.proofs.moves.lead.Goals as goal

pub check_all-requires-clause-node : goal.check_all-requires-clause-node
check_all-requires-clause-node c = subst (λ (i : ℕ). slice_get c.args._nodes.now i ≡ Some c.args._node.now) (sym c.begin-begun.ensures.led.node) c.requires.node

pub check_all-requires-clause-row : goal.check_all-requires-clause-row
check_all-requires-clause-row c = subst (λ (i : ℕ). slice_get c.args.rows.now i ≡ Some c.args.row.now) (sym c.begin-begun.ensures.led.node) c.requires.row

pub returns-clause-led : goal.returns-clause-led
returns-clause-led c = led_more c.args._nodes.now c.args.rows.now c.args.row.now c.args.frame c.begin-begun.result c.check_all.result c.begin-begun.ensures.led c.check_all.ensures.led
