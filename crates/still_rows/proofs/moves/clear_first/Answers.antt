use Rattle.std.proofs.Common.{◌≡◌, ◌∙◌, sym}
use Rattle.sources.specs.declared.colour.Colour.TheVariants.{Clean, Check, Dirty}
use Rattle.still_rows.proofs.LedLemmas.{led_start, led_clear}
use Rattle.still_rows.proofs.moves.clear_first.Goals as goal

pub returns-in-Dirty : goal.returns-in-Dirty
returns-in-Dirty c =
    let e = c.compare_all.ensures in
    let k = led_clear c.args._nodes.now c.args.rows.now c.args._node.now c.args.row.now c.args.frame c.compare_all.result c.cleared.result c.requires.node c.requires.row e.led e.begun (λ d. e.all) c.cleared.ensures in
    record { led = k.0; cleared = k.1 }

pub returns-in-Check : goal.returns-in-Check
returns-in-Check c =
    let k = led_clear c.args._nodes.now c.args.rows.now c.args._node.now c.args.row.now c.args.frame c.args.frame c.cleared-in-Check.result c.requires.node c.requires.row (led_start _ _ _ _ c.requires.frame) c.requires.begun (λ d n. absurd (let q : Check ≡ Dirty = sym c.in-Check.is ∙ d in cc)) c.cleared-in-Check.ensures in
    record { led = k.0; cleared = k.1 }

pub returns-in-Clean : goal.returns-in-Clean
returns-in-Clean c =
    let k = led_clear c.args._nodes.now c.args.rows.now c.args._node.now c.args.row.now c.args.frame c.args.frame c.cleared-in-Clean.result c.requires.node c.requires.row (led_start _ _ _ _ c.requires.frame) c.requires.begun (λ d n. absurd (let q : Clean ≡ Dirty = sym c.in-Clean.is ∙ d in cc)) c.cleared-in-Clean.ensures in
    record { led = k.0; cleared = k.1 }
