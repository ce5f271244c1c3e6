use Rattle.std.proofs.Common.{◌≡◌, refl, sym, subst, ap, ◌∙◌, true, false}
use Rattle.work_order.specs.Order.{is_due}
use Rattle.still_rows.specs.declared.moves.Moved.{Moved}
use Rattle.still_rows.specs.Moves.{MovesTo}
use Rattle.still_rows.proofs.WorksLemmas.{stepped_same}
use Rattle.still_effects.proofs.EffectLemmas.{effect_row, below_memo, below_fewer, search_less, moved_search, frame_stepped, kept_same}
use Rattle.still_effects.proofs.find.step.Goals as goal

pub refresh-requires-clause-within : goal.refresh-requires-clause-within
refresh-requires-clause-within c =
    let effect = c.requires.effect in
    let still = c.requires.still in
    let row = effect_row c.args.nodes.now c.args.rows.now c.args.frame.node still.good effect in
    let m = subst (λ (q : Moved). MovesTo c.args.nodes.now c.args.rows.now effect.node row.0 c.args.frame c.advance.new.reads.list q) c.in-Below.is (c.advance.ensures.moved effect.node row.0 effect.at row.1) in
    (below_memo _ _ c.args.frame effect.node c.in-Below.source still.lawful still.good c.requires.frame effect.at m).0

pub refresh-requires-clause-kind : goal.refresh-requires-clause-kind
refresh-requires-clause-kind c =
    let effect = c.requires.effect in
    let still = c.requires.still in
    let row = effect_row c.args.nodes.now c.args.rows.now c.args.frame.node still.good effect in
    let m = subst (λ (q : Moved). MovesTo c.args.nodes.now c.args.rows.now effect.node row.0 c.args.frame c.advance.new.reads.list q) c.in-Below.is (c.advance.ensures.moved effect.node row.0 effect.at row.1) in
    (below_memo _ _ c.args.frame effect.node c.in-Below.source still.lawful still.good c.requires.frame effect.at m).1

pub returns-in-On-clause-searched : goal.returns-in-On-clause-searched
returns-in-On-clause-searched c =
    let effect = c.requires.effect in
    let still = c.requires.still in
    let f = c.args.frame in
    let row = effect_row c.args.nodes.now c.args.rows.now f.node still.good effect in
    let m = subst (λ (q : Moved). MovesTo c.args.nodes.now c.args.rows.now effect.node row.0 f c.advance.new.reads.list q) c.in-On.is (c.advance.ensures.moved effect.node row.0 effect.at row.1) in
    (stepped_same _ _ _ _ still, m.0, m.1, moved_search c.args.rows.now f c.in-On.next row.0 m.1 row.1 m.2)

pub returns-in_ok-refresh-in-Below-clause-searched : goal.returns-in_ok-refresh-in-Below-clause-searched
returns-in_ok-refresh-in-Below-clause-searched c =
    let effect = c.requires.effect in
    let still = c.requires.still in
    let f = c.args.frame in
    let row = effect_row c.args.nodes.now c.args.rows.now f.node still.good effect in
    let m = subst (λ (q : Moved). MovesTo c.args.nodes.now c.args.rows.now effect.node row.0 f c.advance.new.reads.list q) c.in-Below.is (c.advance.ensures.moved effect.node row.0 effect.at row.1) in
    let s = c.refresh.ensures.stepped in (
      s,
      frame_stepped _ c.args.rows.now _ c.args.readers.now _ c.args.clock.now _ f effect s c.requires.frame,
      refl,
      search_less _ c.args.rows.now _ c.args.readers.now _ c.args.clock.now _ f effect s
          (below_fewer _ c.args.rows.now _ c.args.readers.now _ c.args.clock.now _ f effect.node c.in-Below.source still.good c.requires.frame m s c.in_ok-refresh-in-Below.ensures.clean),
    )

pub returns-in-Keep-clause-searched : goal.returns-in-Keep-clause-searched
returns-in-Keep-clause-searched c =
    let effect = c.requires.effect in
    let still = c.requires.still in
    let f = c.args.frame in
    let row = effect_row c.args.nodes.now c.args.rows.now f.node still.good effect in
    let m = subst (λ (q : Moved). MovesTo c.args.nodes.now c.args.rows.now effect.node row.0 f c.advance.new.reads.list q) c.in-Keep.is (c.advance.ensures.moved effect.node row.0 effect.at row.1) in
    kept_same _ _ _ _ _ f effect.node row.0 still c.requires.frame effect.at row.1 m (c.keep.ensures row.0 row.1)

pub returns-in-Finish-clause-searched : goal.returns-in-Finish-clause-searched
returns-in-Finish-clause-searched c =
    let effect = c.requires.effect in
    let still = c.requires.still in
    let f = c.args.frame in
    let row = effect_row c.args.nodes.now c.args.rows.now f.node still.good effect in
    let m = subst (λ (q : Moved). MovesTo c.args.nodes.now c.args.rows.now effect.node row.0 f c.advance.new.reads.list q) c.in-Finish.is (c.advance.ensures.moved effect.node row.0 effect.at row.1) in
    let bad : false ≡ true = sym (ap is_due c.requires.not_due) ∙ m.due in cc
