use Rattle.std.proofs.Common.{◌≡◌, ◌∷◌, [], ◌∙◌, List, refl, sym, subst, arith}
use Rattle.work_order.specs.declared.frame.Frame.{Frame}
use Rattle.work_order.specs.Order.{first_frame}
use Rattle.still_rows.specs.Works.{IsStack}
use Rattle.still_rows.proofs.WorksLemmas.{stepped_same, stepped_more, start_stack}
use Rattle.still_rows.proofs.bring.bring_up.Goals as goal

pub loop-top-init : goal.loop-top-init
loop-top-init c =
    let y = c.row_at.result.now in
    let made : c.new.result ≡ first_frame c.args.root y.body.cause = c.new.ensures in
    let e : c.new.result ∷ c.clear.new.self ≡ first_frame c.args.root y.body.cause ∷ [] = λ i. made i ∷ c.clear.ensures i in
    record {
      room = refl;
      stepped = stepped_same _ _ _ _ c.requires.still;
      past = (λ i l. refl);
      ended = (λ e. c.clear.ensures);
      stack = subst (λ (l : List Frame). IsStack c.args.nodes.now c.args.rows.now c.args.root l) (sym e) (start_stack _ _ c.args.root y c.requires.still.good c.requires.memo c.requires.within c.row_at.ensures (c.requires.unclean y c.row_at.ensures));
    }

pub turn-requires-clause-room : goal.turn-requires-clause-room
turn-requires-clause-room c = record { each = (λ i node n. let a = c.requires.room.each i node n in let b = c.loop-top.invariant.room in omega arith) }

pub loop-top-preserved : goal.loop-top-preserved
loop-top-preserved c = record {
  room = c.in_ok-top.ensures.room ∙ c.loop-top.invariant.room;
  stepped = stepped_more _ _ c.loop-top.rows _ _ c.loop-top.readers _ _ c.loop-top.clock _ c.loop-top.invariant.stepped c.in_ok-top.ensures.stepped;
  past = (λ i l. c.in_ok-top.ensures.past i l ∙ c.loop-top.invariant.past i l);
  stack = c.in_ok-top.ensures.onward.stack;
  ended = c.in_ok-top.ensures.ended;
}

pub returns-in_err-top-clause-stepped : goal.returns-in_err-top-clause-stepped
returns-in_err-top-clause-stepped c = stepped_more _ _ c.loop-top.rows _ _ c.loop-top.readers _ _ c.loop-top.clock _ c.loop-top.invariant.stepped c.in_err-top.ensures.stepped

pub returns-in_err-top-clause-past : goal.returns-in_err-top-clause-past
returns-in_err-top-clause-past c = λ i l. c.in_err-top.ensures.past i l ∙ c.loop-top.invariant.past i l
