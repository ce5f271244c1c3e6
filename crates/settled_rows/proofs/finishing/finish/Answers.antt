use Rattle.std.proofs.Common.{◌≡◌, ap, ◌∙◌, arith}
use Rattle.std.proofs.lemmas.Bool.{OnTrue_at}
use Rattle.phase_graph.specs.Graph.{GraphState}
use Rattle.settled_rows.proofs.Finishes.{finishes}
use Rattle.settled_rows.proofs.finishing.finish.Goals as goal

pub poll-requires-clause-few : goal.poll-requires-clause-few
poll-requires-clause-few g c = let few = c.requires.ready.drawn in omega arith

pub settle-requires-clause-closed : goal.settle-requires-clause-closed
settle-requires-clause-closed g c = ap (λ (x : GraphState). x.is_open) c.poll.ensures.moved.rest ∙ c.requires.ready.closed

pub settle-requires-clause-few : goal.settle-requires-clause-few
settle-requires-clause-few g c = let first = c.requires.ready.drawn in let few = c.poll.ensures.moved.few in omega arith

pub settle-requires-clause-ticks : goal.settle-requires-clause-ticks
settle-requires-clause-ticks g c = let same : c.poll.new.graph.base ≡ c.args.graph.now.base = ap (λ (x : GraphState). x.base) c.poll.ensures.moved.rest in let base = c.requires.ready.base in omega arith

pub returns-clause-finished : goal.returns-clause-finished
returns-clause-finished g c =
    finishes _ _ c.args.component.now c.args.names.now c.args.held.now c.poll.new.held c.args.graph.now c.poll.new.graph c.settle.new.self c.args.loads.now c.poll.new.self c.poll.new.late.list _ _
    c.requires.ready c.poll.ensures.loads c.poll.ensures.polled c.poll.ensures.held c.poll.ensures.fits_still c.poll.ensures.in_step_still c.poll.ensures.names_still c.poll.ensures.plan_still c.poll.ensures.moved c.poll.ensures.evaluated (λ is. OnTrue_at is c.poll.ensures.prompt)
    c.settle.ensures.rest c.settle.ensures.ticks.1 (λ n node row a b k. (c.settle.ensures.memos n node row a b k).1) c.settle.ensures.sources c.settle.ensures.effects
