use Rattle.std.proofs.Common.{◌≡◌, false, get_or, slice_get, sym, ap, subst, ◌∙◌, arith}
use Rattle.std.specs.Prelude.{IsSomeAnd}
use Rattle.std.proofs.lemmas.Option.{slice_get-get_or}
use Rattle.values.specs.declared.code.Code.TheVariants.{Empty}
use Rattle.values.specs.declared.plan.Plan.{Plan}
use Rattle.values.specs.PlanValues.{is_derived}
use Rattle.phase_graph.specs.Graph.{GraphState}
use Rattle.next_layout.proofs.SourcesPut.{put_none, put_more}
use Rattle.next_layout.proofs.putting.put_sources.Goals as goal

pub loop-row-init : goal.loop-row-init
loop-row-init c = put_none c.args.codes.now c.args.graph.now

pub put-requires-clause-closed : goal.put-requires-clause-closed
put-requires-clause-closed c = ap (λ (g : GraphState). g.is_open) c.loop-row.invariant.rest ∙ c.requires.closed

pub put-requires-clause-row : goal.put-requires-clause-row
put-requires-clause-row c = subst (λ (q : Plan). IsSomeAnd (slice_get q.nodes c.loop-row.row) (λ node. is_derived node.kind ≡ false)) (sym (ap (λ (g : GraphState). g.plan) c.loop-row.invariant.rest)) (c.requires.sources c.loop-row.row (omega arith))

pub put-requires-clause-few : goal.put-requires-clause-few
put-requires-clause-few c = let a = c.loop-row.invariant.few in let b = c.requires.drawn in let d = c.requires.few in omega arith

pub put-requires-clause-ticks : goal.put-requires-clause-ticks
put-requires-clause-ticks c = let e : c.loop-row.graph.base ≡ c.args.graph.now.base = ap (λ (g : GraphState). g.base) c.loop-row.invariant.rest in let t = c.requires.ticks in omega arith

pub loop-row-preserved : goal.loop-row-preserved
loop-row-preserved c =
    put_more c.args.codes.now c.loop-row.row (get_or c.args.codes.now c.loop-row.row Empty) c.args.graph.now c.loop-row.graph c.put.new.self c.loop-row.invariant
    (slice_get-get_or c.args.codes.now c.loop-row.row Empty (omega arith))
    c.put.ensures.rest c.put.ensures.ticks.0 c.put.ensures.ticks.1 c.put.ensures.long c.put.ensures.value c.put.ensures.others
