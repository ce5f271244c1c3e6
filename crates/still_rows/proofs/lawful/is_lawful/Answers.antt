use Rattle.std.proofs.Common.{◌≡◌, ◌∙◌, Some, slice_get, sym, subst, arith}
use Rattle.std.proofs.lemmas.Option.{get_or_from_slice_get, slice_get-get_or}
use Rattle.values.specs.declared.plan.PlanNode.{PlanNode}
use Rattle.still_readers.proofs.Lists.{at_within, either}
use Rattle.still_rows.specs.Frames.{NamesLawfully}
use Rattle.still_rows.proofs.lawful.is_lawful.Goals as goal

pub returns-then-not-names_lawfully-clause-unlawful : goal.returns-then-not-names_lawfully-clause-unlawful
returns-then-not-names_lawfully-clause-unlawful c = λ _ h.
    let here = subst (λ (q : PlanNode). slice_get c.args.nodes.now c.loop-at.at ≡ Some q) (sym c.index-nodes-at.is) (slice_get-get_or c.args.nodes.now c.loop-at.at c.index-nodes-at.result c.loop-at-test.true) in
    c.names_lawfully.ensures.unlawful c.if-not-names_lawfully.true record { each = (λ s n. h.reads c.loop-at.at c.index-nodes-at.result here s n) }

pub loop-at-preserved : goal.loop-at-preserved
loop-at-preserved c = λ i node l n. either i c.loop-at.at (NamesLawfully c.args.nodes.now i node.expr)
    (λ s.
    let same = c.index-nodes-at.is ∙ get_or_from_slice_get c.args.nodes.now c.loop-at.at node c.index-nodes-at.result (rw (← s) n) in
    rw s (subst (λ (q : PlanNode). NamesLawfully c.args.nodes.now c.loop-at.at q.expr) same (c.names_lawfully.ensures.lawful c.if-not-names_lawfully.false)))
    (λ s. c.loop-at.invariant i node (omega (arith, s)) n)

pub returns-clause-lawful : goal.returns-clause-lawful
returns-clause-lawful c = λ _. record {
  few = (let a = c.if-nodes-gt-MOST.false in omega arith);
  reads = (λ row node n s m. (c.loop-at.invariant row node (let w = at_within c.args.nodes.now row node n in let t = c.loop-at-test.false in omega arith) n).each s m);
}
