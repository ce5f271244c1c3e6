use Rattle.std.proofs.Common.{◌≡◌, ◌<◌, ◌≤◌, List, ℕ, false, length, slice_get, sym, subst}
use Rattle.std.specs.Prelude.{IsSomeAnd}
use Rattle.values.specs.declared.code.Code.{Code}
use Rattle.values.specs.PlanValues.{is_derived}
use Rattle.next_layout.specs.Next.{IsNext}
use Rattle.next_layout.specs.Sources.{ArePut}
use Rattle.next_layout.proofs.Gone.{goes, sources_first, few, gone_over}
use Rattle.next_layout.proofs.making.Next.take_over.Goals as goal

pub relay-requires-clause-goes : goal.relay-requires-clause-goes
relay-requires-clause-goes c = let r = c.requires.ready in goes r.component _ _ _ r.laid _ (subst (IsNext r.component c.args.held.now c.args.names.now c.args.graph.now) (sym c.self.view_is) r.is_next)

pub put_sources-requires-clause-few : goal.put_sources-requires-clause-few
put_sources-requires-clause-few c =
    let r = c.requires.ready in
    subst (λ (codes : List Code). length codes ≤ 4096) (sym c.as_slice.ensures.value) (few r.component _ _ _ r.laid _ (subst (IsNext r.component c.args.held.now c.args.names.now c.args.graph.now) (sym c.self.view_is) r.is_next))

pub put_sources-requires-clause-sources : goal.put_sources-requires-clause-sources
put_sources-requires-clause-sources c =
    let r = c.requires.ready in
    subst (λ (codes : List Code). (n : ℕ) → n < length codes → IsSomeAnd (slice_get c.relay.new.self.plan.nodes n) (λ node. is_derived node.kind ≡ false)) (sym c.as_slice.ensures.value)
    (sources_first r.component _ _ _ r.laid _ (subst (IsNext r.component c.args.held.now c.args.names.now c.args.graph.now) (sym c.self.view_is) r.is_next) c.relay.new.self.plan c.relay.ensures.plan)

pub returns-clause-over : goal.returns-clause-over
returns-clause-over c = λ component laid is_next.
    gone_over component _ _ _ laid _ (subst (IsNext component c.args.held.now c.args.names.now c.args.graph.now) (sym c.self.view_is) is_next) c.plan-plan.ensures.paired
    c.relay.new.self c.relay.ensures.plan c.relay.ensures.live c.relay.ensures.closed c.relay.ensures.entries c.relay.ensures.edits c.relay.ensures.base c.relay.ensures.drawn c.relay.ensures.rows
    c.put_sources.new.graph (subst (λ (codes : List Code). ArePut codes (length codes) c.relay.new.self c.put_sources.new.graph) c.as_slice.ensures.value c.put_sources.ensures)
