use Rattle.std.proofs.Common.{◌≡◌, ◌≢◌, ◌<◌, ◌≤◌, ◌^◌, ◌++◌, ◌∷◌, [], List, true, length, refl, sym, ap, subst, ◌∙◌, arith}
use Rattle.load_table.specs.Loads.{LoadOf, loads_in}
use Rattle.run_items.specs.Journal.{JournalPhase}
use Rattle.phase_graph.specs.Graph.{ticks_of}
use Rattle.next_layout.specs.Next.{IsFolded, IsNext}
use Rattle.still_graph.specs.Still.{StillState}
use Rattle.still_graph.proofs.After.{closed}
use Rattle.still_graph.proofs.Finished.{finished_still, finished_settles}
use Rattle.still_graph.proofs.WentOver.{laid_out, ready_over, midway_over}
use Rattle.still_graph.proofs.still.Still.go_over.Goals as goal

pub take_over-requires-clause-closed : goal.take_over-requires-clause-closed
take_over-requires-clause-closed g c = closed _ c.self.inside.journal.spare c.self.invariant.0 (ap (λ (x : StillState). x.stage) c.self.view_is ∙ c.requires.ended)

pub take_over-requires-clause-ticks : goal.take_over-requires-clause-ticks
take_over-requires-clause-ticks g c = subst (λ (x : StillState). ticks_of x.graph < 2 ^ 62) (sym c.self.view_is) c.requires.ticks

pub take_over-requires-clause-ready : goal.take_over-requires-clause-ready
take_over-requires-clause-ready g c = record { component = c.self.inside.component; laid = laid_out _ c.self.inside.journal.spare c.self.invariant.0; is_next = subst (λ (x : StillState). IsNext x.component x.state x.places x.graph c.args.next) (sym c.self.view_is) c.requires.is_next }

pub finish-requires-clause-ready : goal.finish-requires-clause-ready
finish-requires-clause-ready g c = ready_over _ c.self.inside.journal.spare c.self.invariant.0 (ap (λ (x : StillState). x.stage) c.self.view_is ∙ c.requires.ended) c.plan-plan.ensures.paired c.args.next (subst (λ (x : StillState). (earlier : List JournalPhase) (phase : JournalPhase) → x.journal ≡ earlier ++ phase ∷ [] → IsFolded x.component x.state x.places x.graph phase.entries c.args.next.state c.args.next.verdicts) (sym c.self.view_is) c.requires.folded) (subst (λ (x : StillState). IsNext x.component x.state x.places x.graph c.args.next) (sym c.self.view_is) c.requires.is_next) c.take_over.new.held c.take_over.ensures.held c.take_over.new.names c.take_over.new.graph (c.take_over.ensures.over _ (laid_out _ c.self.inside.journal.spare c.self.invariant.0) (subst (λ (x : StillState). IsNext x.component x.state x.places x.graph c.args.next) (sym c.self.view_is) c.requires.is_next)) c.take_over.new.verdicts.items c.take_over.ensures.verdicts c.self.inside.loads c.self.invariant.2 refl (subst (λ (x : StillState). ticks_of x.graph < 2 ^ 62) (sym c.self.view_is) c.requires.ticks)

pub finish-requires-clause-room : goal.finish-requires-clause-room
finish-requires-clause-room g c =
    let same = ap (λ (ls : List LoadOf). length ls) (c.self.invariant.2 ∙ ap (λ (x : StillState). loads_in x.component) c.self.view_is) in
    let room = c.requires.room in
    omega arith

pub invariant_of-self : goal.invariant_of-self
invariant_of-self g c = (finished_still _ _ _ c.self.inside.journal.spare c.self.invariant.0 c.take_over.new.held c.take_over.new.names c.take_over.new.graph c.take_over.new.verdicts.items c.self.inside.loads (ready_over _ c.self.inside.journal.spare c.self.invariant.0 (ap (λ (x : StillState). x.stage) c.self.view_is ∙ c.requires.ended) c.plan-plan.ensures.paired c.args.next (subst (λ (x : StillState). (earlier : List JournalPhase) (phase : JournalPhase) → x.journal ≡ earlier ++ phase ∷ [] → IsFolded x.component x.state x.places x.graph phase.entries c.args.next.state c.args.next.verdicts) (sym c.self.view_is) c.requires.folded) (subst (λ (x : StillState). IsNext x.component x.state x.places x.graph c.args.next) (sym c.self.view_is) c.requires.is_next) c.take_over.new.held c.take_over.ensures.held c.take_over.new.names c.take_over.new.graph (c.take_over.ensures.over _ (laid_out _ c.self.inside.journal.spare c.self.invariant.0) (subst (λ (x : StillState). IsNext x.component x.state x.places x.graph c.args.next) (sym c.self.view_is) c.requires.is_next)) c.take_over.new.verdicts.items c.take_over.ensures.verdicts c.self.inside.loads c.self.invariant.2 refl (subst (λ (x : StillState). ticks_of x.graph < 2 ^ 62) (sym c.self.view_is) c.requires.ticks)) refl c.finish.new.held c.finish.new.graph c.finish.new.loads c.finish.new.late.list _ _ c.finish.ensures.finished, c.self.invariant.1, (c.finish.ensures.finished.loads_are ∙ c.self.invariant.2))

pub returns-clause-settles : goal.returns-clause-settles
returns-clause-settles g c = finished_settles _ _ _ c.self.inside.journal.spare c.self.invariant.0 c.take_over.new.held c.take_over.new.names c.take_over.new.graph c.take_over.new.verdicts.items c.self.inside.loads (ready_over _ c.self.inside.journal.spare c.self.invariant.0 (ap (λ (x : StillState). x.stage) c.self.view_is ∙ c.requires.ended) c.plan-plan.ensures.paired c.args.next (subst (λ (x : StillState). (earlier : List JournalPhase) (phase : JournalPhase) → x.journal ≡ earlier ++ phase ∷ [] → IsFolded x.component x.state x.places x.graph phase.entries c.args.next.state c.args.next.verdicts) (sym c.self.view_is) c.requires.folded) (subst (λ (x : StillState). IsNext x.component x.state x.places x.graph c.args.next) (sym c.self.view_is) c.requires.is_next) c.take_over.new.held c.take_over.ensures.held c.take_over.new.names c.take_over.new.graph (c.take_over.ensures.over _ (laid_out _ c.self.inside.journal.spare c.self.invariant.0) (subst (λ (x : StillState). IsNext x.component x.state x.places x.graph c.args.next) (sym c.self.view_is) c.requires.is_next)) c.take_over.new.verdicts.items c.take_over.ensures.verdicts c.self.inside.loads c.self.invariant.2 refl (subst (λ (x : StillState). ticks_of x.graph < 2 ^ 62) (sym c.self.view_is) c.requires.ticks)) refl c.finish.new.held c.finish.new.graph c.finish.new.loads c.finish.new.late.list _ _ c.finish.ensures.finished (midway_over _ c.self.inside.journal.spare c.self.invariant.0 (ap (λ (x : StillState). x.stage) c.self.view_is ∙ c.requires.ended) c.plan-plan.ensures.paired c.args.next (subst (λ (x : StillState). (earlier : List JournalPhase) (phase : JournalPhase) → x.journal ≡ earlier ++ phase ∷ [] → IsFolded x.component x.state x.places x.graph phase.entries c.args.next.state c.args.next.verdicts) (sym c.self.view_is) c.requires.folded) (subst (λ (x : StillState). IsNext x.component x.state x.places x.graph c.args.next) (sym c.self.view_is) c.requires.is_next) c.take_over.new.held c.take_over.ensures.held c.take_over.new.names c.take_over.new.graph (c.take_over.ensures.over _ (laid_out _ c.self.inside.journal.spare c.self.invariant.0) (subst (λ (x : StillState). IsNext x.component x.state x.places x.graph c.args.next) (sym c.self.view_is) c.requires.is_next)) c.take_over.new.verdicts.items c.take_over.ensures.verdicts) c.args.self.now c.self.view_is
