use Rattle.std.proofs.Common.{◌≡◌, ◌≢◌, ◌<◌, ◌≤◌, ◌^◌, ◌++◌, ◌∷◌, [], List, true, length, refl, sym, ap, subst, ◌∙◌, arith}
use Rattle.load_table.specs.Loads.{LoadOf, loads_in}
use Rattle.phase_graph.specs.Graph.{ticks_of}
use Rattle.still_graph.specs.Still.{StillState}
use Rattle.still_graph.proofs.Again.{closed_again, ready_again, midway_again}
use Rattle.still_graph.proofs.Finished.{finished_still, finished_settles}
use Rattle.still_graph.proofs.still.Still.settle_again.Goals as goal

pub rebase-requires-clause-closed : goal.rebase-requires-clause-closed
rebase-requires-clause-closed g c = closed_again _ c.self.inside.journal.spare c.self.invariant.0 c.plan-plan.ensures.paired (λ e. c.requires.«open» (ap (λ (x : StillState). x.stage) (sym c.self.view_is) ∙ e)) (λ e. c.requires.ended (ap (λ (x : StillState). x.stage) (sym c.self.view_is) ∙ e))

pub finish-requires-clause-ready : goal.finish-requires-clause-ready
finish-requires-clause-ready g c = ready_again _ c.self.inside.journal.spare c.self.invariant.0 c.plan-plan.ensures.paired (λ e. c.requires.«open» (ap (λ (x : StillState). x.stage) (sym c.self.view_is) ∙ e)) (λ e. c.requires.ended (ap (λ (x : StillState). x.stage) (sym c.self.view_is) ∙ e)) c.rebase.new.self c.rebase.ensures c.self.inside.loads c.self.invariant.2 refl (subst (λ (x : StillState). ticks_of x.graph < 2 ^ 62) (sym c.self.view_is) c.requires.ticks)

pub finish-requires-clause-room : goal.finish-requires-clause-room
finish-requires-clause-room g c =
    let same = ap (λ (ls : List LoadOf). length ls) (c.self.invariant.2 ∙ ap (λ (x : StillState). loads_in x.component) c.self.view_is) in
    let room = c.requires.room in
    omega arith

pub invariant_of-self : goal.invariant_of-self
invariant_of-self g c = (finished_still _ _ _ c.self.inside.journal.spare c.self.invariant.0 c.self.inside.held c.self.inside.names c.rebase.new.self c.self.inside.verdicts.items c.self.inside.loads (ready_again _ c.self.inside.journal.spare c.self.invariant.0 c.plan-plan.ensures.paired (λ e. c.requires.«open» (ap (λ (x : StillState). x.stage) (sym c.self.view_is) ∙ e)) (λ e. c.requires.ended (ap (λ (x : StillState). x.stage) (sym c.self.view_is) ∙ e)) c.rebase.new.self c.rebase.ensures c.self.inside.loads c.self.invariant.2 refl (subst (λ (x : StillState). ticks_of x.graph < 2 ^ 62) (sym c.self.view_is) c.requires.ticks)) refl c.finish.new.held c.finish.new.graph c.finish.new.loads c.finish.new.late.list _ _ c.finish.ensures.finished, c.self.invariant.1, (c.finish.ensures.finished.loads_are ∙ c.self.invariant.2))

pub returns-clause-settles : goal.returns-clause-settles
returns-clause-settles g c = finished_settles _ _ _ c.self.inside.journal.spare c.self.invariant.0 c.self.inside.held c.self.inside.names c.rebase.new.self c.self.inside.verdicts.items c.self.inside.loads (ready_again _ c.self.inside.journal.spare c.self.invariant.0 c.plan-plan.ensures.paired (λ e. c.requires.«open» (ap (λ (x : StillState). x.stage) (sym c.self.view_is) ∙ e)) (λ e. c.requires.ended (ap (λ (x : StillState). x.stage) (sym c.self.view_is) ∙ e)) c.rebase.new.self c.rebase.ensures c.self.inside.loads c.self.invariant.2 refl (subst (λ (x : StillState). ticks_of x.graph < 2 ^ 62) (sym c.self.view_is) c.requires.ticks)) refl c.finish.new.held c.finish.new.graph c.finish.new.loads c.finish.new.late.list _ _ c.finish.ensures.finished (midway_again _ c.self.inside.journal.spare c.self.invariant.0 c.plan-plan.ensures.paired (λ e. c.requires.«open» (ap (λ (x : StillState). x.stage) (sym c.self.view_is) ∙ e)) (λ e. c.requires.ended (ap (λ (x : StillState). x.stage) (sym c.self.view_is) ∙ e)) c.rebase.new.self c.rebase.ensures) c.args.self.now c.self.view_is
