use Rattle.std.proofs.Common.{◌≡◌, ◌≢◌, ◌<◌, ◌≤◌, ◌^◌, ◌++◌, ◌∷◌, [], List, true, length, refl, sym, ap, subst, ◌∙◌, arith}
use Rattle.load_table.specs.Loads.{LoadOf, loads_in}
use Rattle.run_items.specs.Journal.{JournalPhase}
use Rattle.phase_graph.specs.Graph.{ticks_of}
use Rattle.still_graph.specs.Settling.{all_keep_rows}
use Rattle.still_graph.specs.Still.{StillState}
use Rattle.still_graph.proofs.After.{closed}
use Rattle.still_graph.proofs.Finished.{finished_still, finished_settles}
use Rattle.still_graph.proofs.InPlace.{ready_in_place, midway_in_place}
use Rattle.still_graph.proofs.WentOver.{laid_out}
use Rattle.still_graph.proofs.still.Still.settle_in_place.Goals as goal

pub fold_in_place-requires : goal.fold_in_place-requires
fold_in_place-requires g c = laid_out _ c.self.inside.journal.spare c.self.invariant.0

pub rebase-requires-clause-closed : goal.rebase-requires-clause-closed
rebase-requires-clause-closed g c = closed _ c.self.inside.journal.spare c.self.invariant.0 (ap (λ (x : StillState). x.stage) c.self.view_is ∙ c.requires.ended)

pub finish-requires-clause-ready : goal.finish-requires-clause-ready
finish-requires-clause-ready g c = ready_in_place _ c.self.inside.journal.spare c.self.invariant.0 (ap (λ (x : StillState). x.stage) c.self.view_is ∙ c.requires.ended) c.plan-plan.ensures.paired c.plan-plan.ensures.owned c.fold_in_place.new.held c.fold_in_place.ensures.held c.fold_in_place.ensures.laid c.fold_in_place.ensures.sources c.fold_in_place.ensures.loads (subst (λ (x : StillState). (earlier : List JournalPhase) (phase : JournalPhase) → x.journal ≡ earlier ++ phase ∷ [] → all_keep_rows phase.entries ≡ true) (sym c.self.view_is) c.requires.stay) c.rebase.new.self c.rebase.ensures c.self.inside.loads c.self.invariant.2 refl (subst (λ (x : StillState). ticks_of x.graph < 2 ^ 62) (sym c.self.view_is) c.requires.ticks)

pub finish-requires-clause-room : goal.finish-requires-clause-room
finish-requires-clause-room g c =
    let same = ap (λ (ls : List LoadOf). length ls) (c.self.invariant.2 ∙ ap (λ (x : StillState). loads_in x.component) c.self.view_is) in
    let room = c.requires.room in
    omega arith

pub invariant_of-self : goal.invariant_of-self
invariant_of-self g c = (finished_still _ _ _ c.self.inside.journal.spare c.self.invariant.0 c.fold_in_place.new.held c.self.inside.names c.rebase.new.self c.clear.new.self.items c.self.inside.loads (ready_in_place _ c.self.inside.journal.spare c.self.invariant.0 (ap (λ (x : StillState). x.stage) c.self.view_is ∙ c.requires.ended) c.plan-plan.ensures.paired c.plan-plan.ensures.owned c.fold_in_place.new.held c.fold_in_place.ensures.held c.fold_in_place.ensures.laid c.fold_in_place.ensures.sources c.fold_in_place.ensures.loads (subst (λ (x : StillState). (earlier : List JournalPhase) (phase : JournalPhase) → x.journal ≡ earlier ++ phase ∷ [] → all_keep_rows phase.entries ≡ true) (sym c.self.view_is) c.requires.stay) c.rebase.new.self c.rebase.ensures c.self.inside.loads c.self.invariant.2 refl (subst (λ (x : StillState). ticks_of x.graph < 2 ^ 62) (sym c.self.view_is) c.requires.ticks)) refl c.finish.new.held c.finish.new.graph c.finish.new.loads c.finish.new.late.list _ _ c.finish.ensures.finished, c.self.invariant.1, (c.finish.ensures.finished.loads_are ∙ c.self.invariant.2))

pub returns-clause-settles : goal.returns-clause-settles
returns-clause-settles g c = finished_settles _ _ _ c.self.inside.journal.spare c.self.invariant.0 c.fold_in_place.new.held c.self.inside.names c.rebase.new.self c.clear.new.self.items c.self.inside.loads (ready_in_place _ c.self.inside.journal.spare c.self.invariant.0 (ap (λ (x : StillState). x.stage) c.self.view_is ∙ c.requires.ended) c.plan-plan.ensures.paired c.plan-plan.ensures.owned c.fold_in_place.new.held c.fold_in_place.ensures.held c.fold_in_place.ensures.laid c.fold_in_place.ensures.sources c.fold_in_place.ensures.loads (subst (λ (x : StillState). (earlier : List JournalPhase) (phase : JournalPhase) → x.journal ≡ earlier ++ phase ∷ [] → all_keep_rows phase.entries ≡ true) (sym c.self.view_is) c.requires.stay) c.rebase.new.self c.rebase.ensures c.self.inside.loads c.self.invariant.2 refl (subst (λ (x : StillState). ticks_of x.graph < 2 ^ 62) (sym c.self.view_is) c.requires.ticks)) refl c.finish.new.held c.finish.new.graph c.finish.new.loads c.finish.new.late.list _ _ c.finish.ensures.finished (midway_in_place _ c.self.inside.journal.spare c.self.invariant.0 (ap (λ (x : StillState). x.stage) c.self.view_is ∙ c.requires.ended) c.plan-plan.ensures.paired c.plan-plan.ensures.owned c.fold_in_place.new.held c.fold_in_place.ensures.held c.fold_in_place.ensures.laid c.fold_in_place.ensures.sources c.fold_in_place.ensures.loads (subst (λ (x : StillState). (earlier : List JournalPhase) (phase : JournalPhase) → x.journal ≡ earlier ++ phase ∷ [] → all_keep_rows phase.entries ≡ true) (sym c.self.view_is) c.requires.stay) c.rebase.new.self c.rebase.ensures _ c.clear.ensures.items) c.args.self.now c.self.view_is
