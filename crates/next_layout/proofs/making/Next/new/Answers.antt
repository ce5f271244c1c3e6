use Rattle.std.proofs.Common.{length, sym, ap, subst, ◌∙◌, arith}
use Rattle.values.specs.declared.plan.Plan.{Plan}
use Rattle.values.specs.Plan.{IsLawful}
use Rattle.plain_evaluation.specs.Written.{state_of}
use Rattle.plain_evaluation.proofs.Fitting.{rows_of_held}
use Rattle.plan_meaning.proofs.Owners.{lawful}
use Rattle.run_meaning.proofs.Areas.{owners_long}
use Rattle.phase_graph.specs.Relaying.{Relaying}
use Rattle.next_layout.proofs.Folds.{lived_before, arrived_before}
use Rattle.next_layout.proofs.making.Next.new.Goals as goal

pub laid_with_codes-requires : goal.laid_with_codes-requires
laid_with_codes-requires c = c.in_ok-folded.ensures.fits

pub live_flags-requires-clause-all : goal.live_flags-requires-clause-all
live_flags-requires-clause-all c =
    c.in_ok-folded.ensures.fits.holds.live_long
    ∙ owners_long c.args.component.now c.items-items.ensures.kept
    ∙ sym (ap (λ (q : Plan). length q.owners) c.in_ok-laid.ensures.plan)
    ∙ sym c.len.ensures

pub live_flags-requires-clause-few : goal.live_flags-requires-clause-few
live_flags-requires-clause-few c =
    let component = c.args.component.now in
    let most = (lawful component (state_of c.in_ok-folded.folded.held.held) c.items-items.ensures.kept (rows_of_held component c.in_ok-folded.folded.held.held c.in_ok-folded.ensures.fits.fits)).few_owners in
    let count = c.len.ensures ∙ ap (λ (q : Plan). length q.owners) c.in_ok-laid.ensures.plan in
    omega arith

pub new-requires-2-clause-lawful : goal.new-requires-2-clause-lawful
new-requires-2-clause-lawful c =
    let component = c.args.component.now in
    subst IsLawful (sym c.in_ok-laid.ensures.plan) (lawful component (state_of c.in_ok-folded.folded.held.held) c.items-items.ensures.kept (rows_of_held component c.in_ok-folded.folded.held.held c.in_ok-folded.ensures.fits.fits))

pub new-requires-2-clause-owners : goal.new-requires-2-clause-owners
new-requires-2-clause-owners c =
    ap length c.in_ok-live.ensures
    ∙ c.in_ok-folded.ensures.fits.holds.live_long
    ∙ owners_long c.args.component.now c.items-items.ensures.kept
    ∙ sym (ap (λ (q : Plan). length q.owners) c.in_ok-laid.ensures.plan)

pub returns-clause-is_next : goal.returns-clause-is_next
returns-clause-is_next c = record {
  fits = c.in_ok-folded.ensures.fits;
  lived = lived_before c.args.component.now c.args.held.now c.args.names.now c.args.graph.now c.args.entries.now c.in_ok-folded.folded.held c.in_ok-folded.folded.verdicts.items c.in_ok-folded.ensures;
  arrived = arrived_before c.args.component.now c.args.held.now c.args.names.now c.args.graph.now c.args.entries.now c.in_ok-folded.folded.held c.in_ok-folded.folded.verdicts.items c.in_ok-folded.ensures c.requires;
  named = c.in_ok-laid.ensures.names;
  plan = ap (λ (r : Relaying). r.plan) c.in_ok-relaid.ensures.is ∙ c.in_ok-laid.ensures.plan;
  live = ap (λ (r : Relaying). r.live) c.in_ok-relaid.ensures.is ∙ c.in_ok-live.ensures;
  to = ap (λ (r : Relaying). r.to) c.in_ok-relaid.ensures.is ∙ c.in_ok-to.ensures;
  codes = c.in_ok-laid.ensures.codes;
}
