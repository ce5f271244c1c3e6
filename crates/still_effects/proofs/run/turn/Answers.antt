use Rattle.std.proofs.Common.{ℕ, slice_get, sym, subst, ap, ◌∙◌}
use Rattle.still_rows.specs.declared.bring.Ended.{Ended}
use Rattle.still_rows.specs.Works.{EndsAs}
use Rattle.still_rows.proofs.WorksLemmas.{run_runs}
use Rattle.still_effects.specs.Effects.{IsEffect, IsRunUnder}
use Rattle.still_effects.proofs.EffectLemmas.{effect_row, below_memo, below_fewer, due_not_kept, run_whole}
use Rattle.still_effects.proofs.run.turn.Goals as goal

pub refresh-requires-clause-within : goal.refresh-requires-clause-within
refresh-requires-clause-within c =
    let e = c.go_on-gone.ensures in
    let g = c.go_on-gone.result.frame in
    let still = c.requires.still in
    let effect = subst (λ (i : ℕ). IsEffect c.args.nodes.now i) (sym e.node) c.requires.effect in
    let row = effect_row c.args.nodes.now c.args.rows.now g.node still.good effect in
    let m = subst (λ (q : Ended). EndsAs c.args.nodes.now c.args.rows.now effect.node row.0 g c.go_on-gone.new.reads.list q) c.in-Below.is (e.ended effect.node row.0 effect.at row.1) in
    (below_memo _ _ g effect.node c.in-Below.source still.lawful still.good e.frame effect.at m).0

pub refresh-requires-clause-kind : goal.refresh-requires-clause-kind
refresh-requires-clause-kind c =
    let e = c.go_on-gone.ensures in
    let g = c.go_on-gone.result.frame in
    let still = c.requires.still in
    let effect = subst (λ (i : ℕ). IsEffect c.args.nodes.now i) (sym e.node) c.requires.effect in
    let row = effect_row c.args.nodes.now c.args.rows.now g.node still.good effect in
    let m = subst (λ (q : Ended). EndsAs c.args.nodes.now c.args.rows.now effect.node row.0 g c.go_on-gone.new.reads.list q) c.in-Below.is (e.ended effect.node row.0 effect.at row.1) in
    (below_memo _ _ g effect.node c.in-Below.source still.lawful still.good e.frame effect.at m).1

pub record_run-requires-clause-due : goal.record_run-requires-clause-due
record_run-requires-clause-due c =
    let e = c.go_on-gone.ensures in
    let g = c.go_on-gone.result.frame in
    let effect = subst (λ (i : ℕ). IsEffect c.args.nodes.now i) (sym e.node) c.requires.effect in
    let row = effect_row c.args.nodes.now c.args.rows.now g.node c.requires.still.good effect in
    let m = subst (λ (q : Ended). EndsAs c.args.nodes.now c.args.rows.now effect.node row.0 g c.go_on-gone.new.reads.list q) c.in-Finish.is (e.ended effect.node row.0 effect.at row.1) in
    m.due

pub record_run-requires-clause-row : goal.record_run-requires-clause-row
record_run-requires-clause-row c = λ row at.
    let e = c.go_on-gone.ensures in
    let g = c.go_on-gone.result.frame in
    let still = c.requires.still in
    let effect = subst (λ (i : ℕ). IsEffect c.args.nodes.now i) (sym e.node) c.requires.effect in
    let m = subst (λ (q : Ended). EndsAs c.args.nodes.now c.args.rows.now effect.node row g c.go_on-gone.new.reads.list q) c.in-Finish.is (e.ended effect.node row effect.at at) in
    run_runs c.args.nodes.now c.args.rows.now effect.node row g c.in-Finish.code c.go_on-gone.new.reads.list still.good still.roomy e.frame effect.at at m

pub returns-in_ok-refresh-in-Below-clause-turned : goal.returns-in_ok-refresh-in-Below-clause-turned
returns-in_ok-refresh-in-Below-clause-turned c =
    let e = c.go_on-gone.ensures in
    let g = c.go_on-gone.result.frame in
    let still = c.requires.still in
    let effect = subst (λ (i : ℕ). IsEffect c.args.nodes.now i) (sym e.node) c.requires.effect in
    let row = effect_row c.args.nodes.now c.args.rows.now g.node still.good effect in
    let m = subst (λ (q : Ended). EndsAs c.args.nodes.now c.args.rows.now effect.node row.0 g c.go_on-gone.new.reads.list q) c.in-Below.is (e.ended effect.node row.0 effect.at row.1) in
    let s = c.refresh.ensures.stepped in
    (s, below_fewer _ c.args.rows.now _ c.args.readers.now _ c.args.clock.now _ g effect.node c.in-Below.source still.good e.frame m s c.in_ok-refresh-in-Below.ensures.clean)

pub returns-in-Keep-clause-turned : goal.returns-in-Keep-clause-turned
returns-in-Keep-clause-turned c =
    let e = c.go_on-gone.ensures in
    let g = c.go_on-gone.result.frame in
    let still = c.requires.still in
    let effect = subst (λ (i : ℕ). IsEffect c.args.nodes.now i) (sym e.node) c.requires.effect in
    let row = effect_row c.args.nodes.now c.args.rows.now g.node still.good effect in
    let m = subst (λ (q : Ended). EndsAs c.args.nodes.now c.args.rows.now effect.node row.0 g c.go_on-gone.new.reads.list q) c.in-Keep.is (e.ended effect.node row.0 effect.at row.1) in
    absurd (due_not_kept c.args.nodes.now c.args.rows.now c.args.frame effect.node row.0 still.good c.requires.due.frame c.requires.due.due (ap (λ (i : ℕ). slice_get c.args.nodes.now i) (sym e.node) ∙ effect.at) (ap (λ (i : ℕ). slice_get c.args.rows.now i) (sym e.node) ∙ row.1) m)

pub returns-in-Finish-clause-turned : goal.returns-in-Finish-clause-turned
returns-in-Finish-clause-turned c =
    let e = c.go_on-gone.ensures in
    let g = c.go_on-gone.result.frame in
    let still = c.requires.still in
    let effect = subst (λ (i : ℕ). IsEffect c.args.nodes.now i) (sym e.node) c.requires.effect in
    let row = effect_row c.args.nodes.now c.args.rows.now g.node still.good effect in
    let m = subst (λ (q : Ended). EndsAs c.args.nodes.now c.args.rows.now effect.node row.0 g c.go_on-gone.new.reads.list q) c.in-Finish.is (e.ended effect.node row.0 effect.at row.1) in
    let here = ap (λ (i : ℕ). slice_get c.args.rows.now i) (sym e.node) ∙ row.1 in
    subst (λ (i : ℕ). IsRunUnder c.args.nodes.now c.args.rows.now c.record_run.new.rows c.args.readers.now c.record_run.new.readers c.args.clock.now c.args.clock.now i c.in-Finish.code c.args.version) e.node
    (run_whole _ _ _ _ _ _ g effect.node row.0 c.in-Finish.code c.args.version c.go_on-gone.new.reads.list still e.frame effect.at row.1 m (c.record_run.ensures row.0 row.1) c.requires.drawn (c.requires.newer row.0 here))
