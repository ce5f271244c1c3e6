use Rattle.std.proofs.Common.{◌≡◌, ◌≤◌, ◌+◌, [], Result, Ok, Err, sym, subst, take, ◌∙◌, arith}
use Rattle.std.specs.Prelude.{IfOk}
use Rattle.std.specs.Result.{IsErr}
use Rattle.std.specs.Bool.{OnTrue}
use Rattle.std.proofs.lemmas.Bool.{true≢false, OnTrue_from}
use Rattle.component_items.specs.declared.component.Component.{Component}
use Rattle.component_items.specs.Kept.{IsKept}
use Rattle.load_meaning.specs.Polls.{enough_rounds}
use Rattle.script_run.specs.Ran.{GoesOn}
use Rattle.script_run.proofs.Runs.{counted_from}
use Rattle.script_run.proofs.run.run_script.Goals as goal

no_value : {A E : Type 0} (r : Result A E) (P : A → Type 0) → IsErr r → IfOk r P
no_value (Ok a) P none = absurd (true≢false (sym none))
no_value (Err e) P is = tt

pub returns-in_err-run_phase-clause-prompt : goal.returns-in_err-run_phase-clause-prompt
returns-in_err-run_phase-clause-prompt g c =
    let none : IfOk c.from_residual-in_err-run_phase.result (λ ran. ran.pending ≡ []) = no_value c.from_residual-in_err-run_phase.result _ c.from_residual-in_err-run_phase.ensures.0 in
    OnTrue_from g.L.Loader.is_prompt _ (λ e enough. none)

pub loop-before-preserved : goal.loop-before-preserved
loop-before-preserved g c =
    let came = c.in_ok-run_phase.ensures in
    let was = c.loop-before.invariant in
    let now = c.run_phase.new.ran in
    let script = take (c.loop-before.before + 1) c.args.script.now in (
      came.component ∙ was.0,
      subst IsKept (sym came.component) was.1,
      omega (arith, came.ticks, was.2),
      subst (λ (component : Component). GoesOn component script c.args.asked c.args.rounds (counted_from (g.L.Loader.faults c.args.loader.now) (g.L.Loader.faults c.run_phase.new.loader) (g.L.Loader.not_yets c.args.loader.now) (g.L.Loader.not_yets c.run_phase.new.loader)) now) was.0
          (came.goes_on (g.L.Loader.faults c.args.loader.now) (g.L.Loader.not_yets c.args.loader.now)
          (subst (λ (component : Component). GoesOn component (take c.loop-before.before c.args.script.now) c.args.asked c.args.rounds (counted_from (g.L.Loader.faults c.args.loader.now) (g.L.Loader.faults c.loop-before.loader) (g.L.Loader.not_yets c.args.loader.now) (g.L.Loader.not_yets c.loop-before.loader)) c.loop-before.ran) (sym was.0) was.3)),
      subst (λ (component : Component). OnTrue g.L.Loader.is_prompt (enough_rounds component ≤ c.args.rounds → now.pending ≡ [])) was.0 came.prompt,
    )
