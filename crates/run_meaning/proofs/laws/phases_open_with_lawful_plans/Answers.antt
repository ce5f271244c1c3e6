use Rattle.plain_evaluation.specs.Held.{first_held}
use Rattle.plain_evaluation.specs.Written.{state_of}
use Rattle.plain_evaluation.proofs.Fitting.{rows_of_held}
use Rattle.plan_meaning.proofs.Owners.{lawful}
use Rattle.run_meaning.specs.Run.{held_arrived}
use Rattle.run_meaning.proofs.Fits.{first_fits, arrived_fits, run_fits}
use Rattle.run_meaning.proofs.laws.phases_open_with_lawful_plans.Goals as goal

pub returns : goal.returns
returns c component keys steps last kept runs =
    let fit = run_fits component kept (held_arrived keys (first_held component)) last steps (arrived_fits component keys (first_held component) (first_fits component kept)) runs in
    lawful component (state_of last) kept (rows_of_held component last fit.fits)
