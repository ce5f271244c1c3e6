use Rattle.plain_evaluation.specs.Held.{first_held}
use Rattle.run_meaning.specs.Run.{held_arrived}
use Rattle.run_meaning.proofs.Dead.{first_dead, run_dead}
use Rattle.run_meaning.proofs.laws.the_dead_were_disposed.Goals as goal

pub returns-clause-was : goal.returns-clause-was
returns-clause-was c component keys steps last n kept runs =
    let fit = run_dead component kept (held_arrived keys (first_held component)) last steps (first_dead component kept keys) runs in
    (fit.was n, fit.now n)

pub returns-clause-once : goal.returns-clause-once
returns-clause-once c component keys steps last n kept runs = (run_dead component kept (held_arrived keys (first_held component)) last steps (first_dead component kept keys) runs).once n
