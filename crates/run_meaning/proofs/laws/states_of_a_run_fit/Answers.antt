use Rattle.std.proofs.Common.{ℕ, Option, List}
use Rattle.values.specs.declared.code.Code.{Code}
use Rattle.component_items.specs.declared.component.Component.{Component}
use Rattle.component_items.specs.Kept.{IsKept}
use Rattle.plain_evaluation.specs.Held.{Held, first_held}
use Rattle.run_meaning.specs.Run.{Runs, Settled, held_arrived}
use Rattle.run_meaning.proofs.Fits.{HeldFits, first_fits, arrived_fits, run_fits}
use Rattle.run_meaning.proofs.laws.states_of_a_run_fit.Goals as goal

fit : (component : Component) (keys : ℕ → Option Code) (steps : List Settled) (last : Held) → IsKept component → Runs component (held_arrived keys (first_held component)) steps last → HeldFits component last
fit component keys steps last kept runs = run_fits component kept (held_arrived keys (first_held component)) last steps (arrived_fits component keys (first_held component) (first_fits component kept)) runs

pub returns-clause-stores : goal.returns-clause-stores
returns-clause-stores c component keys steps last kept runs = (fit component keys steps last kept runs).fits

pub returns-clause-most : goal.returns-clause-most
returns-clause-most c component keys steps last kept runs = (fit component keys steps last kept runs).stores

pub returns-clause-owners : goal.returns-clause-owners
returns-clause-owners c component keys steps last kept runs = (fit component keys steps last kept runs).nested
