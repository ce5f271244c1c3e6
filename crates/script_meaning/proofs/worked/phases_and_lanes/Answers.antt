use Rattle.std.proofs.Common.{◌≡◌, Some, codes, refl}
use Rattle.component_items.specs.declared.refusal.Count.TheVariants as Count
use Rattle.component_items.specs.declared.refusal.Refusal.TheVariants.{Bad}
use Rattle.component_items.specs.declared.refusal.Why.TheVariants as Why
use Rattle.script_meaning.specs.Computed.{refusal_of}
use Rattle.script_meaning.specs.Worked.{worked_texts}
use Rattle.script_meaning.proofs.WorkedNames.{worked_names, refused_row}
use Rattle.script_meaning.proofs.worked.phases_and_lanes.Goals as goal

lanes : refusal_of worked_texts worked_names 1 (codes "phase lane lane lane lane lane lane lane lane lane lane lane lane lane lane lane lane lane") ≡ Some (Bad Why.TooManyLanes (record { line = 1; column = 87 }))
lanes = refl

pub returns-clause-lanes : goal.returns-clause-lanes
returns-clause-lanes c = refused_row lanes

phases : refusal_of worked_texts worked_names 1 (codes "phase phase phase phase phase phase phase phase phase phase phase phase phase phase phase phase phase phase phase phase phase phase phase phase phase phase phase phase phase phase phase phase phase phase phase phase phase phase phase phase phase phase phase phase phase phase phase phase phase phase phase phase phase phase phase phase phase phase phase phase phase phase phase phase phase ") ≡ Some (Bad (Why.TooLarge Count.Phases) (record { line = 1; column = 385 }))
phases = refl

pub returns-clause-phases : goal.returns-clause-phases
returns-clause-phases c = refused_row phases
