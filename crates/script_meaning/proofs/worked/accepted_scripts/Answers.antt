use Rattle.std.proofs.Common.{◌≡◌, ◌++◌, [], ◌∷◌, Some, None, codes, pos, negsuc, refl}
use Rattle.values.specs.declared.code.Code.TheVariants.{Empty, Number, Word}
use Rattle.store_fields.specs.declared.edit.EditOp.TheVariants.{Insert, Remove, Move}
use Rattle.script_items.specs.declared.operation.ScriptOp.TheVariants as op
use Rattle.script_meaning.specs.Computed.{Read, read_of}
use Rattle.script_meaning.specs.Worked.{worked_texts}
use Rattle.script_meaning.proofs.WorkedNames.{worked_names, script_row}
use Rattle.script_meaning.proofs.worked.accepted_scripts.Goals as goal

abbrev nothing_means : Read
nothing_means = record { phases = []; texts = worked_texts }

nothing_read : read_of worked_texts worked_names 1 (codes "") ≡ Some nothing_means
nothing_read = refl

pub returns-clause-nothing : goal.returns-clause-nothing
returns-clause-nothing c = script_row nothing_read

abbrev phase_means : Read
phase_means = record { phases = [] ∷ []; texts = worked_texts }

phase_read : read_of worked_texts worked_names 1 (codes "phase") ≡ Some phase_means
phase_read = refl

pub returns-clause-phase : goal.returns-clause-phase
returns-clause-phase c = script_row phase_read

abbrev lane_means : Read
lane_means = record { phases = ([] ∷ []) ∷ []; texts = worked_texts }

lane_read : read_of worked_texts worked_names 1 (codes "phase lane") ≡ Some lane_means
lane_read = refl

pub returns-clause-lane : goal.returns-clause-lane
returns-clause-lane c = script_row lane_read

abbrev sixteen_lanes_means : Read
sixteen_lanes_means = record { phases = ([] ∷ [] ∷ [] ∷ [] ∷ [] ∷ [] ∷ [] ∷ [] ∷ [] ∷ [] ∷ [] ∷ [] ∷ [] ∷ [] ∷ [] ∷ [] ∷ []) ∷ []; texts = worked_texts }

sixteen_lanes_read : read_of worked_texts worked_names 1 (codes "phase lane lane lane lane lane lane lane lane lane lane lane lane lane lane lane lane") ≡ Some sixteen_lanes_means
sixteen_lanes_read = refl

pub returns-clause-sixteen_lanes : goal.returns-clause-sixteen_lanes
returns-clause-sixteen_lanes c = script_row sixteen_lanes_read

abbrev sixty_four_phases_means : Read
sixty_four_phases_means = record { phases = [] ∷ [] ∷ [] ∷ [] ∷ [] ∷ [] ∷ [] ∷ [] ∷ [] ∷ [] ∷ [] ∷ [] ∷ [] ∷ [] ∷ [] ∷ [] ∷ [] ∷ [] ∷ [] ∷ [] ∷ [] ∷ [] ∷ [] ∷ [] ∷ [] ∷ [] ∷ [] ∷ [] ∷ [] ∷ [] ∷ [] ∷ [] ∷ [] ∷ [] ∷ [] ∷ [] ∷ [] ∷ [] ∷ [] ∷ [] ∷ [] ∷ [] ∷ [] ∷ [] ∷ [] ∷ [] ∷ [] ∷ [] ∷ [] ∷ [] ∷ [] ∷ [] ∷ [] ∷ [] ∷ [] ∷ [] ∷ [] ∷ [] ∷ [] ∷ [] ∷ [] ∷ [] ∷ [] ∷ [] ∷ []; texts = worked_texts }

sixty_four_phases_read : read_of worked_texts worked_names 1 (codes "phase phase phase phase phase phase phase phase phase phase phase phase phase phase phase phase phase phase phase phase phase phase phase phase phase phase phase phase phase phase phase phase phase phase phase phase phase phase phase phase phase phase phase phase phase phase phase phase phase phase phase phase phase phase phase phase phase phase phase phase phase phase phase phase ") ≡ Some sixty_four_phases_means
sixty_four_phases_read = refl

pub returns-clause-sixty_four_phases : goal.returns-clause-sixty_four_phases
returns-clause-sixty_four_phases c = script_row sixty_four_phases_read

abbrev values_means : Read
values_means = record { phases = ((op.Set 0 None (Number (pos 5)) ∷ op.Get 1 None ∷ op.Pump ∷ op.Set 7 None (Word 13) ∷ op.Get 9 None ∷ op.Dispose 2 ∷ []) ∷ (op.Set 5 (Some (Number (pos 1))) Empty ∷ op.Get 4 (Some (Word 14)) ∷ []) ∷ []) ∷ []; texts = (worked_texts ++ codes "q" ∷ codes "k" ∷ []) }

values_read : read_of worked_texts worked_names 1 (codes "phase lane set a = 5 get m pump set side.x = \"q\" get side.inner.y dispose side.inner lane set s[1].u = empty get s[\"k\"].t") ≡ Some values_means
values_read = refl

pub returns-clause-values : goal.returns-clause-values
returns-clause-values c = script_row values_read

abbrev edits_means : Read
edits_means = record { phases = ((op.Change (record { store = 2; op = Insert (Number (pos 7)) (Number (pos 0) ∷ Number (pos 3) ∷ []) 4294967295 }) ∷ op.Change (record { store = 2; op = Insert (Number (negsuc 0)) (Number (pos 0) ∷ Empty ∷ []) 0 }) ∷ op.Change (record { store = 2; op = Remove (Number (pos 7)) }) ∷ op.Change (record { store = 2; op = Move (Number (pos 7)) 1 }) ∷ []) ∷ []) ∷ []; texts = worked_texts }

edits_read : read_of worked_texts worked_names 1 (codes "phase lane insert s 7 { u = 3 } insert s -1 { } at 0 remove s 7 move s 7 to 1") ≡ Some edits_means
edits_read = refl

pub returns-clause-edits : goal.returns-clause-edits
returns-clause-edits c = script_row edits_read
