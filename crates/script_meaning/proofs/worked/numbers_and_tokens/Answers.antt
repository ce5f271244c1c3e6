use Rattle.std.proofs.Common.{◌≡◌, Some, codes, refl}
use Rattle.component_items.specs.declared.refusal.Refusal.TheVariants.{Bad}
use Rattle.component_items.specs.declared.refusal.Why.TheVariants as Why
use Rattle.script_meaning.specs.Computed.{refusal_of}
use Rattle.script_meaning.specs.Worked.{worked_texts}
use Rattle.script_meaning.proofs.WorkedNames.{worked_names, refused_row}
use Rattle.script_meaning.proofs.worked.numbers_and_tokens.Goals as goal

great_literal : refusal_of worked_texts worked_names 1 (codes "phase lane set a = 2147483648") ≡ Some (Bad Why.NumberRange (record { line = 1; column = 20 }))
great_literal = refl

pub returns-clause-great_literal : goal.returns-clause-great_literal
returns-clause-great_literal c = refused_row great_literal

great_key : refusal_of worked_texts worked_names 1 (codes "phase lane remove s -2147483649") ≡ Some (Bad Why.NumberRange (record { line = 1; column = 22 }))
great_key = refl

pub returns-clause-great_key : goal.returns-clause-great_key
returns-clause-great_key c = refused_row great_key

great_place : refusal_of worked_texts worked_names 1 (codes "phase lane move s 1 to 2147483648") ≡ Some (Bad Why.NumberRange (record { line = 1; column = 24 }))
great_place = refl

pub returns-clause-great_place : goal.returns-clause-great_place
returns-clause-great_place c = refused_row great_place

get_of_nothing : refusal_of worked_texts worked_names 1 (codes "phase lane get") ≡ Some (Bad Why.Unexpected (record { line = 1; column = 15 }))
get_of_nothing = refl

pub returns-clause-get_of_nothing : goal.returns-clause-get_of_nothing
returns-clause-get_of_nothing c = refused_row get_of_nothing

bad_token_behind_a_path : refusal_of worked_texts worked_names 1 (codes "phase lane get a $") ≡ Some (Bad Why.BadToken (record { line = 1; column = 18 }))
bad_token_behind_a_path = refl

pub returns-clause-bad_token_behind_a_path : goal.returns-clause-bad_token_behind_a_path
returns-clause-bad_token_behind_a_path c = refused_row bad_token_behind_a_path

no_phase : refusal_of worked_texts worked_names 1 (codes "lane") ≡ Some (Bad Why.Unexpected (record { line = 1; column = 1 }))
no_phase = refl

pub returns-clause-no_phase : goal.returns-clause-no_phase
returns-clause-no_phase c = refused_row no_phase

no_lane : refusal_of worked_texts worked_names 1 (codes "phase pump") ≡ Some (Bad Why.Unexpected (record { line = 1; column = 7 }))
no_lane = refl

pub returns-clause-no_lane : goal.returns-clause-no_lane
returns-clause-no_lane c = refused_row no_lane

empty_key : refusal_of worked_texts worked_names 1 (codes "phase lane remove s empty") ≡ Some (Bad Why.Unexpected (record { line = 1; column = 21 }))
empty_key = refl

pub returns-clause-empty_key : goal.returns-clause-empty_key
returns-clause-empty_key c = refused_row empty_key
