use Rattle.std.proofs.Common.{◌≡◌, Some, codes, refl}
use Rattle.component_items.specs.declared.refusal.Refusal.TheVariants.{Bad}
use Rattle.component_items.specs.declared.refusal.Why.TheVariants as Why
use Rattle.script_meaning.specs.Computed.{refusal_of}
use Rattle.script_meaning.specs.Worked.{worked_texts}
use Rattle.script_meaning.proofs.WorkedNames.{worked_names, refused_row}
use Rattle.script_meaning.proofs.worked.names_in_paths.Goals as goal

set_of_a_memo : refusal_of worked_texts worked_names 1 (codes "phase lane set m = 1") ≡ Some (Bad Why.WrongPlace (record { line = 1; column = 16 }))
set_of_a_memo = refl

pub returns-clause-set_of_a_memo : goal.returns-clause-set_of_a_memo
returns-clause-set_of_a_memo c = refused_row set_of_a_memo

through_no_area : refusal_of worked_texts worked_names 1 (codes "phase lane set a.x = 1") ≡ Some (Bad Why.WrongPlace (record { line = 1; column = 16 }))
through_no_area = refl

pub returns-clause-through_no_area : goal.returns-clause-through_no_area
returns-clause-through_no_area c = refused_row through_no_area

rows_of_no_store : refusal_of worked_texts worked_names 1 (codes "phase lane get a[1].t") ≡ Some (Bad Why.WrongPlace (record { line = 1; column = 16 }))
rows_of_no_store = refl

pub returns-clause-rows_of_no_store : goal.returns-clause-rows_of_no_store
returns-clause-rows_of_no_store c = refused_row rows_of_no_store

behind_a_field : refusal_of worked_texts worked_names 1 (codes "phase lane set s[1].t.x = 1") ≡ Some (Bad Why.WrongPlace (record { line = 1; column = 21 }))
behind_a_field = refl

pub returns-clause-behind_a_field : goal.returns-clause-behind_a_field
returns-clause-behind_a_field c = refused_row behind_a_field

rows_of_an_area : refusal_of worked_texts worked_names 1 (codes "phase lane dispose side[") ≡ Some (Bad Why.WrongPlace (record { line = 1; column = 20 }))
rows_of_an_area = refl

pub returns-clause-rows_of_an_area : goal.returns-clause-rows_of_an_area
returns-clause-rows_of_an_area c = refused_row rows_of_an_area

area_as_a_value : refusal_of worked_texts worked_names 1 (codes "phase lane get side $") ≡ Some (Bad Why.WrongPlace (record { line = 1; column = 16 }))
area_as_a_value = refl

pub returns-clause-area_as_a_value : goal.returns-clause-area_as_a_value
returns-clause-area_as_a_value c = refused_row area_as_a_value

effect_as_a_value : refusal_of worked_texts worked_names 1 (codes "phase lane get e") ≡ Some (Bad Why.WrongPlace (record { line = 1; column = 16 }))
effect_as_a_value = refl

pub returns-clause-effect_as_a_value : goal.returns-clause-effect_as_a_value
returns-clause-effect_as_a_value c = refused_row effect_as_a_value

store_as_a_value : refusal_of worked_texts worked_names 1 (codes "phase lane get s") ≡ Some (Bad Why.WrongPlace (record { line = 1; column = 16 }))
store_as_a_value = refl

pub returns-clause-store_as_a_value : goal.returns-clause-store_as_a_value
returns-clause-store_as_a_value c = refused_row store_as_a_value

edit_of_no_store : refusal_of worked_texts worked_names 1 (codes "phase lane remove a 1") ≡ Some (Bad Why.WrongPlace (record { line = 1; column = 19 }))
edit_of_no_store = refl

pub returns-clause-edit_of_no_store : goal.returns-clause-edit_of_no_store
returns-clause-edit_of_no_store c = refused_row edit_of_no_store

dispose_of_no_area : refusal_of worked_texts worked_names 1 (codes "phase lane dispose a") ≡ Some (Bad Why.WrongPlace (record { line = 1; column = 20 }))
dispose_of_no_area = refl

pub returns-clause-dispose_of_no_area : goal.returns-clause-dispose_of_no_area
returns-clause-dispose_of_no_area c = refused_row dispose_of_no_area

nowhere : refusal_of worked_texts worked_names 1 (codes "phase lane get z") ≡ Some (Bad Why.UnknownName (record { line = 1; column = 16 }))
nowhere = refl

pub returns-clause-nowhere : goal.returns-clause-nowhere
returns-clause-nowhere c = refused_row nowhere

outside_the_area : refusal_of worked_texts worked_names 1 (codes "phase lane get side.a") ≡ Some (Bad Why.UnknownName (record { line = 1; column = 21 }))
outside_the_area = refl

pub returns-clause-outside_the_area : goal.returns-clause-outside_the_area
returns-clause-outside_the_area c = refused_row outside_the_area

inside_an_area : refusal_of worked_texts worked_names 1 (codes "phase lane get x") ≡ Some (Bad Why.UnknownName (record { line = 1; column = 16 }))
inside_an_area = refl

pub returns-clause-inside_an_area : goal.returns-clause-inside_an_area
returns-clause-inside_an_area c = refused_row inside_an_area

inside_an_if : refusal_of worked_texts worked_names 1 (codes "phase lane get h") ≡ Some (Bad Why.UnknownName (record { line = 1; column = 16 }))
inside_an_if = refl

pub returns-clause-inside_an_if : goal.returns-clause-inside_an_if
returns-clause-inside_an_if c = refused_row inside_an_if
