use Rattle.std.proofs.Common.{◌≡◌, Some, codes, refl}
use Rattle.component_items.specs.declared.refusal.Refusal.TheVariants.{Bad}
use Rattle.component_items.specs.declared.refusal.Why.TheVariants as Why
use Rattle.script_meaning.specs.Computed.{refusal_of}
use Rattle.script_meaning.specs.Worked.{worked_texts}
use Rattle.script_meaning.proofs.WorkedNames.{worked_names, refused_row}
use Rattle.script_meaning.proofs.worked.fields_of_rows.Goals as goal

key_is_no_field : refusal_of worked_texts worked_names 1 (codes "phase lane get s[1].key") ≡ Some (Bad Why.UnknownName (record { line = 1; column = 21 }))
key_is_no_field = refl

pub returns-clause-key_is_no_field : goal.returns-clause-key_is_no_field
returns-clause-key_is_no_field c = refused_row key_is_no_field

no_field : refusal_of worked_texts worked_names 1 (codes "phase lane set s[1].a = 1") ≡ Some (Bad Why.UnknownName (record { line = 1; column = 21 }))
no_field = refl

pub returns-clause-no_field : goal.returns-clause-no_field
returns-clause-no_field c = refused_row no_field

no_field_inserted : refusal_of worked_texts worked_names 1 (codes "phase lane insert s 1 { z = 1 }") ≡ Some (Bad Why.UnknownName (record { line = 1; column = 25 }))
no_field_inserted = refl

pub returns-clause-no_field_inserted : goal.returns-clause-no_field_inserted
returns-clause-no_field_inserted c = refused_row no_field_inserted

given_twice : refusal_of worked_texts worked_names 1 (codes "phase lane insert s 1 { t = 1 t = 2 }") ≡ Some (Bad Why.NameTaken (record { line = 1; column = 31 }))
given_twice = refl

pub returns-clause-given_twice : goal.returns-clause-given_twice
returns-clause-given_twice c = refused_row given_twice
