use Rattle.std.proofs.Common.{◌≡◌, Some, codes, refl}
use Rattle.component_items.specs.declared.refusal.Refusal.TheVariants.{Bad}
use Rattle.component_items.specs.declared.refusal.Why.TheVariants as Why
use Rattle.component_meaning.specs.Computed.{refusal_of}
use Rattle.component_meaning.proofs.Decided.{refused_row}
use Rattle.component_meaning.proofs.refused.names_taken.Goals as goal

declared_twice : refusal_of (codes "component 1\nsignal a = 1\nmemo a = 2") ≡ Some (Bad Why.NameTaken (record { line = 3; column = 6 }))
declared_twice = refl

pub returns-clause-declared_twice : goal.returns-clause-declared_twice
returns-clause-declared_twice c = refused_row declared_twice

in_its_own_area : refusal_of (codes "component 1\narea a { signal a = 1 }") ≡ Some (Bad Why.NameTaken (record { line = 2; column = 17 }))
in_its_own_area = refl

pub returns-clause-in_its_own_area : goal.returns-clause-in_its_own_area
returns-clause-in_its_own_area c = refused_row in_its_own_area

by_a_sibling : refusal_of (codes "component 1\narea a {} area a {}") ≡ Some (Bad Why.NameTaken (record { line = 2; column = 16 }))
by_a_sibling = refl

pub returns-clause-by_a_sibling : goal.returns-clause-by_a_sibling
returns-clause-by_a_sibling c = refused_row by_a_sibling

in_an_element : refusal_of (codes "component 1\n<p>area a {}</p> signal a = 1") ≡ Some (Bad Why.NameTaken (record { line = 2; column = 25 }))
in_an_element = refl

pub returns-clause-in_an_element : goal.returns-clause-in_an_element
returns-clause-in_an_element c = refused_row in_an_element

attribute : refusal_of (codes "component 1\n<p a a>") ≡ Some (Bad Why.NameTaken (record { line = 2; column = 6 }))
attribute = refl

pub returns-clause-attribute : goal.returns-clause-attribute
returns-clause-attribute c = refused_row attribute

attribute_of_parts : refusal_of (codes "component 1\n<p a-b a-c a-b>") ≡ Some (Bad Why.NameTaken (record { line = 2; column = 12 }))
attribute_of_parts = refl

pub returns-clause-attribute_of_parts : goal.returns-clause-attribute_of_parts
returns-clause-attribute_of_parts c = refused_row attribute_of_parts

field : refusal_of (codes "component 1\nstore s max 1 { t = 0 t = 1 }") ≡ Some (Bad Why.NameTaken (record { line = 2; column = 23 }))
field = refl

pub returns-clause-field : goal.returns-clause-field
returns-clause-field c = refused_row field

field_named_key : refusal_of (codes "component 1\nstore s max 1 { key = 0 }") ≡ Some (Bad Why.NameTaken (record { line = 2; column = 17 }))
field_named_key = refl

pub returns-clause-field_named_key : goal.returns-clause-field_named_key
returns-clause-field_named_key c = refused_row field_named_key
