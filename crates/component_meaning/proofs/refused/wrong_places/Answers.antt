use Rattle.std.proofs.Common.{◌≡◌, Some, codes, refl}
use Rattle.component_items.specs.declared.refusal.Refusal.TheVariants.{Bad}
use Rattle.component_items.specs.declared.refusal.Why.TheVariants as Why
use Rattle.component_meaning.specs.Computed.{refusal_of}
use Rattle.component_meaning.proofs.Decided.{refused_row}
use Rattle.component_meaning.proofs.refused.wrong_places.Goals as goal

signal_in_an_element : refusal_of (codes "component 1\n<p>signal a = 1</p>") ≡ Some (Bad Why.WrongPlace (record { line = 2; column = 4 }))
signal_in_an_element = refl

pub returns-clause-signal_in_an_element : goal.returns-clause-signal_in_an_element
returns-clause-signal_in_an_element c = refused_row signal_in_an_element

memo_in_an_element : refusal_of (codes "component 1\n<p>memo a = 1</p>") ≡ Some (Bad Why.WrongPlace (record { line = 2; column = 4 }))
memo_in_an_element = refl

pub returns-clause-memo_in_an_element : goal.returns-clause-memo_in_an_element
returns-clause-memo_in_an_element c = refused_row memo_in_an_element

signal_in_an_if : refusal_of (codes "component 1\nif 1 { signal a = 1 }") ≡ Some (Bad Why.WrongPlace (record { line = 2; column = 8 }))
signal_in_an_if = refl

pub returns-clause-signal_in_an_if : goal.returns-clause-signal_in_an_if
returns-clause-signal_in_an_if c = refused_row signal_in_an_if

resource_in_an_area : refusal_of (codes "component 1\narea a { resource") ≡ Some (Bad Why.WrongPlace (record { line = 2; column = 10 }))
resource_in_an_area = refl

pub returns-clause-resource_in_an_area : goal.returns-clause-resource_in_an_area
returns-clause-resource_in_an_area c = refused_row resource_in_an_area

cleanup_at_the_top : refusal_of (codes "component 1\ncleanup \"x\"") ≡ Some (Bad Why.WrongPlace (record { line = 2; column = 1 }))
cleanup_at_the_top = refl

pub returns-clause-cleanup_at_the_top : goal.returns-clause-cleanup_at_the_top
returns-clause-cleanup_at_the_top c = refused_row cleanup_at_the_top

area_in_an_if : refusal_of (codes "component 1\nif 1 { <p>area a {}</p> }") ≡ Some (Bad Why.WrongPlace (record { line = 2; column = 11 }))
area_in_an_if = refl

pub returns-clause-area_in_an_if : goal.returns-clause-area_in_an_if
returns-clause-area_in_an_if c = refused_row area_in_an_if

each_in_an_each : refusal_of (codes "component 1\nstore s max 1 { t = 0 }\neach s { each s {} }") ≡ Some (Bad Why.WrongPlace (record { line = 3; column = 10 }))
each_in_an_each = refl

pub returns-clause-each_in_an_each : goal.returns-clause-each_in_an_each
returns-clause-each_in_an_each c = refused_row each_in_an_each

row_outside_an_each : refusal_of (codes "component 1\n{row.f}") ≡ Some (Bad Why.WrongPlace (record { line = 2; column = 2 }))
row_outside_an_each = refl

pub returns-clause-row_outside_an_each : goal.returns-clause-row_outside_an_each
returns-clause-row_outside_an_each c = refused_row row_outside_an_each

area_as_a_value : refusal_of (codes "component 1\narea a {} memo m = a") ≡ Some (Bad Why.WrongPlace (record { line = 2; column = 20 }))
area_as_a_value = refl

pub returns-clause-area_as_a_value : goal.returns-clause-area_as_a_value
returns-clause-area_as_a_value c = refused_row area_as_a_value

signal_as_a_store : refusal_of (codes "component 1\nsignal a = 1 each a {}") ≡ Some (Bad Why.WrongPlace (record { line = 2; column = 19 }))
signal_as_a_store = refl

pub returns-clause-signal_as_a_store : goal.returns-clause-signal_as_a_store
returns-clause-signal_as_a_store c = refused_row signal_as_a_store
