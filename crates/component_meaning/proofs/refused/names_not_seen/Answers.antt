use Rattle.std.proofs.Common.{◌≡◌, Some, codes, refl}
use Rattle.component_items.specs.declared.refusal.Refusal.TheVariants.{Bad}
use Rattle.component_items.specs.declared.refusal.Why.TheVariants as Why
use Rattle.component_meaning.specs.Computed.{refusal_of}
use Rattle.component_meaning.proofs.Decided.{refused_row}
use Rattle.component_meaning.proofs.refused.names_not_seen.Goals as goal

nowhere : refusal_of (codes "component 1\nmemo m = x") ≡ Some (Bad Why.UnknownName (record { line = 2; column = 10 }))
nowhere = refl

pub returns-clause-nowhere : goal.returns-clause-nowhere
returns-clause-nowhere c = refused_row nowhere

its_own : refusal_of (codes "component 1\nmemo m = m") ≡ Some (Bad Why.UnknownName (record { line = 2; column = 10 }))
its_own = refl

pub returns-clause-its_own : goal.returns-clause-its_own
returns-clause-its_own c = refused_row its_own

inside_an_area : refusal_of (codes "component 1\narea a { signal x = 1 } {x}") ≡ Some (Bad Why.UnknownName (record { line = 2; column = 26 }))
inside_an_area = refl

pub returns-clause-inside_an_area : goal.returns-clause-inside_an_area
returns-clause-inside_an_area c = refused_row inside_an_area

inside_an_if : refusal_of (codes "component 1\nif 1 { memo m = 1 } {m}") ≡ Some (Bad Why.UnknownName (record { line = 2; column = 22 }))
inside_an_if = refl

pub returns-clause-inside_an_if : goal.returns-clause-inside_an_if
returns-clause-inside_an_if c = refused_row inside_an_if

no_field : refusal_of (codes "component 1\nstore s max 1 { t = 0 }\neach s { {row.u} }") ≡ Some (Bad Why.UnknownName (record { line = 3; column = 15 }))
no_field = refl

pub returns-clause-no_field : goal.returns-clause-no_field
returns-clause-no_field c = refused_row no_field

no_resource : refusal_of (codes "component 1\nload l = r(1)") ≡ Some (Bad Why.UnknownName (record { line = 2; column = 10 }))
no_resource = refl

pub returns-clause-no_resource : goal.returns-clause-no_resource
returns-clause-no_resource c = refused_row no_resource

no_store : refusal_of (codes "component 1\neach s {}") ≡ Some (Bad Why.UnknownName (record { line = 2; column = 6 }))
no_store = refl

pub returns-clause-no_store : goal.returns-clause-no_store
returns-clause-no_store c = refused_row no_store
