use Rattle.std.proofs.Common.{◌≡◌, Some, codes, refl}
use Rattle.component_items.specs.declared.refusal.Refusal.TheVariants.{Bad}
use Rattle.component_items.specs.declared.refusal.Why.TheVariants as Why
use Rattle.component_meaning.specs.Computed.{refusal_of}
use Rattle.component_meaning.proofs.Decided.{refused_row}
use Rattle.component_meaning.proofs.refused.keys_taken.Goals as goal

number : refusal_of (codes "component 1\nresource r after 0 { 1 => 2 1 => 3 }") ≡ Some (Bad Why.NameTaken (record { line = 2; column = 29 }))
number = refl

pub returns-clause-number : goal.returns-clause-number
returns-clause-number c = refused_row number

zero : refusal_of (codes "component 1\nresource r after 0 { -0 => 2 0 => 3 }") ≡ Some (Bad Why.NameTaken (record { line = 2; column = 30 }))
zero = refl

pub returns-clause-zero : goal.returns-clause-zero
returns-clause-zero c = refused_row zero

negated_zero : refusal_of (codes "component 1\nresource r after 0 { 0 => 2 -0 => 3 }") ≡ Some (Bad Why.NameTaken (record { line = 2; column = 29 }))
negated_zero = refl

pub returns-clause-negated_zero : goal.returns-clause-negated_zero
returns-clause-negated_zero c = refused_row negated_zero

empty_key : refusal_of (codes "component 1\nresource r after 0 { empty => 2 empty => 3 }") ≡ Some (Bad Why.NameTaken (record { line = 2; column = 33 }))
empty_key = refl

pub returns-clause-empty_key : goal.returns-clause-empty_key
returns-clause-empty_key c = refused_row empty_key

text : refusal_of (codes "component 1\nresource r after 0 { \"a\" => 2 \"a\" => 3 }") ≡ Some (Bad Why.NameTaken (record { line = 2; column = 31 }))
text = refl

pub returns-clause-text : goal.returns-clause-text
returns-clause-text c = refused_row text
