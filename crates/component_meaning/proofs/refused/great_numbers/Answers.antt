use Rattle.std.proofs.Common.{◌≡◌, Some, codes, refl}
use Rattle.component_items.specs.declared.refusal.Refusal.TheVariants.{Bad}
use Rattle.component_items.specs.declared.refusal.Why.TheVariants as Why
use Rattle.component_meaning.specs.Computed.{refusal_of}
use Rattle.component_meaning.proofs.Decided.{refused_row}
use Rattle.component_meaning.proofs.refused.great_numbers.Goals as goal

number : refusal_of (codes "component 1\nsignal a = 2147483648") ≡ Some (Bad Why.NumberRange (record { line = 2; column = 12 }))
number = refl

pub returns-clause-number : goal.returns-clause-number
returns-clause-number c = refused_row number

negated : refusal_of (codes "component 1\nsignal a = -2147483649") ≡ Some (Bad Why.NumberRange (record { line = 2; column = 13 }))
negated = refl

pub returns-clause-negated : goal.returns-clause-negated
returns-clause-negated c = refused_row negated

behind_after : refusal_of (codes "component 1\nresource r after 2147483648") ≡ Some (Bad Why.NumberRange (record { line = 2; column = 18 }))
behind_after = refl

pub returns-clause-behind_after : goal.returns-clause-behind_after
returns-clause-behind_after c = refused_row behind_after

part_of_a_tag : refusal_of (codes "component 1\n<x-2147483648>") ≡ Some (Bad Why.NumberRange (record { line = 2; column = 4 }))
part_of_a_tag = refl

pub returns-clause-part_of_a_tag : goal.returns-clause-part_of_a_tag
returns-clause-part_of_a_tag c = refused_row part_of_a_tag

part_of_no_whole_tag : refusal_of (codes "component 1\n<x-2147483648-$") ≡ Some (Bad Why.NumberRange (record { line = 2; column = 4 }))
part_of_no_whole_tag = refl

pub returns-clause-part_of_no_whole_tag : goal.returns-clause-part_of_no_whole_tag
returns-clause-part_of_no_whole_tag c = refused_row part_of_no_whole_tag

difference : refusal_of (codes "component 1\nmemo a = 1 - 2147483648") ≡ Some (Bad Why.NumberRange (record { line = 2; column = 14 }))
difference = refl

pub returns-clause-difference : goal.returns-clause-difference
returns-clause-difference c = refused_row difference
