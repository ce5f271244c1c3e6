use Rattle.std.proofs.Common.{◌≡◌, Some, codes, refl}
use Rattle.component_items.specs.declared.refusal.Refusal.TheVariants.{Bad}
use Rattle.component_items.specs.declared.refusal.Why.TheVariants as Why
use Rattle.component_meaning.specs.Computed.{refusal_of}
use Rattle.component_meaning.proofs.Decided.{refused_row}
use Rattle.component_meaning.proofs.refused.unclosed_elements.Goals as goal

left_open : refusal_of (codes "component 1\n<p>") ≡ Some (Bad Why.UnclosedTag (record { line = 2; column = 4 }))
left_open = refl

pub returns-clause-left_open : goal.returns-clause-left_open
returns-clause-left_open c = refused_row left_open

left_open_before_a_brace : refusal_of (codes "component 1\n<p> }") ≡ Some (Bad Why.UnclosedTag (record { line = 2; column = 5 }))
left_open_before_a_brace = refl

pub returns-clause-left_open_before_a_brace : goal.returns-clause-left_open_before_a_brace
returns-clause-left_open_before_a_brace c = refused_row left_open_before_a_brace

void_has_no_end : refusal_of (codes "component 1\n<p><br></br></p>") ≡ Some (Bad Why.UnclosedTag (record { line = 2; column = 10 }))
void_has_no_end = refl

pub returns-clause-void_has_no_end : goal.returns-clause-void_has_no_end
returns-clause-void_has_no_end c = refused_row void_has_no_end

other_tag : refusal_of (codes "component 1\n<p></q$") ≡ Some (Bad Why.UnclosedTag (record { line = 2; column = 6 }))
other_tag = refl

pub returns-clause-other_tag : goal.returns-clause-other_tag
returns-clause-other_tag c = refused_row other_tag

other_whole_tag : refusal_of (codes "component 1\n<p></p-1>") ≡ Some (Bad Why.UnclosedTag (record { line = 2; column = 6 }))
other_whole_tag = refl

pub returns-clause-other_whole_tag : goal.returns-clause-other_whole_tag
returns-clause-other_whole_tag c = refused_row other_whole_tag

before_a_great_number : refusal_of (codes "component 1\n<p></ x-2147483649>") ≡ Some (Bad Why.UnclosedTag (record { line = 2; column = 7 }))
before_a_great_number = refl

pub returns-clause-before_a_great_number : goal.returns-clause-before_a_great_number
returns-clause-before_a_great_number c = refused_row before_a_great_number

not_before_a_bad_token : refusal_of (codes "component 1\n<p></q-$") ≡ Some (Bad Why.BadToken (record { line = 2; column = 8 }))
not_before_a_bad_token = refl

pub returns-clause-not_before_a_bad_token : goal.returns-clause-not_before_a_bad_token
returns-clause-not_before_a_bad_token c = refused_row not_before_a_bad_token

area_is_around : refusal_of (codes "component 1\n<p>area a {</p>") ≡ Some (Bad Why.Unexpected (record { line = 2; column = 12 }))
area_is_around = refl

pub returns-clause-area_is_around : goal.returns-clause-area_is_around
returns-clause-area_is_around c = refused_row area_is_around
