use Rattle.std.proofs.Common.{◌≡◌, Some, codes, refl}
use Rattle.component_items.specs.declared.refusal.Refusal.TheVariants.{Bad}
use Rattle.component_items.specs.declared.refusal.Why.TheVariants as Why
use Rattle.component_meaning.specs.Computed.{refusal_of}
use Rattle.component_meaning.proofs.Decided.{refused_row}
use Rattle.component_meaning.proofs.refused.unexpected_tokens.Goals as goal

empty : refusal_of (codes "") ≡ Some (Bad Why.Unexpected (record { line = 1; column = 1 }))
empty = refl

pub returns-clause-empty : goal.returns-clause-empty
returns-clause-empty c = refused_row empty

another_version : refusal_of (codes "component 9") ≡ Some (Bad Why.Unexpected (record { line = 1; column = 11 }))
another_version = refl

pub returns-clause-another_version : goal.returns-clause-another_version
returns-clause-another_version c = refused_row another_version

leading_zero : refusal_of (codes "component 1\nsignal a = 01") ≡ Some (Bad Why.BadToken (record { line = 2; column = 12 }))
leading_zero = refl

pub returns-clause-leading_zero : goal.returns-clause-leading_zero
returns-clause-leading_zero c = refused_row leading_zero

text_not_closed : refusal_of (codes "component 1\n<p>\"ab") ≡ Some (Bad Why.BadToken (record { line = 2; column = 4 }))
text_not_closed = refl

pub returns-clause-text_not_closed : goal.returns-clause-text_not_closed
returns-clause-text_not_closed c = refused_row text_not_closed

arrow : refusal_of (codes "component 1\n<p a=>") ≡ Some (Bad Why.Unexpected (record { line = 2; column = 5 }))
arrow = refl

pub returns-clause-arrow : goal.returns-clause-arrow
returns-clause-arrow c = refused_row arrow

end_in_a_tag : refusal_of (codes "component 1\n<p") ≡ Some (Bad Why.Unexpected (record { line = 2; column = 3 }))
end_in_a_tag = refl

pub returns-clause-end_in_a_tag : goal.returns-clause-end_in_a_tag
returns-clause-end_in_a_tag c = refused_row end_in_a_tag

end_in_an_area : refusal_of (codes "component 1\narea a {") ≡ Some (Bad Why.Unexpected (record { line = 2; column = 9 }))
end_in_an_area = refl

pub returns-clause-end_in_an_area : goal.returns-clause-end_in_an_area
returns-clause-end_in_an_area c = refused_row end_in_an_area

close_of_nothing : refusal_of (codes "component 1\n</br>") ≡ Some (Bad Why.Unexpected (record { line = 2; column = 1 }))
close_of_nothing = refl

pub returns-clause-close_of_nothing : goal.returns-clause-close_of_nothing
returns-clause-close_of_nothing c = refused_row close_of_nothing

brace_of_nothing : refusal_of (codes "component 1\n}") ≡ Some (Bad Why.Unexpected (record { line = 2; column = 1 }))
brace_of_nothing = refl

pub returns-clause-brace_of_nothing : goal.returns-clause-brace_of_nothing
returns-clause-brace_of_nothing c = refused_row brace_of_nothing

dash_apart : refusal_of (codes "component 1\n<my -a>") ≡ Some (Bad Why.Unexpected (record { line = 2; column = 5 }))
dash_apart = refl

pub returns-clause-dash_apart : goal.returns-clause-dash_apart
returns-clause-dash_apart c = refused_row dash_apart
