use Rattle.std.proofs.Common.{◌≡◌, Some, codes, refl}
use Rattle.component_items.specs.declared.refusal.Count.TheVariants as Count
use Rattle.component_items.specs.declared.refusal.Refusal.TheVariants.{Bad}
use Rattle.component_items.specs.declared.refusal.Why.TheVariants as Why
use Rattle.component_meaning.specs.Computed.{refusal_of}
use Rattle.component_meaning.proofs.Decided.{refused_row}
use Rattle.component_meaning.proofs.refused.limits.Goals as goal

rows : refusal_of (codes "component 1\nstore s max 4097 {") ≡ Some (Bad (Why.TooLarge Count.StoreRows) (record { line = 2; column = 13 }))
rows = refl

pub returns-clause-rows : goal.returns-clause-rows
returns-clause-rows c = refused_row rows

open_elements : refusal_of (codes "component 1\n<p><p><p><p><p><p><p><p><p><p><p><p><p><p><p><p><p><p><p><p><p><p><p><p><p><p><p><p><p><p><p><p><p>") ≡ Some (Bad Why.TooDeep (record { line = 2; column = 97 }))
open_elements = refl

pub returns-clause-open_elements : goal.returns-clause-open_elements
returns-clause-open_elements c = refused_row open_elements

void_element_within : refusal_of (codes "component 1\n<p><p><p><p><p><p><p><p><p><p><p><p><p><p><p><p><p><p><p><p><p><p><p><p><p><p><p><p><p><p><p><p><br>") ≡ Some (Bad Why.TooDeep (record { line = 2; column = 97 }))
void_element_within = refl

pub returns-clause-void_element_within : goal.returns-clause-void_element_within
returns-clause-void_element_within c = refused_row void_element_within

open_blocks : refusal_of (codes "component 1\nif 1 {if 1 {if 1 {if 1 {if 1 {if 1 {if 1 {if 1 {if 1 {if 1 {if 1 {if 1 {if 1 {if 1 {if 1 {if 1 {if 1 {if 1 {if 1 {if 1 {if 1 {if 1 {if 1 {if 1 {if 1 {if 1 {if 1 {if 1 {if 1 {if 1 {if 1 {if 1 {if 1 {") ≡ Some (Bad Why.TooDeep (record { line = 2; column = 198 }))
open_blocks = refl

pub returns-clause-open_blocks : goal.returns-clause-open_blocks
returns-clause-open_blocks c = refused_row open_blocks

tokens_of_an_expression : refusal_of (codes "component 1\nmemo m = 1+1+1+1+1+1+1+1+1+1+1+1+1+1+1+1+1+1+1+1+1+1+1+1+1+1+1+1+1+1+1+1+1+1+1+1+1+1+1+1+1+1+1+1+1+1+1+1+1+1+1+1+1+1+1+1+1+1+1+1+1+1+1+1+1+1+1+1+1+1+1+1+1+1+1+1+1+1+1+1+1+1+1+1+1+1+1+1+1+1+1+1+1+1+1+1+1+1+1+1+1+1+1+1+1+1+1+1+1+1+1+1+1+1+1+1+1+1+1+1+1+1+1+1+1+1+1+1+1") ≡ Some (Bad Why.TooDeep (record { line = 2; column = 266 }))
tokens_of_an_expression = refl

pub returns-clause-tokens_of_an_expression : goal.returns-clause-tokens_of_an_expression
returns-clause-tokens_of_an_expression c = refused_row tokens_of_an_expression
