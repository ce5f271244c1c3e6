use Rattle.std.proofs.Common.{◌≡◌, Some, codes, refl}
use Rattle.component_items.specs.declared.refusal.Refusal.TheVariants.{Bad}
use Rattle.component_items.specs.declared.refusal.Why.TheVariants as Why
use Rattle.component_meaning.specs.Computed.{refusal_of}
use Rattle.component_meaning.proofs.Decided.{refused_row}
use Rattle.component_meaning.proofs.refused.forbidden_tags.Goals as goal

script : refusal_of (codes "component 1\n<script>") ≡ Some (Bad Why.WrongPlace (record { line = 2; column = 2 }))
script = refl

pub returns-clause-script : goal.returns-clause-script
returns-clause-script c = refused_row script

style : refusal_of (codes "component 1\n<style a>") ≡ Some (Bad Why.WrongPlace (record { line = 2; column = 2 }))
style = refl

pub returns-clause-style : goal.returns-clause-style
returns-clause-style c = refused_row style

bad_token_within : refusal_of (codes "component 1\n<script-$") ≡ Some (Bad Why.BadToken (record { line = 2; column = 9 }))
bad_token_within = refl

pub returns-clause-bad_token_within : goal.returns-clause-bad_token_within
returns-clause-bad_token_within c = refused_row bad_token_within
