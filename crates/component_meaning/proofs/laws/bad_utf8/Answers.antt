use Rattle.std.proofs.Common.{◌≡◌, [], ◌∷◌, ◌++◌, Some, codes, refl}
use Rattle.std.proofs.Math.Utf8.{encode}
use Rattle.std.specs.Str.{is_utf8, chars}
use Rattle.std.specs.Str.Lossy.{utf8_valid_len}
use Rattle.component_items.specs.declared.refusal.Refusal.TheVariants.{Bad}
use Rattle.component_items.specs.declared.refusal.Why.TheVariants as Why
use Rattle.component_meaning.specs.Computed.{refusal_of}
use Rattle.component_meaning.proofs.Decided.{computed_refusal}
use Rattle.component_meaning.proofs.laws.bad_utf8.Goals as goal

row : refusal_of (codes "component 1\n\"" ++ 255 ∷ []) ≡ Some (Bad Why.BadUtf8 (record { line = 2; column = 2 }))
unfolding is_utf8 chars utf8_valid_len encode
row = refl

pub returns : goal.returns
returns c = computed_refusal (codes "component 1\n\"" ++ 255 ∷ []) (Bad Why.BadUtf8 (record { line = 2; column = 2 })) row
