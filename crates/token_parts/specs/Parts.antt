-- What a token brings, and when there is no room for it.
use Rattle.std.specs.Prelude.{◌≡◌, ℕ, nat_le, ◌&&◌, if◌then◌else◌, Bool, true, List, Option, Some, None, Ok, Err}
use Rattle.values.specs.declared.code.Code.{Code}
use Rattle.text_lexer.specs.Tokens.{Lexed}
use Rattle.text_grammar.specs.Class.{is_number}
use Rattle.text_grammar.specs.Kind.{kind_of}
use Rattle.component_items.specs.declared.refusal.Count.TheVariants.{Texts}
use Rattle.component_items.specs.declared.refusal.Place.{Place}
use Rattle.component_items.specs.declared.refusal.Refusal.{Refusal}
use Rattle.component_items.specs.declared.refusal.Refusal.TheVariants.{Bad, NoMemory}
use Rattle.component_items.specs.declared.refusal.Why.TheVariants.{TooLarge}
use Rattle.component_meaning.specs.Names.{value_in, negated_in, greatest_negated}

-- the value of a number that comes behind a `-`, where it is one and is not too great
abbrev pub negated_next : List ℕ → Lexed → Option Code
negated_next text (Ok x) = if is_number (kind_of text (Ok x)).kind && nat_le (value_in text x) greatest_negated then Some (negated_in text x) else None
negated_next text (Err bad) = None

-- at this place, where the table is full; or memory could not be had
abbrev pub RefusesText : Bool → Place → Refusal → Type 0
RefusesText full place NoMemory = Unit {0}
RefusesText full place (Bad why at) = (full ≡ true) × (Bad why at ≡ Bad (TooLarge Texts) place)
