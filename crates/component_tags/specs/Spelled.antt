-- The name of a tag or attribute, once it is whole: the first reason for which it is refused, or none.
use Rattle.std.specs.Prelude.{ℕ, nat_lt, ◌&&◌, ◌++◌, if◌then◌else◌, Bool, List, Option, Some, None, Ok}
use Rattle.text_lexer.specs.declared.token.Token.{Token}
use Rattle.text_grammar.specs.Class.{is_number}
use Rattle.text_grammar.specs.Kind.{kind_of}
use Rattle.component_items.specs.declared.refusal.Count.TheVariants.{Texts}
use Rattle.component_items.specs.declared.refusal.Place.{Place}
use Rattle.component_items.specs.declared.refusal.Refusal.{Refusal}
use Rattle.component_items.specs.declared.refusal.Refusal.TheVariants.{Bad}
use Rattle.component_items.specs.declared.refusal.Why.TheVariants.{TooLarge, NumberRange, WrongPlace, NameTaken, UnclosedTag}
use Rattle.text_grammar.specs.declared.component.Terminal.{Terminal}
use Rattle.text_lexer.specs.Tokens.{Lexed}
use Rattle.component_meaning.specs.State.{State}
use Rattle.component_meaning.specs.Names.{bytes_of, place_of, value_in, greatest, wide_in, first_of, is_raw_tag, is_full, has_attribute, is_open_tag, goes_on, is_attribute_name, is_close_name}

-- the token is a number that is too great
abbrev pub is_wide : List ℕ → Token → Bool
is_wide text x = is_number (kind_of text (Ok x)).kind && nat_lt greatest (value_in text x)

-- the name begins with the token, or goes on with it
abbrev pub beginning : List ℕ → Token → State → State
beginning text x a = record a { spelling = record { bytes = bytes_of text x; place = place_of x; wide = None } }

abbrev pub extending : List ℕ → Token → State → State
extending text x a = record a { spelling = record { bytes = a.spelling.bytes ++ bytes_of text x; place = a.spelling.place; wide = first_of a.spelling.wide (wide_in text (Ok x) x) } }

-- ---- the whole name

abbrev pub range_refusal : Option Place → Option Refusal
range_refusal None = None
range_refusal (Some p) = Some (Bad NumberRange p)

abbrev pub wide_refusal : State → Option Refusal
wide_refusal a = range_refusal a.spelling.wide

abbrev pub room_refusal : State → Option Refusal
room_refusal a = if is_full a.spelling.bytes a.texts then Some (Bad (TooLarge Texts) a.spelling.place) else wide_refusal a

abbrev pub open_refusal : State → Option Refusal
open_refusal a = if is_raw_tag a.spelling.bytes then Some (Bad WrongPlace a.spelling.place) else room_refusal a

abbrev pub attribute_refusal : State → Option Refusal
attribute_refusal a = if has_attribute a.spelling.bytes a then Some (Bad NameTaken a.spelling.place) else room_refusal a

abbrev pub close_refusal : State → Option Refusal
close_refusal a = if is_open_tag a.spelling.bytes a then wide_refusal a else Some (Bad UnclosedTag a.spelling.place)

-- by what the name stands for
abbrev pub name_refusal : Terminal → State → Option Refusal
name_refusal t a = if is_close_name t then close_refusal a else (if is_attribute_name t then attribute_refusal a else open_refusal a)

-- what comes next leaves the name whole or not
abbrev pub settled : List ℕ → Terminal → Lexed → State → Option Refusal
settled text t next a = if goes_on text next then None else name_refusal t a
