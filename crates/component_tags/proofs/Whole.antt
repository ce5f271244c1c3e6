-- What becomes of the name of a tag or attribute once it is whole.
use Rattle.std.proofs.Common.{◌≡◌, ℕ, Bool, true, false, List, [], ◌∷◌, ◌++◌, Option, Some, None, Result, Ok, Err, OnOk, IfErr, refl, ap, ◌∙◌}
use Rattle.std.specs.List.{list_any}
use Rattle.values.specs.Texts.{index_of}
use Rattle.text_lexer.specs.declared.token.Token.{Token}
use Rattle.text_lexer.specs.Tokens.{Lexed}
use Rattle.text_grammar.specs.declared.component.Terminal.{Terminal}
use Rattle.text_grammar.specs.declared.component.Terminal.TheVariants as terminal
use Rattle.component_items.specs.declared.component.Attr.{Attr}
use Rattle.component_items.specs.declared.refusal.Place.{Place}
use Rattle.component_items.specs.declared.refusal.Refusal.{Refusal}
use Rattle.component_items.specs.declared.refusal.Refusal.TheVariants.{Bad, NoMemory}
use Rattle.token_reader.specs.Rules.{Accepts}
use Rattle.component_meaning.specs.State.{State}
use Rattle.component_meaning.specs.Names.{bytes_of, goes_on, begins_name, continues_name, name_of, is_text, is_raw_tag, is_full, is_open_tag, has_attribute, first_of, wide_in}
use Rattle.component_meaning.specs.Meaning.{accept_token}
use Rattle.component_tags.specs.Spelled.{beginning, extending, settled}

-- a text that the table does not hold is the name of no attribute
pub no_attribute : (bytes : List ℕ) (texts : List (List ℕ)) (attrs : List Attr) → index_of bytes texts ≡ None → list_any (λ b. is_text bytes texts (Some (name_of b))) attrs ≡ false
no_attribute bytes texts [] none = refl
no_attribute bytes texts (b ∷ attrs) none = rw none (no_attribute bytes texts attrs none)

-- the state, or the refusal that there is
abbrev pub outcome : Option Refusal → State → Result State Refusal
outcome None a = Ok a
outcome (Some why) a = Err why

-- what is refused where this is, and else taken
pub accepts_outcome : (refusal : Option Refusal) (token : Result State Refusal) (new : State) (result : Result (Unit {0}) Refusal) → token ≡ outcome refusal new → OnOk result (refusal ≡ None) → IfErr result (λ e. refusal ≡ Some e) → Accepts token result new
accepts_outcome refusal token new (Ok u) e none some = e ∙ ap (λ r. outcome r new) none
accepts_outcome refusal token new (Err (Bad why place)) e none some = e ∙ ap (λ r. outcome r new) some
accepts_outcome refusal token new (Err NoMemory) e none some = tt

module _ (text : List ℕ) (a : State) (x : Token) (next : Lexed) where
  open_tag : accept_token text terminal.OpenTag a (Ok x) next ≡ outcome (settled text terminal.OpenTag next (beginning text x a)) (beginning text x a)
  open_tag = by_end (goes_on text next) refl
    where
      by_room : (v : Bool) → is_full (bytes_of text x) a.texts ≡ v → is_raw_tag (bytes_of text x) ≡ false → goes_on text next ≡ false → accept_token text terminal.OpenTag a (Ok x) next ≡ outcome (settled text terminal.OpenTag next (beginning text x a)) (beginning text x a)
      by_room true full e ends = rw (ends, e, full, ends) refl
      by_room false room e ends = rw (ends, e, room) refl

      by_test : (v : Bool) → is_raw_tag (bytes_of text x) ≡ v → goes_on text next ≡ false → accept_token text terminal.OpenTag a (Ok x) next ≡ outcome (settled text terminal.OpenTag next (beginning text x a)) (beginning text x a)
      by_test true e ends = rw (ends, e, ends) refl
      by_test false e ends = by_room (is_full (bytes_of text x) a.texts) refl e ends

      by_end : (v : Bool) → goes_on text next ≡ v → accept_token text terminal.OpenTag a (Ok x) next ≡ outcome (settled text terminal.OpenTag next (beginning text x a)) (beginning text x a)
      by_end true on = rw on refl
      by_end false ends = by_test (is_raw_tag (bytes_of text x)) refl ends

  void_tag : accept_token text terminal.VoidTag a (Ok x) next ≡ outcome (settled text terminal.VoidTag next (beginning text x a)) (beginning text x a)
  void_tag = by_end (goes_on text next) refl
    where
      by_room : (v : Bool) → is_full (bytes_of text x) a.texts ≡ v → is_raw_tag (bytes_of text x) ≡ false → goes_on text next ≡ false → accept_token text terminal.VoidTag a (Ok x) next ≡ outcome (settled text terminal.VoidTag next (beginning text x a)) (beginning text x a)
      by_room true full e ends = rw (ends, e, full, ends) refl
      by_room false room e ends = rw (ends, e, room) refl

      by_test : (v : Bool) → is_raw_tag (bytes_of text x) ≡ v → goes_on text next ≡ false → accept_token text terminal.VoidTag a (Ok x) next ≡ outcome (settled text terminal.VoidTag next (beginning text x a)) (beginning text x a)
      by_test true e ends = rw (ends, e, ends) refl
      by_test false e ends = by_room (is_full (bytes_of text x) a.texts) refl e ends

      by_end : (v : Bool) → goes_on text next ≡ v → accept_token text terminal.VoidTag a (Ok x) next ≡ outcome (settled text terminal.VoidTag next (beginning text x a)) (beginning text x a)
      by_end true on = rw on refl
      by_end false ends = by_test (is_raw_tag (bytes_of text x)) refl ends

  attribute_name : accept_token text terminal.AttributeName a (Ok x) next ≡ outcome (settled text terminal.AttributeName next (beginning text x a)) (beginning text x a)
  attribute_name = by_end (goes_on text next) refl
    where
      by_room : (v : Bool) → is_full (bytes_of text x) a.texts ≡ v → has_attribute (bytes_of text x) a ≡ false → goes_on text next ≡ false → accept_token text terminal.AttributeName a (Ok x) next ≡ outcome (settled text terminal.AttributeName next (beginning text x a)) (beginning text x a)
      by_room true full e ends = rw (ends, e, full, ends) refl
      by_room false room e ends = rw (ends, e, room) refl

      by_test : (v : Bool) → has_attribute (bytes_of text x) a ≡ v → goes_on text next ≡ false → accept_token text terminal.AttributeName a (Ok x) next ≡ outcome (settled text terminal.AttributeName next (beginning text x a)) (beginning text x a)
      by_test true e ends = rw (ends, e, ends) refl
      by_test false e ends = by_room (is_full (bytes_of text x) a.texts) refl e ends

      by_end : (v : Bool) → goes_on text next ≡ v → accept_token text terminal.AttributeName a (Ok x) next ≡ outcome (settled text terminal.AttributeName next (beginning text x a)) (beginning text x a)
      by_end true on = rw on refl
      by_end false ends = by_test (has_attribute (bytes_of text x) a) refl ends

  close_tag : accept_token text terminal.CloseTag a (Ok x) next ≡ outcome (settled text terminal.CloseTag next (beginning text x a)) (beginning text x a)
  close_tag = by_end (goes_on text next) refl
    where
      by_test : (v : Bool) → is_open_tag (bytes_of text x) a ≡ v → goes_on text next ≡ false → accept_token text terminal.CloseTag a (Ok x) next ≡ outcome (settled text terminal.CloseTag next (beginning text x a)) (beginning text x a)
      by_test false e ends = rw (ends, e, ends) refl
      by_test true e ends = rw (ends, e) refl

      by_end : (v : Bool) → goes_on text next ≡ v → accept_token text terminal.CloseTag a (Ok x) next ≡ outcome (settled text terminal.CloseTag next (beginning text x a)) (beginning text x a)
      by_end true on = rw on refl
      by_end false ends = by_test (is_open_tag (bytes_of text x) a) refl ends

  open_tag_part : accept_token text terminal.OpenTagPart a (Ok x) next ≡ outcome (settled text terminal.OpenTagPart next (extending text x a)) (extending text x a)
  open_tag_part = by_end (goes_on text next) refl
    where
      by_wide : (w : Option Place) → first_of a.spelling.wide (wide_in text (Ok x) x) ≡ w → is_full (a.spelling.bytes ++ bytes_of text x) a.texts ≡ false → is_raw_tag (a.spelling.bytes ++ bytes_of text x) ≡ false → goes_on text next ≡ false → accept_token text terminal.OpenTagPart a (Ok x) next ≡ outcome (settled text terminal.OpenTagPart next (extending text x a)) (extending text x a)
      by_wide None w room e ends = rw (ends, e, room, w, w) refl
      by_wide (Some place) w room e ends = rw (ends, e, room, w, w) refl

      by_room : (v : Bool) → is_full (a.spelling.bytes ++ bytes_of text x) a.texts ≡ v → is_raw_tag (a.spelling.bytes ++ bytes_of text x) ≡ false → goes_on text next ≡ false → accept_token text terminal.OpenTagPart a (Ok x) next ≡ outcome (settled text terminal.OpenTagPart next (extending text x a)) (extending text x a)
      by_room true full e ends = rw (ends, e, full, ends) refl
      by_room false room e ends = by_wide _ refl room e ends

      by_test : (v : Bool) → is_raw_tag (a.spelling.bytes ++ bytes_of text x) ≡ v → goes_on text next ≡ false → accept_token text terminal.OpenTagPart a (Ok x) next ≡ outcome (settled text terminal.OpenTagPart next (extending text x a)) (extending text x a)
      by_test true e ends = rw (ends, e, ends) refl
      by_test false e ends = by_room (is_full (a.spelling.bytes ++ bytes_of text x) a.texts) refl e ends

      by_end : (v : Bool) → goes_on text next ≡ v → accept_token text terminal.OpenTagPart a (Ok x) next ≡ outcome (settled text terminal.OpenTagPart next (extending text x a)) (extending text x a)
      by_end true on = rw on refl
      by_end false ends = by_test (is_raw_tag (a.spelling.bytes ++ bytes_of text x)) refl ends

  attribute_part : accept_token text terminal.AttributePart a (Ok x) next ≡ outcome (settled text terminal.AttributePart next (extending text x a)) (extending text x a)
  attribute_part = by_end (goes_on text next) refl
    where
      by_wide : (w : Option Place) → first_of a.spelling.wide (wide_in text (Ok x) x) ≡ w → is_full (a.spelling.bytes ++ bytes_of text x) a.texts ≡ false → has_attribute (a.spelling.bytes ++ bytes_of text x) a ≡ false → goes_on text next ≡ false → accept_token text terminal.AttributePart a (Ok x) next ≡ outcome (settled text terminal.AttributePart next (extending text x a)) (extending text x a)
      by_wide None w room e ends = rw (ends, e, room, w, w) refl
      by_wide (Some place) w room e ends = rw (ends, e, room, w, w) refl

      by_room : (v : Bool) → is_full (a.spelling.bytes ++ bytes_of text x) a.texts ≡ v → has_attribute (a.spelling.bytes ++ bytes_of text x) a ≡ false → goes_on text next ≡ false → accept_token text terminal.AttributePart a (Ok x) next ≡ outcome (settled text terminal.AttributePart next (extending text x a)) (extending text x a)
      by_room true full e ends = rw (ends, e, full, ends) refl
      by_room false room e ends = by_wide _ refl room e ends

      by_test : (v : Bool) → has_attribute (a.spelling.bytes ++ bytes_of text x) a ≡ v → goes_on text next ≡ false → accept_token text terminal.AttributePart a (Ok x) next ≡ outcome (settled text terminal.AttributePart next (extending text x a)) (extending text x a)
      by_test true e ends = rw (ends, e, ends) refl
      by_test false e ends = by_room (is_full (a.spelling.bytes ++ bytes_of text x) a.texts) refl e ends

      by_end : (v : Bool) → goes_on text next ≡ v → accept_token text terminal.AttributePart a (Ok x) next ≡ outcome (settled text terminal.AttributePart next (extending text x a)) (extending text x a)
      by_end true on = rw on refl
      by_end false ends = by_test (has_attribute (a.spelling.bytes ++ bytes_of text x) a) refl ends

  close_tag_part : accept_token text terminal.CloseTagPart a (Ok x) next ≡ outcome (settled text terminal.CloseTagPart next (extending text x a)) (extending text x a)
  close_tag_part = by_end (goes_on text next) refl
    where
      by_wide : (w : Option Place) → first_of a.spelling.wide (wide_in text (Ok x) x) ≡ w → is_open_tag (a.spelling.bytes ++ bytes_of text x) a ≡ true → goes_on text next ≡ false → accept_token text terminal.CloseTagPart a (Ok x) next ≡ outcome (settled text terminal.CloseTagPart next (extending text x a)) (extending text x a)
      by_wide None w e ends = rw (ends, e, w, w) refl
      by_wide (Some place) w e ends = rw (ends, e, w, w) refl

      by_test : (v : Bool) → is_open_tag (a.spelling.bytes ++ bytes_of text x) a ≡ v → goes_on text next ≡ false → accept_token text terminal.CloseTagPart a (Ok x) next ≡ outcome (settled text terminal.CloseTagPart next (extending text x a)) (extending text x a)
      by_test false e ends = rw (ends, e, ends) refl
      by_test true e ends = by_wide _ refl e ends

      by_end : (v : Bool) → goes_on text next ≡ v → accept_token text terminal.CloseTagPart a (Ok x) next ≡ outcome (settled text terminal.CloseTagPart next (extending text x a)) (extending text x a)
      by_end true on = rw on refl
      by_end false ends = by_test (is_open_tag (a.spelling.bytes ++ bytes_of text x) a) refl ends

  -- a name that begins with the token, and one that goes on with it
  pub begun : (t : Terminal) → begins_name t ≡ true → accept_token text t a (Ok x) next ≡ outcome (settled text t next (beginning text x a)) (beginning text x a)
  begun terminal.OpenTag h = open_tag
  begun terminal.VoidTag h = void_tag
  begun terminal.AttributeName h = attribute_name
  begun terminal.CloseTag h = close_tag
  begun _ h = cc

  pub continued : (t : Terminal) → continues_name t ≡ true → accept_token text t a (Ok x) next ≡ outcome (settled text t next (extending text x a)) (extending text x a)
  continued terminal.OpenTagPart h = open_tag_part
  continued terminal.AttributePart h = attribute_part
  continued terminal.CloseTagPart h = close_tag_part
  continued _ h = cc
