-- The checks of a token at its place, and their order.
use Rattle.std.specs.Prelude.{ℕ, nat_lt, nat_le, ◌&&◌, ◌||◌, not, Bool, true, false, is_none, is_some, List, [], ◌∷◌, length, find, Option, Some, None, Ok, Err}
use Rattle.std.specs.List.{list_any}
use Rattle.values.specs.declared.code.Code.{Code}
use Rattle.values.specs.declared.code.Code.TheVariants.{Empty, Word}
use Rattle.values.specs.Evaluation.{is_same}
use Rattle.values.specs.declared.limits.TheConstants.{MOST_OPEN, MOST_EXPRESSION_TOKENS, MOST_ROWS, MOST_OWNERS}
use Rattle.values.specs.Texts.{index_of}
use Rattle.text_lexer.specs.declared.token.Token.{Token}
use Rattle.text_lexer.specs.Tokens.{Lexed}
use Rattle.text_grammar.specs.declared.component.Terminal.{Terminal}
use Rattle.text_grammar.specs.declared.component.Terminal.TheVariants as terminal
use Rattle.text_grammar.specs.Class.{is_number}
use Rattle.text_grammar.specs.Kind.{kind_of}
use Rattle.component_items.specs.declared.refusal.Why.{Why}
use Rattle.component_items.specs.declared.refusal.Why.TheVariants as why
use Rattle.component_items.specs.declared.refusal.Count.TheVariants as count
use Rattle.component_items.specs.declared.refusal.Place.{Place}
use Rattle.component_items.specs.Kept.{may_declare, may_have_resource, may_have_cleanup, may_have_memo, may_have_area, may_have_each}
use Rattle.component_meaning.specs.State.{State, standing_in, rows_in}
use Rattle.component_meaning.specs.Names.{bytes_of, place_of, value_in, content_in, number_in, negated_in, greatest, greatest_negated, declared_as, is_seen, has_value, is_resource, is_store, is_other, is_key, field_at, part_in, is_part, ends_name, is_open_name, is_attribute_name, is_close_name, spelled, is_open_tag, has_attribute, is_raw_tag, is_full}

pub data Check : Type 0 where
  unclosed : Check
  too_deep : Check
  number_range : Check
  unknown_name : Check
  wrong_place : Check
  name_taken : Check
  too_many_rows : Check
  too_many_owners : Check
  too_many_texts : Check
  -- a number within the name of a tag or attribute: it stands behind the name's first token
  part_range : Check

-- Where a token fails several, the first of these is the reason.
abbrev pub order : List Check
order = unclosed ∷ too_deep ∷ number_range ∷ unknown_name ∷ wrong_place ∷ name_taken ∷ too_many_rows ∷ too_many_owners ∷ too_many_texts ∷ part_range ∷ []

abbrev pub why_of : Check → Why
why_of unclosed = why.UnclosedTag
why_of too_deep = why.TooDeep
why_of number_range = why.NumberRange
why_of unknown_name = why.UnknownName
why_of wrong_place = why.WrongPlace
why_of name_taken = why.NameTaken
why_of too_many_rows = why.TooLarge count.StoreRows
why_of too_many_owners = why.TooLarge count.Owners
why_of too_many_texts = why.TooLarge count.Texts
why_of part_range = why.NumberRange

-- ---- UnclosedTag

-- a closing tag that is not the open element's, and what closes a block or the text within an element
abbrev pub fails_unclosed : List ℕ → Terminal → State → Token → Lexed → Bool
fails_unclosed text terminal.Closer a x next = true
fails_unclosed text t a x next = is_close_name t && ends_name text t next && not (is_open_tag (spelled text t a x).bytes a)

-- ---- TooDeep

-- a token of an expression
abbrev pub is_in_expression : Terminal → Bool
is_in_expression terminal.ExpressionIf = true
is_in_expression terminal.Then = true
is_in_expression terminal.Else = true
is_in_expression terminal.EqualTo = true
is_in_expression terminal.LessThan = true
is_in_expression terminal.Plus = true
is_in_expression terminal.Minus = true
is_in_expression terminal.Star = true
is_in_expression terminal.Slash = true
is_in_expression terminal.Percent = true
is_in_expression terminal.UsedName = true
is_in_expression terminal.Row = true
is_in_expression terminal.Dot = true
is_in_expression terminal.RowField = true
is_in_expression terminal.OpenParen = true
is_in_expression terminal.CloseParen = true
is_in_expression terminal.EmptyLiteral = true
is_in_expression terminal.TextLiteral = true
is_in_expression terminal.NumberLiteral = true
is_in_expression terminal.LiteralMinus = true
is_in_expression terminal.NegatedLiteral = true
is_in_expression _ = false

-- what opens a block or an element
abbrev pub opens : Terminal → Bool
opens terminal.Less = true
opens terminal.OpenBlock = true
opens _ = false

-- one open block or element too many, and one token of an expression too many
abbrev pub fails_deep : Terminal → State → Bool
fails_deep t a = (opens t && nat_le MOST_OPEN (length a.opened)) || (is_in_expression t && nat_le MOST_EXPRESSION_TOKENS a.tokens)

-- ---- NumberRange

abbrev pub fails_range : List ℕ → Terminal → Token → Bool
fails_range text terminal.AfterNumber x = nat_lt greatest (value_in text x)
fails_range text terminal.MaxNumber x = nat_lt greatest (value_in text x)
fails_range text terminal.NumberKey x = nat_lt greatest (value_in text x)
fails_range text terminal.NumberLiteral x = nat_lt greatest (value_in text x)
fails_range text terminal.NegatedKey x = nat_lt greatest_negated (value_in text x)
fails_range text terminal.NegatedLiteral x = nat_lt greatest_negated (value_in text x)
fails_range text _ x = false

-- Within the name of a tag or attribute: when the name is whole, or when it is seen that it never will be.
abbrev pub fails_part_range : List ℕ → Terminal → State → Token → Lexed → Bool
fails_part_range text terminal.Dash a x next = is_some a.spelling.wide && not (is_part text next)
fails_part_range text t a x next = ends_name text t next && is_some (spelled text t a x).wide

-- ---- UnknownName and WrongPlace

abbrev pub fails_unknown : List ℕ → Terminal → State → Token → Bool
fails_unknown text terminal.UsedName a x = not (is_seen (bytes_of text x) a)
fails_unknown text terminal.UsedResource a x = not (is_seen (bytes_of text x) a)
fails_unknown text terminal.UsedStore a x = not (is_seen (bytes_of text x) a)
fails_unknown text terminal.RowField a x = is_none (part_in (bytes_of text x) a)
fails_unknown text _ a x = false

abbrev pub fails_place : List ℕ → Terminal → State → Token → Lexed → Bool
fails_place text terminal.Signal a x next = not (may_declare (standing_in a.opened))
fails_place text terminal.Memo a x next = not (may_have_memo (standing_in a.opened))
fails_place text terminal.Effect a x next = not (may_declare (standing_in a.opened))
fails_place text terminal.Resource a x next = not (may_have_resource (standing_in a.opened))
fails_place text terminal.Load a x next = not (may_declare (standing_in a.opened))
fails_place text terminal.Store a x next = not (may_declare (standing_in a.opened))
fails_place text terminal.Cleanup a x next = not (may_have_cleanup (standing_in a.opened))
fails_place text terminal.Area a x next = not (may_have_area (standing_in a.opened))
fails_place text terminal.Each a x next = not (may_have_each (standing_in a.opened))
fails_place text terminal.UsedName a x next = is_other has_value (declared_as (bytes_of text x) a)
fails_place text terminal.UsedResource a x next = is_other is_resource (declared_as (bytes_of text x) a)
fails_place text terminal.UsedStore a x next = is_other is_store (declared_as (bytes_of text x) a)
fails_place text terminal.Row a x next = is_none (rows_in a.opened)
fails_place text t a x next = is_open_name t && ends_name text t next && is_raw_tag (spelled text t a x).bytes

-- ---- NameTaken

abbrev pub has_key : Code → State → Bool
has_key key a = list_any (is_same key) a.keys

abbrev pub has_text_key : Option ℕ → State → Bool
has_text_key None a = false
has_text_key (Some n) a = has_key (Word n) a

-- the number behind a key's `-` makes a key that is taken
abbrev pub has_negated_key : List ℕ → Lexed → State → Bool
has_negated_key text (Ok y) a = is_number (kind_of text (Ok y)).kind && nat_le (value_in text y) greatest_negated && has_key (negated_in text y) a
has_negated_key text (Err bad) a = false

abbrev pub is_taken_field : List ℕ → State → Bool
is_taken_field name a = is_key name || is_some (field_at name a.fields a.texts)

abbrev pub fails_taken : List ℕ → Terminal → State → Token → Lexed → Bool
fails_taken text terminal.NewName a x next = is_seen (bytes_of text x) a
fails_taken text terminal.NewArea a x next = is_seen (bytes_of text x) a
fails_taken text terminal.NewField a x next = is_taken_field (bytes_of text x) a
fails_taken text terminal.EmptyKey a x next = has_key Empty a
fails_taken text terminal.TextKey a x next = has_text_key (index_of (content_in text x) a.texts) a
fails_taken text terminal.NumberKey a x next = has_key (number_in text x) a
fails_taken text terminal.KeyMinus a x next = has_negated_key text next a
fails_taken text t a x next = is_attribute_name t && ends_name text t next && has_attribute (spelled text t a x).bytes a

-- ---- TooLarge

abbrev pub fails_rows : List ℕ → Terminal → Token → Bool
fails_rows text terminal.MaxNumber x = nat_lt MOST_ROWS (value_in text x)
fails_rows text _ x = false

abbrev pub fails_owners : Terminal → State → Bool
fails_owners terminal.NewArea a = nat_le MOST_OWNERS a.next_owner
fails_owners _ a = false

-- the text that the token brings, if it brings one
abbrev pub text_of : List ℕ → Terminal → State → Token → Lexed → Option (List ℕ)
text_of text terminal.NewName a x next = Some (bytes_of text x)
text_of text terminal.NewArea a x next = Some (bytes_of text x)
text_of text terminal.NewField a x next = Some (bytes_of text x)
text_of text terminal.TextItem a x next = Some (content_in text x)
text_of text terminal.CleanupText a x next = Some (content_in text x)
text_of text terminal.TextKey a x next = Some (content_in text x)
text_of text terminal.AttributeText a x next = Some (content_in text x)
text_of text terminal.TextLiteral a x next = Some (content_in text x)
text_of text t a x next = name_text ((is_open_name t || is_attribute_name t) && ends_name text t next)
  where
    name_text : Bool → Option (List ℕ)
    name_text true = Some (spelled text t a x).bytes
    name_text false = None

abbrev pub has_no_room : Option (List ℕ) → State → Bool
has_no_room None a = false
has_no_room (Some bytes) a = is_full bytes a.texts

-- ---- all of them

abbrev pub fails : Check → List ℕ → Terminal → State → Token → Lexed → Bool
fails unclosed text t a x next = fails_unclosed text t a x next
fails too_deep text t a x next = fails_deep t a
fails number_range text t a x next = fails_range text t x
fails unknown_name text t a x next = fails_unknown text t a x
fails wrong_place text t a x next = fails_place text t a x next
fails name_taken text t a x next = fails_taken text t a x next
fails too_many_rows text t a x next = fails_rows text t x
fails too_many_owners text t a x next = fails_owners t a
fails too_many_texts text t a x next = has_no_room (text_of text t a x next) a
fails part_range text t a x next = fails_part_range text t a x next

-- the first check that the token fails
abbrev pub failed : List ℕ → Terminal → State → Token → Lexed → Option Check
failed text t a x next = find (λ check. fails check text t a x next) order

-- ---- places

abbrev pub place_or : Option Place → Place → Place
place_or None other = other
place_or (Some p) other = p

-- The place of a refusal is the token's. What is said of the whole name of a tag or attribute has the place of the
-- name's first token, and what is said of a number in it that of the number.
abbrev pub place_at : Check → List ℕ → Terminal → State → Token → Lexed → Place
place_at part_range text terminal.Dash a x next = place_or a.spelling.wide (place_of x)
place_at part_range text t a x next = place_or (spelled text t a x).wide (place_of x)
place_at check text t a x next = whole_name (ends_name text t next)
  where
    whole_name : Bool → Place
    whole_name true = (spelled text t a x).place
    whole_name false = place_of x
