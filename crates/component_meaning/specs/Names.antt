-- Tokens and names: the bytes of a token, what a name stands for, and the name of a tag or attribute.
use Rattle.std.specs.Prelude.{ℕ, ◌+◌, ◌==◌, nat_lt, ◌&&◌, ◌||◌, not, if◌then◌else◌, Bool, true, false, codes, unwrap_or, is_none, is_some, List, [], ◌++◌, length, find, slice_range, Option, Some, None, Ok, pos, ◌-ℤ◌}
use Rattle.std.specs.List.{list_any, position}
use Rattle.std.specs.Option.{option_map, option_and_then}
use Rattle.std.specs.Str.{bytes_eq}
use Rattle.values.specs.declared.code.Code.{Code}
use Rattle.values.specs.declared.code.Code.TheVariants.{Number}
use Rattle.values.specs.declared.limits.TheConstants.{GREATEST_NUMBER, GREATEST_NEGATED, MOST_TEXTS}
use Rattle.values.specs.Texts.{index_of, with_text}
use Rattle.text_lexer.specs.declared.token.Token.{Token}
use Rattle.text_lexer.specs.Token.{decimal_value, content_of}
use Rattle.text_lexer.specs.Tokens.{Lexed}
use Rattle.text_grammar.specs.declared.kind.Class.TheVariants as class
use Rattle.text_grammar.specs.declared.component.Terminal.{Terminal}
use Rattle.text_grammar.specs.declared.component.Terminal.TheVariants as terminal
use Rattle.text_grammar.specs.Class.{is_in, is_number}
use Rattle.text_grammar.specs.Kind.{kind_of}
use Rattle.component_items.specs.declared.component.Attr.{Attr}
use Rattle.component_items.specs.declared.component.Attr.TheVariants as attr
use Rattle.component_items.specs.declared.refusal.Place.{Place}
use Rattle.component_meaning.specs.State.{State, What, signal_name, memo_name, load_name, resource_name, store_name, Declared, Rows, rows_in, open_tag, open_attrs, Spelling}

-- ---- tokens, of the text with these bytes

abbrev pub bytes_of : List ℕ → Token → List ℕ
bytes_of text x = slice_range text x.start x.end

abbrev pub place_of : Token → Place
place_of x = record { line = x.line; column = x.column }

-- the value of a number, what a text says, and the value of a number behind a `-`
abbrev pub value_in : List ℕ → Token → ℕ
value_in text x = decimal_value (bytes_of text x)

abbrev pub content_in : List ℕ → Token → List ℕ
content_in text x = content_of (bytes_of text x)

abbrev pub number_in : List ℕ → Token → Code
number_in text x = Number (pos (value_in text x))

abbrev pub negated_in : List ℕ → Token → Code
negated_in text x = Number (pos 0 -ℤ pos (value_in text x))

-- the greatest number, and the greatest behind a `-`
abbrev pub greatest : ℕ
greatest = GREATEST_NUMBER

abbrev pub greatest_negated : ℕ
greatest_negated = GREATEST_NEGATED

-- ---- names of declarations

-- what a name stands for here, if it is seen
abbrev pub declared_as : List ℕ → State → Option Declared
declared_as name a = option_and_then (λ n. find (λ d. d.name == n) a.seen) (index_of name a.texts)

abbrev pub is_seen : List ℕ → State → Bool
is_seen name a = is_some (declared_as name a)

-- it has a value: a signal, memo or load
abbrev pub has_value : What → Bool
has_value signal_name = true
has_value memo_name = true
has_value load_name = true
has_value _ = false

abbrev pub is_resource : What → Bool
is_resource resource_name = true
is_resource _ = false

abbrev pub is_store : What → Bool
is_store (store_name fields) = true
is_store _ = false

-- the name is seen, but what it stands for is nothing of this kind
abbrev pub is_other : (What → Bool) → Option Declared → Bool
is_other wanted None = false
is_other wanted (Some d) = not (wanted d.what)

-- the id of a declaration, and the store that it declares
abbrev pub id_of : Option Declared → ℕ
id_of None = 0
id_of (Some d) = d.id

abbrev pub fields_of : What → List ℕ
fields_of (store_name fields) = fields
fields_of _ = []

abbrev pub rows_from : Option Declared → Rows
rows_from None = record { store = 0; fields = [] }
rows_from (Some d) = record { store = d.id; fields = fields_of d.what }

-- ---- the parts of a store's row: `key`, and its fields

abbrev pub is_key : List ℕ → Bool
is_key name = bytes_eq name (codes "key")

-- the place of a field among the names of the fields
abbrev pub field_at : List ℕ → List ℕ → List (List ℕ) → Option ℕ
field_at name fields texts = option_and_then (λ n. position (λ f. f == n) fields) (index_of name texts)

-- the id of a part of a row
abbrev pub part_of : List ℕ → List (List ℕ) → Rows → Option ℕ
part_of name texts rows = if is_key name then Some (rows.store + 1) else option_map (λ i. rows.store + 2 + i) (field_at name rows.fields texts)

abbrev pub part_in : List ℕ → State → Option ℕ
part_in name a = option_and_then (part_of name a.texts) (rows_in a.opened)

-- ---- the name of a tag or attribute

-- the token goes on with the name: a `-` that touches it
abbrev pub goes_on : List ℕ → Lexed → Bool
goes_on text next = is_in class.Dash (kind_of text next)

-- and this can come behind such a `-`
abbrev pub is_part : List ℕ → Lexed → Bool
is_part text next = is_in class.Part (kind_of text next)

-- the first token of such a name, and a further one
abbrev pub begins_name : Terminal → Bool
begins_name terminal.OpenTag = true
begins_name terminal.VoidTag = true
begins_name terminal.AttributeName = true
begins_name terminal.CloseTag = true
begins_name _ = false

abbrev pub continues_name : Terminal → Bool
continues_name terminal.OpenTagPart = true
continues_name terminal.AttributePart = true
continues_name terminal.CloseTagPart = true
continues_name _ = false

-- the name is whole with this token
abbrev pub ends_name : List ℕ → Terminal → Lexed → Bool
ends_name text t next = (begins_name t || continues_name t) && not (goes_on text next)

-- it is the tag of an element that opens, the name of an attribute, the tag of an element that closes
abbrev pub is_open_name : Terminal → Bool
is_open_name terminal.OpenTag = true
is_open_name terminal.VoidTag = true
is_open_name terminal.OpenTagPart = true
is_open_name _ = false

abbrev pub is_attribute_name : Terminal → Bool
is_attribute_name terminal.AttributeName = true
is_attribute_name terminal.AttributePart = true
is_attribute_name _ = false

abbrev pub is_close_name : Terminal → Bool
is_close_name terminal.CloseTag = true
is_close_name terminal.CloseTagPart = true
is_close_name _ = false

-- the place of a number that is too great
abbrev pub wide_in : List ℕ → Lexed → Token → Option Place
wide_in text lexed x = if is_number (kind_of text lexed).kind && nat_lt greatest (value_in text x) then Some (place_of x) else None

abbrev pub first_of : Option Place → Option Place → Option Place
first_of None other = other
first_of (Some p) other = Some p

-- the name with this token at its end
abbrev pub spelled : List ℕ → Terminal → State → Token → Spelling
spelled text t a x =
    if begins_name t then record { bytes = bytes_of text x; place = place_of x; wide = None }
    else record { bytes = a.spelling.bytes ++ bytes_of text x; place = a.spelling.place; wide = first_of a.spelling.wide (wide_in text (Ok x) x) }

-- the innermost open element has this tag, and an attribute of this name
abbrev pub is_text : List ℕ → List (List ℕ) → Option ℕ → Bool
is_text bytes texts None = false
is_text bytes texts (Some n) = is_at (index_of bytes texts)
  where
    is_at : Option ℕ → Bool
    is_at None = false
    is_at (Some text) = text == n

abbrev pub is_open_tag : List ℕ → State → Bool
is_open_tag bytes a = is_text bytes a.texts (open_tag a.opened)

abbrev pub name_of : Attr → ℕ
name_of (attr.Bare name) = name
name_of (attr.Fixed name text) = name
name_of (attr.Shown name id expr) = name

abbrev pub has_attribute : List ℕ → State → Bool
has_attribute bytes a = list_any (λ b. is_text bytes a.texts (Some (name_of b))) (open_attrs a.opened)

-- the elements that may not stand in a page
abbrev pub is_raw_tag : List ℕ → Bool
is_raw_tag bytes = bytes_eq bytes (codes "script") || bytes_eq bytes (codes "style")

-- ---- the table of texts

-- it has no room for this one
abbrev pub is_full : List ℕ → List (List ℕ) → Bool
is_full text texts = is_none (index_of text texts) && length texts == MOST_TEXTS

-- the table with the text in it, and the number of the text there
abbrev pub number_with : List ℕ → List (List ℕ) → ℕ
number_with text texts = unwrap_or (index_of text (with_text text texts)) 0
