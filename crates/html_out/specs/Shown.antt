-- How a value and a text are written in a page.
use Rattle.std.specs.Prelude.{ℕ, ◌==◌, Bool, true, false, if◌then◌else◌, codes, slice_get, unwrap_or, List, [], ◌∷◌}
use Rattle.std.specs.List.{flat_map}
use Rattle.std.specs.Fmt.{signed_decimal}
use Rattle.values.specs.declared.code.Code.{Code}
use Rattle.values.specs.declared.code.Code.TheVariants.{Empty, Number, Word}

-- one byte of a text: `&`, `<` and `>` are escaped
abbrev pub escaped_byte : ℕ → List ℕ
escaped_byte b = if b == 38 then codes "&amp;" else (if b == 60 then codes "&lt;" else (if b == 62 then codes "&gt;" else b ∷ []))

-- one byte of an attribute's value: the quotation mark is escaped too
abbrev pub escaped_value_byte : ℕ → List ℕ
escaped_value_byte b = if b == 34 then codes "&quot;" else escaped_byte b

abbrev pub escaped : Bool → List ℕ → List ℕ
escaped true text = flat_map escaped_value_byte text
escaped false text = flat_map escaped_byte text

-- the text of a number of the table; what is not in the table is the empty text
abbrev pub text_at : List (List ℕ) → ℕ → List ℕ
text_at texts index = unwrap_or (slice_get texts index) []

-- a value, shown in an attribute's value or, at `false`, as a text
abbrev pub shown : List (List ℕ) → Bool → Code → List ℕ
shown texts value Empty = []
shown texts value (Number n) = signed_decimal n
shown texts value (Word index) = escaped value (text_at texts index)
