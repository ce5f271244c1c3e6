-- What a token at its place does to the state.
use Rattle.std.specs.Prelude.{ℕ, ◌+◌, if◌then◌else◌, ◌||◌, codes, unwrap_or, List, [], ◌∷◌, ◌++◌}
use Rattle.values.specs.declared.code.Code.{Code}
use Rattle.values.specs.declared.code.Code.TheVariants.{Empty, Word}
use Rattle.values.specs.declared.expr.Expr.TheVariants as expr
use Rattle.values.specs.Texts.{with_text}
use Rattle.text_lexer.specs.declared.token.Token.{Token}
use Rattle.text_grammar.specs.declared.component.Terminal.{Terminal}
use Rattle.text_grammar.specs.declared.component.Terminal.TheVariants as terminal
use Rattle.component_meaning.specs.State.{State}
use Rattle.component_meaning.specs.Names.{bytes_of, value_in, content_in, number_in, negated_in, declared_as, id_of, part_in, begins_name, continues_name, spelled, number_with}
use Rattle.component_meaning.specs.Checks.{is_in_expression}

-- ---- texts

abbrev pub with_name : List ℕ → State → State
with_name bytes a = record a { texts = with_text bytes a.texts; name = number_with bytes a.texts }

abbrev pub with_written : List ℕ → State → State
with_written bytes a = record a { texts = with_text bytes a.texts; written = number_with bytes a.texts }

abbrev pub with_field : List ℕ → State → State
with_field bytes a = record a { texts = with_text bytes a.texts; fields = a.fields ++ number_with bytes a.texts ∷ [] }

abbrev pub with_key : Code → State → State
with_key key a = record a { keys = a.keys ++ key ∷ [] }

abbrev pub with_text_key : List ℕ → State → State
with_text_key bytes a = with_key (Word (number_with bytes a.texts)) (record a { texts = with_text bytes a.texts })

abbrev pub with_text_literal : List ℕ → State → State
with_text_literal bytes a = record a { texts = with_text bytes a.texts; literal = Word (number_with bytes a.texts) }

-- ---- expressions

abbrev pub reading : ℕ → State → State
reading id a = record a { operands = expr.Read id ∷ a.operands }

abbrev pub in_expression : List ℕ → Terminal → State → Token → State
in_expression text terminal.UsedName a x = reading (id_of (declared_as (bytes_of text x) a)) a
in_expression text terminal.RowField a x = reading (unwrap_or (part_in (bytes_of text x) a) 0) a
in_expression text terminal.EmptyLiteral a x = record a { literal = Empty }
in_expression text terminal.TextLiteral a x = with_text_literal (content_in text x) a
in_expression text terminal.NumberLiteral a x = record a { literal = number_in text x }
in_expression text terminal.NegatedLiteral a x = record a { literal = negated_in text x }
in_expression text _ a x = a

-- one more token of the expression
abbrev pub counted : State → State
counted a = record a { tokens = a.tokens + 1 }

-- ---- the name of a tag or attribute

abbrev pub with_dash : State → State
with_dash a = record a { spelling = record a.spelling { bytes = a.spelling.bytes ++ codes "-" } }

-- ---- all of them

abbrev pub effect_outside : List ℕ → Terminal → State → Token → State
effect_outside text terminal.NewName a x = with_name (bytes_of text x) a
effect_outside text terminal.NewArea a x = with_name (bytes_of text x) a
effect_outside text terminal.NewField a x = with_field (bytes_of text x) a
effect_outside text terminal.UsedResource a x = record a { used = declared_as (bytes_of text x) a }
effect_outside text terminal.UsedStore a x = record a { used = declared_as (bytes_of text x) a }
effect_outside text terminal.AfterNumber a x = record a { number = value_in text x }
effect_outside text terminal.MaxNumber a x = record a { number = value_in text x }
effect_outside text terminal.TextItem a x = with_written (content_in text x) a
effect_outside text terminal.CleanupText a x = with_written (content_in text x) a
effect_outside text terminal.AttributeText a x = with_written (content_in text x) a
effect_outside text terminal.EmptyKey a x = with_key Empty a
effect_outside text terminal.TextKey a x = with_text_key (content_in text x) a
effect_outside text terminal.NumberKey a x = with_key (number_in text x) a
effect_outside text terminal.NegatedKey a x = with_key (negated_in text x) a
effect_outside text terminal.Dash a x = with_dash a
effect_outside text t a x = if begins_name t || continues_name t then record a { spelling = spelled text t a x } else a

abbrev pub effect : List ℕ → Terminal → State → Token → State
effect text t a x = if is_in_expression t then in_expression text t (counted a) x else effect_outside text t a x
