-- What an operand of an expression is, by its first token.
use Rattle.std.specs.Prelude.{[], ◌∷◌}
use Rattle.grammar.specs.declared.symbol.Symbol.TheVariants as s
use Rattle.text_lexer.specs.declared.token.Mark.TheVariants as mark
use Rattle.text_lexer.specs.declared.token.Reserved.TheVariants as word
use Rattle.text_grammar.specs.declared.kind.Kind.{Kind}
use Rattle.text_grammar.specs.declared.kind.Kind.TheVariants as kind
use Rattle.text_grammar.specs.declared.component.Terminal.TheVariants as terminal
use Rattle.text_grammar.specs.declared.component.Action.TheVariants as action
use Rattle.text_grammar.specs.declared.component.Rule.TheVariants as rule
use Rattle.text_grammar.specs.Component.{Symbols}

-- a token that begins no operand is taken for the `-` of a negative number, as `choice` takes it
abbrev pub operand : Kind → Symbols
operand kind.Name = s.Terminal terminal.UsedName ∷ []
operand kind.VoidName = s.Terminal terminal.UsedName ∷ []
operand (kind.Reserved word.Row) = s.Terminal terminal.Row ∷ s.Terminal terminal.Dot ∷ s.Terminal terminal.RowField ∷ []
operand (kind.Mark mark.OpenParen) = s.Terminal terminal.OpenParen ∷ s.Rule rule.Expression ∷ s.Terminal terminal.CloseParen ∷ []
operand (kind.Reserved word.Empty) = s.Terminal terminal.EmptyLiteral ∷ s.Action action.MakeLiteral ∷ []
operand kind.Text = s.Terminal terminal.TextLiteral ∷ s.Action action.MakeLiteral ∷ []
operand kind.One = s.Terminal terminal.NumberLiteral ∷ s.Action action.MakeLiteral ∷ []
operand kind.Number = s.Terminal terminal.NumberLiteral ∷ s.Action action.MakeLiteral ∷ []
operand _ = s.Terminal terminal.LiteralMinus ∷ s.Terminal terminal.NegatedLiteral ∷ s.Action action.MakeLiteral ∷ []

-- what may go on behind an operand, from the operators that bind most
abbrev pub operators : Symbols
operators = s.Rule rule.TermMore ∷ s.Rule rule.SumMore ∷ s.Rule rule.TestMore ∷ []
