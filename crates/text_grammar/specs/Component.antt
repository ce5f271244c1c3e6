-- The grammar of a component text.
use Rattle.std.specs.Prelude.{Bool, List, [], ◌∷◌}
use Rattle.grammar.specs.declared.symbol.Symbol.{Symbol}
use Rattle.grammar.specs.declared.symbol.Symbol.TheVariants as s
use Rattle.grammar.specs.Table.{Table}
use Rattle.text_lexer.specs.declared.token.Mark.TheVariants as mark
use Rattle.text_lexer.specs.declared.token.Reserved.TheVariants as word
use Rattle.values.specs.declared.code.Op.TheVariants as op
use Rattle.text_grammar.specs.declared.kind.Kind.TheVariants as kind
use Rattle.text_grammar.specs.declared.kind.Seen.{Seen}
use Rattle.text_grammar.specs.declared.kind.Class.{Class}
use Rattle.text_grammar.specs.declared.kind.Class.TheVariants as class
use Rattle.text_grammar.specs.declared.component.Terminal.{Terminal}
use Rattle.text_grammar.specs.declared.component.Terminal.TheVariants as terminal
use Rattle.text_grammar.specs.declared.component.Action.{Action}
use Rattle.text_grammar.specs.declared.component.Action.TheVariants as action
use Rattle.text_grammar.specs.declared.component.Rule.{Rule}
use Rattle.text_grammar.specs.declared.component.Rule.TheVariants as rule
use Rattle.text_grammar.specs.Class.{is_in, only_word, only_mark}

abbrev pub Symbols : Type 0
Symbols = List (Symbol Terminal Rule Action)

-- ---- the tokens that may stand for a terminal

abbrev pub class_of : Terminal → Class
class_of terminal.Component = only_word word.Component
class_of terminal.Version = class.Only kind.One
class_of terminal.Signal = only_word word.Signal
class_of terminal.Memo = only_word word.Memo
class_of terminal.Effect = only_word word.Effect
class_of terminal.Resource = only_word word.Resource
class_of terminal.Load = only_word word.Load
class_of terminal.Store = only_word word.Store
class_of terminal.Cleanup = only_word word.Cleanup
class_of terminal.Area = only_word word.Area
class_of terminal.If = only_word word.If
class_of terminal.Each = only_word word.Each
class_of terminal.Less = only_mark mark.Less
class_of terminal.TextItem = class.Only kind.Text
class_of terminal.OpenShown = only_mark mark.OpenBrace
class_of terminal.NewName = class.AnyName
class_of terminal.NewArea = class.AnyName
class_of terminal.UsedResource = class.AnyName
class_of terminal.UsedStore = class.AnyName
class_of terminal.NewField = class.AnyName
class_of terminal.Assign = only_mark mark.Assign
class_of terminal.After = only_word word.After
class_of terminal.AfterNumber = class.AnyNumber
class_of terminal.Max = only_word word.Max
class_of terminal.MaxNumber = class.AnyNumber
class_of terminal.Arrow = only_mark mark.Arrow
class_of terminal.CleanupText = class.Only kind.Text
class_of terminal.OpenLoadKey = only_mark mark.OpenParen
class_of terminal.CloseLoadKey = only_mark mark.CloseParen
class_of terminal.OpenBlock = only_mark mark.OpenBrace
class_of terminal.CloseBlock = only_mark mark.CloseBrace
class_of terminal.OpenBrace = only_mark mark.OpenBrace
class_of terminal.CloseBrace = only_mark mark.CloseBrace
class_of terminal.EmptyKey = only_word word.Empty
class_of terminal.TextKey = class.Only kind.Text
class_of terminal.NumberKey = class.AnyNumber
class_of terminal.KeyMinus = only_mark mark.Minus
class_of terminal.NegatedKey = class.AnyNumber
class_of terminal.OpenTag = class.PlainTag
class_of terminal.VoidTag = class.VoidTag
class_of terminal.Dash = class.Dash
class_of terminal.OpenTagPart = class.Part
class_of terminal.AttributeName = class.AnyTag
class_of terminal.AttributePart = class.Part
class_of terminal.AttributeText = class.Only kind.Text
class_of terminal.VoidSlash = only_mark mark.Slash
class_of terminal.Greater = only_mark mark.Greater
class_of terminal.ClosingTag = only_mark mark.ClosingTag
class_of terminal.CloseTag = class.AnyTag
class_of terminal.CloseTagPart = class.Part
class_of terminal.Closer = class.Closer
class_of terminal.ExpressionIf = only_word word.If
class_of terminal.Then = only_word word.Then
class_of terminal.Else = only_word word.Else
class_of terminal.EqualTo = only_mark mark.EqualTo
class_of terminal.LessThan = only_word word.Lt
class_of terminal.Plus = only_mark mark.Plus
class_of terminal.Minus = only_mark mark.Minus
class_of terminal.Star = only_mark mark.Star
class_of terminal.Slash = only_mark mark.Slash
class_of terminal.Percent = only_mark mark.Percent
class_of terminal.UsedName = class.AnyName
class_of terminal.Row = only_word word.Row
class_of terminal.Dot = only_mark mark.Dot
class_of terminal.RowField = class.AnyName
class_of terminal.OpenParen = only_mark mark.OpenParen
class_of terminal.CloseParen = only_mark mark.CloseParen
class_of terminal.EmptyLiteral = only_word word.Empty
class_of terminal.TextLiteral = class.Only kind.Text
class_of terminal.NumberLiteral = class.AnyNumber
class_of terminal.LiteralMinus = only_mark mark.Minus
class_of terminal.NegatedLiteral = class.AnyNumber
class_of terminal.End = class.Only kind.End

abbrev pub matches : Terminal → Seen → Bool
matches t x = is_in (class_of t) x

-- ---- productions

abbrev pub productions : Rule → List Symbols
productions rule.Component =
    (s.Terminal terminal.Component ∷ s.Terminal terminal.Version ∷ s.Rule rule.Items ∷ []) ∷
    []
productions rule.Items =
    (s.Terminal terminal.Signal ∷ s.Terminal terminal.NewName ∷ s.Terminal terminal.Assign ∷ s.Action action.BeginExpression ∷ s.Rule rule.Literal ∷ s.Action action.MakeSignal ∷ s.Rule rule.Items ∷ []) ∷
    (s.Terminal terminal.Memo ∷ s.Terminal terminal.NewName ∷ s.Terminal terminal.Assign ∷ s.Action action.BeginExpression ∷ s.Rule rule.Expression ∷ s.Action action.MakeMemo ∷ s.Rule rule.Items ∷ []) ∷
    (s.Terminal terminal.Effect ∷ s.Terminal terminal.NewName ∷ s.Terminal terminal.Assign ∷ s.Action action.BeginExpression ∷ s.Rule rule.Expression ∷ s.Action action.MakeEffect ∷ s.Rule rule.Items ∷ []) ∷
    (s.Terminal terminal.Resource ∷ s.Terminal terminal.NewName ∷ s.Terminal terminal.After ∷ s.Terminal terminal.AfterNumber ∷ s.Terminal terminal.OpenBrace ∷ s.Action action.BeginEntries ∷ s.Rule rule.Pairs ∷ s.Terminal terminal.CloseBrace ∷ s.Action action.MakeResource ∷ s.Rule rule.Items ∷ []) ∷
    (s.Terminal terminal.Load ∷ s.Terminal terminal.NewName ∷ s.Terminal terminal.Assign ∷ s.Terminal terminal.UsedResource ∷ s.Terminal terminal.OpenLoadKey ∷ s.Action action.BeginExpression ∷ s.Rule rule.Expression ∷ s.Terminal terminal.CloseLoadKey ∷ s.Action action.MakeLoad ∷ s.Rule rule.Items ∷ []) ∷
    (s.Terminal terminal.Store ∷ s.Terminal terminal.NewName ∷ s.Terminal terminal.Max ∷ s.Terminal terminal.MaxNumber ∷ s.Terminal terminal.OpenBrace ∷ s.Action action.BeginEntries ∷ s.Rule rule.Fields ∷ s.Terminal terminal.CloseBrace ∷ s.Action action.MakeStore ∷ s.Rule rule.Items ∷ []) ∷
    (s.Terminal terminal.Cleanup ∷ s.Terminal terminal.CleanupText ∷ s.Action action.MakeCleanup ∷ s.Rule rule.Items ∷ []) ∷
    (s.Terminal terminal.Area ∷ s.Terminal terminal.NewArea ∷ s.Terminal terminal.OpenBlock ∷ s.Action action.OpenArea ∷ s.Rule rule.Items ∷ s.Terminal terminal.CloseBlock ∷ s.Action action.Close ∷ s.Rule rule.Items ∷ []) ∷
    (s.Terminal terminal.If ∷ s.Action action.BeginExpression ∷ s.Rule rule.Expression ∷ s.Terminal terminal.OpenBlock ∷ s.Action action.OpenIf ∷ s.Rule rule.Items ∷ s.Terminal terminal.CloseBlock ∷ s.Action action.Close ∷ s.Rule rule.Items ∷ []) ∷
    (s.Terminal terminal.Each ∷ s.Terminal terminal.UsedStore ∷ s.Terminal terminal.OpenBlock ∷ s.Action action.OpenEach ∷ s.Rule rule.Items ∷ s.Terminal terminal.CloseBlock ∷ s.Action action.Close ∷ s.Rule rule.Items ∷ []) ∷
    (s.Terminal terminal.Less ∷ s.Rule rule.Element ∷ s.Rule rule.Items ∷ []) ∷
    (s.Terminal terminal.TextItem ∷ s.Action action.MakeText ∷ s.Rule rule.Items ∷ []) ∷
    (s.Terminal terminal.OpenShown ∷ s.Action action.BeginExpression ∷ s.Rule rule.Expression ∷ s.Terminal terminal.CloseBrace ∷ s.Action action.MakeShown ∷ s.Rule rule.Items ∷ []) ∷
    [] ∷
    []
productions rule.Pairs =
    (s.Rule rule.Key ∷ s.Terminal terminal.Arrow ∷ s.Action action.BeginExpression ∷ s.Rule rule.Literal ∷ s.Action action.AddValue ∷ s.Rule rule.Pairs ∷ []) ∷
    [] ∷
    []
productions rule.Key =
    (s.Terminal terminal.EmptyKey ∷ []) ∷
    (s.Terminal terminal.TextKey ∷ []) ∷
    (s.Terminal terminal.NumberKey ∷ []) ∷
    (s.Terminal terminal.KeyMinus ∷ s.Terminal terminal.NegatedKey ∷ []) ∷
    []
productions rule.Fields =
    (s.Terminal terminal.NewField ∷ s.Terminal terminal.Assign ∷ s.Action action.BeginExpression ∷ s.Rule rule.Literal ∷ s.Action action.AddValue ∷ s.Rule rule.Fields ∷ []) ∷
    [] ∷
    []
productions rule.Element =
    (s.Terminal terminal.OpenTag ∷ s.Rule rule.OpenTagMore ∷ s.Action action.OpenElement ∷ s.Rule rule.ElementRest ∷ []) ∷
    (s.Terminal terminal.VoidTag ∷ s.Rule rule.VoidTagMore ∷ []) ∷
    []
productions rule.OpenTagMore =
    (s.Terminal terminal.Dash ∷ s.Terminal terminal.OpenTagPart ∷ s.Rule rule.OpenTagMore ∷ []) ∷
    [] ∷
    []
productions rule.VoidTagMore =
    (s.Terminal terminal.Dash ∷ s.Terminal terminal.OpenTagPart ∷ s.Rule rule.OpenTagMore ∷ s.Action action.OpenElement ∷ s.Rule rule.ElementRest ∷ []) ∷
    (s.Action action.OpenVoid ∷ s.Rule rule.Attributes ∷ s.Rule rule.VoidEnd ∷ s.Action action.Close ∷ []) ∷
    []
productions rule.VoidEnd =
    (s.Terminal terminal.VoidSlash ∷ s.Terminal terminal.Greater ∷ []) ∷
    (s.Terminal terminal.Greater ∷ []) ∷
    []
productions rule.ElementRest =
    (s.Rule rule.Attributes ∷ s.Terminal terminal.Greater ∷ s.Rule rule.Items ∷ s.Rule rule.ElementEnd ∷ []) ∷
    []
productions rule.ElementEnd =
    (s.Terminal terminal.ClosingTag ∷ s.Terminal terminal.CloseTag ∷ s.Rule rule.CloseTagMore ∷ s.Terminal terminal.Greater ∷ s.Action action.Close ∷ []) ∷
    (s.Terminal terminal.Closer ∷ []) ∷
    []
productions rule.CloseTagMore =
    (s.Terminal terminal.Dash ∷ s.Terminal terminal.CloseTagPart ∷ s.Rule rule.CloseTagMore ∷ []) ∷
    [] ∷
    []
productions rule.Attributes =
    (s.Terminal terminal.AttributeName ∷ s.Rule rule.AttributeMore ∷ s.Action action.NameAttribute ∷ s.Rule rule.AttributeValue ∷ s.Rule rule.Attributes ∷ []) ∷
    [] ∷
    []
productions rule.AttributeMore =
    (s.Terminal terminal.Dash ∷ s.Terminal terminal.AttributePart ∷ s.Rule rule.AttributeMore ∷ []) ∷
    [] ∷
    []
productions rule.AttributeValue =
    (s.Terminal terminal.Assign ∷ s.Rule rule.AssignedValue ∷ []) ∷
    (s.Action action.MakeBare ∷ []) ∷
    []
productions rule.AssignedValue =
    (s.Terminal terminal.AttributeText ∷ s.Action action.MakeFixed ∷ []) ∷
    (s.Terminal terminal.OpenShown ∷ s.Action action.BeginExpression ∷ s.Rule rule.Expression ∷ s.Terminal terminal.CloseBrace ∷ s.Action action.MakeShownAttribute ∷ []) ∷
    []
productions rule.Expression =
    (s.Terminal terminal.ExpressionIf ∷ s.Rule rule.Expression ∷ s.Terminal terminal.Then ∷ s.Rule rule.Expression ∷ s.Terminal terminal.Else ∷ s.Rule rule.Expression ∷ s.Action action.MakeIf ∷ []) ∷
    (s.Rule rule.Test ∷ []) ∷
    []
productions rule.Test =
    (s.Rule rule.Sum ∷ s.Rule rule.TestMore ∷ []) ∷
    []
productions rule.TestMore =
    (s.Terminal terminal.EqualTo ∷ s.Rule rule.Sum ∷ s.Action (action.MakeBinary op.Equal) ∷ []) ∷
    (s.Terminal terminal.LessThan ∷ s.Rule rule.Sum ∷ s.Action (action.MakeBinary op.Less) ∷ []) ∷
    [] ∷
    []
productions rule.Sum =
    (s.Rule rule.Term ∷ s.Rule rule.SumMore ∷ []) ∷
    []
productions rule.SumMore =
    (s.Terminal terminal.Plus ∷ s.Rule rule.Term ∷ s.Action (action.MakeBinary op.Add) ∷ s.Rule rule.SumMore ∷ []) ∷
    (s.Terminal terminal.Minus ∷ s.Rule rule.Term ∷ s.Action (action.MakeBinary op.Sub) ∷ s.Rule rule.SumMore ∷ []) ∷
    [] ∷
    []
productions rule.Term =
    (s.Rule rule.Atom ∷ s.Rule rule.TermMore ∷ []) ∷
    []
productions rule.TermMore =
    (s.Terminal terminal.Star ∷ s.Rule rule.Atom ∷ s.Action (action.MakeBinary op.Mul) ∷ s.Rule rule.TermMore ∷ []) ∷
    (s.Terminal terminal.Slash ∷ s.Rule rule.Atom ∷ s.Action (action.MakeBinary op.Div) ∷ s.Rule rule.TermMore ∷ []) ∷
    (s.Terminal terminal.Percent ∷ s.Rule rule.Atom ∷ s.Action (action.MakeBinary op.Rem) ∷ s.Rule rule.TermMore ∷ []) ∷
    [] ∷
    []
productions rule.Atom =
    (s.Terminal terminal.UsedName ∷ []) ∷
    (s.Terminal terminal.Row ∷ s.Terminal terminal.Dot ∷ s.Terminal terminal.RowField ∷ []) ∷
    (s.Terminal terminal.OpenParen ∷ s.Rule rule.Expression ∷ s.Terminal terminal.CloseParen ∷ []) ∷
    (s.Rule rule.Literal ∷ s.Action action.MakeLiteral ∷ []) ∷
    []
productions rule.Literal =
    (s.Terminal terminal.EmptyLiteral ∷ []) ∷
    (s.Terminal terminal.TextLiteral ∷ []) ∷
    (s.Terminal terminal.NumberLiteral ∷ []) ∷
    (s.Terminal terminal.LiteralMinus ∷ s.Terminal terminal.NegatedLiteral ∷ []) ∷
    []

abbrev pub table : Table Terminal Rule Action Seen
table = record { matches = matches; productions = productions }

-- a whole text: a component, and then the end
abbrev pub text : Symbols
text = s.Rule rule.Component ∷ s.Terminal terminal.End ∷ []
