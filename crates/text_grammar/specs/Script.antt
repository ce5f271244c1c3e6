-- The grammar of a script text.
use Rattle.std.specs.Prelude.{Bool, List, [], ◌∷◌}
use Rattle.grammar.specs.declared.symbol.Symbol.{Symbol}
use Rattle.grammar.specs.declared.symbol.Symbol.TheVariants as s
use Rattle.grammar.specs.Table.{Table}
use Rattle.text_lexer.specs.declared.token.Mark.TheVariants as mark
use Rattle.text_lexer.specs.declared.token.Reserved.TheVariants as word
use Rattle.text_grammar.specs.declared.kind.Kind.TheVariants as kind
use Rattle.text_grammar.specs.declared.kind.Seen.{Seen}
use Rattle.text_grammar.specs.declared.kind.Class.{Class}
use Rattle.text_grammar.specs.declared.kind.Class.TheVariants as class
use Rattle.text_grammar.specs.declared.script.Terminal.{Terminal}
use Rattle.text_grammar.specs.declared.script.Terminal.TheVariants as terminal
use Rattle.text_grammar.specs.declared.script.Action.{Action}
use Rattle.text_grammar.specs.declared.script.Action.TheVariants as action
use Rattle.text_grammar.specs.declared.script.Rule.{Rule}
use Rattle.text_grammar.specs.declared.script.Rule.TheVariants as rule
use Rattle.text_grammar.specs.Class.{is_in, only_word, only_mark}

abbrev pub Symbols : Type 0
Symbols = List (Symbol Terminal Rule Action)

-- ---- the tokens that may stand for a terminal

abbrev pub class_of : Terminal → Class
class_of terminal.Phase = only_word word.Phase
class_of terminal.Lane = only_word word.Lane
class_of terminal.Set = only_word word.Set
class_of terminal.Get = only_word word.Get
class_of terminal.Pump = only_word word.Pump
class_of terminal.Dispose = only_word word.Dispose
class_of terminal.Insert = only_word word.Insert
class_of terminal.Remove = only_word word.Remove
class_of terminal.Move = only_word word.Move
class_of terminal.SetName = class.AnyName
class_of terminal.GetName = class.AnyName
class_of terminal.AreaName = class.AnyName
class_of terminal.StoreName = class.AnyName
class_of terminal.Dot = only_mark mark.Dot
class_of terminal.OpenBracket = only_mark mark.OpenBracket
class_of terminal.CloseBracket = only_mark mark.CloseBracket
class_of terminal.RowField = class.AnyName
class_of terminal.TextKey = class.Only kind.Text
class_of terminal.NumberKey = class.AnyNumber
class_of terminal.KeyMinus = only_mark mark.Minus
class_of terminal.NegatedKey = class.AnyNumber
class_of terminal.Assign = only_mark mark.Assign
class_of terminal.OpenBrace = only_mark mark.OpenBrace
class_of terminal.CloseBrace = only_mark mark.CloseBrace
class_of terminal.InsertedField = class.AnyName
class_of terminal.At = only_word word.At
class_of terminal.To = only_word word.To
class_of terminal.PlaceNumber = class.AnyNumber
class_of terminal.EmptyLiteral = only_word word.Empty
class_of terminal.TextLiteral = class.Only kind.Text
class_of terminal.NumberLiteral = class.AnyNumber
class_of terminal.LiteralMinus = only_mark mark.Minus
class_of terminal.NegatedLiteral = class.AnyNumber
class_of terminal.End = class.Only kind.End

abbrev pub matches : Terminal → Seen → Bool
matches t x = is_in (class_of t) x

-- ---- productions

abbrev pub productions : Rule → List Symbols
productions rule.Script =
    (s.Rule rule.Phases ∷ []) ∷
    []
productions rule.Phases =
    (s.Terminal terminal.Phase ∷ s.Rule rule.Lanes ∷ s.Rule rule.Phases ∷ []) ∷
    [] ∷
    []
productions rule.Lanes =
    (s.Terminal terminal.Lane ∷ s.Rule rule.Operations ∷ s.Rule rule.Lanes ∷ []) ∷
    [] ∷
    []
productions rule.Operations =
    (s.Terminal terminal.Set ∷ s.Action action.BeginPath ∷ s.Rule rule.SetPath ∷ s.Terminal terminal.Assign ∷ s.Rule rule.Literal ∷ s.Action action.MakeSet ∷ s.Rule rule.Operations ∷ []) ∷
    (s.Terminal terminal.Get ∷ s.Action action.BeginPath ∷ s.Rule rule.GetPath ∷ s.Action action.MakeGet ∷ s.Rule rule.Operations ∷ []) ∷
    (s.Terminal terminal.Pump ∷ s.Action action.MakePump ∷ s.Rule rule.Operations ∷ []) ∷
    (s.Terminal terminal.Dispose ∷ s.Action action.BeginPath ∷ s.Rule rule.AreaPath ∷ s.Action action.MakeDispose ∷ s.Rule rule.Operations ∷ []) ∷
    (s.Terminal terminal.Insert ∷ s.Action action.BeginPath ∷ s.Rule rule.StorePath ∷ s.Rule rule.Key ∷ s.Terminal terminal.OpenBrace ∷ s.Action action.BeginEntries ∷ s.Rule rule.Fields ∷ s.Terminal terminal.CloseBrace ∷ s.Rule rule.InsertPlace ∷ s.Action action.MakeInsert ∷ s.Rule rule.Operations ∷ []) ∷
    (s.Terminal terminal.Remove ∷ s.Action action.BeginPath ∷ s.Rule rule.StorePath ∷ s.Rule rule.Key ∷ s.Action action.MakeRemove ∷ s.Rule rule.Operations ∷ []) ∷
    (s.Terminal terminal.Move ∷ s.Action action.BeginPath ∷ s.Rule rule.StorePath ∷ s.Rule rule.Key ∷ s.Terminal terminal.To ∷ s.Terminal terminal.PlaceNumber ∷ s.Action action.MakeMove ∷ s.Rule rule.Operations ∷ []) ∷
    [] ∷
    []
productions rule.SetPath =
    (s.Terminal terminal.SetName ∷ s.Rule rule.SetPathMore ∷ []) ∷
    []
productions rule.SetPathMore =
    (s.Terminal terminal.Dot ∷ s.Terminal terminal.SetName ∷ s.Rule rule.SetPathMore ∷ []) ∷
    (s.Terminal terminal.OpenBracket ∷ s.Rule rule.Key ∷ s.Terminal terminal.CloseBracket ∷ s.Terminal terminal.Dot ∷ s.Terminal terminal.RowField ∷ []) ∷
    [] ∷
    []
productions rule.GetPath =
    (s.Terminal terminal.GetName ∷ s.Rule rule.GetPathMore ∷ []) ∷
    []
productions rule.GetPathMore =
    (s.Terminal terminal.Dot ∷ s.Terminal terminal.GetName ∷ s.Rule rule.GetPathMore ∷ []) ∷
    (s.Terminal terminal.OpenBracket ∷ s.Rule rule.Key ∷ s.Terminal terminal.CloseBracket ∷ s.Terminal terminal.Dot ∷ s.Terminal terminal.RowField ∷ []) ∷
    [] ∷
    []
productions rule.AreaPath =
    (s.Terminal terminal.AreaName ∷ s.Rule rule.AreaPathMore ∷ []) ∷
    []
productions rule.AreaPathMore =
    (s.Terminal terminal.Dot ∷ s.Terminal terminal.AreaName ∷ s.Rule rule.AreaPathMore ∷ []) ∷
    [] ∷
    []
productions rule.StorePath =
    (s.Terminal terminal.StoreName ∷ s.Rule rule.StorePathMore ∷ []) ∷
    []
productions rule.StorePathMore =
    (s.Terminal terminal.Dot ∷ s.Terminal terminal.StoreName ∷ s.Rule rule.StorePathMore ∷ []) ∷
    [] ∷
    []
productions rule.Key =
    (s.Terminal terminal.TextKey ∷ []) ∷
    (s.Terminal terminal.NumberKey ∷ []) ∷
    (s.Terminal terminal.KeyMinus ∷ s.Terminal terminal.NegatedKey ∷ []) ∷
    []
productions rule.Fields =
    (s.Terminal terminal.InsertedField ∷ s.Terminal terminal.Assign ∷ s.Rule rule.Literal ∷ s.Action action.AddValue ∷ s.Rule rule.Fields ∷ []) ∷
    [] ∷
    []
productions rule.InsertPlace =
    (s.Terminal terminal.At ∷ s.Terminal terminal.PlaceNumber ∷ []) ∷
    [] ∷
    []
productions rule.Literal =
    (s.Terminal terminal.EmptyLiteral ∷ []) ∷
    (s.Terminal terminal.TextLiteral ∷ []) ∷
    (s.Terminal terminal.NumberLiteral ∷ []) ∷
    (s.Terminal terminal.LiteralMinus ∷ s.Terminal terminal.NegatedLiteral ∷ []) ∷
    []

abbrev pub table : Table Terminal Rule Action Seen
table = record { matches = matches; productions = productions }

-- a whole text: a script, and then the end
abbrev pub text : Symbols
text = s.Rule rule.Script ∷ s.Terminal terminal.End ∷ []
