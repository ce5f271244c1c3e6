-- What one token of lookahead tells about the grammar of a script text.
use Rattle.std.specs.Prelude.{ℕ, Bool, true, false, List, [], ◌∷◌, ◌++◌}
use Rattle.std.specs.List.{list_any}
use Rattle.grammar.specs.Lookahead.{Lookahead}
use Rattle.text_lexer.specs.declared.token.Mark.TheVariants as mark
use Rattle.text_lexer.specs.declared.token.Reserved.TheVariants as word
use Rattle.text_grammar.specs.declared.kind.Kind.{Kind}
use Rattle.text_grammar.specs.declared.kind.Kind.TheVariants as kind
use Rattle.text_grammar.specs.declared.kind.Seen.{Seen}
use Rattle.text_grammar.specs.declared.script.Terminal.{Terminal}
use Rattle.text_grammar.specs.declared.script.Terminal.TheVariants as terminal
use Rattle.text_grammar.specs.declared.script.Rule.{Rule}
use Rattle.text_grammar.specs.declared.script.Rule.TheVariants as rule
use Rattle.text_grammar.specs.Class.{sample_of}
use Rattle.text_grammar.specs.Script.{class_of, matches}

-- ---- terminals that stand together

-- the first word of an operation
abbrev pub operations : List Terminal
operations = terminal.Set ∷ terminal.Get ∷ terminal.Pump ∷ terminal.Dispose ∷ terminal.Insert ∷ terminal.Remove ∷ terminal.Move ∷ []

-- what may stand behind an operation
abbrev pub operation_ends : List Terminal
operation_ends = operations ++ terminal.Lane ∷ terminal.Phase ∷ terminal.End ∷ []

-- the first token of a key, and of a literal
abbrev pub keys : List Terminal
keys = terminal.TextKey ∷ terminal.NumberKey ∷ terminal.KeyMinus ∷ []

abbrev pub literals : List Terminal
literals = terminal.EmptyLiteral ∷ terminal.TextLiteral ∷ terminal.NumberLiteral ∷ terminal.LiteralMinus ∷ []

-- ---- the rules

-- the terminals that the rule may begin with
abbrev pub first : Rule → List Terminal
first rule.Script = terminal.Phase ∷ []
first rule.Phases = terminal.Phase ∷ []
first rule.Lanes = terminal.Lane ∷ []
first rule.Operations = operations
first rule.SetPath = terminal.SetName ∷ []
first rule.SetPathMore = terminal.Dot ∷ terminal.OpenBracket ∷ []
first rule.GetPath = terminal.GetName ∷ []
first rule.GetPathMore = terminal.Dot ∷ terminal.OpenBracket ∷ []
first rule.AreaPath = terminal.AreaName ∷ []
first rule.AreaPathMore = terminal.Dot ∷ []
first rule.StorePath = terminal.StoreName ∷ []
first rule.StorePathMore = terminal.Dot ∷ []
first rule.Key = keys
first rule.Fields = terminal.InsertedField ∷ []
first rule.InsertPlace = terminal.At ∷ []
first rule.Literal = literals

-- the terminals that may follow it
abbrev pub follow : Rule → List Terminal
follow rule.Script = terminal.End ∷ []
follow rule.Phases = terminal.End ∷ []
follow rule.Lanes = terminal.Phase ∷ terminal.End ∷ []
follow rule.Operations = terminal.Phase ∷ terminal.Lane ∷ terminal.End ∷ []
follow rule.SetPath = terminal.Assign ∷ []
follow rule.SetPathMore = terminal.Assign ∷ []
follow rule.GetPath = operation_ends
follow rule.GetPathMore = operation_ends
follow rule.AreaPath = operation_ends
follow rule.AreaPathMore = operation_ends
follow rule.StorePath = keys
follow rule.StorePathMore = keys
follow rule.Key = operation_ends ++ terminal.CloseBracket ∷ terminal.OpenBrace ∷ terminal.To ∷ []
follow rule.Fields = terminal.CloseBrace ∷ []
follow rule.InsertPlace = operation_ends
follow rule.Literal = operation_ends ++ terminal.CloseBrace ∷ terminal.InsertedField ∷ []

-- it may stand for nothing
abbrev pub nullable : Rule → Bool
nullable rule.Script = true
nullable rule.Phases = true
nullable rule.Lanes = true
nullable rule.Operations = true
nullable rule.SetPath = false
nullable rule.SetPathMore = true
nullable rule.GetPath = false
nullable rule.GetPathMore = true
nullable rule.AreaPath = false
nullable rule.AreaPathMore = true
nullable rule.StorePath = false
nullable rule.StorePathMore = true
nullable rule.Key = false
nullable rule.Fields = true
nullable rule.InsertPlace = true
nullable rule.Literal = false

-- how far its shortest production is from an end
abbrev pub rank : Rule → ℕ
rank rule.Script = 1
rank rule.Phases = 0
rank rule.Lanes = 0
rank rule.Operations = 0
rank rule.SetPath = 1
rank rule.SetPathMore = 0
rank rule.GetPath = 1
rank rule.GetPathMore = 0
rank rule.AreaPath = 1
rank rule.AreaPathMore = 0
rank rule.StorePath = 1
rank rule.StorePathMore = 0
rank rule.Key = 0
rank rule.Fields = 0
rank rule.InsertPlace = 0
rank rule.Literal = 0

-- An order of the rules: before a token is taken, each leads to lower ones alone.
abbrev pub level : Rule → ℕ
level rule.Script = 1
level _ = 0

abbrev pub shortest : Rule → ℕ
shortest rule.Script = 0
shortest rule.Phases = 1
shortest rule.Lanes = 1
shortest rule.Operations = 7
shortest rule.SetPath = 0
shortest rule.SetPathMore = 2
shortest rule.GetPath = 0
shortest rule.GetPathMore = 2
shortest rule.AreaPath = 0
shortest rule.AreaPathMore = 1
shortest rule.StorePath = 0
shortest rule.StorePathMore = 1
shortest rule.Key = 0
shortest rule.Fields = 1
shortest rule.InsertPlace = 0
shortest rule.Literal = 0

-- ---- the production to take, by its number

abbrev choice_phases : Kind → ℕ
choice_phases (kind.Reserved word.Phase) = 0
choice_phases _ = 1

abbrev choice_lanes : Kind → ℕ
choice_lanes (kind.Reserved word.Lane) = 0
choice_lanes _ = 1

abbrev choice_operations : Kind → ℕ
choice_operations (kind.Reserved word.Set) = 0
choice_operations (kind.Reserved word.Get) = 1
choice_operations (kind.Reserved word.Pump) = 2
choice_operations (kind.Reserved word.Dispose) = 3
choice_operations (kind.Reserved word.Insert) = 4
choice_operations (kind.Reserved word.Remove) = 5
choice_operations (kind.Reserved word.Move) = 6
choice_operations _ = 7

abbrev choice_set_path_more : Kind → ℕ
choice_set_path_more (kind.Mark mark.Dot) = 0
choice_set_path_more (kind.Mark mark.OpenBracket) = 1
choice_set_path_more _ = 2

abbrev choice_get_path_more : Kind → ℕ
choice_get_path_more (kind.Mark mark.Dot) = 0
choice_get_path_more (kind.Mark mark.OpenBracket) = 1
choice_get_path_more _ = 2

abbrev choice_area_path_more : Kind → ℕ
choice_area_path_more (kind.Mark mark.Dot) = 0
choice_area_path_more _ = 1

abbrev choice_store_path_more : Kind → ℕ
choice_store_path_more (kind.Mark mark.Dot) = 0
choice_store_path_more _ = 1

abbrev choice_key : Kind → ℕ
choice_key kind.Text = 0
choice_key kind.One = 1
choice_key kind.Number = 1
choice_key _ = 2

abbrev choice_fields : Kind → ℕ
choice_fields kind.Name = 0
choice_fields kind.VoidName = 0
choice_fields _ = 1

abbrev choice_insert_place : Kind → ℕ
choice_insert_place (kind.Reserved word.At) = 0
choice_insert_place _ = 1

abbrev choice_literal : Kind → ℕ
choice_literal (kind.Reserved word.Empty) = 0
choice_literal kind.Text = 1
choice_literal kind.One = 2
choice_literal kind.Number = 2
choice_literal _ = 3

abbrev pub choice : Rule → Seen → ℕ
choice rule.Script x = 0
choice rule.Phases x = choice_phases x.kind
choice rule.Lanes x = choice_lanes x.kind
choice rule.Operations x = choice_operations x.kind
choice rule.SetPath x = 0
choice rule.SetPathMore x = choice_set_path_more x.kind
choice rule.GetPath x = 0
choice rule.GetPathMore x = choice_get_path_more x.kind
choice rule.AreaPath x = 0
choice rule.AreaPathMore x = choice_area_path_more x.kind
choice rule.StorePath x = 0
choice rule.StorePathMore x = choice_store_path_more x.kind
choice rule.Key x = choice_key x.kind
choice rule.Fields x = choice_fields x.kind
choice rule.InsertPlace x = choice_insert_place x.kind
choice rule.Literal x = choice_literal x.kind

-- ---- all of it

abbrev pub is_among : List Terminal → Seen → Bool
is_among terminals x = list_any (λ t. matches t x) terminals

-- a token for each terminal
abbrev pub sample : Terminal → Seen
sample t = sample_of (class_of t)

abbrev pub lookahead : Lookahead Terminal Rule Seen
lookahead = record {
  first = λ r x. is_among (first r) x;
  nullable = nullable;
  follow = λ r x. is_among (follow r) x;
  choice = choice;
  shortest = shortest;
  rank = rank;
  sample = sample;
}
