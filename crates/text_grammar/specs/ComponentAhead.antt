-- What one token of lookahead tells about the grammar of a component text.
use Rattle.std.specs.Prelude.{ℕ, Bool, true, false, List, [], ◌∷◌, ◌++◌, if◌then◌else◌}
use Rattle.std.specs.List.{list_any}
use Rattle.grammar.specs.Lookahead.{Lookahead}
use Rattle.text_lexer.specs.declared.token.Mark.TheVariants as mark
use Rattle.text_lexer.specs.declared.token.Reserved.TheVariants as word
use Rattle.text_grammar.specs.declared.kind.Kind.{Kind}
use Rattle.text_grammar.specs.declared.kind.Kind.TheVariants as kind
use Rattle.text_grammar.specs.declared.kind.Seen.{Seen}
use Rattle.text_grammar.specs.declared.component.Terminal.{Terminal}
use Rattle.text_grammar.specs.declared.component.Terminal.TheVariants as terminal
use Rattle.text_grammar.specs.declared.component.Rule.{Rule}
use Rattle.text_grammar.specs.declared.component.Rule.TheVariants as rule
use Rattle.text_grammar.specs.Class.{is_in, sample_of}
use Rattle.text_grammar.specs.declared.kind.Class.TheVariants as class
use Rattle.text_grammar.specs.Component.{class_of, matches}

-- ---- terminals that stand together

-- the first word or mark of an item
abbrev pub item_starts : List Terminal
item_starts = terminal.Signal ∷ terminal.Memo ∷ terminal.Effect ∷ terminal.Resource ∷ terminal.Load ∷ terminal.Store ∷ terminal.Cleanup ∷ terminal.Area ∷ terminal.If ∷ terminal.Each ∷ terminal.Less ∷ terminal.TextItem ∷ terminal.OpenShown ∷ []

-- what may stand behind all items of a block or element
abbrev pub items_ends : List Terminal
items_ends = terminal.CloseBlock ∷ terminal.ClosingTag ∷ terminal.End ∷ []

-- what may stand behind an expression
abbrev pub expression_ends : List Terminal
expression_ends = item_starts ++ items_ends ++ terminal.CloseLoadKey ∷ terminal.Then ∷ terminal.Else ∷ []

-- operators, from those that bind least
abbrev pub comparisons : List Terminal
comparisons = terminal.EqualTo ∷ terminal.LessThan ∷ []

abbrev pub sums : List Terminal
sums = terminal.Plus ∷ terminal.Minus ∷ []

abbrev pub products : List Terminal
products = terminal.Star ∷ terminal.Slash ∷ terminal.Percent ∷ []

-- the first token of a literal, of a key, and of the least part of an expression
abbrev pub literals : List Terminal
literals = terminal.EmptyLiteral ∷ terminal.TextLiteral ∷ terminal.NumberLiteral ∷ terminal.LiteralMinus ∷ []

abbrev pub keys : List Terminal
keys = terminal.EmptyKey ∷ terminal.TextKey ∷ terminal.NumberKey ∷ terminal.KeyMinus ∷ []

abbrev pub atoms : List Terminal
atoms = literals ++ terminal.UsedName ∷ terminal.Row ∷ terminal.OpenParen ∷ []

-- ---- the rules

-- the terminals that the rule may begin with
abbrev pub first : Rule → List Terminal
first rule.Component = terminal.Component ∷ []
first rule.Items = item_starts
first rule.Pairs = keys
first rule.Key = keys
first rule.Fields = terminal.NewField ∷ []
first rule.Element = terminal.OpenTag ∷ terminal.VoidTag ∷ []
first rule.OpenTagMore = terminal.Dash ∷ []
first rule.VoidTagMore = terminal.Dash ∷ terminal.AttributeName ∷ terminal.VoidSlash ∷ terminal.Greater ∷ []
first rule.VoidEnd = terminal.VoidSlash ∷ terminal.Greater ∷ []
first rule.ElementRest = terminal.AttributeName ∷ terminal.Greater ∷ []
first rule.ElementEnd = terminal.ClosingTag ∷ terminal.Closer ∷ []
first rule.CloseTagMore = terminal.Dash ∷ []
first rule.Attributes = terminal.AttributeName ∷ []
first rule.AttributeMore = terminal.Dash ∷ []
first rule.AttributeValue = terminal.Assign ∷ []
first rule.AssignedValue = terminal.OpenShown ∷ terminal.AttributeText ∷ []
first rule.Expression = atoms ++ terminal.ExpressionIf ∷ []
first rule.Test = atoms
first rule.TestMore = comparisons
first rule.Sum = atoms
first rule.SumMore = sums
first rule.Term = atoms
first rule.TermMore = products
first rule.Atom = atoms
first rule.Literal = literals

-- the terminals that may follow it
abbrev pub follow : Rule → List Terminal
follow rule.Component = terminal.End ∷ []
follow rule.Items = items_ends
follow rule.Pairs = terminal.CloseBrace ∷ []
follow rule.Key = terminal.Arrow ∷ []
follow rule.Fields = terminal.CloseBrace ∷ []
follow rule.Element = item_starts ++ items_ends
follow rule.OpenTagMore = terminal.AttributeName ∷ terminal.Greater ∷ []
follow rule.VoidTagMore = item_starts ++ items_ends
follow rule.VoidEnd = item_starts ++ items_ends
follow rule.ElementRest = item_starts ++ items_ends
follow rule.ElementEnd = item_starts ++ items_ends
follow rule.CloseTagMore = terminal.Greater ∷ []
follow rule.Attributes = terminal.VoidSlash ∷ terminal.Greater ∷ []
follow rule.AttributeMore = terminal.Assign ∷ terminal.AttributeName ∷ terminal.VoidSlash ∷ terminal.Greater ∷ []
follow rule.AttributeValue = terminal.AttributeName ∷ terminal.VoidSlash ∷ terminal.Greater ∷ []
follow rule.AssignedValue = terminal.AttributeName ∷ terminal.VoidSlash ∷ terminal.Greater ∷ []
follow rule.Expression = expression_ends
follow rule.Test = expression_ends
follow rule.TestMore = expression_ends
follow rule.Sum = expression_ends ++ comparisons
follow rule.SumMore = expression_ends ++ comparisons
follow rule.Term = expression_ends ++ comparisons ++ sums
follow rule.TermMore = expression_ends ++ comparisons ++ sums
follow rule.Atom = expression_ends ++ comparisons ++ sums ++ products
follow rule.Literal = expression_ends ++ comparisons ++ sums ++ products ++ keys ++ terminal.NewField ∷ []

-- it may stand for nothing
abbrev pub nullable : Rule → Bool
nullable rule.Component = false
nullable rule.Items = true
nullable rule.Pairs = true
nullable rule.Key = false
nullable rule.Fields = true
nullable rule.Element = false
nullable rule.OpenTagMore = true
nullable rule.VoidTagMore = false
nullable rule.VoidEnd = false
nullable rule.ElementRest = false
nullable rule.ElementEnd = false
nullable rule.CloseTagMore = true
nullable rule.Attributes = true
nullable rule.AttributeMore = true
nullable rule.AttributeValue = true
nullable rule.AssignedValue = false
nullable rule.Expression = false
nullable rule.Test = false
nullable rule.TestMore = true
nullable rule.Sum = false
nullable rule.SumMore = true
nullable rule.Term = false
nullable rule.TermMore = true
nullable rule.Atom = false
nullable rule.Literal = false

-- how far its shortest production is from an end
abbrev pub rank : Rule → ℕ
rank rule.Component = 1
rank rule.Items = 0
rank rule.Pairs = 0
rank rule.Key = 0
rank rule.Fields = 0
rank rule.Element = 2
rank rule.OpenTagMore = 0
rank rule.VoidTagMore = 1
rank rule.VoidEnd = 0
rank rule.ElementRest = 2
rank rule.ElementEnd = 1
rank rule.CloseTagMore = 0
rank rule.Attributes = 0
rank rule.AttributeMore = 0
rank rule.AttributeValue = 0
rank rule.AssignedValue = 0
rank rule.Expression = 4
rank rule.Test = 3
rank rule.TestMore = 0
rank rule.Sum = 2
rank rule.SumMore = 0
rank rule.Term = 1
rank rule.TermMore = 0
rank rule.Atom = 0
rank rule.Literal = 0

-- An order of the rules: before a token is taken, each leads to lower ones alone.
abbrev pub level : Rule → ℕ
level rule.Pairs = 1
level rule.VoidTagMore = 1
level rule.ElementRest = 1
level rule.Atom = 1
level rule.Term = 2
level rule.Sum = 3
level rule.Test = 4
level rule.Expression = 5
level _ = 0

abbrev pub shortest : Rule → ℕ
shortest rule.Component = 0
shortest rule.Items = 13
shortest rule.Pairs = 1
shortest rule.Key = 0
shortest rule.Fields = 1
shortest rule.Element = 1
shortest rule.OpenTagMore = 1
shortest rule.VoidTagMore = 1
shortest rule.VoidEnd = 0
shortest rule.ElementRest = 0
shortest rule.ElementEnd = 0
shortest rule.CloseTagMore = 1
shortest rule.Attributes = 1
shortest rule.AttributeMore = 1
shortest rule.AttributeValue = 1
shortest rule.AssignedValue = 0
shortest rule.Expression = 1
shortest rule.Test = 0
shortest rule.TestMore = 2
shortest rule.Sum = 0
shortest rule.SumMore = 2
shortest rule.Term = 0
shortest rule.TermMore = 3
shortest rule.Atom = 0
shortest rule.Literal = 0

-- ---- the production to take, by its number

abbrev choice_items : Kind → ℕ
choice_items (kind.Reserved word.Signal) = 0
choice_items (kind.Reserved word.Memo) = 1
choice_items (kind.Reserved word.Effect) = 2
choice_items (kind.Reserved word.Resource) = 3
choice_items (kind.Reserved word.Load) = 4
choice_items (kind.Reserved word.Store) = 5
choice_items (kind.Reserved word.Cleanup) = 6
choice_items (kind.Reserved word.Area) = 7
choice_items (kind.Reserved word.If) = 8
choice_items (kind.Reserved word.Each) = 9
choice_items (kind.Mark mark.Less) = 10
choice_items kind.Text = 11
choice_items (kind.Mark mark.OpenBrace) = 12
choice_items _ = 13

abbrev choice_pairs : Kind → ℕ
choice_pairs (kind.Reserved word.Empty) = 0
choice_pairs kind.One = 0
choice_pairs kind.Number = 0
choice_pairs kind.Text = 0
choice_pairs (kind.Mark mark.Minus) = 0
choice_pairs _ = 1

abbrev choice_key : Kind → ℕ
choice_key (kind.Reserved word.Empty) = 0
choice_key kind.Text = 1
choice_key kind.One = 2
choice_key kind.Number = 2
choice_key _ = 3

abbrev choice_fields : Kind → ℕ
choice_fields kind.Name = 0
choice_fields kind.VoidName = 0
choice_fields _ = 1

abbrev choice_element : Kind → ℕ
choice_element kind.VoidName = 1
choice_element (kind.Reserved word.Area) = 1
choice_element _ = 0

abbrev choice_void_end : Kind → ℕ
choice_void_end (kind.Mark mark.Slash) = 0
choice_void_end _ = 1

abbrev choice_element_end : Kind → ℕ
choice_element_end (kind.Mark mark.ClosingTag) = 0
choice_element_end _ = 1

abbrev choice_attributes : Kind → ℕ
choice_attributes (kind.Reserved w) = 0
choice_attributes kind.Name = 0
choice_attributes kind.VoidName = 0
choice_attributes _ = 1

abbrev choice_attribute_value : Kind → ℕ
choice_attribute_value (kind.Mark mark.Assign) = 0
choice_attribute_value _ = 1

abbrev choice_assigned_value : Kind → ℕ
choice_assigned_value kind.Text = 0
choice_assigned_value _ = 1

abbrev choice_expression : Kind → ℕ
choice_expression (kind.Reserved word.If) = 0
choice_expression _ = 1

abbrev choice_test_more : Kind → ℕ
choice_test_more (kind.Mark mark.EqualTo) = 0
choice_test_more (kind.Reserved word.Lt) = 1
choice_test_more _ = 2

abbrev choice_sum_more : Kind → ℕ
choice_sum_more (kind.Mark mark.Plus) = 0
choice_sum_more (kind.Mark mark.Minus) = 1
choice_sum_more _ = 2

abbrev choice_term_more : Kind → ℕ
choice_term_more (kind.Mark mark.Star) = 0
choice_term_more (kind.Mark mark.Slash) = 1
choice_term_more (kind.Mark mark.Percent) = 2
choice_term_more _ = 3

abbrev choice_atom : Kind → ℕ
choice_atom kind.Name = 0
choice_atom kind.VoidName = 0
choice_atom (kind.Reserved word.Row) = 1
choice_atom (kind.Mark mark.OpenParen) = 2
choice_atom _ = 3

abbrev choice_literal : Kind → ℕ
choice_literal (kind.Reserved word.Empty) = 0
choice_literal kind.Text = 1
choice_literal kind.One = 2
choice_literal kind.Number = 2
choice_literal _ = 3

-- a name goes on where a `-` touches it
abbrev choice_dash : Seen → ℕ
choice_dash x = if is_in class.Dash x then 0 else 1

abbrev pub choice : Rule → Seen → ℕ
choice rule.Component x = 0
choice rule.Items x = choice_items x.kind
choice rule.Pairs x = choice_pairs x.kind
choice rule.Key x = choice_key x.kind
choice rule.Fields x = choice_fields x.kind
choice rule.Element x = choice_element x.kind
choice rule.OpenTagMore x = choice_dash x
choice rule.VoidTagMore x = choice_dash x
choice rule.VoidEnd x = choice_void_end x.kind
choice rule.ElementRest x = 0
choice rule.ElementEnd x = choice_element_end x.kind
choice rule.CloseTagMore x = choice_dash x
choice rule.Attributes x = choice_attributes x.kind
choice rule.AttributeMore x = choice_dash x
choice rule.AttributeValue x = choice_attribute_value x.kind
choice rule.AssignedValue x = choice_assigned_value x.kind
choice rule.Expression x = choice_expression x.kind
choice rule.Test x = 0
choice rule.TestMore x = choice_test_more x.kind
choice rule.Sum x = 0
choice rule.SumMore x = choice_sum_more x.kind
choice rule.Term x = 0
choice rule.TermMore x = choice_term_more x.kind
choice rule.Atom x = choice_atom x.kind
choice rule.Literal x = choice_literal x.kind

-- ---- all of it

abbrev pub is_among : List Terminal → Seen → Bool
is_among terminals x = list_any (λ t. matches t x) terminals

-- a token for each terminal
abbrev pub sample : Terminal → Seen
sample t = sample_of (class_of t)

abbrev pub lookahead : Lookahead Terminal Rule Seen
lookahead = record {
  first = λ r x. is_among (first r) x;
  nullable = nullable;
  follow = λ r x. is_among (follow r) x;
  choice = choice;
  shortest = shortest;
  rank = rank;
  sample = sample;
}
