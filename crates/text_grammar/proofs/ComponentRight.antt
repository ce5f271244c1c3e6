-- One token of lookahead decides the grammar of a component text.
use Rattle.std.proofs.Common.{◌≡◌, ℕ, true, false, List, [], ◌∷◌, Some, refl}
use Rattle.std.specs.List.{list_all}
use Rattle.grammar.specs.Table.{production_at}
use Rattle.grammar.specs.Lookahead.{is_predictive}
use Rattle.grammar.specs.Machine.{Fits, IsRight}
use Rattle.grammar.proofs.Theory.{or_left}
use Rattle.grammar.proofs.Tests.{right_from}
use Rattle.text_grammar.specs.declared.component.Terminal.{Terminal}
use Rattle.text_grammar.specs.declared.component.Terminal.TheVariants as terminal
use Rattle.text_grammar.specs.declared.component.Rule.{Rule}
use Rattle.text_grammar.specs.declared.component.Rule.TheVariants as rule
use Rattle.text_grammar.specs.Component.{table, matches, text}
use Rattle.text_grammar.specs.ComponentAhead.{lookahead}
use Rattle.text_grammar.specs.Closed.{closed_table}
use Rattle.text_grammar.proofs.AllSeen.{all_seen, kind_at}

abbrev all_terminals : List Terminal
all_terminals = terminal.Component ∷ terminal.Version ∷ terminal.Signal ∷ terminal.Memo ∷ terminal.Effect ∷ terminal.Resource ∷ terminal.Load ∷ terminal.Store ∷ terminal.Cleanup ∷ terminal.Area ∷ terminal.If ∷ terminal.Each ∷ terminal.Less ∷ terminal.TextItem ∷ terminal.OpenShown ∷ terminal.NewName ∷ terminal.NewArea ∷ terminal.UsedResource ∷ terminal.UsedStore ∷ terminal.NewField ∷ terminal.Assign ∷ terminal.After ∷ terminal.AfterNumber ∷ terminal.Max ∷ terminal.MaxNumber ∷ terminal.Arrow ∷ terminal.CleanupText ∷ terminal.OpenLoadKey ∷ terminal.CloseLoadKey ∷ terminal.OpenBlock ∷ terminal.CloseBlock ∷ terminal.OpenBrace ∷ terminal.CloseBrace ∷ terminal.EmptyKey ∷ terminal.TextKey ∷ terminal.NumberKey ∷ terminal.KeyMinus ∷ terminal.NegatedKey ∷ terminal.OpenTag ∷ terminal.VoidTag ∷ terminal.Dash ∷ terminal.OpenTagPart ∷ terminal.AttributeName ∷ terminal.AttributePart ∷ terminal.AttributeText ∷ terminal.VoidSlash ∷ terminal.Greater ∷ terminal.ClosingTag ∷ terminal.CloseTag ∷ terminal.CloseTagPart ∷ terminal.Closer ∷ terminal.ExpressionIf ∷ terminal.Then ∷ terminal.Else ∷ terminal.EqualTo ∷ terminal.LessThan ∷ terminal.Plus ∷ terminal.Minus ∷ terminal.Star ∷ terminal.Slash ∷ terminal.Percent ∷ terminal.UsedName ∷ terminal.Row ∷ terminal.Dot ∷ terminal.RowField ∷ terminal.OpenParen ∷ terminal.CloseParen ∷ terminal.EmptyLiteral ∷ terminal.TextLiteral ∷ terminal.NumberLiteral ∷ terminal.LiteralMinus ∷ terminal.NegatedLiteral ∷ terminal.End ∷ []

abbrev pub all_rules : List Rule
all_rules = rule.Component ∷ rule.Items ∷ rule.Pairs ∷ rule.Key ∷ rule.Fields ∷ rule.Element ∷ rule.OpenTagMore ∷ rule.VoidTagMore ∷ rule.VoidEnd ∷ rule.ElementRest ∷ rule.ElementEnd ∷ rule.CloseTagMore ∷ rule.Attributes ∷ rule.AttributeMore ∷ rule.AttributeValue ∷ rule.AssignedValue ∷ rule.Expression ∷ rule.Test ∷ rule.TestMore ∷ rule.Sum ∷ rule.SumMore ∷ rule.Term ∷ rule.TermMore ∷ rule.Atom ∷ rule.Literal ∷ []

passes : is_predictive table lookahead all_rules all_seen ≡ true
passes = refl

sampled : list_all (λ t. table.matches t (lookahead.sample t)) all_terminals ≡ true
sampled = refl

terminal_at : (t : Terminal) → (i : ℕ) × (production_at all_terminals i ≡ Some t)
terminal_at terminal.Component = (0, refl)
terminal_at terminal.Version = (1, refl)
terminal_at terminal.Signal = (2, refl)
terminal_at terminal.Memo = (3, refl)
terminal_at terminal.Effect = (4, refl)
terminal_at terminal.Resource = (5, refl)
terminal_at terminal.Load = (6, refl)
terminal_at terminal.Store = (7, refl)
terminal_at terminal.Cleanup = (8, refl)
terminal_at terminal.Area = (9, refl)
terminal_at terminal.If = (10, refl)
terminal_at terminal.Each = (11, refl)
terminal_at terminal.Less = (12, refl)
terminal_at terminal.TextItem = (13, refl)
terminal_at terminal.OpenShown = (14, refl)
terminal_at terminal.NewName = (15, refl)
terminal_at terminal.NewArea = (16, refl)
terminal_at terminal.UsedResource = (17, refl)
terminal_at terminal.UsedStore = (18, refl)
terminal_at terminal.NewField = (19, refl)
terminal_at terminal.Assign = (20, refl)
terminal_at terminal.After = (21, refl)
terminal_at terminal.AfterNumber = (22, refl)
terminal_at terminal.Max = (23, refl)
terminal_at terminal.MaxNumber = (24, refl)
terminal_at terminal.Arrow = (25, refl)
terminal_at terminal.CleanupText = (26, refl)
terminal_at terminal.OpenLoadKey = (27, refl)
terminal_at terminal.CloseLoadKey = (28, refl)
terminal_at terminal.OpenBlock = (29, refl)
terminal_at terminal.CloseBlock = (30, refl)
terminal_at terminal.OpenBrace = (31, refl)
terminal_at terminal.CloseBrace = (32, refl)
terminal_at terminal.EmptyKey = (33, refl)
terminal_at terminal.TextKey = (34, refl)
terminal_at terminal.NumberKey = (35, refl)
terminal_at terminal.KeyMinus = (36, refl)
terminal_at terminal.NegatedKey = (37, refl)
terminal_at terminal.OpenTag = (38, refl)
terminal_at terminal.VoidTag = (39, refl)
terminal_at terminal.Dash = (40, refl)
terminal_at terminal.OpenTagPart = (41, refl)
terminal_at terminal.AttributeName = (42, refl)
terminal_at terminal.AttributePart = (43, refl)
terminal_at terminal.AttributeText = (44, refl)
terminal_at terminal.VoidSlash = (45, refl)
terminal_at terminal.Greater = (46, refl)
terminal_at terminal.ClosingTag = (47, refl)
terminal_at terminal.CloseTag = (48, refl)
terminal_at terminal.CloseTagPart = (49, refl)
terminal_at terminal.Closer = (50, refl)
terminal_at terminal.ExpressionIf = (51, refl)
terminal_at terminal.Then = (52, refl)
terminal_at terminal.Else = (53, refl)
terminal_at terminal.EqualTo = (54, refl)
terminal_at terminal.LessThan = (55, refl)
terminal_at terminal.Plus = (56, refl)
terminal_at terminal.Minus = (57, refl)
terminal_at terminal.Star = (58, refl)
terminal_at terminal.Slash = (59, refl)
terminal_at terminal.Percent = (60, refl)
terminal_at terminal.UsedName = (61, refl)
terminal_at terminal.Row = (62, refl)
terminal_at terminal.Dot = (63, refl)
terminal_at terminal.RowField = (64, refl)
terminal_at terminal.OpenParen = (65, refl)
terminal_at terminal.CloseParen = (66, refl)
terminal_at terminal.EmptyLiteral = (67, refl)
terminal_at terminal.TextLiteral = (68, refl)
terminal_at terminal.NumberLiteral = (69, refl)
terminal_at terminal.LiteralMinus = (70, refl)
terminal_at terminal.NegatedLiteral = (71, refl)
terminal_at terminal.End = (72, refl)

pub rule_at : (r : Rule) → (i : ℕ) × (production_at all_rules i ≡ Some r)
rule_at rule.Component = (0, refl)
rule_at rule.Items = (1, refl)
rule_at rule.Pairs = (2, refl)
rule_at rule.Key = (3, refl)
rule_at rule.Fields = (4, refl)
rule_at rule.Element = (5, refl)
rule_at rule.OpenTagMore = (6, refl)
rule_at rule.VoidTagMore = (7, refl)
rule_at rule.VoidEnd = (8, refl)
rule_at rule.ElementRest = (9, refl)
rule_at rule.ElementEnd = (10, refl)
rule_at rule.CloseTagMore = (11, refl)
rule_at rule.Attributes = (12, refl)
rule_at rule.AttributeMore = (13, refl)
rule_at rule.AttributeValue = (14, refl)
rule_at rule.AssignedValue = (15, refl)
rule_at rule.Expression = (16, refl)
rule_at rule.Test = (17, refl)
rule_at rule.TestMore = (18, refl)
rule_at rule.Sum = (19, refl)
rule_at rule.SumMore = (20, refl)
rule_at rule.Term = (21, refl)
rule_at rule.TermMore = (22, refl)
rule_at rule.Atom = (23, refl)
rule_at rule.Literal = (24, refl)

pub is_right : IsRight table lookahead
is_right = right_from table lookahead all_terminals all_rules all_seen terminal_at rule_at kind_at sampled passes

-- ---- and without the closer

closed_passes : is_predictive closed_table lookahead all_rules all_seen ≡ true
closed_passes = refl

pub closed_is_right : IsRight closed_table lookahead
closed_is_right = right_from closed_table lookahead all_terminals all_rules all_seen terminal_at rule_at kind_at sampled closed_passes

-- ---- a whole text

pub fits : Fits table lookahead text
fits = (λ k ends. or_left (matches terminal.End k) false ends, tt)

pub closed_fits : Fits closed_table lookahead text
closed_fits = (λ k ends. or_left (matches terminal.End k) false ends, tt)
