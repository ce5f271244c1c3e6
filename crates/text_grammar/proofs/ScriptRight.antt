-- One token of lookahead decides the grammar of a script text.
use Rattle.std.proofs.Common.{◌≡◌, ℕ, true, false, List, [], ◌∷◌, Some, refl}
use Rattle.std.specs.List.{list_all}
use Rattle.grammar.specs.Table.{production_at}
use Rattle.grammar.specs.Lookahead.{is_predictive}
use Rattle.grammar.specs.Machine.{Fits, IsRight}
use Rattle.grammar.proofs.Theory.{or_left}
use Rattle.grammar.proofs.Tests.{right_from}
use Rattle.text_grammar.specs.declared.script.Terminal.{Terminal}
use Rattle.text_grammar.specs.declared.script.Terminal.TheVariants as terminal
use Rattle.text_grammar.specs.declared.script.Rule.{Rule}
use Rattle.text_grammar.specs.declared.script.Rule.TheVariants as rule
use Rattle.text_grammar.specs.Script.{table, matches, text}
use Rattle.text_grammar.specs.ScriptAhead.{lookahead}
use Rattle.text_grammar.proofs.AllSeen.{all_seen, kind_at}

abbrev all_terminals : List Terminal
all_terminals = terminal.Phase ∷ terminal.Lane ∷ terminal.Set ∷ terminal.Get ∷ terminal.Pump ∷ terminal.Dispose ∷ terminal.Insert ∷ terminal.Remove ∷ terminal.Move ∷ terminal.SetName ∷ terminal.GetName ∷ terminal.AreaName ∷ terminal.StoreName ∷ terminal.Dot ∷ terminal.OpenBracket ∷ terminal.CloseBracket ∷ terminal.RowField ∷ terminal.TextKey ∷ terminal.NumberKey ∷ terminal.KeyMinus ∷ terminal.NegatedKey ∷ terminal.Assign ∷ terminal.OpenBrace ∷ terminal.CloseBrace ∷ terminal.InsertedField ∷ terminal.At ∷ terminal.To ∷ terminal.PlaceNumber ∷ terminal.EmptyLiteral ∷ terminal.TextLiteral ∷ terminal.NumberLiteral ∷ terminal.LiteralMinus ∷ terminal.NegatedLiteral ∷ terminal.End ∷ []

abbrev pub all_rules : List Rule
all_rules = rule.Script ∷ rule.Phases ∷ rule.Lanes ∷ rule.Operations ∷ rule.SetPath ∷ rule.SetPathMore ∷ rule.GetPath ∷ rule.GetPathMore ∷ rule.AreaPath ∷ rule.AreaPathMore ∷ rule.StorePath ∷ rule.StorePathMore ∷ rule.Key ∷ rule.Fields ∷ rule.InsertPlace ∷ rule.Literal ∷ []

passes : is_predictive table lookahead all_rules all_seen ≡ true
passes = refl

sampled : list_all (λ t. table.matches t (lookahead.sample t)) all_terminals ≡ true
sampled = refl

terminal_at : (t : Terminal) → (i : ℕ) × (production_at all_terminals i ≡ Some t)
terminal_at terminal.Phase = (0, refl)
terminal_at terminal.Lane = (1, refl)
terminal_at terminal.Set = (2, refl)
terminal_at terminal.Get = (3, refl)
terminal_at terminal.Pump = (4, refl)
terminal_at terminal.Dispose = (5, refl)
terminal_at terminal.Insert = (6, refl)
terminal_at terminal.Remove = (7, refl)
terminal_at terminal.Move = (8, refl)
terminal_at terminal.SetName = (9, refl)
terminal_at terminal.GetName = (10, refl)
terminal_at terminal.AreaName = (11, refl)
terminal_at terminal.StoreName = (12, refl)
terminal_at terminal.Dot = (13, refl)
terminal_at terminal.OpenBracket = (14, refl)
terminal_at terminal.CloseBracket = (15, refl)
terminal_at terminal.RowField = (16, refl)
terminal_at terminal.TextKey = (17, refl)
terminal_at terminal.NumberKey = (18, refl)
terminal_at terminal.KeyMinus = (19, refl)
terminal_at terminal.NegatedKey = (20, refl)
terminal_at terminal.Assign = (21, refl)
terminal_at terminal.OpenBrace = (22, refl)
terminal_at terminal.CloseBrace = (23, refl)
terminal_at terminal.InsertedField = (24, refl)
terminal_at terminal.At = (25, refl)
terminal_at terminal.To = (26, refl)
terminal_at terminal.PlaceNumber = (27, refl)
terminal_at terminal.EmptyLiteral = (28, refl)
terminal_at terminal.TextLiteral = (29, refl)
terminal_at terminal.NumberLiteral = (30, refl)
terminal_at terminal.LiteralMinus = (31, refl)
terminal_at terminal.NegatedLiteral = (32, refl)
terminal_at terminal.End = (33, refl)

pub rule_at : (r : Rule) → (i : ℕ) × (production_at all_rules i ≡ Some r)
rule_at rule.Script = (0, refl)
rule_at rule.Phases = (1, refl)
rule_at rule.Lanes = (2, refl)
rule_at rule.Operations = (3, refl)
rule_at rule.SetPath = (4, refl)
rule_at rule.SetPathMore = (5, refl)
rule_at rule.GetPath = (6, refl)
rule_at rule.GetPathMore = (7, refl)
rule_at rule.AreaPath = (8, refl)
rule_at rule.AreaPathMore = (9, refl)
rule_at rule.StorePath = (10, refl)
rule_at rule.StorePathMore = (11, refl)
rule_at rule.Key = (12, refl)
rule_at rule.Fields = (13, refl)
rule_at rule.InsertPlace = (14, refl)
rule_at rule.Literal = (15, refl)

pub is_right : IsRight table lookahead
is_right = right_from table lookahead all_terminals all_rules all_seen terminal_at rule_at kind_at sampled passes

-- ---- a whole text

pub fits : Fits table lookahead text
fits = (λ k ends. or_left (matches terminal.End k) false ends, tt)
