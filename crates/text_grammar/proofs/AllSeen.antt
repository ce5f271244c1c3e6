-- Every token that the grammars see.
use Rattle.std.proofs.Common.{◌≡◌, ℕ, Bool, true, false, List, [], ◌∷◌, ◌++◌, map, Some, refl}
use Rattle.grammar.specs.Table.{production_at}
use Rattle.text_lexer.specs.declared.token.Mark.{Mark}
use Rattle.text_lexer.specs.declared.token.Mark.TheVariants as mark
use Rattle.text_lexer.specs.declared.token.Reserved.{Reserved}
use Rattle.text_lexer.specs.declared.token.Reserved.TheVariants as word
use Rattle.text_grammar.specs.declared.kind.Kind.{Kind}
use Rattle.text_grammar.specs.declared.kind.Kind.TheVariants as kind
use Rattle.text_grammar.specs.declared.kind.Seen.{Seen}

abbrev all_words : List Reserved
all_words = word.Component ∷ word.Signal ∷ word.Memo ∷ word.Effect ∷ word.Resource ∷ word.After ∷ word.Load ∷ word.Store ∷ word.Max ∷ word.Cleanup ∷ word.Area ∷ word.If ∷ word.Then ∷ word.Else ∷ word.Each ∷ word.Row ∷ word.Empty ∷ word.Lt ∷ word.Phase ∷ word.Lane ∷ word.Set ∷ word.Get ∷ word.Pump ∷ word.Dispose ∷ word.Insert ∷ word.At ∷ word.Remove ∷ word.Move ∷ word.To ∷ []

abbrev all_marks : List Mark
all_marks = mark.ClosingTag ∷ mark.EqualTo ∷ mark.Arrow ∷ mark.Assign ∷ mark.Less ∷ mark.Greater ∷ mark.Slash ∷ mark.OpenBrace ∷ mark.CloseBrace ∷ mark.OpenParen ∷ mark.CloseParen ∷ mark.OpenBracket ∷ mark.CloseBracket ∷ mark.Dot ∷ mark.Plus ∷ mark.Minus ∷ mark.Star ∷ mark.Percent ∷ []

abbrev all_kinds : List Kind
all_kinds = map (λ w. kind.Reserved w) all_words ++ map (λ m. kind.Mark m) all_marks ++ kind.Name ∷ kind.VoidName ∷ kind.One ∷ kind.Number ∷ kind.Text ∷ kind.Bad ∷ kind.End ∷ []

abbrev seen : Bool → Kind → Seen
seen touches k = record { kind = k; touches = touches }

abbrev pub all_seen : List Seen
all_seen = map (seen false) all_kinds ++ map (seen true) all_kinds

seen_at : (k : Kind) (touches : Bool) → (i : ℕ) × (production_at all_seen i ≡ Some (seen touches k))
seen_at (kind.Reserved word.Component) false = (0, refl)
seen_at (kind.Reserved word.Signal) false = (1, refl)
seen_at (kind.Reserved word.Memo) false = (2, refl)
seen_at (kind.Reserved word.Effect) false = (3, refl)
seen_at (kind.Reserved word.Resource) false = (4, refl)
seen_at (kind.Reserved word.After) false = (5, refl)
seen_at (kind.Reserved word.Load) false = (6, refl)
seen_at (kind.Reserved word.Store) false = (7, refl)
seen_at (kind.Reserved word.Max) false = (8, refl)
seen_at (kind.Reserved word.Cleanup) false = (9, refl)
seen_at (kind.Reserved word.Area) false = (10, refl)
seen_at (kind.Reserved word.If) false = (11, refl)
seen_at (kind.Reserved word.Then) false = (12, refl)
seen_at (kind.Reserved word.Else) false = (13, refl)
seen_at (kind.Reserved word.Each) false = (14, refl)
seen_at (kind.Reserved word.Row) false = (15, refl)
seen_at (kind.Reserved word.Empty) false = (16, refl)
seen_at (kind.Reserved word.Lt) false = (17, refl)
seen_at (kind.Reserved word.Phase) false = (18, refl)
seen_at (kind.Reserved word.Lane) false = (19, refl)
seen_at (kind.Reserved word.Set) false = (20, refl)
seen_at (kind.Reserved word.Get) false = (21, refl)
seen_at (kind.Reserved word.Pump) false = (22, refl)
seen_at (kind.Reserved word.Dispose) false = (23, refl)
seen_at (kind.Reserved word.Insert) false = (24, refl)
seen_at (kind.Reserved word.At) false = (25, refl)
seen_at (kind.Reserved word.Remove) false = (26, refl)
seen_at (kind.Reserved word.Move) false = (27, refl)
seen_at (kind.Reserved word.To) false = (28, refl)
seen_at (kind.Mark mark.ClosingTag) false = (29, refl)
seen_at (kind.Mark mark.EqualTo) false = (30, refl)
seen_at (kind.Mark mark.Arrow) false = (31, refl)
seen_at (kind.Mark mark.Assign) false = (32, refl)
seen_at (kind.Mark mark.Less) false = (33, refl)
seen_at (kind.Mark mark.Greater) false = (34, refl)
seen_at (kind.Mark mark.Slash) false = (35, refl)
seen_at (kind.Mark mark.OpenBrace) false = (36, refl)
seen_at (kind.Mark mark.CloseBrace) false = (37, refl)
seen_at (kind.Mark mark.OpenParen) false = (38, refl)
seen_at (kind.Mark mark.CloseParen) false = (39, refl)
seen_at (kind.Mark mark.OpenBracket) false = (40, refl)
seen_at (kind.Mark mark.CloseBracket) false = (41, refl)
seen_at (kind.Mark mark.Dot) false = (42, refl)
seen_at (kind.Mark mark.Plus) false = (43, refl)
seen_at (kind.Mark mark.Minus) false = (44, refl)
seen_at (kind.Mark mark.Star) false = (45, refl)
seen_at (kind.Mark mark.Percent) false = (46, refl)
seen_at kind.Name false = (47, refl)
seen_at kind.VoidName false = (48, refl)
seen_at kind.One false = (49, refl)
seen_at kind.Number false = (50, refl)
seen_at kind.Text false = (51, refl)
seen_at kind.Bad false = (52, refl)
seen_at kind.End false = (53, refl)
seen_at (kind.Reserved word.Component) true = (54, refl)
seen_at (kind.Reserved word.Signal) true = (55, refl)
seen_at (kind.Reserved word.Memo) true = (56, refl)
seen_at (kind.Reserved word.Effect) true = (57, refl)
seen_at (kind.Reserved word.Resource) true = (58, refl)
seen_at (kind.Reserved word.After) true = (59, refl)
seen_at (kind.Reserved word.Load) true = (60, refl)
seen_at (kind.Reserved word.Store) true = (61, refl)
seen_at (kind.Reserved word.Max) true = (62, refl)
seen_at (kind.Reserved word.Cleanup) true = (63, refl)
seen_at (kind.Reserved word.Area) true = (64, refl)
seen_at (kind.Reserved word.If) true = (65, refl)
seen_at (kind.Reserved word.Then) true = (66, refl)
seen_at (kind.Reserved word.Else) true = (67, refl)
seen_at (kind.Reserved word.Each) true = (68, refl)
seen_at (kind.Reserved word.Row) true = (69, refl)
seen_at (kind.Reserved word.Empty) true = (70, refl)
seen_at (kind.Reserved word.Lt) true = (71, refl)
seen_at (kind.Reserved word.Phase) true = (72, refl)
seen_at (kind.Reserved word.Lane) true = (73, refl)
seen_at (kind.Reserved word.Set) true = (74, refl)
seen_at (kind.Reserved word.Get) true = (75, refl)
seen_at (kind.Reserved word.Pump) true = (76, refl)
seen_at (kind.Reserved word.Dispose) true = (77, refl)
seen_at (kind.Reserved word.Insert) true = (78, refl)
seen_at (kind.Reserved word.At) true = (79, refl)
seen_at (kind.Reserved word.Remove) true = (80, refl)
seen_at (kind.Reserved word.Move) true = (81, refl)
seen_at (kind.Reserved word.To) true = (82, refl)
seen_at (kind.Mark mark.ClosingTag) true = (83, refl)
seen_at (kind.Mark mark.EqualTo) true = (84, refl)
seen_at (kind.Mark mark.Arrow) true = (85, refl)
seen_at (kind.Mark mark.Assign) true = (86, refl)
seen_at (kind.Mark mark.Less) true = (87, refl)
seen_at (kind.Mark mark.Greater) true = (88, refl)
seen_at (kind.Mark mark.Slash) true = (89, refl)
seen_at (kind.Mark mark.OpenBrace) true = (90, refl)
seen_at (kind.Mark mark.CloseBrace) true = (91, refl)
seen_at (kind.Mark mark.OpenParen) true = (92, refl)
seen_at (kind.Mark mark.CloseParen) true = (93, refl)
seen_at (kind.Mark mark.OpenBracket) true = (94, refl)
seen_at (kind.Mark mark.CloseBracket) true = (95, refl)
seen_at (kind.Mark mark.Dot) true = (96, refl)
seen_at (kind.Mark mark.Plus) true = (97, refl)
seen_at (kind.Mark mark.Minus) true = (98, refl)
seen_at (kind.Mark mark.Star) true = (99, refl)
seen_at (kind.Mark mark.Percent) true = (100, refl)
seen_at kind.Name true = (101, refl)
seen_at kind.VoidName true = (102, refl)
seen_at kind.One true = (103, refl)
seen_at kind.Number true = (104, refl)
seen_at kind.Text true = (105, refl)
seen_at kind.Bad true = (106, refl)
seen_at kind.End true = (107, refl)

pub kind_at : (x : Seen) → (i : ℕ) × (production_at all_seen i ≡ Some x)
kind_at x = seen_at x.kind x.touches
