-- Where a token leads that begins an operand of an expression.
use Rattle.std.proofs.Common.{◌≡◌, ℕ, ◌+◌, ◌-◌, ◌≤◌, Bool, false, [], ◌∷◌, ◌++◌, length, take, Some, refl, sym, ◌∙◌, ap, subst, arith, append-nil, append_assoc, length-append}
use Rattle.std.proofs.Math.Seq.{take-append-add}
use Rattle.grammar.specs.declared.symbol.Symbol.TheVariants as s
use Rattle.grammar.specs.Leading.{Leads, stays, goes, Expands}
use Rattle.grammar.specs.Table.{production_at}
use Rattle.grammar.proofs.Leading.{leads_first}
use Rattle.text_lexer.specs.declared.token.Mark.TheVariants as mark
use Rattle.text_lexer.specs.declared.token.Reserved.TheVariants as word
use Rattle.text_grammar.specs.declared.kind.Kind.{Kind}
use Rattle.text_grammar.specs.declared.kind.Kind.TheVariants as kind
use Rattle.text_grammar.specs.declared.kind.Seen.{Seen}
use Rattle.text_grammar.specs.declared.component.Rule.{Rule}
use Rattle.text_grammar.specs.declared.component.Rule.TheVariants as rule
use Rattle.text_grammar.specs.declared.component.Action.TheVariants as action
use Rattle.text_grammar.specs.Class.{is_same}
use Rattle.text_grammar.specs.Component.{Symbols, table}
use Rattle.text_grammar.specs.ComponentAhead.{lookahead}
use Rattle.text_grammar.specs.Operands.{operand, operators}

abbrev ExpandsTo : Seen → Rule → Symbols → Type 0
ExpandsTo x r out = Expands table lookahead x r out

abbrev seen : Kind → Bool → Seen
seen k touches = record { kind = k; touches = touches }

-- ---- an operand

atom : (k : Kind) (touches : Bool) → ExpandsTo (seen k touches) rule.Atom (operand k)
atom kind.Name touches = record { body = operand kind.Name; chosen = refl; leads = stays }
atom kind.VoidName touches = record { body = operand kind.VoidName; chosen = refl; leads = stays }
atom (kind.Reserved word.Row) touches = record { body = operand (kind.Reserved word.Row); chosen = refl; leads = stays }
atom (kind.Mark mark.OpenParen) touches = record { body = operand (kind.Mark mark.OpenParen); chosen = refl; leads = stays }
atom (kind.Reserved word.Empty) touches = record { body = s.Rule rule.Literal ∷ s.Action action.MakeLiteral ∷ []; chosen = refl; leads = goes refl stays }
atom kind.Text touches = record { body = s.Rule rule.Literal ∷ s.Action action.MakeLiteral ∷ []; chosen = refl; leads = goes refl stays }
atom kind.One touches = record { body = s.Rule rule.Literal ∷ s.Action action.MakeLiteral ∷ []; chosen = refl; leads = goes refl stays }
atom kind.Number touches = record { body = s.Rule rule.Literal ∷ s.Action action.MakeLiteral ∷ []; chosen = refl; leads = goes refl stays }
atom _ touches = record { body = s.Rule rule.Literal ∷ s.Action action.MakeLiteral ∷ []; chosen = refl; leads = goes refl stays }

-- ---- with operators that may go on behind it

term : (x : Seen) (out : Symbols) → ExpandsTo x rule.Atom out → ExpandsTo x rule.Term (out ++ s.Rule rule.TermMore ∷ [])
term x out e = record { body = s.Rule rule.Atom ∷ s.Rule rule.TermMore ∷ []; chosen = refl; leads = leads_first table lookahead x e (s.Rule rule.TermMore ∷ []) }

sum : (x : Seen) (out : Symbols) → ExpandsTo x rule.Term out → ExpandsTo x rule.Sum (out ++ s.Rule rule.SumMore ∷ [])
sum x out e = record { body = s.Rule rule.Term ∷ s.Rule rule.SumMore ∷ []; chosen = refl; leads = leads_first table lookahead x e (s.Rule rule.SumMore ∷ []) }

test : (x : Seen) (out : Symbols) → ExpandsTo x rule.Sum out → ExpandsTo x rule.Test (out ++ s.Rule rule.TestMore ∷ [])
test x out e = record { body = s.Rule rule.Sum ∷ s.Rule rule.TestMore ∷ []; chosen = refl; leads = leads_first table lookahead x e (s.Rule rule.TestMore ∷ []) }

no_if : (k : Kind) (touches : Bool) → is_same (kind.Reserved word.If) k ≡ false → lookahead.choice rule.Expression (seen k touches) ≡ 1
no_if (kind.Reserved word.If) touches none = cc
no_if _ touches none = refl

expression : (x : Seen) (out : Symbols) → is_same (kind.Reserved word.If) x.kind ≡ false → ExpandsTo x rule.Test out → ExpandsTo x rule.Expression out
expression x out none e = record {
  body = s.Rule rule.Test ∷ [];
  chosen = ap (λ i. production_at (table.productions rule.Expression) i) (no_if x.kind x.touches none);
  leads = subst (λ l. Leads table lookahead x (s.Rule rule.Test ∷ []) l) (append-nil out) (leads_first table lookahead x e []);
}

-- ---- as the code has them

pub at_atom : (x : Seen) (out : Symbols) → out ≡ operand x.kind ++ take 0 operators → ExpandsTo x rule.Atom out
at_atom x out is = subst (λ l. ExpandsTo x rule.Atom l) (sym (is ∙ append-nil (operand x.kind))) (atom x.kind x.touches)

pub at_term : (x : Seen) (out : Symbols) → out ≡ operand x.kind ++ take 1 operators → ExpandsTo x rule.Term out
at_term x out is = subst (λ l. ExpandsTo x rule.Term l) (sym is) (term x (operand x.kind) (atom x.kind x.touches))

sum_of : (x : Seen) → ExpandsTo x rule.Sum (operand x.kind ++ take 2 operators)
sum_of x =
    subst (λ l. ExpandsTo x rule.Sum l) (append_assoc (operand x.kind) (s.Rule rule.TermMore ∷ []) (s.Rule rule.SumMore ∷ []))
    (sum x (operand x.kind ++ s.Rule rule.TermMore ∷ []) (term x (operand x.kind) (atom x.kind x.touches)))

pub at_sum : (x : Seen) (out : Symbols) → out ≡ operand x.kind ++ take 2 operators → ExpandsTo x rule.Sum out
at_sum x out is = subst (λ l. ExpandsTo x rule.Sum l) (sym is) (sum_of x)

test_of : (x : Seen) → ExpandsTo x rule.Test (operand x.kind ++ operators)
test_of x =
    subst (λ l. ExpandsTo x rule.Test l) (append_assoc (operand x.kind) (take 2 operators) (s.Rule rule.TestMore ∷ []))
    (test x (operand x.kind ++ take 2 operators) (sum_of x))

pub at_expression : (x : Seen) (out : Symbols) → is_same (kind.Reserved word.If) x.kind ≡ false → out ≡ operand x.kind ++ take 3 operators → ExpandsTo x rule.Expression out
at_expression x out none is = subst (λ l. ExpandsTo x rule.Expression l) (sym is) (expression x (operand x.kind ++ operators) none (test_of x))

pub at_production : (x : Seen) (r : Rule) (out : Symbols) → production_at (table.productions r) (lookahead.choice r x) ≡ Some out → ExpandsTo x r out
at_production x r out chosen = record { body = out; chosen = chosen; leads = stays }

-- an operand with so many operators is a part of what begins with it
pub part_of : (all front : Symbols) (n : ℕ) → all ≡ front ++ operators → n ≤ 3 → take (length all - (3 - n)) all ≡ front ++ take n operators
part_of all front n is few =
    let long = ap length is ∙ length-append front operators in
    let here : length all - (3 - n) ≡ length front + n = omega arith in
    rw here (ap (λ l. take (length front + n) l) is ∙ take-append-add front operators n)
