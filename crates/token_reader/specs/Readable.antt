-- The small language can be read.
use Rattle.std.proofs.Common.{◌≡◌, ℕ, ◌+◌, ◌≤◌, ◌==◌, Bool, true, false, List, [], ◌∷◌, length, Some, Ok, Err, slice_range, refl, subst, arith}
use Rattle.std.proofs.lemmas.Bool.{false≢true}
use Rattle.grammar.specs.declared.symbol.Symbol.{Symbol}
use Rattle.grammar.specs.declared.symbol.Symbol.TheVariants as s
use Rattle.grammar.specs.Ahead.{WithNext}
use Rattle.grammar.specs.Semantics.{Reads, here, terminal, rule, action}
use Rattle.grammar.specs.Ends.{IsLast, Blocks, rule_stops}
use Rattle.grammar.specs.Machine.{Fits, IsRight}
use Rattle.grammar.specs.Table.{production_at}
use Rattle.grammar.proofs.Tests.{right_from}
use Rattle.text_lexer.specs.declared.token.Token.{Token}
use Rattle.text_lexer.specs.declared.token.TokenKind.{TokenKind}
use Rattle.text_lexer.specs.declared.token.TokenKind.TheVariants as token
use Rattle.text_lexer.specs.Lexing.{is_end}
use Rattle.text_lexer.specs.Tokens.{Lexed, is_last}
use Rattle.text_grammar.specs.declared.kind.Seen.{Seen}
use Rattle.text_grammar.specs.Kind.{kind_of, kind_of_token, end_seen, bad_seen}
use Rattle.text_grammar.proofs.AllSeen.{all_seen, kind_at}
use Rattle.token_reader.specs.Rules.{IsReadable}
use Rattle.token_reader.specs.Words.{matches, table, lookahead, accept, accept_token, semantics, words}

terminal_at : (w : Bool) → (i : ℕ) × (production_at (true ∷ false ∷ []) i ≡ Some w)
terminal_at true = (0, refl)
terminal_at false = (1, refl)

rule_at : (r : Unit {0}) → (i : ℕ) × (production_at (tt ∷ []) i ≡ Some r)
rule_at r = (0, refl)

is_right : IsRight table lookahead
is_right = right_from table lookahead (true ∷ false ∷ []) (tt ∷ []) all_seen terminal_at rule_at kind_at refl refl

fits : Fits table lookahead words.text
fits = (λ k ends. ends, tt)

seen_end : (k : TokenKind) (bytes : List ℕ) (touches : Bool) → is_end k ≡ true → end_seen touches ≡ record { kind = kind_of_token k bytes; touches = touches }
seen_end token.Name bytes touches is = absurd (false≢true is)
seen_end (token.Reserved w) bytes touches is = absurd (false≢true is)
seen_end token.Number bytes touches is = absurd (false≢true is)
seen_end token.Text bytes touches is = absurd (false≢true is)
seen_end (token.Mark m) bytes touches is = absurd (false≢true is)
seen_end token.End bytes touches is = refl

last_of : (k : Seen) → rule_stops table (λ w. false) k tt ≡ true → IsLast table (λ w. false) false k words.text
last_of k inside = record { closes = record { inner = s.Rule tt ∷ []; whole = refl }; before = refl; inside = λ r. inside }

last_at : (touches : Bool) → IsLast table (λ w. false) false (end_seen touches) words.text
last_at true = last_of (end_seen true) refl
last_at false = last_of (end_seen false) refl

last_token : (bytes : List ℕ) (x : Lexed) → is_last x ≡ true → IsLast table (λ w. false) false (kind_of bytes x) words.text
last_token bytes (Ok x) is =
    subst (λ k. IsLast table (λ w. false) false k words.text) (seen_end x.kind (slice_range bytes x.start x.end) x.touches is) (last_at x.touches)
last_token bytes (Err bad) is = last_of bad_seen refl

no_token : (w : Bool) → matches w bad_seen ≡ false
no_token true = refl
no_token false = refl

one_more_token : (w : Bool) (a b : ℕ) (x : Token) → accept_token w a x ≡ Ok b → b ≤ a + 1
one_more_token false a b x took = let same : a ≡ b = cc in omega arith
one_more_token true a b x took = by_limit (a == 3) refl
  where
    by_limit : (v : Bool) → (a == 3) ≡ v → b ≤ a + 1
    by_limit true is = absurd (let no = rw is at took in cc)
    by_limit false is = let some = rw is at took in let same : a + 1 ≡ b = cc in omega arith

one_more : (w : Bool) (a b : ℕ) (x : Lexed) → accept w a x ≡ Ok b → b ≤ a + 1
one_more w a b (Ok x) took = one_more_token w a b x took
one_more w a b (Err bad) took = cc

bounded : (bytes : List ℕ) {symbols out : List (Symbol Bool (Unit {0}) (Unit {0}))} {a b : ℕ} {xs : List (WithNext Lexed)} → Reads table (semantics bytes) symbols a xs out b → b ≤ a + length xs
bounded bytes here = omega arith
bounded bytes (terminal {w = w} {x = x} {a = a} {b = b} sees took go) = let rest = bounded bytes go in let more = one_more w a b x.token took in omega arith
bounded bytes (rule i at go) = bounded bytes go
bounded bytes (action go) = bounded bytes go

none_blocked : (bytes : List ℕ) → Blocks (semantics bytes) (λ w. false)
none_blocked bytes w a b x shut took = cc

pub readable : IsReadable words
readable = record {
  right = is_right;
  fits = fits;
  down = λ r. refl;
  blocks = none_blocked;
  last = last_token;
  no_token = no_token;
  kinds = λ bytes x. refl;
  not_allowed = λ bytes x. refl;
  bounded = λ bytes first a xs out reads. bounded bytes reads;
}
