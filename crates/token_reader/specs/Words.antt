-- A small language that the tests read: at most three names, one after another.
use Rattle.std.specs.Prelude.{ℕ, ◌+◌, ◌==◌, Bool, true, false, List, [], ◌∷◌, Result, Ok, Err, if◌then◌else◌}
use Rattle.grammar.specs.declared.symbol.Symbol.TheVariants as s
use Rattle.grammar.specs.Ahead.{WithNext}
use Rattle.grammar.specs.Lookahead.{Lookahead}
use Rattle.grammar.specs.Semantics.{Semantics}
use Rattle.grammar.specs.Table.{Table}
use Rattle.text_lexer.specs.declared.token.Token.{Token}
use Rattle.text_lexer.specs.Tokens.{Lexed}
use Rattle.text_grammar.specs.declared.kind.Class.{Class}
use Rattle.text_grammar.specs.declared.kind.Class.TheVariants.{Only}
use Rattle.text_grammar.specs.declared.kind.Kind.TheVariants as kind
use Rattle.text_grammar.specs.declared.kind.Seen.{Seen}
use Rattle.text_grammar.specs.Class.{is_in, sample_of}
use Rattle.text_grammar.specs.Kind.{kind_of}
use Rattle.component_items.specs.declared.refusal.Refusal.{Refusal}
use Rattle.component_items.specs.declared.refusal.Refusal.TheVariants.{Bad}
use Rattle.component_items.specs.declared.refusal.Why.TheVariants.{TooDeep}
use Rattle.part_meaning.specs.Part.{unexpected}
use Rattle.token_reader.specs.Rules.{Rules}

-- a terminal is a name, or the end
abbrev pub class_of : Bool → Class
class_of true = Only kind.Name
class_of false = Only kind.End

abbrev pub matches : Bool → Seen → Bool
matches w k = is_in (class_of w) k

abbrev pub table : Table Bool (Unit {0}) (Unit {0}) Seen
table = record {
  matches = matches;
  productions = λ r. (s.Terminal true ∷ s.Action tt ∷ s.Rule tt ∷ []) ∷ [] ∷ [];
}

abbrev pub lookahead : Lookahead Bool (Unit {0}) Seen
lookahead = record {
  first = λ r k. matches true k;
  nullable = λ r. true;
  follow = λ r k. matches false k;
  choice = λ r k. if matches true k then 0 else 1;
  shortest = λ r. 1;
  rank = λ r. 0;
  sample = λ w. sample_of (class_of w);
}

-- how many names there are, or that a fourth one is refused
abbrev pub accept_token : Bool → ℕ → Token → Result ℕ Refusal
accept_token true n x = if n == 3 then Err (Bad TooDeep (record { line = x.line; column = x.column })) else Ok (n + 1)
accept_token false n x = Ok n

abbrev pub accept : Bool → ℕ → Lexed → Result ℕ Refusal
accept w n (Ok x) = accept_token w n x
accept w n (Err bad) = Err (unexpected (Err bad))

abbrev pub semantics : List ℕ → Semantics Bool (Unit {0}) Seen (WithNext Lexed) ℕ Refusal
semantics text = record {
  kind = λ x. kind_of text x.token;
  accept = λ w n x. accept w n x.token;
  perform = λ d n. n;
  unexpected = λ x. unexpected x.token;
}

abbrev pub words : Rules Bool (Unit {0}) (Unit {0}) ℕ
words = record {
  table = table;
  lookahead = lookahead;
  text = s.Rule tt ∷ s.Terminal false ∷ [];
  semantics = semantics;
  level = λ r. 0;
  blocked = λ w. false;
  end = false;
  size = λ n. n;
}
