-- A language as the reader takes it.
use Rattle.std.specs.Prelude.{◌≡◌, ℕ, ◌+◌, ◌≤◌, Bool, true, false, List, length, Result, Ok, Err}
use Rattle.grammar.specs.declared.symbol.Symbol.{Symbol}
use Rattle.grammar.specs.Ahead.{WithNext}
use Rattle.grammar.specs.Descent.{LeadsDown}
use Rattle.grammar.specs.Ends.{IsLast, Blocks}
use Rattle.grammar.specs.Lookahead.{Lookahead}
use Rattle.grammar.specs.Machine.{IsRight, Fits}
use Rattle.grammar.specs.Semantics.{Semantics, Reads}
use Rattle.grammar.specs.Table.{Table}
use Rattle.text_lexer.specs.Tokens.{Lexed, is_last}
use Rattle.text_grammar.specs.declared.kind.Seen.{Seen}
use Rattle.text_grammar.specs.Kind.{kind_of, bad_seen}
use Rattle.component_items.specs.declared.refusal.Refusal.{Refusal}
use Rattle.component_items.specs.declared.refusal.Refusal.TheVariants.{Bad, NoMemory}
use Rattle.part_meaning.specs.Part.{Language, unexpected}

-- A language but for its first state and first line. Each rule has a level, and each state a size, which grows with the
-- tokens that are taken. A terminal that is blocked takes no token.
pub record Rules (W R D S : Type 0) : Type 0 where
  pub table : Table W R D Seen
  pub lookahead : Lookahead W R Seen
  pub text : List (Symbol W R D)
  pub semantics : List ℕ → Semantics W D Seen (WithNext Lexed) S Refusal
  pub level : R → ℕ
  pub blocked : W → Bool
  pub end : W
  pub size : S → ℕ

abbrev pub language : {W R D S : Type 0} → Rules W R D S → S → ℕ → Language W R D S
language rules first first_line = record {
  table = rules.table;
  lookahead = rules.lookahead;
  text = rules.text;
  semantics = rules.semantics;
  start = first;
  first_line = first_line;
}

-- What the rules have to meet: one token of lookahead decides; before a token is taken, each rule leads to lower ones
-- alone; no terminal takes the last token but the one that closes a text; none takes what is no token; and where
-- tokens of a text lead to a state, it is larger by one for each of them at the most.
pub record IsReadable {W R D S : Type 0} (rules : Rules W R D S) : Type 0 where
  pub right : IsRight rules.table rules.lookahead
  pub fits : Fits rules.table rules.lookahead rules.text
  pub down : LeadsDown rules.table rules.lookahead rules.level
  pub blocks : (bytes : List ℕ) → Blocks (rules.semantics bytes) rules.blocked
  pub last : (bytes : List ℕ) (x : Lexed) → is_last x ≡ true → IsLast rules.table rules.blocked rules.end (kind_of bytes x) rules.text
  pub no_token : (w : W) → rules.table.matches w bad_seen ≡ false
  pub kinds : (bytes : List ℕ) (x : WithNext Lexed) → (rules.semantics bytes).kind x ≡ kind_of bytes x.token
  pub not_allowed : (bytes : List ℕ) (x : WithNext Lexed) → (rules.semantics bytes).unexpected x ≡ unexpected x.token
  pub bounded : (bytes : List ℕ) (first a : S) (xs : List (WithNext Lexed)) (out : List (Symbol W R D)) → Reads rules.table (rules.semantics bytes) rules.text first xs out a
      → rules.size a ≤ rules.size first + length xs

-- the answer and the state that it leaves are the outcome, but for want of memory
abbrev pub Accepts : {S : Type 0} → Result S Refusal → Result (Unit {0}) Refusal → S → Type 0
Accepts outcome (Ok _) new = outcome ≡ Ok new
Accepts outcome (Err (Bad w p)) new = outcome ≡ Err (Bad w p)
Accepts outcome (Err NoMemory) new = Unit {0}
