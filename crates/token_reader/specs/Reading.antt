-- Where the reader stands.
use Rattle.std.specs.Prelude.{◌≡◌, ◌⊎◌, ℕ, suc, ◌-◌, true, not, ◌||◌, List, [], ◌∷◌, ◌++◌, length, get_or, if◌then◌else◌, Option, Some, None}
use Rattle.grammar.specs.declared.symbol.Symbol.{Symbol}
use Rattle.grammar.specs.declared.symbol.Symbol.TheVariants.{Terminal, Rule, Action}
use Rattle.grammar.specs.Ahead.{WithNext}
use Rattle.grammar.specs.Stands.{Stands}
use Rattle.grammar.specs.Table.{production_at}
use Rattle.text_lexer.specs.Cursor.{Cursor, start_of}
use Rattle.text_lexer.specs.Tokens.{Lexed, IsGiven, Leads, past, is_last}
use Rattle.text_grammar.specs.declared.kind.Seen.{Seen}
use Rattle.text_grammar.specs.Kind.{kind_of}
use Rattle.token_reader.specs.Rules.{Rules}

-- each with the one behind it, the last one with the one that comes next
abbrev pub paired : {A : Type 0} → List A → A → List (WithNext A)
paired [] x = []
paired (y ∷ ys) x = record { token = y; next = get_or ys 0 x } ∷ paired ys x

module _ {W R D S : Type 0} (rules : Rules W R D S) where
  -- no terminal of the stack takes a token of the kind, but for one that stands last
  abbrev pub Closes : Seen → List (Symbol W R D) → Type 0
  Closes k [] = Unit {0}
  Closes k (Terminal w ∷ rest) = (rest ≡ []) ⊎ (((not (rules.table.matches w k) || rules.blocked w) ≡ true) × Closes k rest)
  Closes k (Rule r ∷ rest) = Closes k rest
  Closes k (Action d ∷ rest) = Closes k rest

  -- From the first stack and state on, actions and the productions that the next token chooses lead to these. No token
  -- is taken.
  pub data Settles (bytes : List ℕ) (next : Seen) (from : List (Symbol W R D)) (first : S) : List (Symbol W R D) → S → Type 0 where
    here : Settles bytes next from first from first
    rule : {r : R} {body rest : List (Symbol W R D)} {a : S} → Settles bytes next from first (Rule r ∷ rest) a
        → production_at (rules.table.productions r) (rules.lookahead.choice r next) ≡ Some body → Settles bytes next from first (body ++ rest) a
    action : {d : D} {rest : List (Symbol W R D)} {a : S} → Settles bytes next from first (Action d ∷ rest) a
        → Settles bytes next from first rest ((rules.semantics bytes).perform d a)

  -- The tokens before were read from the first state on, this one comes next and then the other, the cursor is behind
  -- both, and the stack is what has to come.
  pub record IsReading (bytes : List ℕ) (first_line : ℕ) (first : S) (now : Cursor) (token next : Lexed) (stack : List (Symbol W R D)) (state : S) : Type 0 where
    pub before : List Lexed
    pub at : Cursor
    pub leads : Leads (start_of bytes first_line) before at
    pub given : IsGiven at token
    pub next_given : IsGiven (past at token) next
    pub moved : now ≡ past (past at token) next
    pub stands : Stands rules.table rules.lookahead (rules.semantics bytes) rules.text first (paired before token) (record { token = token; next = next }) stack state
    pub closes : (x : Lexed) → is_last x ≡ true → Closes (kind_of bytes x) stack

-- the terminal that was found on top, or none where the stack is empty
abbrev pub on_top : {W R D : Type 0} → Option W → List (Symbol W R D) → List (Symbol W R D)
on_top None stack = []
on_top (Some w) stack = Terminal w ∷ stack

-- a bound on the tokens that may still come behind a token that leads to this cursor
abbrev pub left : Cursor → Lexed → Lexed → ℕ
left now token next = if is_last token then 0 else (if is_last next then 1 else suc (suc (length now.text - now.at)))
