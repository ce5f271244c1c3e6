-- What is known at each place of a text: a fact that tokens and actions change, and that each production leads to the fact
-- that its rule promises. The token that comes next is known from the token before it.
use Rattle.std.proofs.Common.{◌≡◌, ℕ, zero, suc, ◌==◌, Bool, true, false, if◌then◌else◌, List, [], ◌∷◌, ◌++◌, Ok, Some, None, Option, refl, sym, ap, subst, ◌∙◌, eqb-true}
use Rattle.std.specs.List.{find, list_all}
use Rattle.std.specs.Option.{option_and_then}
use Rattle.grammar.specs.declared.symbol.Symbol.TheVariants as s
use Rattle.grammar.specs.Ahead.{WithNext, with_next}
use Rattle.grammar.specs.Keeping.{Keeps}
use Rattle.grammar.specs.Semantics.{Reads, here, terminal, rule, action}
use Rattle.grammar.specs.Table.{production_at}
use Rattle.grammar.proofs.Tests.{all_at}
use Rattle.text_lexer.specs.declared.token.Token.{Token}
use Rattle.text_lexer.specs.Tokens.{Lexed}
use Rattle.text_grammar.specs.Component.{Symbols, matches, productions, table, text}
use Rattle.text_grammar.specs.declared.component.Action.{Action}
use Rattle.text_grammar.specs.declared.component.Rule.{Rule}
use Rattle.text_grammar.specs.declared.component.Terminal.{Terminal}
use Rattle.text_grammar.specs.Kind.{kind_of}
use Rattle.component_meaning.specs.State.{State, start}
use Rattle.component_meaning.specs.Checks.{Check, fails, failed, order}
use Rattle.component_meaning.specs.Effects.{effect}
use Rattle.component_meaning.specs.Actions.{perform}
use Rattle.component_meaning.specs.Meaning.{semantics}
use Rattle.component_meaning.specs.Component.{component_text}
use Rattle.component_meaning.proofs.KeptTokens.{accepted}
use Rattle.part_meaning.specs.Part.{IsReadTo}

-- ---- checks

none_before : {A : Type 0} (p : A → Bool) (xs : List A) (i : ℕ) (x : A) → find p xs ≡ None → production_at xs i ≡ Some x → p x ≡ false
none_before p [] i x none is = absurd cc
none_before p (y ∷ xs) i x none is = at (p y) refl i none is (λ j n e. none_before p xs j x n e)
  where
    at : (b : Bool) → p y ≡ b → (i : ℕ) → (if b then Some y else find p xs) ≡ None → production_at (y ∷ xs) i ≡ Some x
        → ((j : ℕ) → find p xs ≡ None → production_at xs j ≡ Some x → p x ≡ false) → p x ≡ false
    at true same i none is others = absurd cc
    at false same zero none is others = let e : y ≡ x = cc in subst (λ z. p z ≡ false) e same
    at false same (suc i) none is others = others i none is

-- an accepted token passes each check, by the check's place in the order
pub passes : (bytes : List ℕ) (w : Terminal) (a : State) (x : Token) (next : Lexed) (check : Check) (i : ℕ) → failed bytes w a x next ≡ None → production_at order i ≡ Some check
    → fails check bytes w a x next ≡ false
passes bytes w a x next check i none is = none_before (λ c. fails c bytes w a x next) order i check none is

-- ---- tokens in line

-- this comes next, where that is known
abbrev pub IsNext : Option Lexed → Lexed → Type 0
IsNext None x = Unit {0}
IsNext (Some y) x = x ≡ y

abbrev InLine : Option Lexed → List (WithNext Lexed) → Type 0
InLine known [] = Unit {0}
InLine known (x ∷ xs) = IsNext known x.token × InLine (Some x.next) xs

in_line : (known : Option Lexed) (x : Lexed) (xs : List Lexed) → IsNext known x → InLine known (with_next (x ∷ xs))
in_line known x [] is = (is, tt)
in_line known x (y ∷ xs) is = (is, in_line (Some y) y xs refl)

all_in_line : (xs : List Lexed) → InLine None (with_next xs)
all_in_line [] = tt
all_in_line (x ∷ xs) = in_line None x xs tt

-- ---- facts along the symbols

module _ {A : Type 0} (term : Terminal → A → Option A) (act : Action → A → Option A) (through : Rule → A → Option A) where
  -- the fact behind the symbols, where this one is known before them
  abbrev pub walk : Symbols → A → Option A
  walk [] now = Some now
  walk (s.Terminal w ∷ rest) now = option_and_then (walk rest) (term w now)
  walk (s.Action d ∷ rest) now = option_and_then (walk rest) (act d now)
  walk (s.Rule r ∷ rest) now = option_and_then (walk rest) (through r now)

  -- the fact in between
  middle : (o : Option A) (f : A → Option A) (after : A) → option_and_then f o ≡ Some after → (m : A) × (o ≡ Some m) × (f m ≡ Some after)
  middle None f after e = absurd cc
  middle (Some m) f after e = (m, refl, e)

  walk-append : (body rest : Symbols) (now mid after : A) → walk body now ≡ Some mid → walk rest mid ≡ Some after → walk (body ++ rest) now ≡ Some after
  walk-append [] rest now mid after one other = let e : now ≡ mid = cc in rw e other
  walk-append (s.Terminal w ∷ body) rest now mid after one other =
      let first = middle (term w now) (walk body) mid one in
      ap (option_and_then (walk (body ++ rest))) first.1 ∙ walk-append body rest first.0 mid after first.2 other
  walk-append (s.Action d ∷ body) rest now mid after one other =
      let first = middle (act d now) (walk body) mid one in
      ap (option_and_then (walk (body ++ rest))) first.1 ∙ walk-append body rest first.0 mid after first.2 other
  walk-append (s.Rule r ∷ body) rest now mid after one other =
      let first = middle (through r now) (walk body) mid one in
      ap (option_and_then (walk (body ++ rest))) first.1 ∙ walk-append body rest first.0 mid after first.2 other

  -- ---- the test, where each fact has a place in the list of all of them

  abbrev leads : (A → ℕ) → Option A → Option A → Bool
  leads code there None = true
  leads code None (Some b) = false
  leads code (Some a) (Some b) = code a == code b

  -- each production of the rule leads to what the rule promises
  abbrev pub keeps_promise : (A → ℕ) → Rule → A → Bool
  keeps_promise code r now = list_all (λ body. leads code (walk body now) (through r now)) (productions r)

  abbrev pub keeps_promises : (A → ℕ) → List A → Rule → Bool
  keeps_promises code all r = list_all (keeps_promise code r) all

  led : (code : A → ℕ) (all : List A) → ((a : A) → production_at all (code a) ≡ Some a) → (there promised : Option A) (after : A)
      → leads code there promised ≡ true → promised ≡ Some after → there ≡ Some after
  led code all listed there None after h is = absurd cc
  led code all listed None (Some b) after h is = absurd cc
  led code all listed (Some a) (Some b) after h is =
      let same : code a ≡ code b = eqb-true (code a) (code b) h in
      sym (listed a) ∙ ap (production_at all) same ∙ listed b ∙ is

  pub promised : (code : A → ℕ) (all : List A) → ((a : A) → production_at all (code a) ≡ Some a) → ((r : Rule) → keeps_promises code all r ≡ true)
      → (r : Rule) (i : ℕ) (body : Symbols) (now after : A) → production_at (productions r) i ≡ Some body → through r now ≡ Some after → walk body now ≡ Some after
  promised code all listed tests r i body now after is promises =
      let test = all_at (keeps_promise code r) all (code now) now (tests r) (listed now) in
      led code all listed (walk body now) (through r now) after (all_at (λ b. leads code (walk b now) (through r now)) (productions r) i body test is) promises

  -- ---- what the facts mean

  -- Holds says what a fact means of the state and of the token that comes next, where P holds of each state.
  pub record IsWalk (bytes : List ℕ) (P : State → Type 0) (Holds : A → State → Option Lexed → Type 0) : Type 0 where
    pub rules : (r : Rule) (i : ℕ) (body : Symbols) (now after : A) → production_at (productions r) i ≡ Some body → through r now ≡ Some after → walk body now ≡ Some after
    pub terminals : (w : Terminal) (now after : A) (a : State) (x : Token) (next : Lexed) (known : Option Lexed) → term w now ≡ Some after → matches w (kind_of bytes (Ok x)) ≡ true
        → failed bytes w a x next ≡ None → IsNext known (Ok x) → P a → Holds now a known → Holds after (effect bytes w a x) (Some next)
    pub actions : (d : Action) (now after : A) (a : State) (known : Option Lexed) → act d now ≡ Some after → P a → Holds now a known → Holds after (perform d a) known

  -- a fact that is known of the state
  pub record Knows (Holds : A → State → Option Lexed → Type 0) (stack : Symbols) (a : State) (known : Option Lexed) : Type 0 where
    pub now : A
    pub after : A
    pub walks : walk stack now ≡ Some after
    pub holds : Holds now a known

  module _ (bytes : List ℕ) (P : State → Type 0) (keeps : Keeps table (semantics bytes) P) (Holds : A → State → Option Lexed → Type 0) (is : IsWalk bytes P Holds) where
    pub walked : {stack out : Symbols} {a b : State} {xs : List (WithNext Lexed)} → Reads table (semantics bytes) stack a xs out b → (known : Option Lexed) → InLine known xs
        → P a → Knows Holds stack a known → (last : Option Lexed) × Knows Holds out b last
    walked here known line p k = (known, k)
    walked (terminal {w = w} {x = x} {rest = rest} {a = a} {b = b} has takes go) known line p k =
        let first = middle (term w k.now) (walk rest) k.after k.walks in
        let taken = accepted bytes w a x.token x.next b takes in
        let in_turn = subst (λ l. IsNext known l) taken.is line.0 in
        let matched = subst (λ l. matches w (kind_of bytes l) ≡ true) taken.is has in
        let after = is.terminals w k.now first.0 a taken.token x.next known first.1 matched taken.passes in_turn p k.holds in
        walked go (Some x.next) line.1 (keeps.terminal w a b x has takes p)
        (record { now = first.0; after = k.after; walks = first.2; holds = subst (λ c. Holds first.0 c (Some x.next)) (sym taken.after) after })
    walked (rule {r = r} {body = body} {rest = rest} {a = a} i is_there go) known line p k =
        let first = middle (through r k.now) (walk rest) k.after k.walks in
        walked go known line p
        (record { now = k.now; after = k.after; walks = walk-append body rest k.now first.0 k.after (is.rules r i body k.now first.0 is_there first.1) first.2; holds = k.holds })
    walked (action {d = d} {rest = rest} {a = a} go) known line p k =
        let first = middle (act d k.now) (walk rest) k.after k.walks in
        walked go known line (keeps.action d a p) (record { now = first.0; after = k.after; walks = first.2; holds = is.actions d k.now first.0 a known first.1 p k.holds })

    -- what is known at the end of a whole text
    pub walked_to_the_end : (last : State) → IsReadTo component_text bytes last → P start → (first after : A) → walk text first ≡ Some after → Holds first start None
        → (now : A) × (known : Option Lexed) × Holds now last known
    walked_to_the_end last read p first after goes holds =
        let end = walked read.means None (all_in_line read.tokens) p (record { now = first; after = after; walks = goes; holds = holds }) in
        (end.1.now, end.0, end.1.holds)
