-- What is known at each place of a text: a fact that tokens and actions change, and that each production leads to the fact
-- that its rule promises. The token that comes next is known from the token before it.
use Rattle.std.proofs.Common.{◌≡◌, ℕ, zero, suc, ◌==◌, Bool, true, false, if◌then◌else◌, List, [], ◌∷◌, ◌++◌, Ok, Some, None, Option, refl, sym, ap, subst, ◌∙◌, eqb-true}
use Rattle.std.specs.List.{find, list_all}
use Rattle.std.specs.Option.{option_and_then}
use Rattle.grammar.specs.declared.symbol.Symbol.{Symbol}
use Rattle.grammar.specs.declared.symbol.Symbol.TheVariants as s
use Rattle.grammar.specs.Ahead.{WithNext, with_next}
use Rattle.grammar.specs.Keeping.{Keeps}
use Rattle.grammar.specs.Semantics.{Semantics, Reads, here, terminal, rule, action}
use Rattle.grammar.specs.Table.{Table, production_at}
use Rattle.grammar.proofs.Tests.{all_at}

-- what is found nowhere is not at any place
pub none_before : {A : Type 0} (p : A → Bool) (xs : List A) (i : ℕ) (x : A) → find p xs ≡ None → production_at xs i ≡ Some x → p x ≡ false
none_before p [] i x none is = absurd cc
none_before p (y ∷ xs) i x none is = at (p y) refl i none is (λ j n e. none_before p xs j x n e)
  where
    at : (b : Bool) → p y ≡ b → (i : ℕ) → (if b then Some y else find p xs) ≡ None → production_at (y ∷ xs) i ≡ Some x
        → ((j : ℕ) → find p xs ≡ None → production_at xs j ≡ Some x → p x ≡ false) → p x ≡ false
    at true same i none is others = absurd cc
    at false same zero none is others = let e : y ≡ x = cc in subst (λ z. p z ≡ false) e same
    at false same (suc i) none is others = others i none is

-- ---- tokens in line

module _ {T : Type 0} where
  -- this comes next, where that is known
  abbrev pub IsNext : Option T → T → Type 0
  IsNext None x = Unit {0}
  IsNext (Some y) x = x ≡ y

  abbrev pub InLine : Option T → List (WithNext T) → Type 0
  InLine known [] = Unit {0}
  InLine known (x ∷ xs) = IsNext known x.token × InLine (Some x.next) xs

  in_line : (known : Option T) (x : T) (xs : List T) → IsNext known x → InLine known (with_next (x ∷ xs))
  in_line known x [] is = (is, tt)
  in_line known x (y ∷ xs) is = (is, in_line (Some y) y xs refl)

  pub all_in_line : (xs : List T) → InLine None (with_next xs)
  all_in_line [] = tt
  all_in_line (x ∷ xs) = in_line None x xs tt

-- the fact in between
middle : {A : Type 0} (o : Option A) (f : A → Option A) (after : A) → option_and_then f o ≡ Some after → (m : A) × (o ≡ Some m) × (f m ≡ Some after)
middle None f after e = absurd cc
middle (Some m) f after e = (m, refl, e)

module _ {W R D K T S E A : Type 0} (t : Table W R D K) (m : Semantics W D K (WithNext T) S E) (term : W → A → Option A) (act : D → A → Option A) (through : R → A → Option A) where
  -- ---- facts along the symbols

  -- the fact behind the symbols, where this one is known before them
  abbrev pub walk : List (Symbol W R D) → A → Option A
  walk [] now = Some now
  walk (s.Terminal w ∷ rest) now = option_and_then (walk rest) (term w now)
  walk (s.Action d ∷ rest) now = option_and_then (walk rest) (act d now)
  walk (s.Rule r ∷ rest) now = option_and_then (walk rest) (through r now)

  walk-append : (body rest : List (Symbol W R D)) (now mid after : A) → walk body now ≡ Some mid → walk rest mid ≡ Some after → walk (body ++ rest) now ≡ Some after
  walk-append [] rest now mid after one other = let e : now ≡ mid = cc in rw e other
  walk-append (s.Terminal w ∷ body) rest now mid after one other =
      let first = middle (term w now) (walk body) mid one in
      ap (option_and_then (walk (body ++ rest))) first.1 ∙ walk-append body rest first.0 mid after first.2 other
  walk-append (s.Action d ∷ body) rest now mid after one other =
      let first = middle (act d now) (walk body) mid one in
      ap (option_and_then (walk (body ++ rest))) first.1 ∙ walk-append body rest first.0 mid after first.2 other
  walk-append (s.Rule r ∷ body) rest now mid after one other =
      let first = middle (through r now) (walk body) mid one in
      ap (option_and_then (walk (body ++ rest))) first.1 ∙ walk-append body rest first.0 mid after first.2 other

  -- ---- the test, where each fact has a place in the list of all of them

  abbrev leads : (A → ℕ) → Option A → Option A → Bool
  leads code there None = true
  leads code None (Some b) = false
  leads code (Some a) (Some b) = code a == code b

  -- each production of the rule leads to what the rule promises
  abbrev pub keeps_promise : (A → ℕ) → R → A → Bool
  keeps_promise code r now = list_all (λ body. leads code (walk body now) (through r now)) (t.productions r)

  abbrev pub keeps_promises : (A → ℕ) → List A → R → Bool
  keeps_promises code all r = list_all (keeps_promise code r) all

  led : (code : A → ℕ) (all : List A) → ((a : A) → production_at all (code a) ≡ Some a) → (there promised : Option A) (after : A)
      → leads code there promised ≡ true → promised ≡ Some after → there ≡ Some after
  led code all listed there None after h is = absurd cc
  led code all listed None (Some b) after h is = absurd cc
  led code all listed (Some a) (Some b) after h is =
      let same : code a ≡ code b = eqb-true (code a) (code b) h in
      sym (listed a) ∙ ap (production_at all) same ∙ listed b ∙ is

  pub promised : (code : A → ℕ) (all : List A) → ((a : A) → production_at all (code a) ≡ Some a) → ((r : R) → keeps_promises code all r ≡ true)
      → (r : R) (i : ℕ) (body : List (Symbol W R D)) (now after : A) → production_at (t.productions r) i ≡ Some body → through r now ≡ Some after → walk body now ≡ Some after
  promised code all listed tests r i body now after is promises =
      let test = all_at (keeps_promise code r) all (code now) now (tests r) (listed now) in
      led code all listed (walk body now) (through r now) after (all_at (λ b. leads code (walk b now) (through r now)) (t.productions r) i body test is) promises

  -- ---- what the facts mean

  -- Holds says what a fact means of the state and of the token that comes next, where P holds of each state.
  pub record IsWalk (P : S → Type 0) (Holds : A → S → Option T → Type 0) : Type 0 where
    pub rules : (r : R) (i : ℕ) (body : List (Symbol W R D)) (now after : A) → production_at (t.productions r) i ≡ Some body → through r now ≡ Some after → walk body now ≡ Some after
    pub terminals : (w : W) (now after : A) (a b : S) (x : WithNext T) (known : Option T) → term w now ≡ Some after → t.matches w (m.kind x) ≡ true → m.accept w a x ≡ Ok b
        → IsNext known x.token → P a → Holds now a known → Holds after b (Some x.next)
    pub actions : (d : D) (now after : A) (a : S) (known : Option T) → act d now ≡ Some after → P a → Holds now a known → Holds after (m.perform d a) known

  -- a fact that is known of the state
  pub record Knows (Holds : A → S → Option T → Type 0) (after : A) (stack : List (Symbol W R D)) (a : S) (known : Option T) : Type 0 where
    pub now : A
    pub walks : walk stack now ≡ Some after
    pub holds : Holds now a known

  module _ (P : S → Type 0) (keeps : Keeps t m P) (Holds : A → S → Option T → Type 0) (is : IsWalk P Holds) where
    pub walked : {stack out : List (Symbol W R D)} {a b : S} {xs : List (WithNext T)} → Reads t m stack a xs out b → (known : Option T) (after : A) → InLine known xs
        → P a → Knows Holds after stack a known → (last : Option T) × Knows Holds after out b last
    walked here known after line p k = (known, k)
    walked (terminal {w = w} {x = x} {rest = rest} {a = a} {b = b} has takes go) known after line p k =
        let first = middle (term w k.now) (walk rest) after k.walks in
        let behind = is.terminals w k.now first.0 a b x known first.1 has takes line.0 p k.holds in
        walked go (Some x.next) after line.1 (keeps.terminal w a b x has takes p) (record { now = first.0; walks = first.2; holds = behind })
    walked (rule {r = r} {body = body} {rest = rest} {a = a} i is_there go) known after line p k =
        let first = middle (through r k.now) (walk rest) after k.walks in
        walked go known after line p
        (record { now = k.now; walks = walk-append body rest k.now first.0 after (is.rules r i body k.now first.0 is_there first.1) first.2; holds = k.holds })
    walked (action {d = d} {rest = rest} {a = a} go) known after line p k =
        let first = middle (act d k.now) (walk rest) after k.walks in
        walked go known after line (keeps.action d a p) (record { now = first.0; walks = first.2; holds = is.actions d k.now first.0 a known first.1 p k.holds })

    -- what is known at the end
    pub walked_to_the_end : {stack : List (Symbol W R D)} {a b : S} (xs : List T) → Reads t m stack a (with_next xs) [] b → P a → (first after : A) → walk stack first ≡ Some after → Holds first a None
        → (known : Option T) × Holds after b known
    walked_to_the_end {b = b} xs reads p first after goes holds =
        let end = walked reads None after (all_in_line xs) p (record { now = first; walks = goes; holds = holds }) in
        let same : end.1.now ≡ after = there end.1.now after end.1.walks in
        (end.0, subst (λ f. Holds f b end.0) same end.1.holds)
      where
        there : (now after : A) → Some now ≡ Some after → now ≡ after
        there now after e = cc
