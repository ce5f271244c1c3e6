-- Each step of the reader that takes no token leaves fewer of them.
use Rattle.std.proofs.Common.{◌≡◌, ℕ, zero, suc, ◌+◌, ◌<◌, ◌≤◌, Bool, true, false, ◌&&◌, nat_lt, if◌then◌else◌, List, [], ◌∷◌, ◌++◌, Some, refl, ap, subst, arith}
use Rattle.std.specs.List.{list_all}
use Rattle.std.proofs.lemmas.Bool.{ltb-true}
use Rattle.grammar.specs.declared.symbol.Symbol.{Symbol}
use Rattle.grammar.specs.declared.symbol.Symbol.TheVariants.{Terminal, Rule, Action}
use Rattle.grammar.specs.Table.{production_at}
use Rattle.grammar.specs.Lookahead.{implies, is_nullable}
use Rattle.grammar.specs.Descent.{goes_down}
use Rattle.grammar.proofs.Theory.{and_cases}
use Rattle.grammar.proofs.Tests.{all_at, implied}
use Rattle.token_reader.specs.Rules.{Rules, IsReadable}
use Rattle.token_reader.specs.Effort.{ahead, all_ahead, cost_at, cost, effort}

module _ {W R D S : Type 0} (rules : Rules W R D S) where
  abbrev Symbols : Type 0
  Symbols = List (Symbol W R D)

  abbrev empty : R → Bool
  empty r = rules.lookahead.nullable r

  abbrev down : ℕ → Symbols → Bool
  down n body = goes_down rules.table rules.lookahead rules.level n body

  sum_same : (a b c d : ℕ) → a ≡ c → b ≡ d → a + b ≡ c + d
  sum_same a b c d e f = omega arith

  -- two costs that agree on rules below n agree on symbols that lead to such
  same_ahead : (c d : R → ℕ) (n : ℕ) → ((q : R) → rules.level q < n → c q ≡ d q) → (body : Symbols) → down n body ≡ true → ahead empty c body ≡ ahead empty d body
  same_ahead c d n agree [] e = refl
  same_ahead c d n agree (Terminal w ∷ rest) e = refl
  same_ahead c d n agree (Action a ∷ rest) e = ap suc (same_ahead c d n agree rest e)
  same_ahead c d n agree (Rule r ∷ rest) e = by_empty (λ goes. same_ahead c d n agree rest goes) (empty r) refl
    where
      both : (nat_lt (rules.level r) n ≡ true) × (implies (empty r) (down n rest) ≡ true)
      both = and_cases (nat_lt (rules.level r) n) (implies (empty r) (down n rest)) e

      same : c r ≡ d r
      same = agree r (ltb-true (rules.level r) n both.0)

      by_empty : (down n rest ≡ true → ahead empty c rest ≡ ahead empty d rest) → (b : Bool) → empty r ≡ b
          → c r + (if empty r then ahead empty c rest else 0) ≡ d r + (if empty r then ahead empty d rest else 0)
      by_empty more true is = rw is (sum_same (c r) (ahead empty c rest) (d r) (ahead empty d rest) same (more (implied (empty r) (down n rest) both.1 is)))
      by_empty more false is = rw is (sum_same (c r) 0 (d r) 0 same refl)

  same_all : (c d : R → ℕ) (n : ℕ) → ((q : R) → rules.level q < n → c q ≡ d q) → (bodies : List Symbols) → list_all (down n) bodies ≡ true → all_ahead empty c bodies ≡ all_ahead empty d bodies
  same_all c d n agree [] e = refl
  same_all c d n agree (body ∷ bodies) e =
      let both = and_cases (down n body) (list_all (down n) bodies) e in
      sum_same (ahead empty c body) (all_ahead empty c bodies) (ahead empty d body) (all_ahead empty d bodies)
      (same_ahead c d n agree body both.0) (same_all c d n agree bodies both.1)

  module _ (ok : IsReadable rules) where
    -- the cost does not change where enough levels are looked at
    stays : (n m : ℕ) (r : R) → rules.level r < n → rules.level r < m → cost_at rules n r ≡ cost_at rules m r
    unfolding cost_at
    stays zero m r p q = absurd (omega arith)
    stays (suc n) zero r p q = absurd (omega arith)
    stays (suc n) (suc m) r p q =
        ap suc (same_all (cost_at rules n) (cost_at rules m) (rules.level r) (λ other less. stays n m other (omega arith) (omega arith)) (rules.table.productions r) (ok.down r))

    one_of_all : (c : R → ℕ) (bodies : List Symbols) (i : ℕ) (body : Symbols) → production_at bodies i ≡ Some body → ahead empty c body ≤ all_ahead empty c bodies
    one_of_all c [] i body at = cc
    one_of_all c (b ∷ bodies) zero body at =
        let same : b ≡ body = cc in
        let costs = ap (ahead empty c) same in
        omega arith
    one_of_all c (b ∷ bodies) (suc i) body at = let more = one_of_all c bodies i body at in omega arith

    -- a production costs less than its rule
    cheaper : (r : R) (i : ℕ) (body : Symbols) → production_at (rules.table.productions r) i ≡ Some body → ahead empty (cost rules) body < cost rules r
    unfolding cost_at cost
    cheaper r i body at =
        let goes = all_at (down (rules.level r)) (rules.table.productions r) i body (ok.down r) at in
        let same = same_ahead (cost_at rules (rules.level r)) (cost rules) (rules.level r)
        (λ q less. stays (rules.level r) (suc (rules.level q)) q less (omega arith)) body goes in
        let one = one_of_all (cost_at rules (rules.level r)) (rules.table.productions r) i body at in
        omega arith

    -- symbols on a stack
    ahead_append : (c : R → ℕ) (p q : Symbols) → ahead empty c (p ++ q) ≤ ahead empty c p + ahead empty c q
    ahead_append c [] q = omega arith
    ahead_append c (Terminal w ∷ p) q = omega arith
    ahead_append c (Action d ∷ p) q = let more = ahead_append c p q in omega arith
    ahead_append c (Rule r ∷ p) q = by_empty (ahead_append c p q) (empty r) refl
      where
        by_empty : ahead empty c (p ++ q) ≤ ahead empty c p + ahead empty c q → (b : Bool) → empty r ≡ b → c r + (if empty r then ahead empty c (p ++ q) else 0) ≤ c r + (if empty r then ahead empty c p else 0) + ahead empty c q
        by_empty more true is = rw is (omega arith)
        by_empty more false is = rw is (omega arith)

    ahead_full : (c : R → ℕ) (p q : Symbols) → is_nullable rules.table rules.lookahead p ≡ false → ahead empty c (p ++ q) ≡ ahead empty c p
    ahead_full c [] q e = cc
    ahead_full c (Terminal w ∷ p) q e = refl
    ahead_full c (Action d ∷ p) q e = ap suc (ahead_full c p q e)
    ahead_full c (Rule r ∷ p) q e = by_empty (λ others. ahead_full c p q others) (empty r) refl
      where
        by_empty : (is_nullable rules.table rules.lookahead p ≡ false → ahead empty c (p ++ q) ≡ ahead empty c p) → (b : Bool) → empty r ≡ b
            → c r + (if empty r then ahead empty c (p ++ q) else 0) ≡ c r + (if empty r then ahead empty c p else 0)
        by_empty more true is =
            let others : is_nullable rules.table rules.lookahead p ≡ false = subst (λ b. (b && is_nullable rules.table rules.lookahead p) ≡ false) is e in
            rw is (ap (λ n. c r + n) (more others))
        by_empty more false is = rw is refl

    pub less_action : (d : D) (stack : Symbols) → effort rules stack < effort rules (Action d ∷ stack)
    unfolding effort
    less_action d stack = omega arith

    pub less_rule : (r : R) (i : ℕ) (body stack : Symbols) → production_at (rules.table.productions r) i ≡ Some body → effort rules (body ++ stack) < effort rules (Rule r ∷ stack)
    unfolding effort
    less_rule r i body stack at = by_empty (empty r) refl
      where
        cheap : ahead empty (cost rules) body < cost rules r
        cheap = cheaper r i body at

        by_body : empty r ≡ false → (b : Bool) → is_nullable rules.table rules.lookahead body ≡ b → ahead empty (cost rules) (body ++ stack) < cost rules r + 0
        by_body is true none = let no : empty r ≡ true = ok.right.empty r i body at none in cc
        by_body is false none = let cheap = cheap in let same = ahead_full (cost rules) body stack none in omega arith

        by_empty : (b : Bool) → empty r ≡ b → ahead empty (cost rules) (body ++ stack) < cost rules r + (if empty r then ahead empty (cost rules) stack else 0)
        by_empty true is = rw is (let cheap = cheap in let sum = ahead_append (cost rules) body stack in omega arith)
        by_empty false is = rw is (by_body is (is_nullable rules.table rules.lookahead body) refl)
