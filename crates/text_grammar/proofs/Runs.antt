-- Whether the machine of one token of lookahead gets through a list of tokens, by computing it.
use Rattle.std.proofs.Common.{◌≡◌, ℕ, zero, suc, Bool, true, false, not, ◌||◌, ◌&&◌, List, [], ◌∷◌, ◌++◌, Option, Some, None, inl, inr, refl, ap, subst, ◌∙◌}
use Rattle.grammar.specs.declared.symbol.Symbol.{Symbol}
use Rattle.grammar.specs.declared.symbol.Symbol.TheVariants.{Terminal, Rule, Action}
use Rattle.grammar.specs.Table.{Table, production_at, Derives, done, terminal, rule, action}
use Rattle.grammar.specs.Lookahead.{Lookahead}
use Rattle.grammar.specs.Machine.{Fits, IsRight}
use Rattle.grammar.proofs.Theory.{choice_is, and_cases, or_cases}

abbrev some_and : {A : Type 0} → Option A → (A → Bool) → Bool
some_and None holds = false
some_and (Some a) holds = holds a

abbrev none_or : {A : Type 0} → Option A → (A → Bool) → Bool
none_or None holds = true
none_or (Some a) holds = holds a

module _ {W R D K : Type 0} (t : Table W R D K) (h : Lookahead W R K) where
  -- within n steps all tokens are read, and nothing is left to be read
  abbrev pub runs : ℕ → List (Symbol W R D) → List K → Bool
  runs zero symbols ks = false
  runs (suc n) [] [] = true
  runs (suc n) [] (k ∷ ks) = false
  runs (suc n) (Terminal w ∷ rest) [] = false
  runs (suc n) (Terminal w ∷ rest) (k ∷ ks) = t.matches w k && runs n rest ks
  runs (suc n) (Rule r ∷ rest) [] = false
  runs (suc n) (Rule r ∷ rest) (k ∷ ks) = some_and (production_at (t.productions r) (h.choice r k)) (λ body. runs n (body ++ rest) (k ∷ ks))
  runs (suc n) (Action d ∷ rest) ks = runs n rest ks

  runs_rule : (r : R) (rest : List (Symbol W R D)) (k : K) (ks : List K) (o : Option (List (Symbol W R D))) (holds : List (Symbol W R D) → Bool) → production_at (t.productions r) (h.choice r k) ≡ o
      → ((body : List (Symbol W R D)) → holds body ≡ true → Derives t (body ++ rest) (k ∷ ks)) → some_and o holds ≡ true → Derives t (Rule r ∷ rest) (k ∷ ks)
  runs_rule r rest k ks None holds at more e = cc
  runs_rule r rest k ks (Some body) holds at more e = rule (h.choice r k) at (more body e)

  pub runs_derives : (n : ℕ) (symbols : List (Symbol W R D)) (ks : List K) → runs n symbols ks ≡ true → Derives t symbols ks
  runs_derives zero symbols ks e = cc
  runs_derives (suc n) [] [] e = done
  runs_derives (suc n) [] (k ∷ ks) e = cc
  runs_derives (suc n) (Terminal w ∷ rest) [] e = cc
  runs_derives (suc n) (Terminal w ∷ rest) (k ∷ ks) e =
      let both = and_cases (t.matches w k) (runs n rest ks) e in
      terminal both.0 (runs_derives n rest ks both.1)
  runs_derives (suc n) (Rule r ∷ rest) [] e = cc
  runs_derives (suc n) (Rule r ∷ rest) (k ∷ ks) e =
      runs_rule r rest k ks (production_at (t.productions r) (h.choice r k)) (λ body. runs n (body ++ rest) (k ∷ ks)) refl (λ body holds. runs_derives n (body ++ rest) (k ∷ ks) holds) e
  runs_derives (suc n) (Action d ∷ rest) ks e = action (runs_derives n rest ks e)

  -- within n steps the machine meets a token that it cannot read
  abbrev pub sticks : ℕ → List (Symbol W R D) → List K → Bool
  sticks zero symbols ks = false
  sticks (suc n) symbols [] = false
  sticks (suc n) [] (k ∷ ks) = true
  sticks (suc n) (Terminal w ∷ rest) (k ∷ ks) = not (t.matches w k) || sticks n rest ks
  sticks (suc n) (Rule r ∷ rest) (k ∷ ks) = none_or (production_at (t.productions r) (h.choice r k)) (λ body. sticks n (body ++ rest) (k ∷ ks))
  sticks (suc n) (Action d ∷ rest) (k ∷ ks) = sticks n rest (k ∷ ks)

  terminal_only : {w : W} {rest : List (Symbol W R D)} {k : K} {ks : List K} → Derives t (Terminal w ∷ rest) (k ∷ ks) → (t.matches w k ≡ true) × Derives t rest ks
  terminal_only (terminal has d) = (has, d)

  action_only : {d : D} {rest : List (Symbol W R D)} {ks : List K} → Derives t (Action d ∷ rest) ks → Derives t rest ks
  action_only (action d) = d

  nothing_left : {k : K} {ks : List K} {symbols : List (Symbol W R D)} → Derives t symbols (k ∷ ks) → symbols ≡ [] → ⊥
  nothing_left (terminal has d) same = cc
  nothing_left (rule i at d) same = cc
  nothing_left (action d) same = cc

  not_false : (b : Bool) → not b ≡ true → b ≡ true → ⊥
  not_false true e f = cc
  not_false false e f = cc

  module _ (right : IsRight t h) where
    rule_only : {r : R} {rest : List (Symbol W R D)} {k : K} {ks : List K} → Derives t (Rule r ∷ rest) (k ∷ ks) → Fits t h (Rule r ∷ rest)
        → (body : List (Symbol W R D)) × (production_at (t.productions r) (h.choice r k) ≡ Some body) × Fits t h (body ++ rest) × Derives t (body ++ rest) (k ∷ ks)
    rule_only {r = r} {rest = rest} {k = k} {ks = ks} (rule {body = body} i at d) fits =
        (body, ap (production_at (t.productions r)) (choice_is t h right r i body rest k ks fits at d) ∙ at, right.inner r i body at rest fits, d)

    sticks_rule : (o : Option (List (Symbol W R D))) (holds : List (Symbol W R D) → Bool) (body : List (Symbol W R D)) → o ≡ Some body → none_or o holds ≡ true → holds body ≡ true
    sticks_rule None holds body at e = cc
    sticks_rule (Some other) holds body at e =
        let same : other ≡ body = cc in
        subst (λ v. holds v ≡ true) same e

    pub sticks_refuse : (n : ℕ) (symbols : List (Symbol W R D)) (ks more : List K) → Fits t h symbols → sticks n symbols ks ≡ true → Derives t symbols (ks ++ more) → ⊥
    sticks_refuse zero symbols ks more fits e d = cc
    sticks_refuse (suc n) symbols [] more fits e d = cc
    sticks_refuse (suc n) [] (k ∷ ks) more fits e d = nothing_left d refl
    sticks_refuse (suc n) (Terminal w ∷ rest) (k ∷ ks) more fits e d =
        let next = terminal_only d in
        elim (or_cases (not (t.matches w k)) (sticks n rest ks) e) [
          | inl lacks ↦ not_false (t.matches w k) lacks next.0
          | inr later ↦ sticks_refuse n rest ks more fits later next.1
        ]
    sticks_refuse (suc n) (Rule r ∷ rest) (k ∷ ks) more fits e d =
        let next = rule_only d fits in
        sticks_refuse n (next.0 ++ rest) (k ∷ ks) more next.2
        (sticks_rule (production_at (t.productions r) (h.choice r k)) (λ body. sticks n (body ++ rest) (k ∷ ks)) next.0 next.1 e) next.3
    sticks_refuse (suc n) (Action d ∷ rest) (k ∷ ks) more fits e derives = sticks_refuse n rest (k ∷ ks) more fits e (action_only derives)
