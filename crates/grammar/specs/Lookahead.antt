-- What one token of lookahead tells about a grammar, and the test that such a table of lookahead is right.
use Rattle.std.specs.Prelude.{◌≡◌, ℕ, suc, nat_lt, Bool, true, false, ◌&&◌, ◌||◌, not, ◌==◌, List, [], ◌∷◌, Option, Some, None, slice_get}
use Rattle.std.specs.List.{list_all}
use Rattle.grammar.specs.declared.symbol.Symbol.{Symbol}
use Rattle.grammar.specs.declared.symbol.Symbol.TheVariants.{Terminal, Rule, Action}
use Rattle.grammar.specs.Table.{Table, production_at}

pub record Lookahead (W R K : Type 0) : Type 0 where
  -- the kinds that the rule may begin with, whether it may stand for nothing, and the kinds that may follow it
  pub first : R → K → Bool
  pub nullable : R → Bool
  pub follow : R → K → Bool
  -- the number of the production to take
  pub choice : R → K → ℕ
  -- the production that leads to an end, how far that is, and a kind for each terminal
  pub shortest : R → ℕ
  pub rank : R → ℕ
  pub sample : W → K

-- each is in the list
abbrev pub ListsAll : {A : Type 0} → List A → Type 0
ListsAll {A = A} xs = (x : A) → (i : ℕ) × (slice_get xs i ≡ Some x)

abbrev pub implies : Bool → Bool → Bool
implies a b = not a || b

module _ {W R D K : Type 0} (t : Table W R D K) (h : Lookahead W R K) where
  -- the symbols may begin with the kind
  abbrev pub may_begin : List (Symbol W R D) → K → Bool
  may_begin [] k = false
  may_begin (Terminal w ∷ rest) k = t.matches w k
  may_begin (Action d ∷ rest) k = may_begin rest k
  may_begin (Rule r ∷ rest) k = h.first r k || (h.nullable r && may_begin rest k)

  -- the symbols may stand for nothing
  abbrev pub is_nullable : List (Symbol W R D) → Bool
  is_nullable [] = true
  is_nullable (Terminal w ∷ rest) = false
  is_nullable (Action d ∷ rest) = is_nullable rest
  is_nullable (Rule r ∷ rest) = h.nullable r && is_nullable rest

  -- each rule of the body may be followed by the kind where something after it may begin with it
  abbrev pub follows : List (Symbol W R D) → K → Bool → Bool
  follows [] k after = true
  follows (Terminal w ∷ rest) k after = follows rest k after
  follows (Action d ∷ rest) k after = follows rest k after
  follows (Rule r ∷ rest) k after = implies (may_begin rest k || (is_nullable rest && after)) (h.follow r k) && follows rest k after

  abbrev pub production_is_right : R → K → ℕ → List (Symbol W R D) → Bool
  production_is_right r k i body =
      implies (may_begin body k) (h.first r k)
      && follows body k (h.follow r k)
      && implies (may_begin body k || (is_nullable body && h.follow r k)) (h.choice r k == i)

  abbrev pub productions_are_right : R → K → ℕ → List (List (Symbol W R D)) → Bool
  productions_are_right r k i [] = true
  productions_are_right r k i (body ∷ productions) = production_is_right r k i body && productions_are_right r k (suc i) productions

  -- each rule of the body has a lower rank, and each terminal has a kind
  abbrev pub ranks_below : ℕ → List (Symbol W R D) → Bool
  ranks_below n [] = true
  ranks_below n (Terminal w ∷ rest) = t.matches w (h.sample w) && ranks_below n rest
  ranks_below n (Action d ∷ rest) = ranks_below n rest
  ranks_below n (Rule r ∷ rest) = nat_lt (h.rank r) n && ranks_below n rest

  abbrev pub short_ends : ℕ → Option (List (Symbol W R D)) → Bool
  short_ends n (Some body) = ranks_below n body
  short_ends n None = false

  abbrev pub rule_is_right : List K → R → Bool
  rule_is_right kinds r =
      list_all (λ k. productions_are_right r k 0 (t.productions r)) kinds
      && list_all (λ body. implies (is_nullable body) (h.nullable r)) (t.productions r)
      && short_ends (h.rank r) (production_at (t.productions r) (h.shortest r))

  -- the test, over all rules and kinds: one token of lookahead is enough
  abbrev pub is_predictive : List R → List K → Bool
  is_predictive rules kinds = list_all (rule_is_right kinds) rules

  -- the test, over all terminals: each has a kind
  abbrev pub has_samples : List W → Bool
  has_samples words = list_all (λ w. t.matches w (h.sample w)) words

  -- the test, over all kinds: what stands after each rule of the symbols may follow it, and nothing follows them
  abbrev pub follows_alone : List (Symbol W R D) → List K → Bool
  follows_alone s kinds = list_all (λ k. follows s k false) kinds
