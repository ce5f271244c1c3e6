-- Where the tests pass, the hints are right.
use Rattle.std.proofs.Common.{◌≡◌, ℕ, zero, suc, ◌+◌, ◌<◌, Bool, true, false, ◌&&◌, ◌||◌, ◌==◌, nat_lt, List, [], ◌∷◌, ◌++◌, Option, Some, None, inl, inr, refl, subst, arith, slice_get}
use Rattle.std.specs.List.{list_all}
use Rattle.std.proofs.lemmas.Bool.{ltb-true, eqb-true}
use Rattle.grammar.specs.declared.symbol.Symbol.{Symbol}
use Rattle.grammar.specs.declared.symbol.Symbol.TheVariants.{Terminal, Rule, Action}
use Rattle.grammar.specs.Table.{Table, production_at, Derives, done, terminal, rule, action}
use Rattle.grammar.specs.Lookahead.{Lookahead, ListsAll, implies, may_begin, is_nullable, follows, production_is_right, productions_are_right, ranks_below, short_ends, rule_is_right, is_predictive}
use Rattle.grammar.specs.Machine.{Fits, IsRight}
use Rattle.grammar.specs.Ends.{stops, rule_stops, IsLast}
use Rattle.grammar.proofs.Theory.{or_left, or_right, and_cases, and_both, begin_append}

pub all_at : {A : Type 0} (p : A → Bool) (xs : List A) (i : ℕ) (x : A) → list_all p xs ≡ true → production_at xs i ≡ Some x → p x ≡ true
all_at p [] i x h at = cc
all_at p (y ∷ xs) zero x h at =
    let same : y ≡ x = cc in
    subst (λ z. p z ≡ true) same (and_cases (p y) (list_all p xs) h).0
all_at p (y ∷ xs) (suc i) x h at = all_at p xs i x (and_cases (p y) (list_all p xs) h).1 at

pub implied : (a b : Bool) → implies a b ≡ true → a ≡ true → b ≡ true
implied true b h e = h
implied false b h e = cc

module _ {W R D K : Type 0} (t : Table W R D K) (h : Lookahead W R K) where
  ways_at : (r : R) (k : K) (j i : ℕ) (productions : List (List (Symbol W R D))) (body : List (Symbol W R D)) → productions_are_right t h r k j productions ≡ true
      → production_at productions i ≡ Some body → production_is_right t h r k (j + i) body ≡ true
  ways_at r k j i [] body e at = cc
  ways_at r k j zero (w ∷ productions) body e at =
      let same : w ≡ body = cc in
      let here = (and_cases (production_is_right t h r k j w) (productions_are_right t h r k (suc j) productions) e).0 in
      let from : j ≡ j + 0 = omega arith in
      subst (λ n. production_is_right t h r k n body ≡ true) from (subst (λ v. production_is_right t h r k j v ≡ true) same here)
  ways_at r k j (suc i) (w ∷ productions) body e at =
      let more = ways_at r k (suc j) i productions body (and_cases (production_is_right t h r k j w) (productions_are_right t h r k (suc j) productions) e).1 at in
      let from : suc j + i ≡ j + suc i = omega arith in
      subst (λ n. production_is_right t h r k n body ≡ true) from more

  fits_body : (body rest : List (Symbol W R D)) (after : K → Bool) → ((k : K) → follows t h body k (after k) ≡ true)
      → ((k : K) → may_begin t h rest k ≡ true → after k ≡ true) → Fits t h rest → Fits t h (body ++ rest)
  fits_body [] rest after inside at_end fits = fits
  fits_body (Terminal w ∷ body) rest after inside at_end fits = fits_body body rest after inside at_end fits
  fits_body (Action d ∷ body) rest after inside at_end fits = fits_body body rest after inside at_end fits
  fits_body (Rule r ∷ body) rest after inside at_end fits =
      let parts = λ (k : K). and_cases (implies (may_begin t h body k || (is_nullable t h body && after k)) (h.follow r k)) (follows t h body k (after k)) (inside k) in (
        (λ k b.
            implied (may_begin t h body k || (is_nullable t h body && after k)) (h.follow r k) (parts k).0
            (elim (begin_append t h body rest k b) [
              | inl f ↦ or_left (may_begin t h body k) (is_nullable t h body && after k) f
              | inr p ↦ or_right (may_begin t h body k) (is_nullable t h body && after k) (and_both (is_nullable t h body) (after k) p.0 (at_end k p.1))
            ])),
        fits_body body rest after (λ k. (parts k).1) at_end fits,
      )

  -- with a rest that derives something, symbols of lower rank do
  ends_with : (n : ℕ) → ((body rest : List (Symbol W R D)) (m : ℕ) → m < n → ranks_below t h m body ≡ true → (ds : List K) → Derives t rest ds → (ks : List K) × Derives t (body ++ rest) ks)
      → ((r : R) → short_ends t h (h.rank r) (production_at (t.productions r) (h.shortest r)) ≡ true)
      → (body rest : List (Symbol W R D)) → ranks_below t h n body ≡ true → (ds : List K) → Derives t rest ds → (ks : List K) × Derives t (body ++ rest) ks
  ends_with n lower short [] rest e ds d = (ds, d)
  ends_with n lower short (Terminal w ∷ body) rest e ds d =
      let both = and_cases (t.matches w (h.sample w)) (ranks_below t h n body) e in
      let more = ends_with n lower short body rest both.1 ds d in
      (h.sample w ∷ more.0, terminal both.0 more.1)
  ends_with n lower short (Action x ∷ body) rest e ds d =
      let more = ends_with n lower short body rest e ds d in
      (more.0, action more.1)
  ends_with n lower short (Rule r ∷ body) rest e ds d =
      let both = and_cases (nat_lt (h.rank r) n) (ranks_below t h n body) e in
      let more = ends_with n lower short body rest both.1 ds d in
      let less : h.rank r < n = ltb-true (h.rank r) n both.0 in
      short_body (production_at (t.productions r) (h.shortest r)) refl (short r) less more
    where
      short_body : (o : Option (List (Symbol W R D))) → production_at (t.productions r) (h.shortest r) ≡ o → short_ends t h (h.rank r) o ≡ true → h.rank r < n
          → ((ks : List K) × Derives t (body ++ rest) ks) → (ks : List K) × Derives t (Rule r ∷ (body ++ rest)) ks
      short_body None at passes less more = cc
      short_body (Some first) at passes less more =
          let found = lower first (body ++ rest) (h.rank r) less passes more.0 more.1 in
          (found.0, rule (h.shortest r) at found.1)

  ends_below : ((r : R) → short_ends t h (h.rank r) (production_at (t.productions r) (h.shortest r)) ≡ true)
      → (n m : ℕ) → m < n → (body rest : List (Symbol W R D)) → ranks_below t h m body ≡ true → (ds : List K) → Derives t rest ds → (ks : List K) × Derives t (body ++ rest) ks
  ends_below short zero m less body rest e ds d = absurd (omega arith)
  ends_below short (suc n) m less body rest e ds d =
      ends_with m (λ body' rest' m' less' e' ds' d'. ends_below short n m' (omega arith) body' rest' e' ds' d') short body rest e ds d

  ends_all : ((w : W) → t.matches w (h.sample w) ≡ true) → ((r : R) → short_ends t h (h.rank r) (production_at (t.productions r) (h.shortest r)) ≡ true)
      → (s : List (Symbol W R D)) → (ks : List K) × Derives t s ks
  ends_all words short [] = ([], done)
  ends_all words short (Terminal w ∷ rest) =
      let more = ends_all words short rest in
      (h.sample w ∷ more.0, terminal (words w) more.1)
  ends_all words short (Action x ∷ rest) =
      let more = ends_all words short rest in
      (more.0, action more.1)
  ends_all words short (Rule r ∷ rest) =
      let more = ends_all words short rest in
      short_body (production_at (t.productions r) (h.shortest r)) refl (short r) more
    where
      short_body : (o : Option (List (Symbol W R D))) → production_at (t.productions r) (h.shortest r) ≡ o → short_ends t h (h.rank r) o ≡ true
          → ((ks : List K) × Derives t rest ks) → (ks : List K) × Derives t (Rule r ∷ rest) ks
      short_body None at passes more = cc
      short_body (Some first) at passes more =
          let found = ends_below short (suc (h.rank r)) (h.rank r) (omega arith) first rest passes more.0 more.1 in
          (found.0, rule (h.shortest r) at found.1)

  -- The tests, over every terminal, rule and kind, show that the hints are right.
  pub right_from : (words : List W) (rules : List R) (kinds : List K)
      → ((w : W) → (i : ℕ) × (production_at words i ≡ Some w))
      → ((r : R) → (i : ℕ) × (production_at rules i ≡ Some r))
      → ((k : K) → (i : ℕ) × (production_at kinds i ≡ Some k))
      → list_all (λ w. t.matches w (h.sample w)) words ≡ true
      → is_predictive t h rules kinds ≡ true → IsRight t h
  right_from words rules kinds word_at rule_at kind_at sampled passes =
      let by_rule = λ (r : R). all_at (rule_is_right t h kinds) rules (rule_at r).0 r passes (rule_at r).1 in
      let parts = λ (r : R). and_cases
      (list_all (λ k. productions_are_right t h r k 0 (t.productions r)) kinds && list_all (λ body. implies (is_nullable t h body) (h.nullable r)) (t.productions r))
      (short_ends t h (h.rank r) (production_at (t.productions r) (h.shortest r))) (by_rule r) in
      let tests = λ (r : R). and_cases
      (list_all (λ k. productions_are_right t h r k 0 (t.productions r)) kinds) (list_all (λ body. implies (is_nullable t h body) (h.nullable r)) (t.productions r)) (parts r).0 in
      let at_kind = λ (r : R) (k : K). all_at (λ k. productions_are_right t h r k 0 (t.productions r)) kinds (kind_at k).0 k (tests r).0 (kind_at k).1 in
      let at_way = λ (r : R) (i : ℕ) (body : List (Symbol W R D)) (k : K) (at : production_at (t.productions r) i ≡ Some body). four r k i body (ways_at r k 0 i (t.productions r) body (at_kind r k) at) in
      record {
        first = λ r i body k at. (at_way r i body k at).0;
        empty = λ r i body at e. implied (is_nullable t h body) (h.nullable r) (all_at (λ body. implies (is_nullable t h body) (h.nullable r)) (t.productions r) i body (tests r).1 at) e;
        inner = λ r i body at rest fits. fits_body body rest (h.follow r) (λ k. (at_way r i body k at).1) fits.0 fits.1;
        choice_first = λ r i body k at b. (at_way r i body k at).2 (or_left (may_begin t h body k) (is_nullable t h body && h.follow r k) b);
        choice_empty = λ r i body k at e f. (at_way r i body k at).2 (or_right (may_begin t h body k) (is_nullable t h body && h.follow r k) (and_both (is_nullable t h body) (h.follow r k) e f));
        ends = ends_all (λ w. all_at (λ w. t.matches w (h.sample w)) words (word_at w).0 w sampled (word_at w).1) (λ r. (parts r).1);
      }
    where
      four : (r : R) (k : K) (i : ℕ) (body : List (Symbol W R D)) → production_is_right t h r k (0 + i) body ≡ true
          → (may_begin t h body k ≡ true → h.first r k ≡ true) × (follows t h body k (h.follow r k) ≡ true) × ((may_begin t h body k || (is_nullable t h body && h.follow r k)) ≡ true → h.choice r k ≡ i)
      four r k i body e =
          let a = implies (may_begin t h body k) (h.first r k) in
          let b = follows t h body k (h.follow r k) in
          let c = implies (may_begin t h body k || (is_nullable t h body && h.follow r k)) (h.choice r k == (0 + i)) in
          let last = and_cases (a && b) c e in
          let both = and_cases a b last.0 in (
            (λ m. implied (may_begin t h body k) (h.first r k) both.0 m),
            both.1,
            (λ m.
                let same = eqb-true (h.choice r k) (0 + i) (implied (may_begin t h body k || (is_nullable t h body && h.follow r k)) (h.choice r k == (0 + i)) last.1 m) in
                omega arith),
          )

numbered : {A : Type 0} (xs : List A) (i : ℕ) (x : A) → slice_get xs i ≡ Some x → production_at xs i ≡ Some x
numbered [] i x e = e
numbered (y ∷ xs) zero x e = e
numbered (y ∷ xs) (suc i) x e = numbered xs i x e

pub listed : {A : Type 0} (xs : List A) → ListsAll xs → (x : A) → (i : ℕ) × (production_at xs i ≡ Some x)
listed xs all x = ((all x).0, numbered xs (all x).0 x (all x).1)

-- what holds of all in a list that has each holds of each
pub passes : {A : Type 0} (p : A → Bool) (xs : List A) → ListsAll xs → list_all p xs ≡ true → (x : A) → p x ≡ true
passes p xs all e x = let at = listed xs all x in all_at p xs at.0 x e at.1

-- symbols that nothing follows fit
pub fits_alone : {W R D K : Type 0} (t : Table W R D K) (h : Lookahead W R K) (s : List (Symbol W R D)) → ((k : K) → follows t h s k false ≡ true) → Fits t h s
fits_alone t h [] inside = tt
fits_alone t h (Terminal w ∷ rest) inside = fits_alone t h rest inside
fits_alone t h (Action d ∷ rest) inside = fits_alone t h rest inside
fits_alone {K = K} t h (Rule r ∷ rest) inside =
    let parts = λ (k : K). and_cases (implies (may_begin t h rest k || (is_nullable t h rest && false)) (h.follow r k)) (follows t h rest k false) (inside k) in (
      (λ k b.
          implied (may_begin t h rest k || (is_nullable t h rest && false)) (h.follow r k) (parts k).0
          (or_left (may_begin t h rest k) (is_nullable t h rest && false) b)),
      fits_alone t h rest (λ k. (parts k).1),
    )

-- a token of a kind that stops at the symbols before the end, and at each rule, is the last one
pub is_last_from : {W R D K : Type 0} (t : Table W R D K) (blocked : W → Bool) (end : W) (k : K) (inner : List (Symbol W R D)) (rules : List R) → ListsAll rules
    → stops t blocked k inner ≡ true → list_all (rule_stops t blocked k) rules ≡ true → IsLast t blocked end k (inner ++ Terminal end ∷ [])
is_last_from t blocked end k inner rules all_rules before inside = record {
  closes = record { inner = inner; whole = refl };
  before = before;
  inside = λ r. passes (rule_stops t blocked k) rules all_rules inside r;
}
