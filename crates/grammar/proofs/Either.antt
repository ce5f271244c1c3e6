-- A list of tokens whose last no terminal but the end takes has a meaning or a first bad token.
use Rattle.std.proofs.Common.{◌≡◌, ℕ, zero, suc, ◌<◌, Bool, true, false, not, ◌||◌, nat_lt, List, [], ◌∷◌, ◌++◌, Option, Some, None, Result, Ok, Err, ◌⊎◌, inl, inr, refl, sym, subst, append_assoc, arith}
use Rattle.std.specs.List.{list_all}
use Rattle.std.proofs.lemmas.Bool.{ltb-true}
use Rattle.grammar.specs.declared.symbol.Symbol.{Symbol}
use Rattle.grammar.specs.declared.symbol.Symbol.TheVariants.{Terminal, Rule, Action}
use Rattle.grammar.specs.Table.{Table, production_at}
use Rattle.grammar.specs.Lookahead.{Lookahead, implies, is_nullable}
use Rattle.grammar.specs.Machine.{Fits, IsRight}
use Rattle.grammar.specs.Semantics.{Semantics, Refuses}
use Rattle.grammar.specs.Stands.{Stands}
use Rattle.grammar.specs.Meaning.{Means, IsFirstBad}
use Rattle.grammar.specs.Descent.{goes_down, LeadsDown}
use Rattle.grammar.specs.Ends.{lacks, IsEndOf, IsEnded, stops, rule_stops, IsLast, Blocks}
use Rattle.grammar.proofs.Theory.{or_cases, or_left, and_cases, and_both}
use Rattle.grammar.proofs.Tests.{all_at, implied}
use Rattle.grammar.proofs.Standing.{stands_start, stands_action, stands_rule, stands_terminal, refuses_check, refuses_terminal, refuses_rule, refuses_empty}

stops_append : {W R D K : Type 0} (t : Table W R D K) (blocked : W → Bool) (k : K) (p q : List (Symbol W R D))
    → stops t blocked k p ≡ true → stops t blocked k q ≡ true → stops t blocked k (p ++ q) ≡ true
stops_append t blocked k [] q e f = f
stops_append t blocked k (Terminal w ∷ p) q e f =
    let both = and_cases (not (t.matches w k) || blocked w) (stops t blocked k p) e in
    and_both (not (t.matches w k) || blocked w) (stops t blocked k (p ++ q)) both.0 (stops_append t blocked k p q both.1 f)
stops_append t blocked k (Action d ∷ p) q e f = stops_append t blocked k p q e f
stops_append t blocked k (Rule r ∷ p) q e f = stops_append t blocked k p q e f

never : (b : Bool) → not b ≡ true → b ≡ true → ⊥
never true e f = cc
never false e f = cc

-- The stack closes with the end, and nothing above the end takes a token of the kind.
module _ {W R D K T S E : Type 0} (t : Table W R D K) (h : Lookahead W R K) (m : Semantics W D K T S E) (right : IsRight t h)
    (level : R → ℕ) (down : LeadsDown t h level) (start : List (Symbol W R D)) (first : S) (end : W)
    (blocked : W → Bool) (blocks : Blocks m blocked) (k : K) (inside : (r : R) → rule_stops t blocked k r ≡ true) where
  abbrev At : List T → T → List (Symbol W R D) → S → Type 0
  At done x s a = Stands t h m start first done x (s ++ Terminal end ∷ []) a

  -- what comes of one token
  data Goes (done : List T) (x : T) : Type 0 where
    refused : {e : E} → Refuses t m start first done x e → Goes done x
    taken : (w : W) (rest : List (Symbol W R D)) {a b : S} → t.matches w (m.kind x) ≡ true → m.accept w a x ≡ Ok b → stops t blocked k (Terminal w ∷ rest) ≡ true
        → ((y : T) → At (done ++ x ∷ []) y rest b) → Goes done x
    ended : {b : S} → ((y : T) → Stands t h m start first (done ++ x ∷ []) y [] b) → Goes done x

  -- at a terminal the token is refused, or the terminal takes it
  at_terminal : (done : List T) (x : T) (w : W) (rest : List (Symbol W R D)) (a : S) → Stands t h m start first done x (Terminal w ∷ rest) a
      → ((b : S) → t.matches w (m.kind x) ≡ true → m.accept w a x ≡ Ok b → ((y : T) → Stands t h m start first (done ++ x ∷ []) y rest b) → Goes done x) → Goes done x
  at_terminal done x w rest a st on = by_match (t.matches w (m.kind x)) refl
    where
      by_accept : t.matches w (m.kind x) ≡ true → (o : Result S E) → m.accept w a x ≡ o → Goes done x
      by_accept has (Ok b) takes = on b has takes (stands_terminal t h m right start first st has takes)
      by_accept has (Err e) fails = refused (refuses_check t h m right start first st has fails)

      by_match : (b : Bool) → t.matches w (m.kind x) ≡ b → Goes done x
      by_match true has = by_accept has (m.accept w a x) refl
      by_match false none = refused (refuses_terminal t h m right start first st none)

  at_inner : (done : List T) (x : T) (w : W) (rest : List (Symbol W R D)) (a : S) → At done x (Terminal w ∷ rest) a → stops t blocked k (Terminal w ∷ rest) ≡ true → Goes done x
  at_inner done x w rest a st none = at_terminal done x w (rest ++ Terminal end ∷ []) a st (λ b has takes next. taken w rest has takes none next)

  at_end : (done : List T) (x : T) (a : S) → At done x [] a → Goes done x
  at_end done x a st = at_terminal done x end [] a st (λ b has takes next. ended next)

  -- one token is dealt with at this stack
  abbrev Settles : List T → T → List (Symbol W R D) → Type 0
  Settles done x s = (a : S) → At done x s a → stops t blocked k s ≡ true → Goes done x

  at_rule : (done : List T) (x : T) (r : R) (rest : List (Symbol W R D))
      → ((body : List (Symbol W R D)) → goes_down t h level (level r) body ≡ true → (is_nullable t h body ≡ true → h.nullable r ≡ true) → Settles done x (body ++ rest))
      → Settles done x (Rule r ∷ rest)
  at_rule done x r rest each a st none = by_choice (production_at (t.productions r) (h.choice r (m.kind x))) refl
    where
      by_choice : (o : Option (List (Symbol W R D))) → production_at (t.productions r) (h.choice r (m.kind x)) ≡ o → Goes done x
      by_choice None at = refused (refuses_rule t h m right start first st at)
      by_choice (Some body) at =
          let lower = all_at (goes_down t h level (level r)) (t.productions r) (h.choice r (m.kind x)) body (down r) at in
          let apart = all_at (stops t blocked k) (t.productions r) (h.choice r (m.kind x)) body (inside r) at in
          let next = stands_rule t h m right start first st at in
          each body lower (right.empty r (h.choice r (m.kind x)) body at) a
          (subst (λ l. Stands t h m start first done x l a) (sym (append_assoc body rest (Terminal end ∷ []))) next)
          (stops_append t blocked k body rest apart none)

  -- symbols that lead to rules below n, where rules below n settle
  settles_with : (done : List T) (x : T) (n : ℕ)
      → ((body rest : List (Symbol W R D)) (i : ℕ) → i < n → goes_down t h level i body ≡ true → (is_nullable t h body ≡ true → Settles done x rest) → Settles done x (body ++ rest))
      → (body rest : List (Symbol W R D)) → goes_down t h level n body ≡ true → (is_nullable t h body ≡ true → Settles done x rest) → Settles done x (body ++ rest)
  settles_with done x n lower [] rest e after a st none = after refl a st none
  settles_with done x n lower (Terminal w ∷ body) rest e after a st none = at_inner done x w (body ++ rest) a st none
  settles_with done x n lower (Action d ∷ body) rest e after a st none =
      settles_with done x n lower body rest e after (m.perform d a) (stands_action t h m right start first st) none
  settles_with done x n lower (Rule r ∷ body) rest e after a st none =
      let both = and_cases (nat_lt (level r) n) (implies (h.nullable r) (goes_down t h level n body)) e in
      let less : level r < n = ltb-true (level r) n both.0 in
      let further = λ (empty : h.nullable r ≡ true).
      settles_with done x n lower body rest (implied (h.nullable r) (goes_down t h level n body) both.1 empty)
      (λ more. after (and_both (h.nullable r) (is_nullable t h body) empty more)) in
      at_rule done x r (body ++ rest) (λ first_body goes empty. lower first_body (body ++ rest) (level r) less goes (λ f. further (empty f))) a st none

  settles_below : (done : List T) (x : T) (n i : ℕ) → i < n → (body rest : List (Symbol W R D)) → goes_down t h level i body ≡ true
      → (is_nullable t h body ≡ true → Settles done x rest) → Settles done x (body ++ rest)
  settles_below done x zero i less body rest e after = absurd (omega arith)
  settles_below done x (suc n) i less body rest e after =
      settles_with done x i (λ body' rest' j less' e' after'. settles_below done x n j (omega arith) body' rest' e' after') body rest e after

  settles : (done : List T) (x : T) (s : List (Symbol W R D)) → Settles done x s
  settles done x [] a st none = at_end done x a st
  settles done x (Terminal w ∷ s) a st none = at_inner done x w s a st none
  settles done x (Action d ∷ s) a st none = settles done x s (m.perform d a) (stands_action t h m right start first st) none
  settles done x (Rule r ∷ s) a st none =
      let rest = settles done x s in
      at_rule done x r s (λ body goes empty. settles_below done x (suc (level r)) (level r) (omega arith) body s goes (λ f. rest)) a st none

  -- ---- the whole list

  abbrev Either : List T → Type 0
  Either xs = ((last : S) × Means t m start first xs last) ⊎ ((why : E) × IsFirstBad t m start first xs why)

  bad_at : (done after : List T) (x : T) (e : E) → Refuses t m start first done x e → Either (done ++ x ∷ after)
  bad_at done after x e bad = inr (e, record { before = done; bad = x; after = after; whole = refl; refuses = bad })

  -- after the end each token is bad
  bad_after : (done before : List T) (y x : T) (b : S) → ((z : T) → Stands t h m start first (done ++ y ∷ []) z [] b) → Either ((done ++ y ∷ []) ++ (before ++ x ∷ []))
  bad_after done [] y x b st = bad_at (done ++ y ∷ []) [] x (m.unexpected x) (refuses_empty t h m right start first (st x))
  bad_after done (z ∷ before) y x b st = bad_at (done ++ y ∷ []) (before ++ x ∷ []) z (m.unexpected z) (refuses_empty t h m right start first (st z))

  -- a terminal above the end takes no token of the kind
  not_taken : (x : T) (w : W) (a b : S) → m.kind x ≡ k → (not (t.matches w k) || blocked w) ≡ true → t.matches w (m.kind x) ≡ true → m.accept w a x ≡ Ok b → ⊥
  not_taken x w a b is_k apart has takes =
      elim (or_cases (not (t.matches w k)) (blocked w) apart) [
        | inl other ↦ never (t.matches w k) other (subst (λ v. t.matches w v ≡ true) is_k has)
        | inr shut ↦ blocks w a b x shut takes
      ]

  pub either : (done before : List T) (x : T) (s : List (Symbol W R D)) (a : S) → m.kind x ≡ k → ((y : T) → At done y s a) → stops t blocked k s ≡ true → Either (done ++ (before ++ x ∷ []))
  either done [] x s a is_k st none = at_last (settles done x s a (st x) none)
    where
      at_last : Goes done x → Either (done ++ x ∷ [])
      at_last (refused {e = e} bad) = bad_at done [] x e bad
      at_last (taken w rest {a = a} {b = b} has takes apart next) =
          absurd (not_taken x w a b is_k (and_cases (not (t.matches w k) || blocked w) (stops t blocked k rest) apart).0 has takes)
      at_last (ended {b = b} next) = inl (b, (next x).reads)
  either done (y ∷ before) x s a is_k st none =
      at_next (λ rest b next apart. either (done ++ y ∷ []) before x rest b is_k next apart) (settles done y s a (st y) none)
    where
      on : Either ((done ++ y ∷ []) ++ (before ++ x ∷ [])) → Either (done ++ y ∷ (before ++ x ∷ []))
      on e = subst (λ l. Either l) (append_assoc done (y ∷ []) (before ++ x ∷ [])) e

      at_next : ((rest : List (Symbol W R D)) (b : S) → ((z : T) → At (done ++ y ∷ []) z rest b) → stops t blocked k rest ≡ true → Either ((done ++ y ∷ []) ++ (before ++ x ∷ [])))
          → Goes done y → Either (done ++ y ∷ (before ++ x ∷ []))
      at_next further (refused {e = e} bad) = bad_at done (before ++ x ∷ []) y e bad
      at_next further (taken w rest {b = b} has takes apart next) = on (further rest b next (and_cases (not (t.matches w k) || blocked w) (stops t blocked k rest) apart).1)
      at_next further (ended {b = b} next) = on (bad_after done before y x b next)

pub one_of_both_by_the_last : {W R D K T S E : Type 0} (t : Table W R D K) (h : Lookahead W R K) (m : Semantics W D K T S E) → IsRight t h
    → (level : R → ℕ) → LeadsDown t h level → (start : List (Symbol W R D)) (end : W) (first : S) → Fits t h start
    → (blocked : W → Bool) → Blocks m blocked → (before : List T) (last : T) → IsLast t blocked end (m.kind last) start
    → ((final : S) × Means t m start first (before ++ last ∷ []) final) ⊎ ((why : E) × IsFirstBad t m start first (before ++ last ∷ []) why)
one_of_both_by_the_last t h m right level down start end first fits blocked blocks before last is_last =
    either t h m right level down start first end blocked blocks (m.kind last) is_last.inside [] before last is_last.closes.inner first refl
    (λ y. subst (λ l. Stands t h m start first [] y l first) is_last.closes.whole (stands_start t h m right start first y fits))
    is_last.before

-- where no terminal is blocked, a token stops at symbols that lack it
module _ {W R D K : Type 0} (t : Table W R D K) (k : K) where
  lacks_stops : (s : List (Symbol W R D)) → lacks t k s ≡ true → stops t (λ w. false) k s ≡ true
  lacks_stops [] e = e
  lacks_stops (Terminal w ∷ s) e =
      let both = and_cases (not (t.matches w k)) (lacks t k s) e in
      and_both (not (t.matches w k) || false) (stops t (λ w. false) k s) (or_left (not (t.matches w k)) false both.0) (lacks_stops s both.1)
  lacks_stops (Action d ∷ s) e = lacks_stops s e
  lacks_stops (Rule r ∷ s) e = lacks_stops s e

  all_stop : (bodies : List (List (Symbol W R D))) → list_all (lacks t k) bodies ≡ true → list_all (stops t (λ w. false) k) bodies ≡ true
  all_stop [] e = e
  all_stop (body ∷ bodies) e =
      let both = and_cases (lacks t k body) (list_all (lacks t k) bodies) e in
      and_both (stops t (λ w. false) k body) (list_all (stops t (λ w. false) k) bodies) (lacks_stops body both.0) (all_stop bodies both.1)

  pub last_of_end : (end : W) (start : List (Symbol W R D)) → IsEndOf t end start → t.matches end k ≡ true → IsLast t (λ w. false) end k start
  last_of_end end start is_end ends = record {
    closes = is_end.closes;
    before = lacks_stops is_end.closes.inner (is_end.before k ends);
    inside = λ r. all_stop (t.productions r) (is_end.inside k ends r);
  }

none_blocked : {W D K T S E : Type 0} (m : Semantics W D K T S E) → Blocks m (λ w. false)
none_blocked m w a b x shut takes = cc

pub one_of_both : {W R D K T S E : Type 0} (t : Table W R D K) (h : Lookahead W R K) (m : Semantics W D K T S E) → IsRight t h
    → (level : R → ℕ) → LeadsDown t h level → (start : List (Symbol W R D)) (end : W) (first : S) → Fits t h start → IsEndOf t end start
    → (xs : List T) → IsEnded t m end xs → ((last : S) × Means t m start first xs last) ⊎ ((why : E) × IsFirstBad t m start first xs why)
one_of_both t h m right level down start end first fits is_end xs is_ended =
    subst (λ l. ((last : _) × Means t m start first l last) ⊎ ((why : _) × IsFirstBad t m start first l why)) (sym is_ended.whole)
    (one_of_both_by_the_last t h m right level down start end first fits (λ w. false) (none_blocked m) is_ended.before is_ended.last
    (last_of_end t (m.kind is_ended.last) end start is_end is_ended.ends))
