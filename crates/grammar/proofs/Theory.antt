-- What holds of every grammar whose hints are right.
use Rattle.std.proofs.Common.{◌≡◌, ℕ, Bool, true, false, ◌&&◌, ◌||◌, List, [], ◌∷◌, ◌++◌, Some, ◌⊎◌, inl, inr, refl, ◌∙◌, ap}
use Rattle.grammar.specs.declared.symbol.Symbol.{Symbol}
use Rattle.grammar.specs.declared.symbol.Symbol.TheVariants.{Terminal, Rule, Action}
use Rattle.grammar.specs.Table.{Table, production_at, Derives, done, terminal, rule, action, Begins}
use Rattle.grammar.specs.Lookahead.{Lookahead, may_begin, is_nullable}
use Rattle.grammar.specs.Machine.{Takes, takes_terminal, takes_rule, takes_action, Fits, IsRight}

pub or_cases : (a b : Bool) → (a || b) ≡ true → (a ≡ true) ⊎ (b ≡ true)
or_cases true b h = inl refl
or_cases false b h = inr h

pub or_left : (a b : Bool) → a ≡ true → (a || b) ≡ true
or_left true b h = refl
or_left false b h = cc

pub or_right : (a b : Bool) → b ≡ true → (a || b) ≡ true
or_right true b h = refl
or_right false b h = h

pub and_cases : (a b : Bool) → (a && b) ≡ true → (a ≡ true) × (b ≡ true)
and_cases true b h = (refl, h)
and_cases false b h = cc

pub and_both : (a b : Bool) → a ≡ true → b ≡ true → (a && b) ≡ true
and_both true b h g = g
and_both false b h g = cc

module _ {W R D K : Type 0} (t : Table W R D K) (h : Lookahead W R K) where
  pub begin_append : (a b : List (Symbol W R D)) (k : K) → may_begin t h (a ++ b) k ≡ true
      → (may_begin t h a k ≡ true) ⊎ ((is_nullable t h a ≡ true) × (may_begin t h b k ≡ true))
  begin_append [] b k e = inr (refl, e)
  begin_append (Terminal w ∷ a) b k e = inl e
  begin_append (Action d ∷ a) b k e = begin_append a b k e
  begin_append (Rule r ∷ a) b k e =
      elim (or_cases (h.first r k) (h.nullable r && may_begin t h (a ++ b) k) e) [
        | inl f ↦ inl (or_left (h.first r k) (h.nullable r && may_begin t h a k) f)
        | inr g ↦
            let both = and_cases (h.nullable r) (may_begin t h (a ++ b) k) g in
            elim (begin_append a b k both.1) [
              | inl f ↦ inl (or_right (h.first r k) (h.nullable r && may_begin t h a k) (and_both (h.nullable r) (may_begin t h a k) both.0 f))
              | inr p ↦ inr (and_both (h.nullable r) (is_nullable t h a) both.0 p.0, p.1)
            ]
      ]

  pub end_append : (a b : List (Symbol W R D)) → is_nullable t h (a ++ b) ≡ true → (is_nullable t h a ≡ true) × (is_nullable t h b ≡ true)
  end_append [] b e = (refl, e)
  end_append (Terminal w ∷ a) b e = cc
  end_append (Action d ∷ a) b e = end_append a b e
  end_append (Rule r ∷ a) b e =
      let both = and_cases (h.nullable r) (is_nullable t h (a ++ b)) e in
      let more = end_append a b both.1 in
      (and_both (h.nullable r) (is_nullable t h a) both.0 more.0, more.1)

  -- what the symbols derive begins with a kind that they may begin with
  abbrev Looks : List (Symbol W R D) → List K → Type 0
  Looks s [] = is_nullable t h s ≡ true
  Looks s (k ∷ ks) = may_begin t h s k ≡ true

  looks_rule : IsRight t h → (r : R) (i : ℕ) (body rest : List (Symbol W R D)) (ks : List K) → production_at (t.productions r) i ≡ Some body
      → Looks (body ++ rest) ks → Looks (Rule r ∷ rest) ks
  looks_rule right r i body rest [] at e =
      let both = end_append body rest e in
      and_both (h.nullable r) (is_nullable t h rest) (right.empty r i body at both.0) both.1
  looks_rule right r i body rest (k ∷ ks) at e =
      elim (begin_append body rest k e) [
        | inl f ↦ or_left (h.first r k) (h.nullable r && may_begin t h rest k) (right.first r i body k at f)
        | inr p ↦ or_right (h.first r k) (h.nullable r && may_begin t h rest k) (and_both (h.nullable r) (may_begin t h rest k) (right.empty r i body at p.0) p.1)
      ]

  looks_action : (d : D) (rest : List (Symbol W R D)) (ks : List K) → Looks rest ks → Looks (Action d ∷ rest) ks
  looks_action d rest [] e = e
  looks_action d rest (k ∷ ks) e = e

  pub looks : IsRight t h → {s : List (Symbol W R D)} {ks : List K} → Derives t s ks → Looks s ks
  looks right done = refl
  looks right (terminal has d) = has
  looks right (action {d = x} {rest = rest} {ks = ks} d) = looks_action x rest ks (looks right d)
  looks right (rule {r = r} {body = body} {rest = rest} {ks = ks} i at d) = looks_rule right r i body rest ks at (looks right d)

  -- a derivation takes the body that is chosen
  pub choice_is : IsRight t h → (r : R) (i : ℕ) (body rest : List (Symbol W R D)) (k : K) (ks : List K) → Fits t h (Rule r ∷ rest)
      → production_at (t.productions r) i ≡ Some body → Derives t (body ++ rest) (k ∷ ks) → h.choice r k ≡ i
  choice_is right r i body rest k ks fits at d =
      elim (begin_append body rest k (looks right d)) [
        | inl f ↦ right.choice_first r i body k at f
        | inr p ↦ right.choice_empty r i body k at p.0 (fits.0 k p.1)
      ]

  abbrev Steps : List (Symbol W R D) → List K → Type 0
  Steps s [] = Unit {0}
  Steps s (k ∷ ks) = (out : List (Symbol W R D)) × Takes t h s k out × Fits t h out × Derives t out ks

  steps_rule : IsRight t h → (r : R) (i : ℕ) (body rest : List (Symbol W R D)) (ks : List K) → Fits t h (Rule r ∷ rest)
      → production_at (t.productions r) i ≡ Some body → Derives t (body ++ rest) ks → Steps (body ++ rest) ks → Steps (Rule r ∷ rest) ks
  steps_rule right r i body rest [] fits at d next = tt
  steps_rule right r i body rest (k ∷ ks) fits at d next =
      let chosen = choice_is right r i body rest k ks fits at d in
      (next.0, takes_rule (ap (production_at (t.productions r)) chosen ∙ at) next.1, next.2, next.3)

  steps_action : (d : D) (rest : List (Symbol W R D)) (ks : List K) → Steps rest ks → Steps (Action d ∷ rest) ks
  steps_action d rest [] e = tt
  steps_action d rest (k ∷ ks) e = (e.0, takes_action e.1, e.2, e.3)

  pub steps : IsRight t h → {s : List (Symbol W R D)} {ks : List K} → Derives t s ks → Fits t h s → Steps s ks
  steps right done fits = tt
  steps right (terminal {rest = rest} has d) fits = (rest, takes_terminal has, fits, d)
  steps right (action {d = x} {rest = rest} {ks = ks} d) fits = steps_action x rest ks (steps right d fits)
  steps right (rule {r = r} {body = body} {rest = rest} {ks = ks} i at d) fits =
      steps_rule right r i body rest ks fits at d (steps right d (right.inner r i body at rest fits))

  -- what the machine takes is derived
  pub derives_from : {s out : List (Symbol W R D)} {k : K} → Takes t h s k out → (ks : List K) → Derives t out ks → Derives t s (k ∷ ks)
  derives_from (takes_terminal has) ks d = terminal has d
  derives_from (takes_action go) ks d = action (derives_from go ks d)
  derives_from (takes_rule {r = r} {k = k} at go) ks d = rule (h.choice r k) at (derives_from go ks d)

  -- a stack that is not stuck goes on to a whole text, and only such a one does
  pub begins_from : IsRight t h → {s out : List (Symbol W R D)} {k : K} → Takes t h s k out → Begins t s (k ∷ [])
  begins_from right {out = out} go =
      let end = right.ends out in
      (end.0, derives_from go end.0 end.1)

  pub takes_from : IsRight t h → {s : List (Symbol W R D)} {k : K} → Fits t h s → Begins t s (k ∷ []) → (out : List (Symbol W R D)) × Takes t h s k out × Fits t h out
  takes_from right fits begins =
      let found = steps right begins.1 fits in
      (found.0, found.1, found.2)
