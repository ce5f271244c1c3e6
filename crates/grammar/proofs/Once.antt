-- A text has a meaning or a first token that is refused, and never both.
use Rattle.std.proofs.Common.{◌≡◌, ℕ, true, ◌&&◌, List, [], ◌∷◌, ◌++◌, Option, Some, Result, Ok, Err, ◌⊎◌, inl, inr, refl, sym, ◌∙◌, ap, subst, append_assoc}
use Rattle.grammar.specs.declared.symbol.Symbol.{Symbol}
use Rattle.grammar.specs.declared.symbol.Symbol.TheVariants.{Terminal, Rule, Action}
use Rattle.grammar.specs.Table.{Table, production_at, Begins}
use Rattle.grammar.specs.Lookahead.{Lookahead, may_begin}
use Rattle.grammar.specs.Machine.{Fits, IsRight, Takes, takes_terminal, takes_rule, takes_action}
use Rattle.grammar.specs.Semantics.{Semantics, Reads, here, terminal, rule, action, Refuses, by_check, by_grammar}
use Rattle.grammar.specs.Meaning.{IsFirstBad, ClosesWith}
use Rattle.grammar.proofs.Theory.{begin_append, or_left, or_right, and_both, derives_from, begins_from}

module _ {W R D K T S E : Type 0} (t : Table W R D K) (h : Lookahead W R K) (m : Semantics W D K T S E) where
  -- one token, by the productions that it chooses
  data Moves : List (Symbol W R D) → S → T → List (Symbol W R D) → S → Type 0 where
    m_terminal : {w : W} {rest : List (Symbol W R D)} {a b : S} {x : T} → t.matches w (m.kind x) ≡ true → m.accept w a x ≡ Ok b → Moves (Terminal w ∷ rest) a x rest b
    m_rule : {r : R} {body rest out : List (Symbol W R D)} {a b : S} {x : T} → production_at (t.productions r) (h.choice r (m.kind x)) ≡ Some body → Moves (body ++ rest) a x out b → Moves (Rule r ∷ rest) a x out b
    m_action : {d : D} {rest out : List (Symbol W R D)} {a b : S} {x : T} → Moves rest (m.perform d a) x out b → Moves (Action d ∷ rest) a x out b

  data Sticks : List (Symbol W R D) → S → T → E → Type 0 where
    s_terminal : {w : W} {rest : List (Symbol W R D)} {a : S} {x : T} {e : E} → t.matches w (m.kind x) ≡ true → m.accept w a x ≡ Err e → Sticks (Terminal w ∷ rest) a x e
    s_rule : {r : R} {body rest : List (Symbol W R D)} {a : S} {x : T} {e : E} → production_at (t.productions r) (h.choice r (m.kind x)) ≡ Some body → Sticks (body ++ rest) a x e → Sticks (Rule r ∷ rest) a x e
    s_action : {d : D} {rest : List (Symbol W R D)} {a : S} {x : T} {e : E} → Sticks rest (m.perform d a) x e → Sticks (Action d ∷ rest) a x e

  abbrev Same : List (Symbol W R D) → S → List (Symbol W R D) → S → Type 0
  Same p a q b = (p ≡ q) × (a ≡ b)

  terminal_inv : {w : W} {rest out : List (Symbol W R D)} {a b : S} {x : T} → Moves (Terminal w ∷ rest) a x out b → (m.accept w a x ≡ Ok b) × (rest ≡ out)
  terminal_inv (m_terminal has takes) = (takes, refl)

  rule_inv : {r : R} {rest out : List (Symbol W R D)} {a b : S} {x : T} → Moves (Rule r ∷ rest) a x out b → (body : List (Symbol W R D)) × (production_at (t.productions r) (h.choice r (m.kind x)) ≡ Some body) × Moves (body ++ rest) a x out b
  rule_inv (m_rule {body = body} at go) = (body, at, go)

  action_inv : {d : D} {rest out : List (Symbol W R D)} {a b : S} {x : T} → Moves (Action d ∷ rest) a x out b → Moves rest (m.perform d a) x out b
  action_inv (m_action go) = go

  some_same : {A : Type 0} (o : Option A) (x y : A) → o ≡ Some x → o ≡ Some y → x ≡ y
  some_same o x y p q = cc

  one_move : {s out other : List (Symbol W R D)} {a b c : S} {x : T} → Moves s a x out b → Moves s a x other c → Same out b other c
  one_move {b = b} {c = c} (m_terminal has takes) go = let i = terminal_inv go in let same = i.0 in let rest = i.1 in (rest, cc)
  one_move {other = other} {c = c} (m_rule {r = r} {body = body} {rest = rest} {a = a} {x = x} at one) go =
      let i = rule_inv go in
      one_move one (subst (λ v. Moves (v ++ rest) a x other c) (some_same (production_at (t.productions r) (h.choice r (m.kind x))) i.0 body i.1 at) i.2)
  one_move (m_action one) go = one_move one (action_inv go)

  moves_or_sticks : {s out : List (Symbol W R D)} {a b : S} {x : T} {e : E} → Sticks s a x e → Moves s a x out b → ⊥
  moves_or_sticks (s_terminal has takes) go = let i = terminal_inv go in let same = i.0 in cc
  moves_or_sticks {out = out} {b = b} (s_rule {r = r} {body = body} {rest = rest} {a = a} {x = x} at one) go =
      let i = rule_inv go in
      moves_or_sticks one (subst (λ v. Moves (v ++ rest) a x out b) (some_same (production_at (t.productions r) (h.choice r (m.kind x))) i.0 body i.1 at) i.2)
  moves_or_sticks (s_action one) go = moves_or_sticks one (action_inv go)

  module _ (right : IsRight t h) where
    chosen : (r : R) (i : ℕ) (body rest : List (Symbol W R D)) (k : K) → Fits t h (Rule r ∷ rest) → production_at (t.productions r) i ≡ Some body
        → may_begin t h (body ++ rest) k ≡ true → h.choice r k ≡ i
    chosen r i body rest k fits at begins =
        elim (begin_append t h body rest k begins) [
          | inl f ↦ right.choice_first r i body k at f
          | inr p ↦ right.choice_empty r i body k at p.0 (fits.0 k p.1)
        ]

    begins_rule : (r : R) (i : ℕ) (body rest : List (Symbol W R D)) (k : K) → production_at (t.productions r) i ≡ Some body → may_begin t h (body ++ rest) k ≡ true → may_begin t h (Rule r ∷ rest) k ≡ true
    begins_rule r i body rest k at begins =
        elim (begin_append t h body rest k begins) [
          | inl f ↦ or_left (h.first r k) (h.nullable r && may_begin t h rest k) (right.first r i body k at f)
          | inr p ↦ or_right (h.first r k) (h.nullable r && may_begin t h rest k) (and_both (h.nullable r) (may_begin t h rest k) (right.empty r i body at p.0) p.1)
        ]

    -- what the first token of a reading may be
    abbrev Opens : List (Symbol W R D) → List T → Type 0
    Opens s [] = Unit {0}
    Opens s (x ∷ xs) = may_begin t h s (m.kind x) ≡ true

    opens_rule : (r : R) (i : ℕ) (body rest : List (Symbol W R D)) (xs : List T) → production_at (t.productions r) i ≡ Some body → Opens (body ++ rest) xs → Opens (Rule r ∷ rest) xs
    opens_rule r i body rest [] at o = tt
    opens_rule r i body rest (x ∷ xs) at o = begins_rule r i body rest (m.kind x) at o

    opens_action : (d : D) (rest : List (Symbol W R D)) (xs : List T) → Opens rest xs → Opens (Action d ∷ rest) xs
    opens_action d rest [] o = tt
    opens_action d rest (x ∷ xs) o = o

    opens : {s out : List (Symbol W R D)} {xs : List T} {a b : S} → Reads t m s a xs out b → Opens s xs
    opens here = tt
    opens (terminal has takes go) = has
    opens (rule {r = r} {body = body} {rest = rest} {xs = xs} i at go) = opens_rule r i body rest xs at (opens go)
    opens (action {d = d} {rest = rest} {xs = xs} go) = opens_action d rest xs (opens go)

    -- a reading begins with a move
    abbrev Moved : List (Symbol W R D) → S → List T → List (Symbol W R D) → S → Type 0
    Moved s a [] out b = Unit {0}
    Moved s a (x ∷ xs) out b = (s' : List (Symbol W R D)) × (a' : S) × Moves s a x s' a' × Fits t h s' × Reads t m s' a' xs out b

    moved_rule : (r : R) (i : ℕ) (body rest out : List (Symbol W R D)) (xs : List T) (a b : S) → Fits t h (Rule r ∷ rest) → production_at (t.productions r) i ≡ Some body
        → Opens (body ++ rest) xs → Moved (body ++ rest) a xs out b → Moved (Rule r ∷ rest) a xs out b
    moved_rule r i body rest out [] a b fits at o go = tt
    moved_rule r i body rest out (x ∷ xs) a b fits at o go =
        (go.0, go.1, m_rule (ap (production_at (t.productions r)) (chosen r i body rest (m.kind x) fits at o) ∙ at) go.2, go.3, go.4)

    moved_action : (d : D) (rest out : List (Symbol W R D)) (xs : List T) (a b : S) → Moved rest (m.perform d a) xs out b → Moved (Action d ∷ rest) a xs out b
    moved_action d rest out [] a b go = tt
    moved_action d rest out (x ∷ xs) a b go = (go.0, go.1, m_action go.2, go.3, go.4)

    moved : {s out : List (Symbol W R D)} {xs : List T} {a b : S} → Reads t m s a xs out b → Fits t h s → Moved s a xs out b
    moved here fits = tt
    moved (terminal {rest = rest} {b = b} has takes go) fits = (rest, b, m_terminal has takes, fits, go)
    moved (rule {r = r} {body = body} {rest = rest} {out = out} {xs = xs} {a = a} {c = c} i at go) fits =
        moved_rule r i body rest out xs a c fits at (opens go) (moved go (right.inner r i body at rest fits))
    moved (action {d = d} {rest = rest} {out = out} {xs = xs} {a = a} {c = c} go) fits = moved_action d rest out xs a c (moved go fits)

    takes_from_moves : {s out : List (Symbol W R D)} {a b : S} {x : T} → Moves s a x out b → Takes t h s (m.kind x) out
    takes_from_moves (m_terminal has takes) = takes_terminal has
    takes_from_moves (m_rule at go) = takes_rule at (takes_from_moves go)
    takes_from_moves (m_action go) = takes_action (takes_from_moves go)

    -- the terminal at which a token fails its check is the one that the token chooses
    abbrev Stuck : List (Symbol W R D) → S → List T → List (Symbol W R D) → S → T → E → Type 0
    Stuck s a [] out b x e = (w : W) (rest : List (Symbol W R D)) → out ≡ Terminal w ∷ rest → t.matches w (m.kind x) ≡ true → m.accept w b x ≡ Err e → (may_begin t h s (m.kind x) ≡ true) × Sticks s a x e
    Stuck s a (y ∷ xs) out b x e = Unit {0}

    stuck_rule : (r : R) (i : ℕ) (body rest out : List (Symbol W R D)) (xs : List T) (a b : S) (x : T) (e : E) → Fits t h (Rule r ∷ rest) → production_at (t.productions r) i ≡ Some body
        → Stuck (body ++ rest) a xs out b x e → Stuck (Rule r ∷ rest) a xs out b x e
    stuck_rule r i body rest out (y ∷ xs) a b x e fits at go = tt
    stuck_rule r i body rest out [] a b x e fits at go = λ w more is has takes.
        let found = go w more is has takes in
        (begins_rule r i body rest (m.kind x) at found.0, s_rule (ap (production_at (t.productions r)) (chosen r i body rest (m.kind x) fits at found.0) ∙ at) found.1)

    stuck_action : (d : D) (rest out : List (Symbol W R D)) (xs : List T) (a b : S) (x : T) (e : E) → Stuck rest (m.perform d a) xs out b x e → Stuck (Action d ∷ rest) a xs out b x e
    stuck_action d rest out (y ∷ xs) a b x e go = tt
    stuck_action d rest out [] a b x e go = λ w more is has takes. let found = go w more is has takes in (found.0, s_action found.1)

    stuck_here : (s : List (Symbol W R D)) (a : S) (x : T) (e : E) → Stuck s a [] s a x e
    stuck_here s a x e w rest is has takes = (
      subst (λ v. may_begin t h v (m.kind x) ≡ true) (sym is) has,
      subst (λ v. Sticks v a x e) (sym is) (s_terminal has takes),
    )

    stuck : (x : T) (e : E) → {s out : List (Symbol W R D)} {xs : List T} {a b : S} → Reads t m s a xs out b → Fits t h s → Stuck s a xs out b x e
    stuck x e (here {s = s} {a = a}) fits = stuck_here s a x e
    stuck x e (terminal has takes go) fits = tt
    stuck x e (rule {r = r} {body = body} {rest = rest} {out = out} {xs = xs} {a = a} {c = c} i at go) fits =
        stuck_rule r i body rest out xs a c x e fits at (stuck x e go (right.inner r i body at rest fits))
    stuck x e (action {d = d} {rest = rest} {out = out} {xs = xs} {a = a} {c = c} go) fits = stuck_action d rest out xs a c x e (stuck x e go fits)

    -- a refusal after a move
    refusal_after : {s s' : List (Symbol W R D)} {a a' : S} {y x : T} {before : List T} {e : E} → Moves s a y s' a' → Fits t h s → Refuses t m s a (y ∷ before) x e → Refuses t m s' a' before x e
    refusal_after {a' = a'} {before = before} go fits (by_check {w = w} {rest = rest} {b = b} reads has takes) =
        let next = moved reads fits in
        let same = one_move next.2 go in
        by_check (subst (λ v. Reads t m v a' before (Terminal w ∷ rest) b) same.0 (subst (λ v. Reads t m next.0 v before (Terminal w ∷ rest) b) same.1 next.4)) has takes
    refusal_after {a' = a'} {before = before} go fits (by_grammar {out = out} {b = b} reads none) =
        let next = moved reads fits in
        let same = one_move next.2 go in
        by_grammar (subst (λ v. Reads t m v a' before out b) same.0 (subst (λ v. Reads t m next.0 v before out b) same.1 next.4))
        (λ begins. none (begins.0, derives_from t h (takes_from_moves go) _ begins.1))

    refused_now : {s s' : List (Symbol W R D)} {a a' : S} {x : T} {e : E} → Moves s a x s' a' → Fits t h s → Refuses t m s a [] x e → ⊥
    refused_now {x = x} {e = e} go fits (by_check {w = w} {rest = rest} reads has takes) =
        moves_or_sticks (stuck x e reads fits w rest refl has takes).1 go
    refused_now go fits (by_grammar reads none) = none (begins_from t h right (takes_from_moves go))

    -- what is read on is not refused
    pub never_both : (before after : List T) (x : T) (e : E) {s out : List (Symbol W R D)} {a b : S} → Fits t h s → Reads t m s a (before ++ x ∷ after) out b → Refuses t m s a before x e → ⊥
    never_both [] after x e fits reads refuses = let next = moved reads fits in refused_now next.2 fits refuses
    never_both (y ∷ before) after x e fits reads refuses =
        let next = moved reads fits in
        never_both before after x e next.3 next.4 (refusal_after next.2 fits refuses)

    sticks_terminal : {w : W} {rest : List (Symbol W R D)} {a : S} {x : T} {e : E} → Sticks (Terminal w ∷ rest) a x e → m.accept w a x ≡ Err e
    sticks_terminal (s_terminal has takes) = takes

    sticks_rule : {r : R} {rest : List (Symbol W R D)} {a : S} {x : T} {e : E} → Sticks (Rule r ∷ rest) a x e → (body : List (Symbol W R D)) × (production_at (t.productions r) (h.choice r (m.kind x)) ≡ Some body) × Sticks (body ++ rest) a x e
    sticks_rule (s_rule {body = body} at go) = (body, at, go)

    sticks_action : {d : D} {rest : List (Symbol W R D)} {a : S} {x : T} {e : E} → Sticks (Action d ∷ rest) a x e → Sticks rest (m.perform d a) x e
    sticks_action (s_action go) = go

    one_error : {A B : Type 0} (o : Result A B) (e f : B) → o ≡ Err e → o ≡ Err f → e ≡ f
    one_error o e f p q = cc

    one_stick : {s : List (Symbol W R D)} {a : S} {x : T} {e f : E} → Sticks s a x e → Sticks s a x f → e ≡ f
    one_stick {e = e} {f = f} (s_terminal {w = w} {a = a} {x = x} has takes) other = one_error (m.accept w a x) e f takes (sticks_terminal other)
    one_stick {f = f} (s_rule {r = r} {body = body} {rest = rest} {a = a} {x = x} at go) other =
        let i = sticks_rule other in
        one_stick go (subst (λ v. Sticks (v ++ rest) a x f) (some_same (production_at (t.productions r) (h.choice r (m.kind x))) i.0 body i.1 at) i.2)
    one_stick (s_action go) other = one_stick go (sticks_action other)

    takes_from_sticks : {s : List (Symbol W R D)} {a : S} {x : T} {e : E} → Sticks s a x e → (out : List (Symbol W R D)) × Takes t h s (m.kind x) out
    takes_from_sticks (s_terminal {rest = rest} has takes) = (rest, takes_terminal has)
    takes_from_sticks (s_rule at go) = let found = takes_from_sticks go in (found.0, takes_rule at found.1)
    takes_from_sticks (s_action go) = let found = takes_from_sticks go in (found.0, takes_action found.1)

    -- what a refusal at the very next token is
    abbrev Says : List (Symbol W R D) → S → T → E → Type 0
    Says s a x e = Sticks s a x e ⊎ ((e ≡ m.unexpected x) × (Begins t s (m.kind x ∷ []) → ⊥))

    says : {s : List (Symbol W R D)} {a : S} {x : T} {e : E} → Fits t h s → Refuses t m s a [] x e → Says s a x e
    says {x = x} {e = e} fits (by_check {w = w} {rest = rest} reads has takes) = inl (stuck x e reads fits w rest refl has takes).1
    says fits (by_grammar reads none) = inr (refl, none)

    one_said : (s : List (Symbol W R D)) (a : S) (x : T) (e f : E) → Says s a x e → Says s a x f → e ≡ f
    one_said s a x e f (inl p) (inl q) = one_stick p q
    one_said s a x e f (inl p) (inr q) = absurd (q.1 (begins_from t h right (takes_from_sticks p).1))
    one_said s a x e f (inr p) (inl q) = absurd (p.1 (begins_from t h right (takes_from_sticks q).1))
    one_said s a x e f (inr p) (inr q) = p.0 ∙ sym q.0

    -- a refusal comes after the tokens before it
    read_before : {s : List (Symbol W R D)} {a : S} {x : T} {before : List T} {e : E} → Refuses t m s a before x e → (out : List (Symbol W R D)) × (b : S) × Reads t m s a before out b
    read_before (by_check {w = w} {rest = rest} {b = b} reads has takes) = (Terminal w ∷ rest, b, reads)
    read_before (by_grammar {out = out} {b = b} reads none) = (out, b, reads)

    -- the refusal at a token is one
    pub one_refusal : (before : List T) (x : T) (e f : E) {s : List (Symbol W R D)} {a : S} → Fits t h s → Refuses t m s a before x e → Refuses t m s a before x f → e ≡ f
    one_refusal [] x e f {s = s} {a = a} fits p q = one_said s a x e f (says fits p) (says fits q)
    one_refusal (y ∷ before) x e f fits p q =
        let next = moved (read_before p).2 fits in
        one_refusal before x e f next.3 (refusal_after next.2 fits p) (refusal_after next.2 fits q)

    -- ---- one meaning

    -- what is left of a stack that closes with a terminal closes with it, or is empty
    abbrev Left : W → List (Symbol W R D) → Type 0
    Left e s = ClosesWith e s ⊎ (s ≡ [])

    below_terminal : (e w : W) (rest inner : List (Symbol W R D)) → Terminal w ∷ rest ≡ inner ++ Terminal e ∷ [] → Left e rest
    below_terminal e w rest [] same = let empty : rest ≡ [] = cc in inr empty
    below_terminal e w rest (y ∷ inner) same = let less : rest ≡ inner ++ Terminal e ∷ [] = cc in inl (record { inner = inner; whole = less })

    below_rule : (e : W) (r : R) (body rest inner : List (Symbol W R D)) → Rule r ∷ rest ≡ inner ++ Terminal e ∷ [] → ClosesWith e (body ++ rest)
    below_rule e r body rest [] same = cc
    below_rule e r body rest (y ∷ inner) same =
        let less : rest ≡ inner ++ Terminal e ∷ [] = cc in
        record { inner = body ++ inner; whole = ap (λ l. body ++ l) less ∙ sym (append_assoc body inner (Terminal e ∷ [])) }

    below_action : (e : W) (d : D) (rest inner : List (Symbol W R D)) → Action d ∷ rest ≡ inner ++ Terminal e ∷ [] → ClosesWith e rest
    below_action e d rest [] same = cc
    below_action e d rest (y ∷ inner) same = let less : rest ≡ inner ++ Terminal e ∷ [] = cc in record { inner = inner; whole = less }

    left_after : {s out : List (Symbol W R D)} {a b : S} {x : T} (e : W) → Moves s a x out b → ClosesWith e s → Left e out
    left_after e (m_terminal {w = w} {rest = rest} has takes) c = below_terminal e w rest c.inner c.whole
    left_after e (m_rule {r = r} {body = body} {rest = rest} at go) c = left_after e go (below_rule e r body rest c.inner c.whole)
    left_after e (m_action {d = d} {rest = rest} go) c = left_after e go (below_action e d rest c.inner c.whole)

    not_closed : (e : W) (inner : List (Symbol W R D)) → [] ≡ inner ++ Terminal e ∷ [] → ⊥
    not_closed e [] same = cc
    not_closed e (y ∷ inner) same = cc

    -- with no token left, a stack that closes with a terminal is not emptied
    abbrev Waits : W → List (Symbol W R D) → List T → List (Symbol W R D) → Type 0
    Waits e s [] out = ClosesWith e s → ClosesWith e out
    Waits e s (x ∷ xs) out = Unit {0}

    waits_rule : (e : W) (r : R) (body rest out : List (Symbol W R D)) (xs : List T) → Waits e (body ++ rest) xs out → Waits e (Rule r ∷ rest) xs out
    waits_rule e r body rest out [] more = λ c. more (below_rule e r body rest c.inner c.whole)
    waits_rule e r body rest out (x ∷ xs) more = tt

    waits_action : (e : W) (d : D) (rest out : List (Symbol W R D)) (xs : List T) → Waits e rest xs out → Waits e (Action d ∷ rest) xs out
    waits_action e d rest out [] more = λ c. more (below_action e d rest c.inner c.whole)
    waits_action e d rest out (x ∷ xs) more = tt

    waits : {s out : List (Symbol W R D)} {xs : List T} {a b : S} (e : W) → Reads t m s a xs out b → Waits e s xs out
    waits e here = λ c. c
    waits e (terminal has takes go) = tt
    waits e (rule {r = r} {body = body} {rest = rest} {out = out} {xs = xs} i at go) = waits_rule e r body rest out xs (waits e go)
    waits e (action {d = d} {rest = rest} {out = out} {xs = xs} go) = waits_action e d rest out xs (waits e go)

    -- an empty stack reads nothing and changes nothing
    abbrev Stays : List (Symbol W R D) → S → List T → S → Type 0
    Stays [] a xs b = (xs ≡ []) × (a ≡ b)
    Stays (y ∷ s) a xs b = Unit {0}

    here_stays : (s : List (Symbol W R D)) (a : S) → Stays s a [] a
    here_stays [] a = (refl, refl)
    here_stays (y ∷ s) a = tt

    stays : {s out : List (Symbol W R D)} {xs : List T} {a b : S} → Reads t m s a xs out b → Stays s a xs b
    stays (here {s = s} {a = a}) = here_stays s a
    stays (terminal has takes go) = tt
    stays (rule i at go) = tt
    stays (action go) = tt

    pub one_meaning : (e : W) (xs : List T) {s : List (Symbol W R D)} {a b c : S} → Fits t h s → Left e s → Reads t m s a xs [] b → Reads t m s a xs [] c → b ≡ c
    one_meaning e [] {s = s} {a = a} {b = b} {c = c} fits (inl closes) p q = let open_end = waits e p closes in absurd (not_closed e open_end.inner open_end.whole)
    one_meaning e xs {s = s} {a = a} {b = b} {c = c} fits (inr empty) p q =
        let one = stays (subst (λ v. Reads t m v a xs [] b) empty p) in
        let two = stays (subst (λ v. Reads t m v a xs [] c) empty q) in
        sym one.1 ∙ two.1
    one_meaning e (x ∷ xs) {c = c} fits (inl closes) p q =
        let next = moved p fits in
        let other = moved q fits in
        let same = one_move other.2 next.2 in
        one_meaning e xs next.3 (left_after e next.2 closes) next.4
        (subst (λ v. Reads t m v next.1 xs [] c) same.0 (subst (λ v. Reads t m other.0 v xs [] c) same.1 other.4))

    -- ---- one first bad token

    -- two places of a list are one, or one stands before the other
    abbrev Placed : List T → T → List T → T → Type 0
    Placed before x other y = ((before ≡ other) × (x ≡ y)) ⊎ (((more : List T) × (other ≡ before ++ x ∷ more)) ⊎ ((more : List T) × (before ≡ other ++ y ∷ more)))

    next_placed : (z : T) (before other : List T) (x y : T) → Placed before x other y → Placed (z ∷ before) x (z ∷ other) y
    next_placed z before other x y (inl same) = inl (ap (λ l. z ∷ l) same.0, same.1)
    next_placed z before other x y (inr (inl later)) = inr (inl (later.0, ap (λ l. z ∷ l) later.1))
    next_placed z before other x y (inr (inr earlier)) = inr (inr (earlier.0, ap (λ l. z ∷ l) earlier.1))

    placed : (before after other beyond : List T) (x y : T) → before ++ x ∷ after ≡ other ++ y ∷ beyond → Placed before x other y
    placed [] after [] beyond x y same = let one : x ≡ y = cc in inl (refl, one)
    placed [] after (z ∷ other) beyond x y same = let one : z ≡ x = cc in inr (inl (other, ap (λ v. v ∷ other) one))
    placed (z ∷ before) after [] beyond x y same = let one : z ≡ y = cc in inr (inr (before, ap (λ v. v ∷ before) one))
    placed (z ∷ before) after (u ∷ other) beyond x y same =
        let one : z ≡ u = cc in
        let rest : before ++ x ∷ after ≡ other ++ y ∷ beyond = cc in
        subst (λ v. Placed (z ∷ before) x (v ∷ other) y) one (next_placed z before other x y (placed before after other beyond x y rest))

    pub one_first_bad : {s : List (Symbol W R D)} {a : S} (xs : List T) (e f : E) → Fits t h s → IsFirstBad t m s a xs e → IsFirstBad t m s a xs f → e ≡ f
    one_first_bad {s = s} {a = a} xs e f fits p q = by_place (placed p.before p.after q.before q.after p.bad q.bad (sym p.whole ∙ q.whole))
      where
        by_place : Placed p.before p.bad q.before q.bad → e ≡ f
        by_place (inl same) =
            one_refusal q.before q.bad e f fits (subst (λ v. Refuses t m s a q.before v e) same.1 (subst (λ v. Refuses t m s a v p.bad e) same.0 p.refuses)) q.refuses
        by_place (inr (inl later)) =
            let read = read_before q.refuses in
            absurd (never_both p.before later.0 p.bad e fits (subst (λ v. Reads t m s a v read.0 read.1) later.1 read.2) p.refuses)
        by_place (inr (inr earlier)) =
            let read = read_before p.refuses in
            absurd (never_both q.before earlier.0 q.bad f fits (subst (λ v. Reads t m s a v read.0 read.1) earlier.1 read.2) q.refuses)
