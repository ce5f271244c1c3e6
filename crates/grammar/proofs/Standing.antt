-- How a reader goes on.
use Rattle.std.proofs.Common.{◌≡◌, ℕ, true, false, List, [], ◌∷◌, ◌++◌, map, Some, None, Ok, Err, refl, ◌∙◌, ap, subst}
use Rattle.grammar.specs.declared.symbol.Symbol.{Symbol}
use Rattle.grammar.specs.declared.symbol.Symbol.TheVariants.{Terminal, Rule, Action}
use Rattle.grammar.specs.Table.{Table, production_at, Derives, Begins}
use Rattle.grammar.specs.Table as d
use Rattle.grammar.specs.Lookahead.{Lookahead}
use Rattle.grammar.specs.Machine.{Fits, IsRight}
use Rattle.grammar.specs.Semantics.{Semantics, Reads, here, terminal, rule, action, Refuses, by_check, by_grammar}
use Rattle.grammar.specs.Stands.{Stands}
use Rattle.grammar.proofs.Theory.{choice_is}

split_append : {K : Type 0} (ks : List K) (k : K) (more : List K) → (ks ++ k ∷ []) ++ more ≡ ks ++ k ∷ more
split_append [] k more = refl
split_append (j ∷ ks) k more = ap (λ l. j ∷ l) (split_append ks k more)

module _ {W R D K T S E : Type 0} (t : Table W R D K) (h : Lookahead W R K) (m : Semantics W D K T S E) where
  -- one more token, action or rule at the end of what was read
  reads_terminal : {w : W} {x : T} {rest s : List (Symbol W R D)} {xs : List T} {a b c : S} → Reads t m s a xs (Terminal w ∷ rest) b
      → t.matches w (m.kind x) ≡ true → m.accept w b x ≡ Ok c → Reads t m s a (xs ++ x ∷ []) rest c
  reads_terminal here has takes = terminal has takes here
  reads_terminal (terminal has' takes' go) has takes = terminal has' takes' (reads_terminal go has takes)
  reads_terminal (rule i at go) has takes = rule i at (reads_terminal go has takes)
  reads_terminal (action go) has takes = action (reads_terminal go has takes)

  pub reads_action : {d : D} {rest s : List (Symbol W R D)} {xs : List T} {a b : S} → Reads t m s a xs (Action d ∷ rest) b → Reads t m s a xs rest (m.perform d b)
  reads_action here = action here
  reads_action (terminal has takes go) = terminal has takes (reads_action go)
  reads_action (rule i at go) = rule i at (reads_action go)
  reads_action (action go) = action (reads_action go)

  reads_rule : {r : R} {body rest s : List (Symbol W R D)} {xs : List T} {a b : S} (i : ℕ) → production_at (t.productions r) i ≡ Some body
      → Reads t m s a xs (Rule r ∷ rest) b → Reads t m s a xs (body ++ rest) b
  reads_rule i at here = rule i at here
  reads_rule i at (terminal has takes go) = terminal has takes (reads_rule i at go)
  reads_rule i at (rule j at' go) = rule j at' (reads_rule i at go)
  reads_rule i at (action go) = action (reads_rule i at go)

  module _ (right : IsRight t h) (start : List (Symbol W R D)) (first : S) where
    pub stands_start : (x : T) → Fits t h start → Stands t h m start first [] x start first
    stands_start x fits = record { reads = here; fits = fits; only = λ ks d. d }

    action_only : {d : D} {rest : List (Symbol W R D)} {ks : List K} → Derives t (Action d ∷ rest) ks → Derives t rest ks
    action_only (d.action go) = go

    terminal_only : {w : W} {k : K} {rest : List (Symbol W R D)} {ks : List K} → Derives t (Terminal w ∷ rest) (k ∷ ks) → (t.matches w k ≡ true) × Derives t rest ks
    terminal_only (d.terminal has go) = (has, go)

    rule_only : {r : R} {k : K} {rest : List (Symbol W R D)} {ks : List K} → Derives t (Rule r ∷ rest) (k ∷ ks) → Fits t h (Rule r ∷ rest)
        → (body : List (Symbol W R D)) × (production_at (t.productions r) (h.choice r k) ≡ Some body) × Derives t (body ++ rest) (k ∷ ks)
    rule_only {r = r} {k = k} {rest = rest} {ks = ks} (d.rule {body = body} i at go) fits =
        (body, ap (production_at (t.productions r)) (choice_is t h right r i body rest k ks fits at go) ∙ at, go)

    pub stands_action : {before : List T} {x : T} {d : D} {rest : List (Symbol W R D)} {a : S} → Stands t h m start first before x (Action d ∷ rest) a
        → Stands t h m start first before x rest (m.perform d a)
    stands_action st = record { reads = reads_action st.reads; fits = st.fits; only = λ ks e. action_only (st.only ks e) }

    pub stands_rule : {before : List T} {x : T} {r : R} {body rest : List (Symbol W R D)} {a : S} → Stands t h m start first before x (Rule r ∷ rest) a
        → production_at (t.productions r) (h.choice r (m.kind x)) ≡ Some body → Stands t h m start first before x (body ++ rest) a
    stands_rule {x = x} {r = r} {body = body} {rest = rest} st at = record {
      reads = reads_rule (h.choice r (m.kind x)) at st.reads;
      fits = right.inner r (h.choice r (m.kind x)) body at rest st.fits;
      only = λ ks e.
          let found = rule_only (st.only ks e) st.fits in
          let same : found.0 ≡ body = cc in
          subst (λ v. Derives t (v ++ rest) (m.kind x ∷ ks)) same found.2;
    }

    map_append : (xs : List T) (x : T) (ks : List K) → map m.kind (xs ++ x ∷ []) ++ ks ≡ map m.kind xs ++ m.kind x ∷ ks
    map_append [] x ks = refl
    map_append (y ∷ xs) x ks = ap (λ l. m.kind y ∷ l) (map_append xs x ks)

    pub stands_terminal : {before : List T} {x : T} {w : W} {rest : List (Symbol W R D)} {a b : S} → Stands t h m start first before x (Terminal w ∷ rest) a
        → t.matches w (m.kind x) ≡ true → m.accept w a x ≡ Ok b → (y : T) → Stands t h m start first (before ++ x ∷ []) y rest b
    stands_terminal {before = before} {x = x} st has takes y = record {
      reads = reads_terminal st.reads has takes;
      fits = st.fits;
      only = λ ks e. (terminal_only (st.only (m.kind y ∷ ks) (subst (λ l. Derives t start l) (map_append before x (m.kind y ∷ ks)) e))).1;
    }

    pub refuses_check : {before : List T} {x : T} {w : W} {rest : List (Symbol W R D)} {a : S} {e : E} → Stands t h m start first before x (Terminal w ∷ rest) a
        → t.matches w (m.kind x) ≡ true → m.accept w a x ≡ Err e → Refuses t m start first before x e
    refuses_check st has takes = by_check st.reads has takes

    begins_on : {before : List T} {x : T} {stack : List (Symbol W R D)} {a : S} → Stands t h m start first before x stack a
        → Begins t start (map m.kind before ++ m.kind x ∷ []) → (ks : List K) × Derives t stack (m.kind x ∷ ks)
    begins_on {before = before} {x = x} st begins =
        (begins.0, st.only begins.0 (subst (λ l. Derives t start l) (split_append (map m.kind before) (m.kind x) begins.0) begins.1))

    pub refuses_terminal : {before : List T} {x : T} {w : W} {rest : List (Symbol W R D)} {a : S} → Stands t h m start first before x (Terminal w ∷ rest) a
        → t.matches w (m.kind x) ≡ false → Refuses t m start first before x (m.unexpected x)
    refuses_terminal st lacks = by_grammar st.reads (λ begins. let has = (terminal_only (begins_on st begins).1).0 in cc)

    pub refuses_rule : {before : List T} {x : T} {r : R} {rest : List (Symbol W R D)} {a : S} → Stands t h m start first before x (Rule r ∷ rest) a
        → production_at (t.productions r) (h.choice r (m.kind x)) ≡ None → Refuses t m start first before x (m.unexpected x)
    refuses_rule st none = by_grammar st.reads (λ begins. let found = rule_only (begins_on st begins).1 st.fits in let at = found.1 in cc)

    nothing_only : {k : K} {ks : List K} → Derives t [] (k ∷ ks) → ⊥
    nothing_only e = elim e [ ]

    -- where nothing is left, no token may follow
    pub refuses_empty : {before : List T} {x : T} {a : S} → Stands t h m start first before x [] a → Refuses t m start first before x (m.unexpected x)
    refuses_empty st = by_grammar st.reads (λ begins. nothing_only (begins_on st begins).1)
