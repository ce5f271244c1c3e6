-- The form that computes tells what the tokens mean.
use Rattle.std.proofs.Common.{◌≡◌, ℕ, zero, suc, Bool, true, false, List, [], ◌∷◌, ◌++◌, Option, Some, None, Result, Ok, Err, refl, sym, subst, append_assoc}
use Rattle.std.proofs.lemmas.List.{append-nil}
use Rattle.grammar.specs.declared.symbol.Symbol.{Symbol}
use Rattle.grammar.specs.declared.symbol.Symbol.TheVariants.{Terminal, Rule, Action}
use Rattle.grammar.specs.Table.{Table, production_at}
use Rattle.grammar.specs.Lookahead.{Lookahead}
use Rattle.grammar.specs.Machine.{Fits, IsRight}
use Rattle.grammar.specs.Semantics.{Semantics, Reads, here, Refuses}
use Rattle.grammar.specs.Stands.{Stands}
use Rattle.grammar.specs.Meaning.{Means, IsFirstBad}
use Rattle.grammar.specs.Running.{Outcome, read, refused, undecided, run}
use Rattle.grammar.proofs.Standing.{reads_action, stands_start, stands_action, stands_rule, stands_terminal, refuses_check, refuses_terminal, refuses_rule, refuses_empty}

module _ {W R D K T S E : Type 0} (t : Table W R D K) (h : Lookahead W R K) (m : Semantics W D K T S E) (right : IsRight t h)
    (start : List (Symbol W R D)) (first : S) where
  -- where the tokens that were read lead to, with the first of those that are left ahead
  abbrev At : List T → List T → List (Symbol W R D) → S → Type 0
  At done [] s a = Reads t m start first done s a
  At done (x ∷ xs) s a = Stands t h m start first done x s a

  -- what an outcome tells of the tokens
  abbrev Told : List T → Outcome S E → Type 0
  Told xs (read last) = Means t m start first xs last
  Told xs (refused why) = IsFirstBad t m start first xs why
  Told xs undecided = Unit {0}

  bad_at : (done after : List T) (x : T) (why : E) → Refuses t m start first done x why → Told (done ++ x ∷ after) (refused why)
  bad_at done after x why bad = record { before = done; bad = x; after = after; whole = refl; refuses = bad }

  at_action : (done xs : List T) (d : D) (rest : List (Symbol W R D)) (a : S) → At done xs (Action d ∷ rest) a → At done xs rest (m.perform d a)
  at_action done [] d rest a reads = reads_action t h m reads
  at_action done (x ∷ xs) d rest a st = stands_action t h m right start first st

  at_next : (done xs : List T) (x : T) (rest : List (Symbol W R D)) (b : S) → ((y : T) → Stands t h m start first (done ++ x ∷ []) y rest b) → At (done ++ x ∷ []) xs rest b
  at_next done [] x rest b next = (next x).reads
  at_next done (y ∷ xs) x rest b next = next y

  -- at each stack
  abbrev Tells : ℕ → Type 0
  Tells n = (done xs : List T) (s : List (Symbol W R D)) (a : S) → At done xs s a → Told (done ++ xs) (run t h m n s a xs)

  at_terminal : (n : ℕ) → Tells n → (done xs : List T) (x : T) (w : W) (rest : List (Symbol W R D)) (a : S) → At done (x ∷ xs) (Terminal w ∷ rest) a
      → Told (done ++ x ∷ xs) (run t h m (suc n) (Terminal w ∷ rest) a (x ∷ xs))
  at_terminal n further done xs x w rest a st = by_match (t.matches w (m.kind x)) refl
    where
      by_accept : t.matches w (m.kind x) ≡ true → (o : Result S E) → m.accept w a x ≡ o
          → Told (done ++ x ∷ xs) (elim o [
            | Ok b ↦ run t h m n rest b xs
            | Err e ↦ refused e
          ])
      by_accept has (Ok b) takes =
          subst (λ l. Told l (run t h m n rest b xs)) (append_assoc done (x ∷ []) xs)
          (further (done ++ x ∷ []) xs rest b (at_next done xs x rest b (stands_terminal t h m right start first st has takes)))
      by_accept has (Err e) fails = bad_at done xs x e (refuses_check t h m right start first st has fails)

      by_match : (b : Bool) → t.matches w (m.kind x) ≡ b
          → Told (done ++ x ∷ xs) (elim b [
            | true ↦
                elim (m.accept w a x) [
                  | Ok c ↦ run t h m n rest c xs
                  | Err e ↦ refused e
                ]
            | false ↦ refused (m.unexpected x)
          ])
      by_match true has = by_accept has (m.accept w a x) refl
      by_match false lacks = bad_at done xs x (m.unexpected x) (refuses_terminal t h m right start first st lacks)

  at_rule : (n : ℕ) → Tells n → (done xs : List T) (x : T) (r : R) (rest : List (Symbol W R D)) (a : S) → At done (x ∷ xs) (Rule r ∷ rest) a
      → Told (done ++ x ∷ xs) (run t h m (suc n) (Rule r ∷ rest) a (x ∷ xs))
  at_rule n further done xs x r rest a st = by_choice (production_at (t.productions r) (h.choice r (m.kind x))) refl
    where
      by_choice : (o : Option (List (Symbol W R D))) → production_at (t.productions r) (h.choice r (m.kind x)) ≡ o
          → Told (done ++ x ∷ xs) (elim o [
            | Some body ↦ run t h m n (body ++ rest) a (x ∷ xs)
            | None ↦ refused (m.unexpected x)
          ])
      by_choice (Some body) at = further done (x ∷ xs) (body ++ rest) a (stands_rule t h m right start first st at)
      by_choice None none = bad_at done xs x (m.unexpected x) (refuses_rule t h m right start first st none)

  tells : (n : ℕ) → Tells n
  tells zero done xs s a at = tt
  tells (suc n) done [] [] a reads = subst (λ l. Told l (read a)) (sym (append-nil done)) reads
  tells (suc n) done (x ∷ xs) [] a st = bad_at done xs x (m.unexpected x) (refuses_empty t h m right start first st)
  tells (suc n) done [] (Terminal w ∷ rest) a at = tt
  tells (suc n) done (x ∷ xs) (Terminal w ∷ rest) a at = at_terminal n (tells n) done xs x w rest a at
  tells (suc n) done [] (Rule r ∷ rest) a at = tt
  tells (suc n) done (x ∷ xs) (Rule r ∷ rest) a at = at_rule n (tells n) done xs x r rest a at
  tells (suc n) done xs (Action d ∷ rest) a at = tells n done xs rest (m.perform d a) (at_action done xs d rest a at)

  at_start : (xs : List T) → Fits t h start → At [] xs start first
  at_start [] fits = here
  at_start (x ∷ xs) fits = stands_start t h m right start first x fits

  told : (n : ℕ) (xs : List T) → Fits t h start → (o : Outcome S E) → run t h m n start first xs ≡ o → Told xs o
  told n xs fits o is = subst (λ o. Told xs o) is (tells n [] xs start first (at_start xs fits))

  pub read_means : (n : ℕ) (xs : List T) (last : S) → Fits t h start → run t h m n start first xs ≡ read last → Means t m start first xs last
  read_means n xs last fits is = told n xs fits (read last) is

  pub refused_is_first_bad : (n : ℕ) (xs : List T) (why : E) → Fits t h start → run t h m n start first xs ≡ refused why → IsFirstBad t m start first xs why
  refused_is_first_bad n xs why fits is = told n xs fits (refused why) is
