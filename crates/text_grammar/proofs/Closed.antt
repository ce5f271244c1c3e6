-- The closer adds no text, and refuses no token but those that leave an element open.
use Rattle.std.proofs.Common.{◌≡◌, ℕ, zero, suc, true, List, [], ◌∷◌, ◌++◌, map, Option, Some, Ok, Err, ◌⊎◌, inl, inr, refl, sym, ap, subst, ◌∙◌}
use Rattle.grammar.specs.declared.symbol.Symbol.TheVariants as s
use Rattle.grammar.specs.Table.{production_at, Derives, done, terminal as one, rule as by, action as acts, Begins}
use Rattle.grammar.specs.Machine.{Fits, Takes, takes_terminal, takes_rule, takes_action}
use Rattle.grammar.specs.Semantics.{Semantics, Reads, here, terminal as reads_one, rule as reads_by, action as reads_acts, Refuses, by_check, by_grammar}
use Rattle.grammar.proofs.Theory.{choice_is, takes_from}
use Rattle.text_grammar.specs.declared.kind.Seen.{Seen}
use Rattle.text_grammar.specs.declared.component.Action.{Action}
use Rattle.text_grammar.specs.declared.component.Terminal.{Terminal}
use Rattle.text_grammar.specs.declared.component.Terminal.TheVariants as terminal
use Rattle.text_grammar.specs.declared.component.Rule.{Rule}
use Rattle.text_grammar.specs.declared.component.Rule.TheVariants as rule
use Rattle.text_grammar.specs.Component.{Symbols, matches, table, text, productions}
use Rattle.text_grammar.specs.ComponentAhead.{lookahead}
use Rattle.text_grammar.specs.Closed.{closed_table, closed_productions, RefusesClosers, LeavesOpen, IsUnclosed}
use Rattle.text_grammar.proofs.ComponentRight.{is_right, closed_is_right}

abbrev closer : Symbols
closer = s.Terminal terminal.Closer ∷ []

-- ---- productions

-- a production of an element's end without the closer is one of the table
closed_end : (i : ℕ) (body : Symbols) → production_at (closed_productions rule.ElementEnd) i ≡ Some body → production_at (productions rule.ElementEnd) i ≡ Some body
closed_end zero body at = at
closed_end (suc i) body at = cc

in_table : (r : Rule) (i : ℕ) (body : Symbols) → production_at (closed_productions r) i ≡ Some body → production_at (productions r) i ≡ Some body
in_table rule.ElementEnd i body at = closed_end i body at
in_table r i body at = at

-- one of the table is one without the closer, or the closer itself
abbrev IsClosedOr : Rule → ℕ → Symbols → Type 0
IsClosedOr r i body = (production_at (closed_productions r) i ≡ Some body) ⊎ ((rule.ElementEnd ≡ r) × (closer ≡ body))

open_end : (i : ℕ) (body : Symbols) → production_at (productions rule.ElementEnd) i ≡ Some body → IsClosedOr rule.ElementEnd i body
open_end zero body at = inl at
open_end (suc zero) body at = let same : closer ≡ body = cc in inr (refl, same)
open_end (suc (suc i)) body at = cc

closed_or_closer : (r : Rule) (i : ℕ) (body : Symbols) → production_at (productions r) i ≡ Some body → IsClosedOr r i body
closed_or_closer rule.ElementEnd i body at = open_end i body at
closed_or_closer r i body at = inl at

-- ---- derivations

pub derives_in_table : {symbols : Symbols} {ks : List Seen} → Derives closed_table symbols ks → Derives table symbols ks
derives_in_table done = done
derives_in_table (one has d) = one has (derives_in_table d)
derives_in_table (by {r = r} {body = body} i at d) = by i (in_table r i body at) (derives_in_table d)
derives_in_table (acts d) = acts (derives_in_table d)

module _ {T S E : Type 0} (m : Semantics Terminal Action Seen T S E) where
  pub reads_in_table : {symbols out : Symbols} {xs : List T} {a b : S} → Reads closed_table m symbols a xs out b → Reads table m symbols a xs out b
  reads_in_table here = here
  reads_in_table (reads_one has takes go) = reads_one has takes (reads_in_table go)
  reads_in_table (reads_by {r = r} {body = body} i at go) = reads_by i (in_table r i body at) (reads_in_table go)
  reads_in_table (reads_acts go) = reads_acts (reads_in_table go)

  -- what stands at an open element's end
  abbrev AtEnd : Symbols → S → List T → Symbols → S → Type 0
  AtEnd symbols a xs out b = (rest : Symbols) × (out ≡ s.Terminal terminal.Closer ∷ rest) × Reads closed_table m symbols a xs (s.Rule rule.ElementEnd ∷ rest) b

  at_end_one : {w : Terminal} {x : T} {rest out : Symbols} {xs : List T} {a b c : S} → matches w (m.kind x) ≡ true → m.accept w a x ≡ Ok b
      → AtEnd rest b xs out c → AtEnd (s.Terminal w ∷ rest) a (x ∷ xs) out c
  at_end_one has takes found = (found.0, found.1, reads_one has takes found.2)

  at_end_by : {r : Rule} {body rest out : Symbols} {xs : List T} {a c : S} (i : ℕ) → production_at (closed_productions r) i ≡ Some body
      → AtEnd (body ++ rest) a xs out c → AtEnd (s.Rule r ∷ rest) a xs out c
  at_end_by i at found = (found.0, found.1, reads_by i at found.2)

  module _ (refuses : RefusesClosers m) where
    -- a closer is not read
    refused : (w : Terminal) (a b : S) (x : T) → w ≡ terminal.Closer → m.accept w a x ≡ Ok b → ⊥
    refused w a b x same takes =
        let no = (refuses a x).1 in
        let yes : m.accept terminal.Closer a x ≡ Ok b = subst (λ v. m.accept v a x ≡ Ok b) same takes in
        cc

    stays : {symbols out : Symbols} {xs : List T} {a b : S} (rest : Symbols) → Reads table m symbols a xs out b → symbols ≡ s.Terminal terminal.Closer ∷ rest
        → (xs ≡ []) × (a ≡ b) × (out ≡ s.Terminal terminal.Closer ∷ rest)
    stays rest here same = (refl, refl, same)
    stays rest (reads_one {w = w} {x = x} {a = a} {b = b} has takes go) same =
        let closer_is : w ≡ terminal.Closer = cc in
        absurd (refused w a b x closer_is takes)
    stays rest (reads_by i at go) same = cc
    stays rest (reads_acts go) same = cc

    -- what the table reads is read without the closer, or up to an open element's end
    reads_alike : {symbols out : Symbols} {xs : List T} {a b : S} → Reads table m symbols a xs out b → Reads closed_table m symbols a xs out b ⊎ AtEnd symbols a xs out b
    reads_alike here = inl here
    reads_alike (reads_one has takes go) =
        elim (reads_alike go) [
          | inl found ↦ inl (reads_one has takes found)
          | inr found ↦ inr (at_end_one has takes found)
        ]
    reads_alike (reads_by {r = r} {body = body} {rest = rest} {out = out} {xs = xs} {a = a} {c = c} i at go) =
        elim (closed_or_closer r i body at) [
          | inl closed ↦
              elim (reads_alike go) [
                | inl found ↦ inl (reads_by i closed found)
                | inr found ↦ inr (at_end_by i closed found)
              ]
          | inr same ↦
              let end = stays rest go (ap (λ v. v ++ rest) (sym same.1)) in
              let at_rule : Reads closed_table m (s.Rule rule.ElementEnd ∷ rest) a [] (s.Rule rule.ElementEnd ∷ rest) a = here in
              inr (
                rest,
                end.2,
                subst (λ v. Reads closed_table m (s.Rule v ∷ rest) a xs (s.Rule rule.ElementEnd ∷ rest) c) same.0
                    (subst (λ v. Reads closed_table m (s.Rule rule.ElementEnd ∷ rest) a xs (s.Rule rule.ElementEnd ∷ rest) v) end.1
                    (subst (λ v. Reads closed_table m (s.Rule rule.ElementEnd ∷ rest) a v (s.Rule rule.ElementEnd ∷ rest) a) (sym end.0) at_rule)),
              )
        ]
    reads_alike (reads_acts go) =
        elim (reads_alike go) [
          | inl found ↦ inl (reads_acts found)
          | inr found ↦ inr (found.0, found.1, reads_acts found.2)
        ]

    pub reads_closed : {symbols : Symbols} {xs : List T} {a b : S} → Reads table m symbols a xs [] b → Reads closed_table m symbols a xs [] b
    reads_closed go =
        elim (reads_alike go) [
          | inl found ↦ found
          | inr found ↦ let no = found.1 in cc
        ]

    pub refuses_alike : (a : S) (before : List T) (x : T) (e : E) → Refuses table m text a before x e → Refuses closed_table m text a before x e ⊎ IsUnclosed m a before x e
    refuses_alike a before x e (by_check {w = w} {rest = rest} {b = b} reads has takes) =
        elim (reads_alike reads) [
          | inl found ↦ inl (by_check found has takes)
          | inr found ↦
              let end = found.1 in
              let same : w ≡ terminal.Closer = cc in
              inr (
                b,
                record { rest = found.0; reads = found.2; closes = subst (λ v. matches v (m.kind x) ≡ true) same has },
                subst (λ v. m.accept v b x ≡ Err e) same takes,
              )
        ]
    refuses_alike a before x e (by_grammar {b = b} reads none) =
        elim (reads_alike reads) [
          | inl found ↦ inl (by_grammar found (λ begins. none (begins.0, derives_in_table begins.1)))
          | inr found ↦ inl (by_grammar found.2 (λ begins. none (begins.0, derives_in_table begins.1)))
        ]

  -- ---- an element that is not closed is refused as such

  to_closer : {symbols rest : Symbols} {xs : List T} {a b : S} → Reads table m symbols a xs (s.Rule rule.ElementEnd ∷ rest) b → Reads table m symbols a xs (s.Terminal terminal.Closer ∷ rest) b
  to_closer here = reads_by 1 refl here
  to_closer (reads_one has takes go) = reads_one has takes (to_closer go)
  to_closer (reads_by i at go) = reads_by i at (to_closer go)
  to_closer (reads_acts go) = reads_acts (to_closer go)

  pub refuses_unclosed : (a : S) (before : List T) (x : T) (e : E) → IsUnclosed m a before x e → Refuses table m text a before x e
  refuses_unclosed a before x e found = by_check (to_closer (reads_in_table found.1.reads)) found.1.closes found.2

  -- ---- where the table goes on, the texts do, or the token is a closer

  abbrev Open : Symbols → S → List T → T → Type 0
  Open symbols a xs x = (rest : Symbols) × (c : S) × Reads closed_table m symbols a xs (s.Rule rule.ElementEnd ∷ rest) c × (matches terminal.Closer (m.kind x) ≡ true)

  abbrev GoesOn : Symbols → S → List T → T → Type 0
  GoesOn symbols a xs x = ((ks : List Seen) × Derives closed_table symbols (map m.kind xs ++ m.kind x ∷ ks)) ⊎ Open symbols a xs x

  by_rule : {r : Rule} {body rest : Symbols} {a : S} {xs : List T} (x : T) (i : ℕ) → production_at (closed_productions r) i ≡ Some body → GoesOn (body ++ rest) a xs x → GoesOn (s.Rule r ∷ rest) a xs x
  by_rule x i at (inl d) = inl (d.0, by i at d.1)
  by_rule x i at (inr found) = inr (found.0, found.1, reads_by i at found.2, found.3)

  by_terminal : {w : Terminal} {rest : Symbols} {a b : S} {xs : List T} {y : T} (x : T) → matches w (m.kind y) ≡ true → m.accept w a y ≡ Ok b → GoesOn rest b xs x → GoesOn (s.Terminal w ∷ rest) a (y ∷ xs) x
  by_terminal x has takes (inl d) = inl (d.0, one has d.1)
  by_terminal x has takes (inr found) = inr (found.0, found.1, reads_one has takes found.2, found.3)

  by_action : {d : Action} {rest : Symbols} {a : S} {xs : List T} (x : T) → GoesOn rest (m.perform d a) xs x → GoesOn (s.Action d ∷ rest) a xs x
  by_action x (inl d) = inl (d.0, acts d.1)
  by_action x (inr found) = inr (found.0, found.1, reads_acts found.2, found.3)

  closer_takes : {symbols out : Symbols} {k : Seen} (rest : Symbols) → Takes table lookahead symbols k out → symbols ≡ s.Terminal terminal.Closer ∷ rest → matches terminal.Closer k ≡ true
  closer_takes {k = k} rest (takes_terminal {w = w} has) same = let closer_is : w ≡ terminal.Closer = cc in subst (λ v. matches v k ≡ true) closer_is has
  closer_takes rest (takes_rule at go) same = cc
  closer_takes rest (takes_action go) same = cc

  goes_on_now : {symbols out : Symbols} {k : Seen} (a : S) (x : T) → Takes table lookahead symbols k out → k ≡ m.kind x → GoesOn symbols a [] x
  goes_on_now a x (takes_terminal {w = w} {rest = rest} has) same =
      let end = closed_is_right.ends rest in
      inl (end.0, one (subst (λ v. matches w v ≡ true) same has) end.1)
  goes_on_now {out = out} {k = k} a x (takes_rule {r = r} {body = body} {rest = rest} at go) same =
      elim (closed_or_closer r (lookahead.choice r k) body at) [
        | inl closed ↦ by_rule x (lookahead.choice r k) closed (goes_on_now a x go same)
        | inr closes ↦
            let has = closer_takes rest go (ap (λ v. v ++ rest) (sym closes.1)) in
            inr (
              rest,
              a,
              subst (λ v. Reads closed_table m (s.Rule v ∷ rest) a [] (s.Rule rule.ElementEnd ∷ rest) a) closes.0 here,
              subst (λ v. matches terminal.Closer v ≡ true) same has,
            )
      ]
  goes_on_now a x (takes_action {d = d} go) same = by_action x (goes_on_now (m.perform d a) x go same)

  -- what is read is derived, with some rest
  derived : {symbols out : Symbols} {xs : List T} {a b : S} → Reads closed_table m symbols a xs out b → (ks : List Seen) → Derives table out ks → Derives table symbols (map m.kind xs ++ ks)
  derived here ks d = d
  derived (reads_one has takes go) ks d = one has (derived go ks d)
  derived (reads_by {r = r} {body = body} i at go) ks d = by i (in_table r i body at) (derived go ks d)
  derived (reads_acts go) ks d = acts (derived go ks d)

  terminal_only : {w : Terminal} {rest : Symbols} {k : Seen} {ks : List Seen} → Derives table (s.Terminal w ∷ rest) (k ∷ ks) → Derives table rest ks
  terminal_only (one has d) = d

  action_only : {d : Action} {rest : Symbols} {ks : List Seen} → Derives table (s.Action d ∷ rest) ks → Derives table rest ks
  action_only (acts d) = d

  rule_only : {r : Rule} {rest : Symbols} {k : Seen} {ks : List Seen} → Derives table (s.Rule r ∷ rest) (k ∷ ks) → Fits table lookahead (s.Rule r ∷ rest)
      → (body : Symbols) × (production_at (productions r) (lookahead.choice r k) ≡ Some body) × Derives table (body ++ rest) (k ∷ ks)
  rule_only {r = r} {rest = rest} {k = k} {ks = ks} (by {body = body} i at d) fits =
      (body, ap (production_at (productions r)) (choice_is table lookahead is_right r i body rest k ks fits at d) ∙ at, d)

  some_same : {A : Type 0} (o : Option A) (x y : A) → o ≡ Some x → o ≡ Some y → x ≡ y
  some_same o x y p q = cc

  abbrev Leads : Symbols → S → List T → T → Type 0
  Leads symbols a xs x = Fits table lookahead symbols → (ks : List Seen) → Derives table symbols (map m.kind xs ++ m.kind x ∷ ks) → GoesOn symbols a xs x

  leads_now : (symbols : Symbols) (a : S) (x : T) → Leads symbols a [] x
  leads_now symbols a x fits ks d =
      let found = takes_from table lookahead is_right fits (ks, d) in
      goes_on_now a x found.1 refl

  leads_rule : {r : Rule} {body rest out : Symbols} {a c : S} (x : T) (xs : List T) (i : ℕ) → production_at (closed_productions r) i ≡ Some body
      → Reads closed_table m (body ++ rest) a xs out c → Leads (body ++ rest) a xs x → Leads (s.Rule r ∷ rest) a xs x
  leads_rule {r = r} {rest = rest} {a = a} x [] i at go more = leads_now (s.Rule r ∷ rest) a x
  leads_rule {r = r} {body = body} {rest = rest} {out = out} {a = a} x (y ∷ xs) i at go more = λ fits ks d.
      let found = rule_only d fits in
      let end = is_right.ends out in
      let in_grammar = in_table r i body at in
      let chosen = choice_is table lookahead is_right r i body rest (m.kind y) (map m.kind xs ++ end.0) fits in_grammar (derived go end.0 end.1) in
      let same = some_same (production_at (productions r) i) found.0 body (subst (λ n. production_at (productions r) n ≡ Some found.0) chosen found.1) in_grammar in
      by_rule x i at (more (is_right.inner r i body in_grammar rest fits) ks (subst (λ v. Derives table (v ++ rest) (m.kind y ∷ (map m.kind xs ++ m.kind x ∷ ks))) same found.2))

  leads_action : {d : Action} {rest : Symbols} {a : S} (x : T) (xs : List T) → Leads rest (m.perform d a) xs x → Leads (s.Action d ∷ rest) a xs x
  leads_action x xs more fits ks d = by_action x (more fits ks (action_only d))

  leads : {symbols out : Symbols} {xs : List T} {a b : S} (x : T) → Reads closed_table m symbols a xs out b → Leads symbols a xs x
  leads x (here {s = symbols} {a = a}) = leads_now symbols a x
  leads x (reads_one has takes go) = λ fits ks d. by_terminal x has takes (leads x go fits ks (terminal_only d))
  leads x (reads_by {xs = xs} i at go) = leads_rule x xs i at go (leads x go)
  leads x (reads_acts {xs = xs} go) = leads_action x xs (leads x go)

  split_append : (ks : List Seen) (k : Seen) (more : List Seen) → (ks ++ k ∷ []) ++ more ≡ ks ++ k ∷ more
  split_append [] k more = refl
  split_append (j ∷ ks) k more = ap (λ l. j ∷ l) (split_append ks k more)

  pub goes_on_alike : Fits table lookahead text → (a : S) (before : List T) (x : T) {out : Symbols} {b : S} → Reads closed_table m text a before out b
      → Begins table text (map m.kind before ++ m.kind x ∷ []) → Begins closed_table text (map m.kind before ++ m.kind x ∷ []) ⊎ ((c : S) × LeavesOpen m a before x c)
  goes_on_alike fits a before x go begins =
      let split = λ (more : List Seen). split_append (map m.kind before) (m.kind x) more in
      elim (leads x go fits begins.0 (subst (λ l. Derives table text l) (split begins.0) begins.1)) [
        | inl d ↦ inl (d.0, subst (λ l. Derives closed_table text l) (sym (split d.0)) d.1)
        | inr found ↦ inr (found.1, record { rest = found.0; reads = found.2; closes = found.3 })
      ]
