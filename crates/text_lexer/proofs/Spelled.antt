-- The reserved word or the mark that bytes spell.
use Rattle.std.proofs.Common.{◌≡◌, ℕ, true, false, cond, eqb, eqb-true, List, [], ◌∷◌, Option, Some, None, refl, sym, ◌∙◌, ap, inl, inr}
use Rattle.std.proofs.lemmas.Bool.{cases_Bool, false≢true}
use Rattle.text_lexer.specs.declared.token.Mark.{Mark}
use Rattle.text_lexer.specs.declared.token.Mark.TheVariants.{ClosingTag, EqualTo, Arrow, Assign, Less, Greater, Slash, OpenBrace, CloseBrace, OpenParen, CloseParen, OpenBracket, CloseBracket, Dot, Plus, Minus, Star, Percent}
use Rattle.text_lexer.specs.declared.token.Reserved.{Reserved}
use Rattle.text_lexer.specs.declared.token.Reserved.TheVariants.{Component, Signal, Memo, Effect, Resource, After, Load, Store, Max, Cleanup, Area, If, Then, Else, Each, Row, Empty, Lt, Phase, Lane, Set, Get, Pump, Dispose, Insert, At, Remove, Move, To}
use Rattle.text_lexer.specs.Computed.{same_bytes, spelled, all_reserved, all_marks}
use Rattle.text_lexer.specs.Token.{reserved_bytes, mark_bytes}

same_true : (a b : List ℕ) → same_bytes a b ≡ true → a ≡ b
same_true [] [] h = refl
same_true [] (c ∷ cs) h = absurd (false≢true h)
same_true (b ∷ bs) [] h = absurd (false≢true h)
same_true (b ∷ bs) (c ∷ cs) h = elim (cases_Bool (eqb b c)) [
  | inl first ↦
      let is = eqb-true b c first in
      let rest = same_true bs cs (sym (ap (λ v. cond v (same_bytes bs cs) false) first) ∙ h) in
      cc
  | inr apart ↦ absurd (false≢true (sym (ap (λ v. cond v (same_bytes bs cs) false) apart) ∙ h))
]

-- a word that is not spelled is spelled by no bytes of the list
abbrev pub IsSpelling : {Word : Type 0} → (Word → List ℕ) → List ℕ → Option Word → Type 0
IsSpelling spelling bytes (Some word) = bytes ≡ spelling word
IsSpelling {Word} spelling bytes None = (word : Word) → bytes ≡ spelling word → ⊥

spelled_some : {Word : Type 0} (spelling : Word → List ℕ) (words : List Word) (bytes : List ℕ) (word : Word) → spelled spelling words bytes ≡ Some word → bytes ≡ spelling word
spelled_some spelling [] bytes word h = cc
spelled_some spelling (first ∷ words) bytes word h = elim (cases_Bool (same_bytes bytes (spelling first))) [
  | inl same ↦
      let is : Some first ≡ Some word = sym (ap (λ v. cond v (Some first) (spelled spelling words bytes)) same) ∙ h in
      let one : first ≡ word = cc in
      same_true bytes (spelling first) same ∙ ap spelling one
  | inr apart ↦ spelled_some spelling words bytes word (sym (ap (λ v. cond v (Some first) (spelled spelling words bytes)) apart) ∙ h)
]

-- where each word is found by its own bytes
spells : {Word : Type 0} (spelling : Word → List ℕ) (words : List Word) → ((word : Word) → spelled spelling words (spelling word) ≡ Some word) → (bytes : List ℕ) → IsSpelling spelling bytes (spelled spelling words bytes)
spells {Word} spelling words listed bytes = go (spelled spelling words bytes) refl
  where
    go : (x : Option Word) → spelled spelling words bytes ≡ x → IsSpelling spelling bytes x
    go (Some word) e = spelled_some spelling words bytes word e
    go None e = λ word same. let is : None ≡ Some word = sym e ∙ (ap (spelled spelling words) same ∙ listed word) in cc

pub reserved_listed : (r : Reserved) → spelled reserved_bytes all_reserved (reserved_bytes r) ≡ Some r
reserved_listed Component = refl
reserved_listed Signal = refl
reserved_listed Memo = refl
reserved_listed Effect = refl
reserved_listed Resource = refl
reserved_listed After = refl
reserved_listed Load = refl
reserved_listed Store = refl
reserved_listed Max = refl
reserved_listed Cleanup = refl
reserved_listed Area = refl
reserved_listed If = refl
reserved_listed Then = refl
reserved_listed Else = refl
reserved_listed Each = refl
reserved_listed Row = refl
reserved_listed Empty = refl
reserved_listed Lt = refl
reserved_listed Phase = refl
reserved_listed Lane = refl
reserved_listed Set = refl
reserved_listed Get = refl
reserved_listed Pump = refl
reserved_listed Dispose = refl
reserved_listed Insert = refl
reserved_listed At = refl
reserved_listed Remove = refl
reserved_listed Move = refl
reserved_listed To = refl

pub mark_listed : (m : Mark) → spelled mark_bytes all_marks (mark_bytes m) ≡ Some m
mark_listed ClosingTag = refl
mark_listed EqualTo = refl
mark_listed Arrow = refl
mark_listed Assign = refl
mark_listed Less = refl
mark_listed Greater = refl
mark_listed Slash = refl
mark_listed OpenBrace = refl
mark_listed CloseBrace = refl
mark_listed OpenParen = refl
mark_listed CloseParen = refl
mark_listed OpenBracket = refl
mark_listed CloseBracket = refl
mark_listed Dot = refl
mark_listed Plus = refl
mark_listed Minus = refl
mark_listed Star = refl
mark_listed Percent = refl

pub reserved_spells : (bytes : List ℕ) → IsSpelling reserved_bytes bytes (spelled reserved_bytes all_reserved bytes)
reserved_spells bytes = spells reserved_bytes all_reserved reserved_listed bytes

pub mark_spells : (bytes : List ℕ) → IsSpelling mark_bytes bytes (spelled mark_bytes all_marks bytes)
mark_spells bytes = spells mark_bytes all_marks mark_listed bytes

pub one_reserved : (r s : Reserved) → reserved_bytes r ≡ reserved_bytes s → r ≡ s
one_reserved r s e =
    let is : Some r ≡ Some s = sym (reserved_listed r) ∙ (ap (spelled reserved_bytes all_reserved) e ∙ reserved_listed s) in
    cc

pub one_mark : (m n : Mark) → mark_bytes m ≡ mark_bytes n → m ≡ n
one_mark m n e =
    let is : Some m ≡ Some n = sym (mark_listed m) ∙ (ap (spelled mark_bytes all_marks) e ∙ mark_listed n) in
    cc
