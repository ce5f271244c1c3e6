-- What the loop over blanks and comments knows.
use Rattle.std.proofs.Common.{◌≡◌, ℕ, ◌+◌, ◌<◌, ◌≤◌, Bool, true, false, eqb-true, List, length, get_or, ◌⊎◌, inl, inr, refl, sym, ◌∙◌, subst, arith}
use Rattle.std.proofs.lemmas.Bool.{cases_lt, cases_eq, eq-eqb, false≢true, cases_Bool}
use Rattle.text_lexer.specs.Bytes.{is_blank, is_hash}
use Rattle.text_lexer.specs.Lexing.{IsInComment, IsBetweenTokens, Skips}

-- before i a comment has begun that no line feed has ended
pub record HasOpenComment (text : List ℕ) (from i : ℕ) : Type 0 where
  pub hash : ℕ
  pub after_from : from ≤ hash
  pub before : hash < i
  pub begins : is_hash (get_or text hash 0) ≡ true
  pub same_line : (j : ℕ) → hash ≤ j → j < i → get_or text j 0 ≡ 10 → ⊥

-- the bytes before i are skipped, and whether i stands in a comment that began before
pub record SkipsSoFar (text : List ℕ) (from i : ℕ) (in_comment : Bool) : Type 0 where
  pub ordered : from ≤ i
  pub within : i ≤ length text
  pub all : (k : ℕ) → from ≤ k → k < i → IsBetweenTokens text from k
  pub inside : in_comment ≡ true → HasOpenComment text from i
  pub outside : in_comment ≡ false → HasOpenComment text from i → ⊥

pub skips_none : (text : List ℕ) (from : ℕ) → from ≤ length text → SkipsSoFar text from from false
skips_none text from h = record {
  ordered = omega arith;
  within = h;
  all = λ k l m. absurd (omega arith);
  inside = λ e. absurd (false≢true e);
  outside = λ e o. let a = o.after_from in let b = o.before in omega arith;
}

blank_line_feed : (b : ℕ) → b ≡ 10 → is_blank b ≡ true
blank_line_feed b e = rw e refl

-- a byte behind the start of a comment in its line
in_comment_at : (text : List ℕ) (from i : ℕ) → HasOpenComment text from i → (get_or text i 0 ≡ 10 → ⊥) → IsInComment text from i
in_comment_at text from i o n = record {
  hash = o.hash;
  after_from = o.after_from;
  before_k = (let b = o.before in omega arith);
  is_hash = o.begins;
  same_line = λ j l m e. elim (cases_lt j i) [
    | inl before ↦ o.same_line j l before e
    | inr past ↦ let same : j ≡ i = omega arith in n (subst (λ v. get_or text v 0 ≡ 10) same e)
  ];
}

at_hash : (text : List ℕ) (from i : ℕ) → from ≤ i → get_or text i 0 ≡ 35 → IsInComment text from i
at_hash text from i h e = record {
  hash = i;
  after_from = h;
  before_k = omega arith;
  is_hash = eq-eqb (get_or text i 0) 35 e;
  same_line = λ j l m f. let same : j ≡ i = omega arith in let z = subst (λ v. get_or text v 0 ≡ 10) same f in (let y = sym e ∙ z in omega arith);
}

open_from : (text : List ℕ) (from i : ℕ) → IsInComment text from i → HasOpenComment text from (i + 1)
open_from text from i c = record {
  hash = c.hash;
  after_from = c.after_from;
  before = (let b = c.before_k in omega arith);
  begins = c.is_hash;
  same_line = λ j l m e. c.same_line j l (omega arith) e;
}

-- the byte at i is skipped too
pub skips_more : (text : List ℕ) (from i : ℕ) (in_comment next : Bool) → SkipsSoFar text from i in_comment → i < length text → (in_comment ≡ false → is_blank (get_or text i 0) ≡ false → (get_or text i 0 ≡ 35 → ⊥) → ⊥) → (next ≡ true → ((in_comment ≡ true) ⊎ (get_or text i 0 ≡ 35)) × (get_or text i 0 ≡ 10 → ⊥)) → (((in_comment ≡ true) ⊎ (get_or text i 0 ≡ 35)) × (get_or text i 0 ≡ 10 → ⊥) → next ≡ true) → SkipsSoFar text from (i + 1) next
skips_more text from i in_comment next s h skipped forth back = record {
  ordered = (let a = s.ordered in omega arith);
  within = omega arith;
  all = λ k l m. elim (cases_lt k i) [
    | inl before ↦ s.all k l before
    | inr past ↦ let same : i ≡ k = omega arith in subst (λ v. IsBetweenTokens text from v) same here
  ];
  inside = λ e. let is = forth e in open_from text from i (commented is.0 is.1);
  outside = λ e o. no_more e o;
}
  where
    commented : ((in_comment ≡ true) ⊎ (get_or text i 0 ≡ 35)) → (get_or text i 0 ≡ 10 → ⊥) → IsInComment text from i
    commented w n = elim w [
      | inl c ↦ in_comment_at text from i (s.inside c) n
      | inr hash ↦ at_hash text from i s.ordered hash
    ]

    here : IsBetweenTokens text from i
    here = elim (cases_eq (get_or text i 0) 10) [
      | inl feed ↦ inl (blank_line_feed _ feed)
      | inr n ↦ elim (cases_Bool in_comment) [
        | inl c ↦ inr (commented (inl c) n)
        | inr c ↦ elim (cases_Bool (is_blank (get_or text i 0))) [
          | inl blank ↦ inl blank
          | inr no_blank ↦ elim (cases_eq (get_or text i 0) 35) [
            | inl hash ↦ inr (at_hash text from i s.ordered hash)
            | inr no_hash ↦ absurd (skipped c no_blank no_hash)
          ]
        ]
      ]
    ]

    no_more : next ≡ false → HasOpenComment text from (i + 1) → ⊥
    no_more e o =
        let n = λ (f : get_or text i 0 ≡ 10). o.same_line i (let b = o.before in omega arith) (omega arith) f in
        elim (cases_lt o.hash i) [
          | inl before ↦ elim (cases_Bool in_comment) [
            | inl c ↦ false≢true (sym e ∙ back (inl c, n))
            | inr c ↦ s.outside c (record { hash = o.hash; after_from = o.after_from; before = before; begins = o.begins; same_line = λ j l m f. o.same_line j l (omega arith) f })
          ]
          | inr past ↦
              let b = o.before in
              let same : o.hash ≡ i = omega arith in
              let hash = eqb-true (get_or text i 0) 35 (subst (λ v. is_hash (get_or text v 0) ≡ true) same o.begins) in
              false≢true (sym e ∙ back (inr hash, n))
        ]

-- nothing more is skipped
pub skips_done : (text : List ℕ) (from i : ℕ) (in_comment : Bool) → SkipsSoFar text from i in_comment → (i < length text → (in_comment ≡ false) × (is_blank (get_or text i 0) ≡ false) × (get_or text i 0 ≡ 35 → ⊥)) → Skips text from i
skips_done text from i in_comment s stop = record {
  ordered = s.ordered;
  within = s.within;
  all = s.all;
  stops = λ h w.
      let is = stop h in
      elim w [
        | inl blank ↦ false≢true (sym is.1 ∙ blank)
        | inr c ↦ elim (cases_lt c.hash i) [
          | inl before ↦ s.outside is.0 (record { hash = c.hash; after_from = c.after_from; before = before; begins = c.is_hash; same_line = λ j l m e. c.same_line j l (omega arith) e })
          | inr past ↦
              let b = c.before_k in
              let same : c.hash ≡ i = omega arith in
              is.2 (eqb-true (get_or text i 0) 35 (subst (λ v. is_hash (get_or text v 0) ≡ true) same c.is_hash))
        ]
      ];
}
