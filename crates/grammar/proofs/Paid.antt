-- What was read is no larger than its tokens.
use Rattle.std.proofs.Common.{◌≡◌, ℕ, suc, ◌+◌, ◌-◌, ◌≤◌, nat_le, true, List, [], ◌∷◌, ◌++◌, length, Ok, arith}
use Rattle.std.proofs.lemmas.Bool.{leb-true}
use Rattle.grammar.specs.declared.symbol.Symbol.{Symbol}
use Rattle.grammar.specs.declared.symbol.Symbol.TheVariants.{Terminal, Rule, Action}
use Rattle.grammar.specs.Table.{Table}
use Rattle.grammar.specs.Semantics.{Semantics, Reads, here, terminal, rule, action}
use Rattle.grammar.proofs.Theory.{and_cases}
use Rattle.grammar.proofs.Tests.{all_at}
use Rattle.grammar.specs.Paid.{pays, rule_pays, need}

module _ {W R D K T S E : Type 0} (t : Table W R D K) (m : Semantics W D K T S E) (rise : W → ℕ) (gain : D → ℕ) (size : S → ℕ)
    (rises : (w : W) (a b : S) (x : T) → m.accept w a x ≡ Ok b → size b ≤ size a + rise w)
    (gains : (d : D) (a : S) → size (m.perform d a) ≤ size a + gain d)
    (all_pay : (r : R) → rule_pays t rise gain r ≡ true) where
  need_body : (k : ℕ) (body rest : List (Symbol W R D)) → pays t rise gain k body ≡ true → need t rise gain (body ++ rest) ≤ k + need t rise gain rest
  need_body k [] rest h = omega arith
  need_body k (Terminal w ∷ body) rest h =
      let both = and_cases (nat_le (rise w) (suc k)) (pays t rise gain (suc k - rise w) body) h in
      let enough : rise w ≤ suc k = leb-true (rise w) (suc k) both.0 in
      let more = need_body (suc k - rise w) body rest both.1 in
      omega arith
  need_body k (Action d ∷ body) rest h =
      let both = and_cases (nat_le (gain d) k) (pays t rise gain (k - gain d) body) h in
      let enough : gain d ≤ k = leb-true (gain d) k both.0 in
      let more = need_body (k - gain d) body rest both.1 in
      omega arith
  need_body k (Rule r ∷ body) rest h = need_body k body rest h

  grows : {s out : List (Symbol W R D)} {a b : S} {xs : List T} → Reads t m s a xs out b → size b + need t rise gain out ≤ size a + need t rise gain s + length xs
  grows here = omega arith
  grows (terminal {w = w} {x = x} {rest = rest} {a = a} {b = b} sees took go) =
      let more = grows go in
      let up = rises w a b x took in
      omega arith
  grows (rule {r = r} {body = body} {rest = rest} i at go) =
      let more = grows go in
      let paid = need_body 0 body rest (all_at (pays t rise gain 0) (t.productions r) i body (all_pay r) at) in
      omega arith
  grows (action {d = d} {rest = rest} {a = a} go) =
      let more = grows go in
      let up = gains d a in
      omega arith

  pub bounded : (s out : List (Symbol W R D)) (a b : S) (xs : List T) → need t rise gain s ≡ 0 → Reads t m s a xs out b → size b ≤ size a + length xs
  bounded s out a b xs none go = let all = grows go in omega (arith, none)
