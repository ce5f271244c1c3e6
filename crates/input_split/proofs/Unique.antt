-- Bytes have one split at the most.
use Rattle.std.proofs.Common.{◌≡◌, ℕ, ◌+◌, ◌<◌, min, List, length, sym, ◌∙◌, ap, subst, arith, ◌⊎◌, inl, inr}
use Rattle.std.proofs.lemmas.Bool.{cases_order}
use Rattle.input_split.specs.declared.Split.{Split}
use Rattle.text_lexer.specs.Place.{line_at}
use Rattle.input_split.specs.Parts.{SplitsAt, IsSplit}
use Rattle.input_split.specs.Separator.{IsLine}
use Rattle.input_split.proofs.Lines.{one_stop}

built : ℕ → ℕ → ℕ → Split
built component_end script_start script_line = record { component_end = component_end; script_start = script_start; script_line = script_line }

same_split : (a b : Split) → a.component_end ≡ b.component_end → a.script_start ≡ b.script_start → a.script_line ≡ b.script_line → a ≡ b
unfolding built
same_split a b component script line =
    ap (λ n. built n a.script_start a.script_line) component ∙ ap (λ n. built b.component_end n a.script_line) script ∙ ap (built b.component_end b.script_start) line

-- a line has one end
same_stop : (bytes : List ℕ) (start stop end : ℕ) → IsLine bytes start stop → IsLine bytes start end → stop ≡ end
same_stop bytes start stop end a b =
    let stops = one_stop bytes start stop end a.ordered a.within a.inside a.ends b in
    omega (arith, stops.0, stops.1)

same_start : (bytes : List ℕ) (a b : Split) → SplitsAt bytes a → SplitsAt bytes b → a.component_end ≡ b.component_end
same_start bytes a b p q = by_order (cases_order a.component_end b.component_end)
  where
    by_order : (a.component_end ≡ b.component_end) ⊎ ((a.component_end < b.component_end) ⊎ (b.component_end < a.component_end)) → a.component_end ≡ b.component_end
    by_order (inl same) = same
    by_order (inr (inl less)) = absurd (q.first a.component_end p.stop less p.separator)
    by_order (inr (inr more)) = absurd (p.first b.component_end q.stop more q.separator)

pub one_split : (bytes : List ℕ) (a b : Split) → IsSplit bytes a → IsSplit bytes b → a ≡ b
one_split bytes a b (inl p) (inl q) =
    let start = same_start bytes a b p q in
    let line = subst (λ n. IsLine bytes n p.stop) start p.separator.line in
    let stop = same_stop bytes b.component_end p.stop q.stop line q.separator.line in
    same_split a b start (p.script ∙ ap (λ n. min (n + 1) (length bytes)) stop ∙ sym q.script) (p.line ∙ ap (λ n. line_at 1 bytes n + 1) start ∙ sym q.line)
one_split bytes a b (inl p) (inr q) = absurd (q.none a.component_end p.stop p.separator)
one_split bytes a b (inr p) (inl q) = absurd (p.none b.component_end q.stop q.separator)
one_split bytes a b (inr p) (inr q) = same_split a b (p.component ∙ sym q.component) (p.script ∙ sym q.script) (p.line ∙ sym q.line)
