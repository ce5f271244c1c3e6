-- What a write leaves.
use Rattle.std.proofs.Common.{◌≡◌, ℕ, ◌≤◌, ◌⊎◌, inl, inr, List, slice_get, Some, set, sym, ap, ◌∙◌, arith}
use Rattle.values.specs.declared.plan.PlanNode.{PlanNode}
use Rattle.sources.specs.declared.body.Read.{Read}
use Rattle.sources.specs.declared.opening.Opened.{Opened}
use Rattle.sources.specs.Rows.{IsDated, IsRoomy}
use Rattle.still_readers.specs.Marking.{IsDarkened, written_row}
use Rattle.still_readers.proofs.Lists.{which}
use Rattle.still_readers.proofs.MarkingLemmas.{before}

-- versions are those before the write, or its own
pub dated_darkened : (rows rows' : List Opened) (s code v now now' : ℕ) (y0 : Opened) → slice_get rows s ≡ Some y0 → IsDated rows now → now ≤ now' → v ≤ now' → IsDarkened (set rows s (written_row y0 code v)) rows' → IsDated rows' now'
dated_darkened rows rows' s code v now now' y0 here dated le low re = record {
  held = (λ i row at.
      let y = before (set rows s (written_row y0 code v)) rows' re i row at in
      let same = ap (λ (q : Opened). q.version) y.2.same in
      let b = held i y.0 (which rows s y0 (written_row y0 code v) i y.0 here y.1) in omega arith);
  recorded = (λ i row at k x e.
      let y = before (set rows s (written_row y0 code v)) rows' re i row at in
      recorded i y.0 k x (ap (λ (q : Opened). slice_get q.body.reads.list k) (sym y.2.same) ∙ e) (which rows s y0 (written_row y0 code v) i y.0 here y.1));
}
  where
    held : (i : ℕ) (z : Opened) → ((i ≡ s) × (z ≡ written_row y0 code v)) ⊎ ((i ≡ s → ⊥) × (slice_get rows i ≡ Some z)) → z.version ≤ now'
    held i z (inl (e, f)) = rw f low
    held i z (inr (o, at)) = let d = dated.held i z at in omega arith

    recorded : (i : ℕ) (z : Opened) (k : ℕ) (x : Read) → slice_get z.body.reads.list k ≡ Some x → ((i ≡ s) × (z ≡ written_row y0 code v)) ⊎ ((i ≡ s → ⊥) × (slice_get rows i ≡ Some z)) → x.version ≤ now'
    recorded i z k x e (inl (p, f)) = let d = dated.recorded s y0 here k x (ap (λ (q : Opened). slice_get q.body.reads.list k) (sym f) ∙ e) in omega arith
    recorded i z k x e (inr (o, at)) = let d = dated.recorded i z at k x e in omega arith

-- bodies are those before the write
pub roomy_darkened : (nodes : List PlanNode) (rows rows' : List Opened) (s code v : ℕ) (y0 : Opened) → slice_get rows s ≡ Some y0 → IsRoomy nodes rows → IsDarkened (set rows s (written_row y0 code v)) rows' → IsRoomy nodes rows'
roomy_darkened nodes rows rows' s code v y0 here roomy re = record {
  each = (λ i node row n at d.
      let y = before (set rows s (written_row y0 code v)) rows' re i row at in
      elim (which rows s y0 (written_row y0 code v) i y.0 here y.1) [
        | inl p ↦ rw (y.2.same, p.1) (roomy.each i node y0 n (rw p.0 here) d)
        | inr q ↦ rw y.2.same (roomy.each i node y.0 n q.1 d)
      ]);
}
