-- Sources that take their values, row by row.
use Rattle.std.proofs.Common.{◌≡◌, ◌≢◌, ◌⊎◌, ℕ, ◌+◌, ◌<◌, ◌≤◌, List, length, Some, inl, inr, slice_get, refl, sym, ap, ◌∙◌, arith}
use Rattle.values.specs.declared.code.Code.{Code}
use Rattle.values.specs.Packing.{unpacked}
use Rattle.sources.specs.declared.opening.Opened as rows
use Rattle.phase_graph.specs.Graph.{GraphState}
use Rattle.next_layout.specs.Sources.{ArePut}
use Rattle.next_layout.proofs.Rows.{fellow}

pub put_none : (codes : List Code) (graph : GraphState) → ArePut codes 0 graph graph
put_none codes graph = record {
  rest = refl;
  raised = omega arith;
  few = omega arith;
  long = refl;
  values = λ n code row lt at_code at_row. absurd (omega arith);
  others = λ n one two le at_one at_two. (let same : Some one ≡ Some two = sym at_one ∙ at_two in let e : one ≡ two = cc in sym e ∙ ap (λ (r : rows.Opened). record one { colour = r.colour }) e);
}

here_or_before : (n k : ℕ) → n < k + 1 → (n ≡ k) ⊎ ((n < k) × (n ≢ k))
here_or_before n k lt = grind arith

pub put_more : (codes : List Code) (k : ℕ) (code : Code) (start old new : GraphState) → ArePut codes k start old → slice_get codes k ≡ Some code
    → new ≡ record old { rows = new.rows; drawn = new.drawn } → old.drawn ≤ new.drawn → new.drawn ≤ old.drawn + 1 → length new.rows ≡ length old.rows
    → ((r : rows.Opened) → slice_get new.rows k ≡ Some r → unpacked r.code ≡ code)
    → ((n : ℕ) (one two : rows.Opened) → n ≢ k → slice_get old.rows n ≡ Some one → slice_get new.rows n ≡ Some two → two ≡ record one { colour = two.colour }) → ArePut codes (k + 1) start new
put_more codes k code start old new put at rest raised few long value others = record {
  rest = rest ∙ ap (λ (g : GraphState). record g { rows = new.rows; drawn = new.drawn }) put.rest;
  raised = (let a = put.raised in omega arith);
  few = (let a = put.few in omega arith);
  long = long ∙ put.long;
  values = λ n c row lt at_code at_row. by n c row at_code at_row (here_or_before n k lt);
  others = λ n one two le at_one at_two. (
      let middle = fellow old.rows start.rows put.long n one at_one in
      let apart : n ≢ k = λ e. absurd (omega arith) in
      others n middle.0 two apart middle.1 at_two ∙ ap (λ (r : rows.Opened). record r { colour = two.colour }) (put.others n one middle.0 (omega arith) at_one middle.1));
}
  where
    by : (n : ℕ) (c : Code) (row : rows.Opened) → slice_get codes n ≡ Some c → slice_get new.rows n ≡ Some row → (n ≡ k) ⊎ ((n < k) × (n ≢ k)) → unpacked row.code ≡ c
    by n c row at_code at_row (inl e) =
        let same : Some code ≡ Some c = sym at ∙ ap (slice_get codes) (sym e) ∙ at_code in
        let is : code ≡ c = cc in
        value row (ap (slice_get new.rows) (sym e) ∙ at_row) ∙ is
    by n c row at_code at_row (inr before) =
        let was = fellow old.rows new.rows (sym long) n row at_row in
        ap (λ (r : rows.Opened). unpacked r.code) (others n was.0 row before.1 was.1 at_row) ∙ put.values n c was.0 before.0 at_code was.1
