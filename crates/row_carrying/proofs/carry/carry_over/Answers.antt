use Rattle.std.proofs.Common.{◌≡◌, ◌≤◌, ℕ, suc, take, length, slice_get, slice_index_or, Option, Some, None, vec_len, ap, sym, subst, ◌∙◌, arith}
use Rattle.std.proofs.lemmas.Option.{slice_get-get_or}
use Rattle.row_carrying.proofs.Over.{IsOver, last_of, over_more, over_none}
use Rattle.row_carrying.proofs.carry.carry_over.Goals as goal

pub loop-row-preserved-in-Some-to : goal.loop-row-preserved-in-Some-to
loop-row-preserved-in-Some-to c =
    let k = vec_len c.pop.new.self in
    let init = c.args.old.items in
    let to = c.args.to.now in
    let later = c.in-Some-to.later in
    let before = c.loop-row.invariant in
    let lens : suc k ≡ vec_len c.loop-row.left = (let e = c.in-Some.ensures.cases in omega arith) in
    let few : suc k ≤ length init = (let f = before.few in omega arith) in
    let parts = last_of k init c.pop.new.self.items c.in-Some.row few (ap (λ n. take n init) lens ∙ sym before.left ∙ c.in-Some.ensures.items) in
    let goes : slice_get to k ≡ Some (Some later) = slice_get-get_or to k None (let p = c.requires.paired in omega arith) ∙ ap Some (ap (λ n. slice_index_or to n None) (sym c.len.ensures) ∙ c.in-Some-to.is) in
    record {
      left = parts.0;
      few = omega (arith, few);
      over = over_more to init c.args.rows.now k later c.in-Some.row c.renumbered.result c.loop-row.rows c.requires.targets goes parts.1 c.renumbered.ensures (subst (λ n. IsOver to init c.args.rows.now n c.loop-row.rows) (sym lens) before.over);
    }

pub loop-row-preserved : goal.loop-row-preserved
loop-row-preserved c =
    let k = vec_len c.pop.new.self in
    let init = c.args.old.items in
    let to = c.args.to.now in
    let before = c.loop-row.invariant in
    let lens : suc k ≡ vec_len c.loop-row.left = (let e = c.in-Some.ensures.cases in omega arith) in
    let few : suc k ≤ length init = (let f = before.few in omega arith) in
    let parts = last_of k init c.pop.new.self.items c.in-Some.row few (ap (λ n. take n init) lens ∙ sym before.left ∙ c.in-Some.ensures.items) in
    record {
      left = parts.0;
      few = omega (arith, few);
      over = over_none to init c.args.rows.now k c.loop-row.rows
          (λ later at. c.in_default-to.not-Some later (ap (λ n. slice_index_or to n None) c.len.ensures ∙ some_of (slice_index_or to k None) later (sym (slice_get-get_or to k None (let p = c.requires.paired in omega arith)) ∙ at)))
          (subst (λ n. IsOver to init c.args.rows.now n c.loop-row.rows) (sym lens) before.over);
    }
  where
    some_of : (o : Option ℕ) (later : ℕ) → Some o ≡ Some (Some later) → o ≡ Some later
    some_of o later h = cc

pub returns-clause-kept : goal.returns-clause-kept
returns-clause-kept c row later one two at_to at_old at_rows =
    c.loop-row.invariant.over.kept row later one two (let e = c.in_default.ensures.cases in omega arith) at_to at_old at_rows
