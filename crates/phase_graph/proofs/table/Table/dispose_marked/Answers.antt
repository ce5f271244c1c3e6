use Rattle.std.proofs.Common.{◌≡◌, ◌+◌, ◌-◌, ℕ, sym, subst, arith}
use Rattle.std.proofs.lemmas.Option.{get_or_from_slice_get}
use Rattle.phase_graph.proofs.Areas.{below_of, lawful_owners}
use Rattle.phase_graph.proofs.Disposing.{AreDisposed, begins, passes, ends}
use Rattle.phase_graph.proofs.table.Table.dispose_marked.Goals as goal

pub loop-at-init : goal.loop-at-init
loop-at-init c = record {
  from_on = (let a = c.requires.area in let i = c.requires.inside in omega arith);
  disposed = subst (λ (n : ℕ). AreDisposed c.args.self.now c.args.self.now c.args.area n (record { now = 0; before = 0 })) (sym c.requires.inside) (begins c.args.self.now c.args.area c.requires.table);
}

pub loop-at-preserved : goal.loop-at-preserved
loop-at-preserved c =
    let l = c.loop-at-test.true in
    let old = c.loop-at.invariant.disposed in
    let w = old.within in let i = c.requires.inside in
    let place : c.loop-at.at ≡ c.loop-at.at - 1 + 1 = omega arith in
    record {
      from_on = omega arith;
      disposed = passes c.args.self.now c.loop-at.self c.turn.new.self c.args.area (c.loop-at.at - 1) _ c.loop-at.done c.turn.new.done
          (subst (λ (n : ℕ). AreDisposed c.args.self.now c.loop-at.self c.args.area n c.loop-at.done) place old)
          (sym (get_or_from_slice_get c.args.inside.now (c.loop-at.at - 1) _ _ (c.requires.marked.each (c.loop-at.at - 1) (omega arith) (omega arith)))) c.turn.ensures.turned c.turn.ensures.passed c.turn.ensures.same;
    }

pub returns-clause-call : goal.returns-clause-call
returns-clause-call c = λ pass.
    let a = c.requires.area in
    let last : c.loop-at.at ≡ c.args.area = (let f = c.loop-at-test.false in let g = c.loop-at.invariant.from_on in omega arith) in
    ends c.args.self.now c.loop-at.self pass c.args.area c.loop-at.done (below_of c.args.self.now.plan.owners (lawful_owners c.args.self.now.plan c.requires.table.lawful)) (omega arith)
    (subst (λ (n : ℕ). AreDisposed c.args.self.now c.loop-at.self c.args.area n c.loop-at.done) last c.loop-at.invariant.disposed)
