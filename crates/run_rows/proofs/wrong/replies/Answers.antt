use Rattle.std.proofs.Common.{◌≡◌, inl, inr, refl, ⊎_elim}
use Rattle.run_items.specs.declared.answer.Reply.TheVariants as reply
use Rattle.run_rows.specs.Parts.{number, disposed}
use Rattle.run_rows.proofs.wrong.replies.Goals as goal

told_other : reply.Got (number 1) 0 ≡ reply.Disposed 1 → ⊥
told_other e = cc

told_none : reply.Got (number 1) 0 ≡ reply.NoRow → ⊥
told_none e = cc

pub returns-clause-forgotten : goal.returns-clause-forgotten
returns-clause-forgotten c h = ⊎_elim told_other told_none (h.0.1.0.owed.disposed 1 refl (inr (disposed 1 1 0, inl refl, inl refl)))
