use Rattle.std.proofs.Common.{rules, ℕ, None, [], ◌∷◌, refl, inl, arith}
use Rattle.run_items.specs.declared.answer.Reply.TheVariants as reply
use Rattle.run_meaning.specs.Lane.{own}
use Rattle.run_meaning.specs.Explained.{Explained, written}
use Rattle.run_rows.specs.Parts.{number, did, set}
use Rattle.run_rows.specs.Rows.{equal, equal_opened}
use Rattle.run_rows.proofs.Explains.{computed, evaluates}
use Rattle.run_rows.proofs.Phases.{is_journal, entries_explained, no_run_after}
use Rattle.run_rows.proofs.right.equal_writes.Goals as goal

abbrev low : ℕ → ℕ
low = own equal_opened (did (set 0 (number 1)) (reply.Set 1) ∷ did (set 0 (number 1)) (reply.Set 2) ∷ [])

sum : Explained equal_opened equal.entries low None 1 (number 2)
sum = computed equal_opened equal.entries low None 1 (number 2) _ ((0, number 1) ∷ []) refl refl (simp evaluates, simp evaluates)
    (written 2 (inl (_, refl, refl)) refl (omega arith) tt, tt)

pub returns : goal.returns
returns c = record {
  journal = is_journal equal_opened 2 equal.entries refl (omega arith) (inl (_, refl, refl), (inl (_, refl, refl), tt));
  merge = record {
    answered = refl;
    in_order = record { grow = search rules; noted = (((0, number 1, refl, refl, refl), ((0, number 1, refl, refl, refl), (tt, tt))), tt) };
    once = λ n. omega arith;
    disposals = search rules;
    pumps = search rules;
    changes = search rules;
  };
  got = ((tt, (tt, ((1, refl, sum, inl (refl, refl)), tt))), tt);
  entries = entries_explained equal (tt, (tt, tt));
  no_run_after = no_run_after [] equal (tt, (tt, tt));
  causes = search rules;
  counts = search rules;
}
