use Rattle.std.proofs.Common.{rules, ℕ, None, [], ◌∷◌, refl, inl, arith}
use Rattle.run_items.specs.declared.answer.Reply.TheVariants as reply
use Rattle.run_meaning.specs.Lane.{own}
use Rattle.run_meaning.specs.Explained.{Explained, opening}
use Rattle.run_rows.specs.Parts.{number, did, set}
use Rattle.run_rows.specs.Rows.{branch, branch_opened}
use Rattle.run_rows.proofs.Explains.{computed, evaluates}
use Rattle.run_rows.proofs.Phases.{is_journal, entries_explained, no_run_after}
use Rattle.run_rows.proofs.right.branch_not_taken.Goals as goal

-- what is told behind the lane's write of the other branch
abbrev low : ℕ → ℕ
low = own branch_opened (did (set 2 (number 8)) (reply.Set 1) ∷ [])

chosen : Explained branch_opened branch.entries low None 3 (number 5)
chosen = computed branch_opened branch.entries low None 3 (number 5) _ ((0, number 1) ∷ (1, number 5) ∷ []) refl refl (simp evaluates, simp evaluates)
    (opening (inl (_, refl, refl)) refl refl, (opening (inl (_, refl, refl)) refl refl, tt))

pub returns : goal.returns
returns c = record {
  journal = is_journal branch_opened 1 branch.entries refl (omega arith) (inl (_, refl, refl), tt);
  merge = record {
    answered = refl;
    in_order = record { grow = search rules; noted = (((2, number 8, refl, refl, refl), (tt, tt)), tt) };
    once = λ n. omega arith;
    disposals = search rules;
    pumps = search rules;
    changes = search rules;
  };
  got = ((tt, ((3, refl, chosen, inl (refl, refl)), tt)), tt);
  entries = entries_explained branch (tt, tt);
  no_run_after = no_run_after [] branch (tt, tt);
  causes = search rules;
  counts = search rules;
}
