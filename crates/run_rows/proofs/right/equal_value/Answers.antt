use Rattle.std.proofs.Common.{rules, ℕ, None, [], ◌∷◌, refl, inl, arith}
use Rattle.run_items.specs.declared.answer.Reply.TheVariants as reply
use Rattle.run_meaning.specs.Lane.{own}
use Rattle.run_meaning.specs.Explained.{Explained, written}
use Rattle.run_rows.specs.Parts.{number, did, set}
use Rattle.run_rows.specs.Rows.{remainder, remainder_opened}
use Rattle.run_rows.proofs.Explains.{computed, evaluates}
use Rattle.run_rows.proofs.Phases.{is_journal, entries_explained, no_run_after}
use Rattle.run_rows.proofs.right.equal_value.Goals as goal

abbrev low : ℕ → ℕ
low = own remainder_opened (did (set 0 (number 3)) (reply.Set 1) ∷ [])

rest : Explained remainder_opened remainder.entries low None 1 (number 1)
rest = computed remainder_opened remainder.entries low None 1 (number 1) _ ((0, number 3) ∷ []) refl refl (simp evaluates, simp evaluates)
    (written 1 (inl (_, refl, refl)) refl (omega arith) tt, tt)

above : Explained remainder_opened remainder.entries low None 2 (number 11)
above = computed remainder_opened remainder.entries low None 2 (number 11) _ ((1, number 1) ∷ []) refl refl (simp evaluates, simp evaluates) (rest, tt)

pub returns : goal.returns
returns c = record {
  journal = is_journal remainder_opened 1 remainder.entries refl (omega arith) (inl (_, refl, refl), tt);
  merge = record {
    answered = refl;
    in_order = record { grow = search rules; noted = (((0, number 3, refl, refl, refl), (tt, tt)), tt) };
    once = λ n. omega arith;
    disposals = search rules;
    pumps = search rules;
    changes = search rules;
  };
  got = ((tt, ((2, refl, above, inl (refl, refl)), tt)), tt);
  entries = entries_explained remainder (tt, tt);
  no_run_after = no_run_after [] remainder (tt, tt);
  causes = search rules;
  counts = search rules;
}
