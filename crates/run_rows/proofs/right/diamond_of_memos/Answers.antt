use Rattle.std.proofs.Common.{rules, ℕ, ◌≤◌, None, [], ◌∷◌, refl, inl, inr, arith}
use Rattle.run_items.specs.declared.answer.Reply.TheVariants as reply
use Rattle.run_meaning.specs.Lane.{own}
use Rattle.run_meaning.specs.Explained.{Explained, written}
use Rattle.run_rows.specs.Parts.{number, did, set}
use Rattle.run_rows.specs.Rows.{diamond, diamond_opened}
use Rattle.run_rows.proofs.Explains.{computed, evaluates, apart}
use Rattle.run_rows.proofs.Phases.{is_journal, entries_explained, no_run_after}
use Rattle.run_rows.proofs.right.diamond_of_memos.Goals as goal

-- each of the three memos, within these bounds
wrote : (low : ℕ → ℕ) → low 0 ≤ 1 → Explained diamond_opened diamond.entries low None 0 (number 10)
wrote low l = written 1 (inl (_, refl, refl)) refl l tt

left : (low : ℕ → ℕ) → low 0 ≤ 1 → Explained diamond_opened diamond.entries low None 1 (number 11)
left low l = computed diamond_opened diamond.entries low None 1 (number 11) _ ((0, number 10) ∷ []) refl refl (simp evaluates, simp evaluates) (wrote low l, tt)

right : (low : ℕ → ℕ) → low 0 ≤ 1 → Explained diamond_opened diamond.entries low None 2 (number 12)
right low l = computed diamond_opened diamond.entries low None 2 (number 12) _ ((0, number 10) ∷ []) refl refl (simp evaluates, simp evaluates) (wrote low l, tt)

both : (low : ℕ → ℕ) → low 0 ≤ 1 → Explained diamond_opened diamond.entries low None 3 (number 23)
both low l = computed diamond_opened diamond.entries low None 3 (number 23) _ ((1, number 11) ∷ (2, number 12) ∷ []) refl refl (simp evaluates, simp evaluates) (left low l, (right low l, tt))

abbrev none : ℕ → ℕ
none n = 0

pub returns : goal.returns
returns c = record {
  journal = is_journal diamond_opened 4 diamond.entries refl (omega arith) (inl (_, refl, refl), ((_, refl, refl), ((_, refl, refl), ((_, refl, refl), tt))));
  merge = record {
    answered = refl;
    in_order = record { grow = search rules; noted = (((0, number 10, refl, refl, refl), (tt, tt)), tt) };
    once = λ n. omega arith;
    disposals = search rules;
    pumps = search rules;
    changes = (tt, (((_, refl, refl), λ e. apart (number 2) (number 11) refl refl e), (((_, refl, refl), λ e. apart (number 3) (number 12) refl refl e), (((_, refl, refl), λ e. apart (number 5) (number 23) refl refl e), tt))));
  };
  got = ((tt, ((3, refl, both (own diamond_opened (did (set 0 (number 10)) (reply.Set 1) ∷ [])) (omega arith), inr (inr refl)), tt)), tt);
  entries = entries_explained diamond (tt, (left none (omega arith), (right none (omega arith), (both none (omega arith), tt))));
  no_run_after = no_run_after [] diamond (tt, (tt, (tt, (tt, tt))));
  causes = search rules;
  counts = search rules;
}
