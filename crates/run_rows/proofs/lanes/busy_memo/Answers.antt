use Rattle.std.proofs.Common.{rules, ◌≢◌, ◌≤◌, ℕ, suc, None, [], ◌∷◌, refl, inl, inr, arith}
use Rattle.run_items.specs.declared.answer.Reply.TheVariants as reply
use Rattle.run_meaning.specs.Causes.{itself}
use Rattle.run_meaning.specs.Lane.{own}
use Rattle.run_meaning.specs.Explained.{Explained, written}
use Rattle.run_rows.specs.Parts.{number, did, set, get}
use Rattle.run_rows.specs.Lanes.{copy_opened, met, writer}
use Rattle.run_rows.proofs.Explains.{computed, evaluates, apart}
use Rattle.run_rows.proofs.Phases.{is_journal, entries_explained, no_run_after}
use Rattle.run_rows.proofs.lanes.busy_memo.Goals as goal

copied : (low : ℕ → ℕ) → low 0 ≤ 1 → Explained copy_opened met.entries low None 1 (number 1)
copied low l = computed copy_opened met.entries low None 1 (number 1) _ ((0, number 1) ∷ []) refl refl (simp evaluates, simp evaluates) (written 1 (inl (_, refl, refl)) refl l tt, tt)

abbrev none : ℕ → ℕ
none n = 0

other : suc 0 ≢ 2
other e = omega arith

pub returns : goal.returns
returns c = record {
  journal = is_journal copy_opened 2 met.entries refl (omega arith) (inl (_, refl, refl), ((_, refl, refl), tt));
  merge = record {
    answered = refl;
    in_order = record { grow = search rules; noted = (((0, number 1, refl, refl, refl), (tt, tt)), ((tt, tt), tt)) };
    once = λ n. omega arith;
    disposals = search rules;
    pumps = search rules;
    changes = (tt, (((_, refl, refl), λ e. apart (number 0) (number 1) refl refl e), tt));
  };
  got = ((tt, ((1, refl, copied (own copy_opened (did (set 0 (number 1)) (reply.Set 1) ∷ [])) (omega arith), inr (inr refl)), tt)), ((tt, tt), tt));
  entries = entries_explained met (tt, (copied none (omega arith), tt));
  no_run_after = no_run_after [] met (tt, (tt, tt));
  causes = (
    (search rules, (search rules, tt)),
    ((record { only = (itself, (0, writer, did (get 1) (reply.Got (number 1) 2), other, refl, inr (inl refl), itself)); owed = search rules }, tt), tt),
  );
  counts = search rules;
}
