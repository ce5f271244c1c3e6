use Rattle.std.proofs.Common.{rules, ◌≢◌, ◌≤◌, ℕ, suc, None, [], ◌∷◌, refl, sym, subst, inl, inr, arith}
use Rattle.values.proofs.PlanLemmas.{rows_in-Read}
use Rattle.run_items.specs.declared.answer.Reply.TheVariants as reply
use Rattle.run_meaning.specs.Words.{In}
use Rattle.run_meaning.specs.Causes.{Reaches, itself, named}
use Rattle.run_meaning.specs.Lane.{own}
use Rattle.run_meaning.specs.Explained.{Explained, written}
use Rattle.run_rows.specs.Parts.{number, did, set}
use Rattle.run_rows.specs.Lanes.{copy_opened, marked, other_writer}
use Rattle.run_rows.proofs.Explains.{computed, evaluates, apart}
use Rattle.run_rows.proofs.Phases.{is_journal, entries_explained, no_run_after}
use Rattle.run_rows.proofs.lanes.marked_memo.Goals as goal

copied : (low : ℕ → ℕ) → low 0 ≤ 2 → Explained copy_opened marked.entries low None 1 (number 9)
copied low l = computed copy_opened marked.entries low None 1 (number 9) _ ((0, number 9) ∷ []) refl refl (simp evaluates, simp evaluates) (written 2 (inl (_, refl, refl)) refl l tt, tt)

abbrev none : ℕ → ℕ
none n = 0

other : suc 1 ≢ 1
other e = omega arith

reads_signal : Reaches copy_opened 1 0
reads_signal = named _ 0 refl (subst (In 0) (sym (rows_in-Read 0)) (inl refl)) itself

pub returns : goal.returns
returns c = record {
  journal = is_journal copy_opened 3 marked.entries refl (omega arith) (inl (_, refl, refl), (inl (_, refl, refl), ((_, refl, refl), tt)));
  merge = record {
    answered = refl;
    in_order = record { grow = search rules; noted = (((0, number 1, refl, refl, refl), (tt, tt)), (((0, number 9, refl, refl, refl), (tt, tt)), tt)) };
    once = λ n. omega arith;
    disposals = search rules;
    pumps = search rules;
    changes = (tt, (tt, (((_, refl, refl), λ e. apart (number 0) (number 9) refl refl e), tt)));
  };
  got = ((tt, (tt, tt)), ((tt, ((1, refl, copied (own copy_opened (did (set 0 (number 9)) (reply.Set 2) ∷ [])) (omega arith), inr (inr refl)), tt)), tt));
  entries = entries_explained marked (tt, (tt, (copied none (omega arith), tt)));
  no_run_after = no_run_after [] marked (tt, (tt, (tt, tt)));
  causes = (
    (search rules, (record { only = (itself, (1, other_writer, did (set 0 (number 9)) (reply.Set 2), other, refl, inl refl, reads_signal)); owed = search rules }, tt)),
    ((search rules, (search rules, tt)), tt),
  );
  counts = search rules;
}
