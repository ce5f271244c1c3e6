use Rattle.std.proofs.Common.{rules, ◌≡◌, ◌⊎◌, ℕ, true, [], ◌∷◌, refl, inl, inr, arith}
use Rattle.std.specs.List.{list_any}
use Rattle.std.proofs.lemmas.Option.{none-some}
use Rattle.run_meaning.specs.Words.{In}
use Rattle.run_meaning.specs.Merge.{names_area, Stands}
use Rattle.run_rows.specs.Parts.{disposed}
use Rattle.run_rows.specs.Rows.{gone, gone_opened}
use Rattle.run_rows.proofs.Cases.{all_in, effect_in, once_in_one}
use Rattle.run_rows.proofs.Phases.{is_journal, entries_explained, no_run_after}
use Rattle.run_rows.proofs.right.gone_effect.Goals as goal

each_disposed : (n : ℕ) → In n (1 ∷ []) → In n (1 ∷ []) ⊎ In n []
each_disposed n i = inl i

pub returns : goal.returns
returns c = record {
  journal = is_journal gone_opened 1 gone.entries refl (omega arith) (omega arith, tt);
  merge = record {
    answered = refl;
    in_order = search rules;
    once = λ n. omega arith;
    disposals = record {
      once = λ n. once_in_one n 1;
      each = (((refl, each_disposed, omega arith), (tt, tt)), tt);
      sum = refl;
      asked = λ n i. all_in (λ (m : ℕ). list_any (list_any (names_area gone_opened m)) gone.lanes ≡ true) (1 ∷ []) (refl, tt) n i;
    };
    pumps = record {
      each = ((tt, ((refl, omega arith, ([], omega arith, λ n k. inr (effect_in (Stands [] gone (disposed 1 1 0 ∷ [])) gone_opened.plan.nodes (tt, (inl (_, refl, inl refl), tt)) n k))), tt)), tt);
      sum = refl;
      void = omega arith;
    };
    changes = (tt, tt);
  };
  got = ((tt, (tt, tt)), tt);
  entries = entries_explained gone (tt, tt);
  no_run_after = no_run_after [] gone (tt, tt);
  causes = (
    (
      record { only = tt; owed = record { no_row = λ e. absurd (none-some _ e); disposed = λ n e d. absurd (none-some _ e) } },
      (
        record {
          only = record { gone = omega arith; gone_alone = λ e. omega arith; left = inr ([], omega arith, (λ n. omega arith), (λ n i. absurd i)); first = refl };
          owed = record { no_row = λ e. absurd (none-some _ e); disposed = λ n e d. absurd (none-some _ e) };
        },
        tt,
      ),
    ),
    tt,
  );
  counts = search rules;
}
