-- The phase that disposes an area twice and then sets its signal, whatever else it opens with.
use Rattle.std.proofs.Common.{rules, ◌≡◌, ◌⊎◌, ℕ, true, Option, Some, None, [], ◌∷◌, List, refl, inl, inr, ap, arith}
use Rattle.std.specs.List.{list_any}
use Rattle.std.proofs.lemmas.Option.{none-some}
use Rattle.values.specs.declared.code.Code.{Code}
use Rattle.plain_evaluation.specs.Held.{Held}
use Rattle.plain_evaluation.specs.Place.{Place}
use Rattle.run_items.specs.declared.answer.Reply.TheVariants as reply
use Rattle.run_meaning.specs.Words.{In}
use Rattle.run_meaning.specs.Opened.{Opened, Target, at_row, at_none}
use Rattle.run_meaning.specs.Merge.{names_area}
use Rattle.run_meaning.specs.Phase.{Phase}
use Rattle.run_meaning.specs.Run.{IsPhase}
use Rattle.run_rows.specs.Parts.{disposed}
use Rattle.run_rows.specs.Rows.{area, area_opened}
use Rattle.run_rows.proofs.Cases.{all_in, once_in_one}
use Rattle.run_rows.proofs.Phases.{is_journal, entries_explained, no_run_after}

-- it opens with the plan of the area
abbrev pub opened_by : Held → List Place → List Code → (ℕ → Option Code → Target) → (ℕ → ℕ) → Opened
opened_by held places values target owner_of = record { held = held; plan = area_opened.plan; places = places; values = values; target = target; owner_of = owner_of }

abbrev pub phase_in : Opened → Phase
phase_in o = record area { opened = o }

row_there : (t : Target) → t ≡ at_row 0 → Some t ≡ Some at_none → ⊥
row_there t f e = cc

same_owner : (m n : ℕ) → m ≡ 1 → Some m ≡ Some n → 1 ≡ n
same_owner m n f e = cc

each_disposed : (n : ℕ) → In n (1 ∷ []) → In n (1 ∷ []) ⊎ In n []
each_disposed n i = inl i

pub disposed_twice : (held : Held) (places : List Place) (values : List Code) (target : ℕ → Option Code → Target) (owner_of : ℕ → ℕ)
    → target 1 None ≡ at_row 0 → owner_of 1 ≡ 1 → IsPhase [] (phase_in (opened_by held places values target owner_of))
disposed_twice held places values target owner_of t o = record {
  journal = is_journal (opened_by held places values target owner_of) 1 area.entries refl (omega arith) (omega arith, tt);
  merge = record {
    answered = refl;
    in_order = record { grow = (tt, tt); noted = ((tt, (tt, (tt, tt))), tt) };
    once = λ n. omega arith;
    disposals = record {
      once = λ n. once_in_one n 1;
      each = (((refl, each_disposed, omega arith), ((refl, each_disposed, omega arith), (tt, tt))), tt);
      sum = refl;
      asked = λ n i. all_in (λ (m : ℕ). list_any (list_any (names_area area_opened m)) area.lanes ≡ true) (1 ∷ []) (refl, tt) n i;
    };
    pumps = record { each = ((tt, (tt, (tt, tt))), tt); sum = refl; void = omega arith };
    changes = (tt, tt);
  };
  got = ((tt, (tt, (tt, tt))), tt);
  entries = entries_explained (phase_in (opened_by held places values target owner_of)) (tt, tt);
  no_run_after = no_run_after [] (phase_in (opened_by held places values target owner_of)) (tt, tt);
  causes = (
    (
      record { only = tt; owed = record { no_row = λ e. absurd (none-some _ e); disposed = λ n e d. absurd (none-some _ e) } },
      (
        record { only = tt; owed = record { no_row = λ e. absurd (none-some _ e); disposed = λ n e d. absurd (none-some _ e) } },
        (
          record {
            only = record { owned = ap Some o; disposed = inl (inl refl); alone = λ e. inr (disposed 1 1 0, inl refl, inl refl) };
            owed = record { no_row = λ e. absurd (row_there (target 1 None) t e); disposed = λ n e d. inl (ap reply.Disposed (same_owner (owner_of 1) n o e)) };
          },
          tt,
        ),
      ),
    ),
    tt,
  );
  counts = search rules;
}
