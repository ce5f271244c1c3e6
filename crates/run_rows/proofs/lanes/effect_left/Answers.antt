use Rattle.std.proofs.Common.{rules, ◌≡◌, ◌≢◌, ◌⊎◌, ◌<◌, ℕ, suc, None, [], ◌∷◌, refl, inl, inr, arith}
use Rattle.values.specs.declared.plan.Fact.TheVariants as fact
use Rattle.values.specs.declared.plan.Kind.TheVariants as kind
use Rattle.run_meaning.specs.Words.{In}
use Rattle.run_meaning.specs.Opened.{IsKind}
use Rattle.run_meaning.specs.Causes.{itself, IsMet, IsDisturbed}
use Rattle.run_meaning.specs.Lane.{own}
use Rattle.run_meaning.specs.Explained.{Explained, opening}
use Rattle.run_meaning.specs.Merge.{Stands}
use Rattle.run_meaning.specs.Told.{IsLive}
use Rattle.run_rows.specs.Parts.{number, pumped}
use Rattle.run_rows.specs.Rows.{effect_opened}
use Rattle.run_rows.specs.Lanes.{left_effect}
use Rattle.run_rows.proofs.Cases.{all_in, effect_in, fact_in, once_in_one}
use Rattle.run_rows.proofs.Explains.{computed, evaluates}
use Rattle.run_rows.proofs.Phases.{is_journal, entries_explained, no_run_after}
use Rattle.run_rows.proofs.lanes.effect_left.Goals as goal

ran : (low : ℕ → ℕ) → low 0 ≡ 0 → Explained effect_opened left_effect.entries low None 1 (number 10)
ran low e = computed effect_opened left_effect.entries low None 1 (number 10) _ ((0, number 1) ∷ []) refl refl (simp evaluates, simp evaluates) (opening (inl (_, refl, refl)) e refl, tt)

abbrev none : ℕ → ℕ
none n = 0

stands : Stands [] left_effect [] 1
stands = inr (number 10, inl (1, refl), ran (own effect_opened []) refl)

left_or_stands : (n : ℕ) → IsKind effect_opened n kind.Effect → In n (1 ∷ []) ⊎ Stands [] left_effect [] n
left_or_stands n k = effect_in (λ m. In m (1 ∷ []) ⊎ Stands [] left_effect [] m) effect_opened.plan.nodes (tt, (inl (inl refl), tt)) n k

all_stand : (n : ℕ) → IsKind effect_opened n kind.Effect → In n [] ⊎ Stands [] left_effect [] n
all_stand n k = inr (effect_in (Stands [] left_effect []) effect_opened.plan.nodes (tt, (stands, tt)) n k)

live : IsLive [] left_effect 1 0
live = record { before = λ i. i; now = λ n e. fact_in (λ m f. f ≡ fact.Disposed 0 → 1 < m) left_effect.entries ((λ q. absurd cc), tt) n _ e refl }

other : suc 1 ≢ 1
other e = omega arith

is_met : IsMet left_effect 1 1
is_met = (1, pumped 1 0 0 ∷ [], pumped 1 0 0, other, refl, inl refl, (1, (_, refl, refl), itself))

disturbed : (n : ℕ) → In n (1 ∷ []) → IsDisturbed left_effect 1 n
disturbed n i = all_in (IsDisturbed left_effect 1) (1 ∷ []) (((_, refl, refl), (1, itself, inl is_met)), tt) n i

pub returns : goal.returns
returns c = record {
  journal = is_journal effect_opened 1 left_effect.entries refl (omega arith) ((_, refl, refl), tt);
  merge = record {
    answered = refl;
    in_order = search rules;
    once = λ n. omega arith;
    disposals = search rules;
    pumps = record {
      each = (((refl, omega arith, (1 ∷ [], omega arith, left_or_stands)), tt), (((refl, omega arith, ([], omega arith, all_stand)), tt), tt));
      sum = refl;
      void = omega arith;
    };
    changes = (tt, tt);
  };
  got = ((tt, tt), ((tt, tt), tt));
  entries = entries_explained left_effect (ran none refl, tt);
  no_run_after = no_run_after [] left_effect ((_, refl, refl, live), tt);
  causes = (
    (
      record {
        only = record {
          gone = omega arith;
          gone_alone = λ e. omega arith;
          left = inr (1 ∷ [], omega arith, (λ n. once_in_one n 1), disturbed);
          first = (omega arith, (_, refl, refl), (itself, is_met));
        };
        owed = search rules;
      },
      tt,
    ),
    ((search rules, tt), tt),
  );
  counts = search rules;
}
