use Rattle.std.proofs.Common.{rules, ◌⊎◌, ℕ, None, [], ◌∷◌, refl, inl, inr, arith}
use Rattle.values.specs.declared.plan.Kind.TheVariants as kind
use Rattle.plain_evaluation.specs.Place.{outside}
use Rattle.run_meaning.specs.Words.{In}
use Rattle.run_meaning.specs.Opened.{IsKind}
use Rattle.run_meaning.specs.Lane.{own}
use Rattle.run_meaning.specs.Explained.{Explained, opening}
use Rattle.run_meaning.specs.Merge.{Stands}
use Rattle.run_rows.specs.Parts.{number}
use Rattle.run_rows.specs.Rows.{effect_opened}
use Rattle.run_rows.specs.Lanes.{first_pump, later_pump}
use Rattle.run_rows.proofs.Cases.{effect_in}
use Rattle.run_rows.proofs.Explains.{computed, evaluates}
use Rattle.run_rows.proofs.Phases.{is_journal, entries_explained, no_run_after}
use Rattle.run_rows.proofs.lanes.effect_kept.Goals as goal

ran : Explained effect_opened [] (own effect_opened []) None 1 (number 10)
ran = computed effect_opened [] (own effect_opened []) None 1 (number 10) _ ((0, number 1) ∷ []) refl refl (simp evaluates, simp evaluates) (opening (inl (_, refl, refl)) refl refl, tt)

stands : Stands (first_pump ∷ []) later_pump [] 1
stands = inr (number 10, inr (outside 1, refl, refl), ran)

all_stand : (n : ℕ) → IsKind effect_opened n kind.Effect → In n [] ⊎ Stands (first_pump ∷ []) later_pump [] n
all_stand n k = inr (effect_in (Stands (first_pump ∷ []) later_pump []) effect_opened.plan.nodes (tt, (stands, tt)) n k)

pub returns : goal.returns
returns c = record {
  journal = is_journal effect_opened 0 [] refl (omega arith) tt;
  merge = record {
    answered = refl;
    in_order = search rules;
    once = λ n. omega arith;
    disposals = search rules;
    pumps = record { each = (((refl, omega arith, ([], omega arith, all_stand)), tt), tt); sum = refl; void = omega arith };
    changes = tt;
  };
  got = ((tt, tt), tt);
  entries = entries_explained later_pump tt;
  no_run_after = no_run_after (first_pump ∷ []) later_pump tt;
  causes = search rules;
  counts = search rules;
}
