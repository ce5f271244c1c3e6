use Rattle.std.proofs.Common.{rules, ◌≡◌, ◌⊎◌, ◌<◌, ◌≤◌, ℕ, None, [], ◌∷◌, List, refl, inl, inr, arith}
use Rattle.values.specs.declared.plan.Fact.TheVariants as fact
use Rattle.values.specs.declared.plan.Kind.TheVariants as kind
use Rattle.run_items.specs.declared.answer.Reply.TheVariants as reply
use Rattle.run_meaning.specs.Words.{In}
use Rattle.run_meaning.specs.Opened.{IsKind}
use Rattle.run_meaning.specs.Lane.{Done, own}
use Rattle.run_meaning.specs.Explained.{Explained, opening, written}
use Rattle.run_meaning.specs.Merge.{Stands}
use Rattle.run_meaning.specs.Told.{IsLive}
use Rattle.run_rows.specs.Parts.{number, did, set, pumped}
use Rattle.run_rows.specs.Rows.{pumps, effect_opened}
use Rattle.run_rows.proofs.Cases.{effect_in, fact_in}
use Rattle.run_rows.proofs.Explains.{computed, evaluates}
use Rattle.run_rows.proofs.Phases.{is_journal, entries_explained, no_run_after}
use Rattle.run_rows.proofs.right.pumped_effect.Goals as goal

-- over the opening value, and over the write
first : (low : ℕ → ℕ) → low 0 ≡ 0 → Explained effect_opened pumps.entries low None 1 (number 10)
first low e = computed effect_opened pumps.entries low None 1 (number 10) _ ((0, number 1) ∷ []) refl refl (simp evaluates, simp evaluates) (opening (inl (_, refl, refl)) e refl, tt)

second : (low : ℕ → ℕ) → low 0 ≤ 2 → Explained effect_opened pumps.entries low None 1 (number 20)
second low l = computed effect_opened pumps.entries low None 1 (number 20) _ ((0, number 2) ∷ []) refl refl (simp evaluates, simp evaluates) (written 2 (inl (_, refl, refl)) refl l tt, tt)

abbrev none : ℕ → ℕ
none n = 0

-- the lane before its second pump
abbrev before : List Done
before = pumped 1 0 0 ∷ did (set 0 (number 2)) (reply.Set 2) ∷ []

stands_by_first : Stands [] pumps [] 1
stands_by_first = inr (number 10, inl (1, refl), first (own effect_opened []) refl)

stands_by_second : (more : List Done) → own effect_opened more 0 ≤ 2 → Stands [] pumps more 1
stands_by_second more l = inr (number 20, inl (3, refl), second (own effect_opened more) l)

all_stand : (more : List Done) → Stands [] pumps more 1 → (n : ℕ) → IsKind effect_opened n kind.Effect → In n [] ⊎ Stands [] pumps more n
all_stand more s n k = inr (effect_in (Stands [] pumps more) effect_opened.plan.nodes (tt, (s, tt)) n k)

live : (k : ℕ) → IsLive [] pumps k 0
live k = record { before = λ i. i; now = λ n e. fact_in (λ m f. f ≡ fact.Disposed 0 → k < m) pumps.entries ((λ q. absurd cc), ((λ q. absurd cc), ((λ q. absurd cc), tt))) n _ e refl }

pub returns : goal.returns
returns c = record {
  journal = is_journal effect_opened 3 pumps.entries refl (omega arith) ((_, refl, refl), (inl (_, refl, refl), ((_, refl, refl), tt)));
  merge = record {
    answered = refl;
    in_order = record { grow = search rules; noted = ((tt, ((0, number 2, refl, refl, refl), (tt, (tt, tt)))), tt) };
    once = λ n. omega arith;
    disposals = search rules;
    pumps = record {
      each = (
        (
          (refl, omega arith, ([], omega arith, all_stand [] stands_by_first)),
          (tt, ((refl, omega arith, ([], omega arith, all_stand before (stands_by_second before (omega arith)))), ((refl, omega arith, ([], omega arith, all_stand (pumped 1 0 0 ∷ did (set 0 (number 2)) (reply.Set 2) ∷ pumped 1 0 0 ∷ []) (stands_by_second (pumped 1 0 0 ∷ did (set 0 (number 2)) (reply.Set 2) ∷ pumped 1 0 0 ∷ []) (omega arith)))), tt))),
        ),
        tt,
      );
      sum = refl;
      void = omega arith;
    };
    changes = (tt, (tt, (tt, tt)));
  };
  got = ((tt, (tt, (tt, (tt, tt)))), tt);
  entries = entries_explained pumps (first none refl, (tt, (second none (omega arith), tt)));
  no_run_after = no_run_after [] pumps ((_, refl, refl, live 1), (tt, ((_, refl, refl, live 3), tt)));
  causes = search rules;
  counts = search rules;
}
