-- All rows of the new layout.
use Rattle.std.proofs.Common.{◌≡◌, ℕ, ◌≤◌, ◌⊎◌, inl, inr, true, List, slice_get, Option, Some, None, refl, sym, ap, subst, ◌∙◌, arith}
use Rattle.values.specs.declared.plan.PlanNode.{PlanNode}
use Rattle.values.specs.Packing.{IsPacked}
use Rattle.values.specs.PlanValues.{is_derived, ReadsBack}
use Rattle.sources.specs.declared.body.Read.{Read}
use Rattle.sources.specs.declared.body.Cause.TheVariants.{Changed}
use Rattle.sources.specs.declared.opening.Opened.{Opened}
use Rattle.sources.specs.Colours.{is_clean}
use Rattle.sources.specs.Rows.{IsRowGood, IsGood, IsDated, IsRoomy}
use Rattle.plain_evaluation.specs.Place.{Place}
use Rattle.plan_meaning.specs.Carried.{moved_row, IsCarried}
use Rattle.plan_meaning.specs.Layout.{row_of}
use Rattle.plan_meaning.proofs.Rows.{row_got, map_at}
use Rattle.carried_rows.specs.Moved.{read_moved, HasMoved, GoOver, ArePaired}
use Rattle.carried_rows.specs.Named.{IsNamed, AreNamed, IsFresh, AreFresh}
use Rattle.carried_rows.proofs.Good.{there_is, none_at, derived_good, moved_named, names_as_many}

-- a row of the new layout that was there before
record Kept (old new : List Place) (nodes : List PlanNode) (rows : List Opened) (s : ℕ) (two : Opened) : Type 0 where
  row : ℕ
  p : Place
  node : PlanNode
  one : Opened
  at_old : slice_get old row ≡ Some p
  at_new : slice_get new s ≡ Some p
  at_node : slice_get nodes row ≡ Some node
  at_row : slice_get rows row ≡ Some one
  moved : HasMoved (moved_row old new) one two

module _ (old new : List Place) (nodes : List PlanNode) (rows first after : List Opened) (was : ArePaired old nodes rows) (over : GoOver old new rows first after) where
  -- each row was there before, or is fresh
  kept_or_fresh : (s : ℕ) (two : Opened) → slice_get after s ≡ Some two → Kept old new nodes rows s two ⊎ (slice_get first s ≡ Some two)
  kept_or_fresh s two is =
      let p = there_is after new s two over.filled is in
      at p.0 p.1 (row_of old p.0) refl
    where
      at : (p : Place) → slice_get new s ≡ Some p → (o : Option ℕ) → row_of old p ≡ o → Kept old new nodes rows s two ⊎ (slice_get first s ≡ Some two)
      at p at_new None found = inr (sym (over.fresh s p at_new found) ∙ is)
      at p at_new (Some r) found =
          let at_old = row_got old p r found in
          let n = there_is old nodes r p (sym was.planned) at_old in
          let one = there_is old rows r p (sym was.filled) at_old in
          inl (record { row = r; p = p; node = n.0; one = one.0; at_old = at_old; at_new = at_new; at_node = n.1; at_row = one.1; moved = over.kept r s p one.0 two at_old at_new one.1 is })

-- ---- fresh rows

fresh_good : (after : List Opened) (s : ℕ) (m : PlanNode) (row : Opened) → IsFresh m row → IsRowGood after s m row
fresh_good after s m row f = record {
  is_packed = f.is_packed;
  source = f.source;
  derived = λ d. record {
    fresh = λ none. f.dirty d;
    right = λ ran. absurd (ran (f.unrun d));
    known = λ k x at_x. absurd (none_at row.body.reads.list k x (f.unread d) at_x);
    clean = λ clean k x at_x. absurd (none_at row.body.reads.list k x (f.unread d) at_x);
  };
}

fresh_named : (m : PlanNode) (row : Opened) → IsFresh m row → is_derived m.kind ≡ true → IsNamed m row
fresh_named m row f d = record { unread = λ none. f.unread d; caused = λ source before later e. absurd (clash source before later (sym (f.unrun d) ∙ e)) }
  where
    clash : (source before later : ℕ) → None ≡ Some (Changed source before later) → ⊥
    clash source before later h = cc

-- ---- all rows

pub stay_good : (old new : List Place) (nodes later : List PlanNode) (rows first after : List Opened) → IsCarried old new nodes later → ArePaired old nodes rows → ArePaired new later first → GoOver old new rows first after → ReadsBack later → AreFresh later first → AreNamed nodes rows → IsGood nodes rows → IsGood later after
stay_good old new nodes later rows first after c was is over back frees named good = record {
  paired = over.filled ∙ sym is.planned;
  each = λ s m two at_m at_two. elim (kept_or_fresh old new nodes rows first after was over s two at_two) [
    | inl k ↦ kept s m two at_m k
    | inr f ↦ fresh_good after s m two (frees s m two at_m f)
  ];
}
  where
    kept : (s : ℕ) (m : PlanNode) (two : Opened) → slice_get later s ≡ Some m → Kept old new nodes rows s two → IsRowGood after s m two
    kept s m two at_m k =
        let g = good.each k.row k.node k.one k.at_node k.at_row in
        let kind : is_derived m.kind ≡ is_derived k.node.kind = ap (λ (n : PlanNode). is_derived n.kind) (c.node k.row s k.p k.node m k.at_old k.at_new k.at_node at_m) in
        record {
          is_packed = subst IsPacked (sym k.moved.code) g.is_packed;
          source = λ d. ap is_clean k.moved.colour ∙ g.source (sym kind ∙ d);
          derived = λ d. derived_good old new nodes later rows first after c was over back k.row s k.p k.node m k.one two k.at_old k.at_new k.at_node at_m (named k.row k.node k.one k.at_node k.at_row (sym kind ∙ d)) k.moved (g.derived (sym kind ∙ d));
        }

pub stay_named : (old new : List Place) (nodes later : List PlanNode) (rows first after : List Opened) → IsCarried old new nodes later → ArePaired old nodes rows → GoOver old new rows first after → ReadsBack later → AreFresh later first → AreNamed nodes rows → AreNamed later after
stay_named old new nodes later rows first after c was over back frees named s m two at_m at_two d =
    elim (kept_or_fresh old new nodes rows first after was over s two at_two) [
      | inl k ↦ (
          let kind : is_derived m.kind ≡ is_derived k.node.kind = ap (λ (n : PlanNode). is_derived n.kind) (c.node k.row s k.p k.node m k.at_old k.at_new k.at_node at_m) in
          moved_named old new nodes later rows first after c was over back k.row s k.p k.node m k.one two k.at_old k.at_new k.at_node at_m (named k.row k.node k.one k.at_node k.at_row (sym kind ∙ d)) k.moved)
      | inr f ↦ fresh_named m two (frees s m two at_m f) d
    ]

pub stay_dated : (old new : List Place) (nodes : List PlanNode) (rows first after : List Opened) (now : ℕ) → ArePaired old nodes rows → GoOver old new rows first after → IsDated rows now → IsDated first now → IsDated after now
stay_dated old new nodes rows first after now was over dated fresh = record {
  held = λ s two at_two. elim (kept_or_fresh old new nodes rows first after was over s two at_two) [
    | inl k ↦ subst (λ v. v ≤ now) (sym k.moved.version) (dated.held k.row k.one k.at_row)
    | inr f ↦ fresh.held s two f
  ];
  recorded = λ s two at_two i x at_x. elim (kept_or_fresh old new nodes rows first after was over s two at_two) [
    | inl k ↦ (let y = map_at (read_moved (moved_row old new)) k.one.body.reads.list i x (subst (λ xs. slice_get xs i ≡ Some x) k.moved.reads at_x) in subst (λ (z : Read). z.version ≤ now) y.2 (dated.recorded k.row k.one k.at_row i y.0 y.1))
    | inr f ↦ fresh.recorded s two f i x at_x
  ];
}

pub stay_roomy : (old new : List Place) (nodes later : List PlanNode) (rows first after : List Opened) → IsCarried old new nodes later → ArePaired old nodes rows → GoOver old new rows first after → IsRoomy later first → IsRoomy nodes rows → IsRoomy later after
stay_roomy old new nodes later rows first after c was over fresh roomy = record {
  each = λ s m two at_m at_two d. elim (kept_or_fresh old new nodes rows first after was over s two at_two) [
    | inl k ↦ (
        let kind : is_derived m.kind ≡ is_derived k.node.kind = ap (λ (n : PlanNode). is_derived n.kind) (c.node k.row s k.p k.node m k.at_old k.at_new k.at_node at_m) in
        let had = roomy.each k.row k.node k.one k.at_node k.at_row (sym kind ∙ d) in
        let names = names_as_many old new nodes later c k.row s k.p k.node m k.at_old k.at_new k.at_node at_m in
        let room = k.moved.in_all in
        omega (arith, had, names, room))
    | inr f ↦ fresh.each s m two at_m f d
  ];
}
