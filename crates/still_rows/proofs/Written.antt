-- What a row that is brought up to date leaves.
use Rattle.std.proofs.Common.{◌≡◌, ◌≢◌, ℕ, ◌<◌, ◌≤◌, ◌⊎◌, inl, inr, List, slice_get, Some, None, set, sym, ap, subst, ◌∙◌, arith, true, false, length-set}
use Rattle.values.specs.declared.plan.PlanNode.{PlanNode}
use Rattle.values.specs.Packing.{IsPacked}
use Rattle.values.specs.PlanValues.{is_derived}
use Rattle.values.specs.Reserved.{room_of}
use Rattle.sources.specs.declared.body.Read.{Read}
use Rattle.sources.specs.declared.opening.Opened.{Opened}
use Rattle.sources.specs.Bodies.{IsRight}
use Rattle.sources.specs.Colours.{is_clean}
use Rattle.sources.specs.Rows.{IsRecorded, IsPresent, IsDerivedGood, IsRowGood, IsGood}
use Rattle.work_order.specs.declared.frame.Due.{Due}
use Rattle.work_order.specs.declared.frame.Due.TheVariants.{Not, First, Differs}
use Rattle.work_order.specs.declared.frame.Frame.{Frame}
use Rattle.still_readers.proofs.Lists.{set_other, one_at, which, not_both}
use Rattle.still_rows.specs.Frames.{IsConfirmed, IsGoing, IsFrame}

pub record IsWritten (rows : List Opened) (m : ℕ) (old new : Opened) : Type 0 where
  pub is_packed : IsPacked new.code
  pub clean : is_clean new.colour ≡ true
  pub ran : new.body.cause ≢ None
  pub reads : (k : ℕ) (x : Read) → slice_get new.body.reads.list k ≡ Some x → IsConfirmed rows m x
  pub room : room_of old.body.reads ≤ room_of new.body.reads
  pub grows : old.version ≤ new.version
  pub stays : new.version ≡ old.version → new.code ≡ old.code

pub present_kept : (rows : List Opened) (m : ℕ) (y0 y : Opened) (x : Read) → slice_get rows m ≡ Some y0 → is_clean y0.colour ≡ false → IsPresent rows x → IsPresent (set rows m y) x
present_kept rows m y0 y x here unclean present = record {
  version = (λ z at. by z (which rows m y0 y x.row z here at) (x.version ≡ z.version) (λ n. present.version z n));
  clean = (λ z at. by z (which rows m y0 y x.row z here at) (is_clean z.colour ≡ true) (λ n. present.clean z n));
}
  where
    by : (z : Opened) → ((x.row ≡ m) × (z ≡ y)) ⊎ ((x.row ≡ m → ⊥) × (slice_get rows x.row ≡ Some z)) → (P : Type 0) → (slice_get rows x.row ≡ Some z → P) → P
    by z (inl (e, f)) P k = absurd (not_both (is_clean y0.colour) (present.clean y0 (rw e here)) unclean)
    by z (inr (n, at)) P k = k at

recorded_kept : (rows : List Opened) (m i : ℕ) (y0 y : Opened) (x : Read) → slice_get rows m ≡ Some y0 → IsWritten rows m y0 y → IsRecorded rows i x → IsRecorded (set rows m y) i x
recorded_kept rows m i y0 y x here written known = record {
  below = known.below;
  is_packed = known.is_packed;
  older = (λ z at. by_older z (which rows m y0 y x.row z here at));
  same = (λ z at. by_same z (which rows m y0 y x.row z here at));
}
  where
    by_older : (z : Opened) → ((x.row ≡ m) × (z ≡ y)) ⊎ ((x.row ≡ m → ⊥) × (slice_get rows x.row ≡ Some z)) → x.version ≤ z.version
    by_older z (inl (e, f)) = let o : x.version ≤ y0.version = known.older y0 (rw e here) in let w = written.grows in rw f (omega arith)
    by_older z (inr (n, at)) = known.older z at

    by_same : (z : Opened) → ((x.row ≡ m) × (z ≡ y)) ⊎ ((x.row ≡ m → ⊥) × (slice_get rows x.row ≡ Some z)) → x.version ≡ z.version → x.code ≡ z.code
    by_same z (inl (e, f)) v =
        let o : x.version ≤ y0.version = known.older y0 (rw e here) in
        let w = written.grows in
        let v' : x.version ≡ y.version = v ∙ ap (λ (q : Opened). q.version) f in
        let stays : y.version ≡ y0.version = omega arith in
        known.same y0 (rw e here) (v' ∙ stays) ∙ sym (written.stays stays) ∙ ap (λ (q : Opened). q.code) (sym f)
    by_same z (inr (n, at)) v = known.same z at v

-- the rows are good again
pub written_good : (nodes : List PlanNode) (rows : List Opened) (m : ℕ) (node : PlanNode) (y0 y : Opened) → IsGood nodes rows → slice_get nodes m ≡ Some node → is_derived node.kind ≡ true → slice_get rows m ≡ Some y0 → is_clean y0.colour ≡ false → IsRight node.expr y.body.reads.list y.code → IsWritten rows m y0 y → IsGood nodes (set rows m y)
written_good nodes rows m node y0 y good n derived here unclean right written = record {
  paired = length-set rows m y ∙ good.paired;
  each = (λ i other z none at. by i other z none (which rows m y0 y i z here at));
}
  where
    there : (x : Read) → x.row < m → (z : Opened) → slice_get (set rows m y) x.row ≡ Some z → slice_get rows x.row ≡ Some z
    there x b z at = sym (set_other rows m x.row y (λ e. absurd (omega arith))) ∙ at

    mine : IsDerivedGood (set rows m y) m node y
    mine = record {
      fresh = (λ e. absurd (written.ran e));
      right = (λ e. right);
      known = (λ k x e. let c = written.reads k x e in record {
        below = c.below;
        is_packed = c.is_packed;
        older = (λ z at. let v = c.present.version z (there x c.below z at) in omega arith);
        same = (λ z at v. c.code z (there x c.below z at));
      });
      clean = (λ _ k x e. let c = written.reads k x e in record {
        version = (λ z at. c.present.version z (there x c.below z at));
        clean = (λ z at. c.present.clean z (there x c.below z at));
      });
    }

    old : (i : ℕ) (other : PlanNode) (z : Opened) → IsDerivedGood rows i other z → IsDerivedGood (set rows m y) i other z
    old i other z d = record {
      fresh = d.fresh;
      right = d.right;
      known = (λ k x e. recorded_kept rows m i y0 y x here written (d.known k x e));
      clean = (λ c k x e. present_kept rows m y0 y x here unclean (d.clean c k x e));
    }

    by : (i : ℕ) (other : PlanNode) (z : Opened) → slice_get nodes i ≡ Some other → ((i ≡ m) × (z ≡ y)) ⊎ ((i ≡ m → ⊥) × (slice_get rows i ≡ Some z)) → IsRowGood (set rows m y) i other z
    by i other z none (inl (e, f)) =
        let same : other ≡ node = one_at other node none (rw e n) in
        subst (λ (q : Opened). IsRowGood (set rows m y) i other q) (sym f) (record {
          is_packed = written.is_packed;
          source = (λ _. written.clean);
          derived = (λ d. subst (λ (q : PlanNode). IsDerivedGood (set rows m y) i q y) (sym same) (subst (λ (j : ℕ). IsDerivedGood (set rows m y) j node y) (sym e) mine));
        })
    by i other z none (inr (n', at)) = let g = good.each i other z none at in record { is_packed = g.is_packed; source = g.source; derived = (λ d. old i other z (g.derived d)) }

-- frames of other nodes stay
pub frame_kept : (nodes : List PlanNode) (rows : List Opened) (m : ℕ) (y0 y : Opened) (f : Frame) → slice_get rows m ≡ Some y0 → is_clean y0.colour ≡ false → y0.version ≤ y.version → (f.node ≡ m → ⊥) → IsFrame nodes rows f → IsFrame nodes (set rows m y) f
frame_kept nodes rows m y0 y f here unclean grows other is = record {
  below = is.below;
  each = (λ node' row n' r. let s : slice_get rows f.node ≡ Some row = sym (set_other rows m f.node y other) ∙ r in let o = is.each node' row n' s in record {
    derived = o.derived;
    unclean = o.unclean;
    going = going row f.due o.going;
  });
}
  where
    later : (x : Read) → ((z : Opened) → slice_get rows x.row ≡ Some z → x.version < z.version) → (z : Opened) → ((x.row ≡ m) × (z ≡ y)) ⊎ ((x.row ≡ m → ⊥) × (slice_get rows x.row ≡ Some z)) → x.version < z.version
    later x less z (inl (e, f')) = let u : x.version < y0.version = less y0 (rw e here) in rw f' (omega arith)
    later x less z (inr (n', at)) = less z at

    going : (row : Opened) (w : Due) → IsGoing rows row f.cleared f.at w → IsGoing (set rows m y) row f.cleared f.at w
    going row Not g = (g.0, λ c k x l e. present_kept rows m y0 y x here unclean (g.1 c k x l e))
    going row First g = g
    going row Differs g = (g.0, g.1, (λ z at. later g.0 g.2 z (which rows m y0 y g.0.row z here at)))
