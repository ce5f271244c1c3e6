-- The moves on a frame: each keeps the frame, with less left to do.
use Rattle.std.proofs.Common.{◌≡◌, ◌≢◌, ℕ, zero, suc, ◌+◌, ◌<◌, ◌≤◌, List, [], ◌∷◌, slice_get, Option, Some, None, length, Contains, refl, sym, ap, subst, ◌∙◌, arith, Bool, true, false, if◌then◌else◌, ◌==◌}
use Rattle.std.proofs.lemmas.List.{length-map}
use Rattle.values.specs.declared.plan.PlanNode.{PlanNode}
use Rattle.values.specs.Plan.{names_of, rows_in}
use Rattle.values.specs.PlanValues.{is_derived}
use Rattle.values.proofs.NamesLemmas.{reads_fit}
use Rattle.sources.specs.declared.body.Read.{Read}
use Rattle.sources.specs.declared.body.Cause.{Cause}
use Rattle.sources.specs.declared.opening.Opened.{Opened}
use Rattle.sources.specs.Bodies.{recorded_value}
use Rattle.sources.specs.Colours.{is_clean}
use Rattle.sources.specs.Rows.{IsPresent, IsDerivedGood, IsGood}
use Rattle.work_order.specs.declared.frame.Due.{Due}
use Rattle.work_order.specs.declared.frame.Due.TheVariants.{Not, First, Differs}
use Rattle.work_order.specs.declared.frame.Frame.{Frame}
use Rattle.work_order.specs.Order.{first_due, first_frame, cleared_at, cleared_frame, compared_frame}
use Rattle.still_rows.specs.declared.moves.Moved.TheVariants as to
use Rattle.still_readers.proofs.Lists.{at_within, one_at, either}
use Rattle.still_readers.proofs.ReadersLemmas.{recorded_named}
use Rattle.still_rows.specs.Frames.{AreLawful, IsGoing, IsFrameOf, IsFrame}
use Rattle.still_rows.specs.Moves.{room, begun_left, going_left, MovesTo, IsLook, IsKept, IsBelow}

pub frame_from : (nodes : List PlanNode) (rows : List Opened) (node : PlanNode) (row : Opened) (f : Frame) → slice_get nodes f.node ≡ Some node → slice_get rows f.node ≡ Some row → IsFrameOf rows node row f → IsFrame nodes rows f
frame_from nodes rows node row f n r is = record {
  below = at_within nodes f.node node n;
  each = (λ node' row' n' r'. subst (λ (q : PlanNode). IsFrameOf rows q row' f) (one_at node node' n n') (subst (λ (q : Opened). IsFrameOf rows node q f) (one_at row row' r r') is));
}

fits_room : (nodes : List PlanNode) (i : ℕ) (node : PlanNode) → slice_get nodes i ≡ Some node → length (names_of node.expr) ≤ room nodes
unfolding room
fits_room [] i node h = cc
fits_room (n ∷ ns) zero node h = let e : n ≡ node = cc in rw (← e) (omega arith)
fits_room (n ∷ ns) (suc i) node h = let r = fits_room ns i node h in omega arith

pub reads_fit_room : (nodes : List PlanNode) (rows : List Opened) (i : ℕ) (node : PlanNode) (row : Opened) → IsGood nodes rows → slice_get nodes i ≡ Some node → slice_get rows i ≡ Some row → is_derived node.kind ≡ true → row.body.cause ≢ None → length row.body.reads.list ≤ room nodes
reads_fit_room nodes rows i node row good n r d ran =
    let right = ((good.each i node row n r).derived d).right ran in
    let a = reads_fit node.expr (recorded_value row.body.reads.list) in
    let b = fits_room nodes i node n in
    let c = ap length right.read in
    let e = length-map row.body.reads.list (λ (x : Read). x.row) in
    omega arith

abbrev pub Here : List PlanNode → List Opened → PlanNode → Opened → Frame → Type 0
Here nodes rows node row f = IsFrame nodes rows f × (slice_get nodes f.node ≡ Some node) × (slice_get rows f.node ≡ Some row)

pub good_row : (nodes : List PlanNode) (rows : List Opened) (node : PlanNode) (row : Opened) (f : Frame) → IsGood nodes rows → Here nodes rows node row f → IsDerivedGood rows f.node node row
good_row nodes rows node row f good (is, n, r) = (good.each f.node node row n r).derived (is.each node row n r).derived

-- the first frame of a node
pub first_is_frame : (rows : List Opened) (node : PlanNode) (row : Opened) (i : ℕ) → is_derived node.kind ≡ true → is_clean row.colour ≡ false → IsFrameOf rows node row (first_frame i row.body.cause)
first_is_frame rows node row i d unclean = record { derived = d; unclean = unclean; going = by row.body.cause refl }
  where
    by : (w : Option Cause) → row.body.cause ≡ w → IsGoing rows row false 0 (first_due w)
    by None none = none
    by (Some cause) some = ((λ e. let bad : Some cause ≡ None = sym some ∙ e in cc), (λ c. absurd (let q : true ≡ false = sym c in cc)))

-- the node is cleared
pub clear_moves : (nodes : List PlanNode) (rows : List Opened) (node : PlanNode) (row : Opened) (f : Frame) (reads : List Read) → Here nodes rows node row f → f.cleared ≡ false → MovesTo nodes rows node row f reads (to.On (cleared_frame f))
clear_moves nodes rows node row f reads (is, n, r) c =
    let o = is.each node row n r in (
      frame_from nodes rows node row (cleared_frame f) n r record { derived = o.derived; unclean = o.unclean; going = going f.due o.going },
      refl,
      rw c (less f.due),
    )
  where
    going : (w : Due) → IsGoing rows row f.cleared f.at w → IsGoing rows row true (cleared_at w f.at) w
    going Not g = (g.0, (λ c k x l e. absurd (omega arith)))
    going First g = g
    going Differs g = g

    less : (w : Due) → going_left w (length row.body.reads.list) (cleared_at w f.at) < 2 + begun_left w (length row.body.reads.list) f.at + going_left w (length row.body.reads.list) 0
    less Not = omega arith
    less First = omega arith
    less Differs = omega arith

-- a recorded source is as it was recorded
look_same : (nodes : List PlanNode) (rows : List Opened) (node : PlanNode) (row : Opened) (f : Frame) (reads : List Read) (x : Read) (y : Opened) → Here nodes rows node row f → f.due ≡ Not → f.at < length row.body.reads.list → (f.cleared ≡ true → is_clean y.colour ≡ true) → slice_get row.body.reads.list f.at ≡ Some x → slice_get rows x.row ≡ Some y → x.version ≡ y.version → MovesTo nodes rows node row f reads (to.On record f { at = f.at + 1 })
look_same nodes rows node row f reads x y (is, n, r) not l clean at source same =
    let o = is.each node row n r in (
      frame_from nodes rows node row record f { at = f.at + 1 } n r record {
        derived = o.derived;
        unclean = o.unclean;
        going = subst (λ (w : Due). IsGoing rows row f.cleared (f.at + 1) w) (sym not) (g o.going).0;
      },
      refl,
      less f.cleared f.due not,
    )
  where
    here : is_clean y.colour ≡ true → IsPresent rows x
    here c = record { version = (λ z e. same ∙ ap (λ (q : Opened). q.version) (one_at y z source e)); clean = (λ z e. ap (λ (q : Opened). is_clean q.colour) (sym (one_at y z source e)) ∙ c) }

    g : IsGoing rows row f.cleared f.at f.due → IsGoing rows row f.cleared (f.at + 1) Not × Unit {0}
    g going =
        let h : IsGoing rows row f.cleared f.at Not = subst (λ (w : Due). IsGoing rows row f.cleared f.at w) not going in (
          (
            h.0,
            (λ c k z m e. either k f.at (IsPresent rows z)
                (λ s. subst (λ (q : Read). IsPresent rows q) (one_at x z at (rw (← s) e)) (here (clean c)))
                (λ s. h.1 c k z (omega (arith, s)) e)),
          ),
          tt,
        )

    less : (b : Bool) (w : Due) → w ≡ Not → (if b then going_left w (length row.body.reads.list) (f.at + 1) else 2 + begun_left w (length row.body.reads.list) (f.at + 1) + going_left w (length row.body.reads.list) 0) < (if b then going_left w (length row.body.reads.list) f.at else 2 + begun_left w (length row.body.reads.list) f.at + going_left w (length row.body.reads.list) 0)
    less true w e = rw e (omega arith)
    less false w e = rw e (omega arith)

-- a recorded source differs
look_other : (nodes : List PlanNode) (rows : List Opened) (node : PlanNode) (row : Opened) (f : Frame) (reads : List Read) (x : Read) (y : Opened) → IsGood nodes rows → Here nodes rows node row f → f.due ≡ Not → f.at < length row.body.reads.list → slice_get row.body.reads.list f.at ≡ Some x → slice_get rows x.row ≡ Some y → (x.version ≡ y.version → ⊥) → MovesTo nodes rows node row f reads (to.On record f { due = Differs })
look_other nodes rows node row f reads x y good here not l at source other =
    let is = here.0 in let n = here.1 in let r = here.2 in
    let o = is.each node row n r in
    let known = (good_row nodes rows node row f good here).known f.at x at in (
      frame_from nodes rows node row record f { due = Differs } n r record {
        derived = o.derived;
        unclean = o.unclean;
        going = (x, at, (λ z e. let same = one_at y z source e in let older = known.older y source in rw (← same) (omega (arith, other))));
      },
      refl,
      less f.cleared f.due not,
    )
  where
    less : (b : Bool) (w : Due) → w ≡ Not → (if b then 0 else 2 + 0 + 0) < (if b then going_left w (length row.body.reads.list) f.at else 2 + begun_left w (length row.body.reads.list) f.at + going_left w (length row.body.reads.list) 0)
    less true w e = rw e (omega arith)
    less false w e = rw e (omega arith)

pub look_moves : (nodes : List PlanNode) (rows : List Opened) (node : PlanNode) (row : Opened) (f : Frame) (reads : List Read) (x : Read) (y : Opened) → IsGood nodes rows → Here nodes rows node row f → IsLook rows row f y → slice_get row.body.reads.list f.at ≡ Some x → MovesTo nodes rows node row f reads (to.On (compared_frame f x.version y.version))
look_moves nodes rows node row f reads x y good here look at = by (x.version == y.version) refl
  where
    by : (b : Bool) → (x.version == y.version) ≡ b → MovesTo nodes rows node row f reads (to.On (if b then record f { at = f.at + 1 } else record f { due = Differs }))
    by true e = look_same nodes rows node row f reads x y here look.0 look.1 look.2 at (look.3 x at) (grind arith)
    by false e = look_other nodes rows node row f reads x y good here look.0 look.1 at (look.3 x at) (λ s. grind (arith, s, e))

pub recorded_within : (nodes : List PlanNode) (rows : List Opened) (node : PlanNode) (row : Opened) (f : Frame) (k : ℕ) (x : Read) → IsGood nodes rows → Here nodes rows node row f → slice_get row.body.reads.list k ≡ Some x → (x.row < f.node) × (x.row < length rows)
recorded_within nodes rows node row f k x good here at = let b = ((good_row nodes rows node row f good here).known k x at).below in let w = here.0.below in let p = good.paired in (b, omega arith)

-- a check with no source left
pub keep_moves : (nodes : List PlanNode) (rows : List Opened) (node : PlanNode) (row : Opened) (f : Frame) → Here nodes rows node row f → f.cleared ≡ true → f.due ≡ Not → length row.body.reads.list ≤ f.at → IsKept rows row
keep_moves nodes rows node row f (is, n, r) cleared not all =
    let o = is.each node row n r in
    let g : IsGoing rows row f.cleared f.at Not = subst (λ (w : Due). IsGoing rows row f.cleared f.at w) not o.going in
    (g.0, (λ k x e. g.1 cleared k x (let w = at_within row.body.reads.list k x e in omega arith) e))

-- a recorded source that is not clean comes first
pub check_below : (nodes : List PlanNode) (rows : List Opened) (node : PlanNode) (row : Opened) (f : Frame) (k : ℕ) (x : Read) (y : Opened) → IsGood nodes rows → Here nodes rows node row f → f.due ≡ Not → slice_get row.body.reads.list k ≡ Some x → slice_get rows x.row ≡ Some y → is_clean y.colour ≡ false → IsBelow rows node f x.row
check_below nodes rows node row f k x y good here not at source unclean =
    let g = good_row nodes rows node row f good here in
    let going : IsGoing rows row f.cleared f.at Not = subst (λ (w : Due). IsGoing rows row f.cleared f.at w) not (here.0.each node row here.1 here.2).going in (
      (g.known k x at).below,
      recorded_named node row.body.reads.list row.code k x (g.right going.0) at,
      (λ z e. ap (λ (q : Opened). is_clean q.colour) (one_at z y e source) ∙ unclean),
    )

-- a row that a run reads comes first
pub read_below : (nodes : List PlanNode) (rows : List Opened) (node : PlanNode) (f : Frame) (r : ℕ) → AreLawful nodes → slice_get nodes f.node ≡ Some node → Contains (rows_in node.expr) r → ((y : Opened) → slice_get rows r ≡ Some y → is_clean y.colour ≡ false) → IsBelow rows node f r
read_below nodes rows node f r lawful n c unclean = ((lawful.reads f.node node n r c).0, c, unclean)
