-- The frames to which the order of work leads.
use Rattle.std.proofs.Common.{◌≡◌, ℕ, ◌+◌, ◌<◌, ◌≤◌, Bool, true, false, if◌then◌else◌, ◌==◌, nat_lt, List, [], slice_get, length, Some, refl, sym, ap, subst, ◌∙◌, arith}
use Rattle.values.specs.declared.plan.PlanNode.{PlanNode}
use Rattle.sources.specs.declared.body.Read.{Read}
use Rattle.sources.specs.declared.colour.Colour.{Colour}
use Rattle.sources.specs.declared.colour.Colour.TheVariants.{Clean, Check, Dirty}
use Rattle.sources.specs.declared.opening.Opened.{Opened}
use Rattle.sources.specs.Colours.{is_clean}
use Rattle.sources.specs.Rows.{IsGood}
use Rattle.work_order.specs.declared.frame.Due.{Due}
use Rattle.work_order.specs.declared.frame.Due.TheVariants.{Not, First, Differs}
use Rattle.work_order.specs.declared.frame.Frame.{Frame}
use Rattle.work_order.specs.declared.order.Next.{Next}
use Rattle.work_order.specs.declared.order.Next.TheVariants as next
use Rattle.work_order.specs.Order.{cleared_frame, compared_frame, dirty_of, begun_of}
use Rattle.still_readers.proofs.Lists.{at_within, one_at, not_both}
use Rattle.still_rows.specs.Frames.{IsFrame}
use Rattle.still_rows.specs.Moves.{work_left, IsLook, IsNext, LeadsTo, IsLed, IsStopped}
use Rattle.still_rows.proofs.MovesLemmas.{Here, look_moves, clear_moves, recorded_within}

leads_more : (rows : List Opened) (row : Opened) (f g h : Frame) → LeadsTo rows row f g → LeadsTo rows row g h → LeadsTo rows row f h
leads_more rows row f g h a LeadsTo.start = a
leads_more rows row f g h a (LeadsTo.clears k b n) = LeadsTo.clears k (leads_more rows row f g k a b) n
leads_more rows row f g h a (LeadsTo.compares k x y b n at s) = LeadsTo.compares k x y (leads_more rows row f g k a b) n at s
leads_more rows row f g h a (LeadsTo.checks k x y b n at s c) = LeadsTo.checks k x y (leads_more rows row f g k a b) n at s c

pub led_start : (nodes : List PlanNode) (rows : List Opened) (row : Opened) (f : Frame) → IsFrame nodes rows f → IsLed nodes rows row f f
led_start nodes rows row f is = record { steps = LeadsTo.start; node = refl; frame = is; less = omega arith }

pub led_more : (nodes : List PlanNode) (rows : List Opened) (row : Opened) (f g h : Frame) → IsLed nodes rows row f g → IsLed nodes rows row g h → IsLed nodes rows row f h
led_more nodes rows row f g h a b = record { steps = leads_more rows row f g h a.steps b.steps; node = b.node ∙ a.node; frame = b.frame; less = (let x = a.less in let y = b.less in omega arith) }

-- the node and the row of a frame are those of the frame that it came from
here_of : (nodes : List PlanNode) (rows : List Opened) (node : PlanNode) (row : Opened) (f g : Frame) → slice_get nodes f.node ≡ Some node → slice_get rows f.node ≡ Some row → IsLed nodes rows row f g → Here nodes rows node row g
here_of nodes rows node row f g n r led = (led.frame, subst (λ (i : ℕ). slice_get nodes i ≡ Some node) (sym led.node) n, subst (λ (i : ℕ). slice_get rows i ≡ Some row) (sym led.node) r)

compared_cleared : (g : Frame) (a b : ℕ) → (compared_frame g a b).cleared ≡ g.cleared
compared_cleared g a b = by (a == b)
  where
    by : (q : Bool) → (if q then record g { at = g.at + 1 } else record g { due = Differs }).cleared ≡ g.cleared
    by true = refl
    by false = refl

below : (a b : ℕ) (step other : Next) → a < b → (if nat_lt a b then step else other) ≡ step
below a b step other w = by (nat_lt a b) refl
  where
    by : (q : Bool) → nat_lt a b ≡ q → (if q then step else other) ≡ step
    by true e = refl
    by false e = absurd (grind (arith, e, w))

past : (a b : ℕ) (step other : Next) → b ≤ a → (if nat_lt a b then other else step) ≡ step
past a b step other w = by (nat_lt a b) refl
  where
    by : (q : Bool) → nat_lt a b ≡ q → (if q then other else step) ≡ step
    by true e = absurd (grind (arith, e, w))
    by false e = refl

-- what a step over one recorded source leaves
abbrev pub IsFurther : List PlanNode → List Opened → Opened → Frame → Frame → Bool → Frame → Type 0
IsFurther nodes rows row f g cleared h = IsLed nodes rows row f h × (work_left row h < work_left row g) × (h.cleared ≡ cleared)

-- a source is compared as it is, before the node is cleared
pub led_compare : (nodes : List PlanNode) (rows : List Opened) (node : PlanNode) (row : Opened) (f g h : Frame) (x : Read) (y : Opened) → IsGood nodes rows → slice_get nodes f.node ≡ Some node → slice_get rows f.node ≡ Some row → IsLed nodes rows row f g → row.colour ≡ Dirty → g.cleared ≡ false → g.due ≡ Not → slice_get row.body.reads.list g.at ≡ Some x → slice_get rows x.row ≡ Some y → h ≡ compared_frame g x.version y.version → IsFurther nodes rows row f g false h
led_compare nodes rows node row f g h x y good n r led dirty begun not at source is =
    let w = at_within row.body.reads.list g.at x at in
    let look : IsLook rows row g y = (not, w, (λ k. absurd (not_both g.cleared k begun)), (λ z e. subst (λ (q : Read). slice_get rows q.row ≡ Some y) (one_at x z at e) source)) in
    let m = look_moves nodes rows node row g [] x y good (here_of nodes rows node row f g n r led) look at in
    let step : IsNext row g (next.Compare g.at) = λ tried. rw (begun, dirty, not) (below g.at (length row.body.reads.list) (next.Compare g.at) next.Clear w) in
    let less = led.less in
    subst (λ (q : Frame). IsFurther nodes rows row f g false q) (sym is) (
      record { steps = LeadsTo.compares g x y led.steps step at source; node = m.1 ∙ led.node; frame = m.0; less = (let d = m.2 in omega arith) },
      m.2,
      compared_cleared g x.version y.version ∙ begun,
    )

-- a source that is clean is checked, once the node is cleared
pub led_check : (nodes : List PlanNode) (rows : List Opened) (node : PlanNode) (row : Opened) (f g h : Frame) (x : Read) (y : Opened) → IsGood nodes rows → slice_get nodes f.node ≡ Some node → slice_get rows f.node ≡ Some row → IsLed nodes rows row f g → is_clean y.colour ≡ true → g.cleared ≡ true → g.due ≡ Not → slice_get row.body.reads.list g.at ≡ Some x → slice_get rows x.row ≡ Some y → h ≡ compared_frame g x.version y.version → IsFurther nodes rows row f g true h
led_check nodes rows node row f g h x y good n r led clean cleared not at source is =
    let w = at_within row.body.reads.list g.at x at in
    let look : IsLook rows row g y = (not, w, (λ k. clean), (λ z e. subst (λ (q : Read). slice_get rows q.row ≡ Some y) (one_at x z at e) source)) in
    let m = look_moves nodes rows node row g [] x y good (here_of nodes rows node row f g n r led) look at in
    let step : IsNext row g (next.Check x.row) = λ tried. rw (cleared, not, at) refl in
    let less = led.less in
    subst (λ (q : Frame). IsFurther nodes rows row f g true q) (sym is) (
      record { steps = LeadsTo.checks g x y led.steps step at source clean; node = m.1 ∙ led.node; frame = m.0; less = (let d = m.2 in omega arith) },
      m.2,
      compared_cleared g x.version y.version ∙ cleared,
    )

clear_next : (row : Opened) (g : Frame) → g.cleared ≡ false → is_clean row.colour ≡ false → (row.colour ≡ Dirty → g.due ≡ Not → length row.body.reads.list ≤ g.at) → IsNext row g next.Clear
clear_next row g begun unclean all tried = rw begun (by row.colour refl)
  where
    dirty : row.colour ≡ Dirty → (w : Due) → g.due ≡ w → dirty_of w row.body.reads.list g.at ≡ next.Clear
    dirty d Not e = past g.at (length row.body.reads.list) next.Clear (next.Compare g.at) (all d e)
    dirty d First e = refl
    dirty d Differs e = refl

    by : (k : Colour) → row.colour ≡ k → begun_of k g.due row.body.reads.list g.at ≡ next.Clear
    by Clean e = absurd (not_both (is_clean row.colour) (let t : is_clean row.colour ≡ true = rw e refl in t) unclean)
    by Check e = refl
    by Dirty e = dirty e g.due refl

-- the node is cleared
pub led_clear : (nodes : List PlanNode) (rows : List Opened) (node : PlanNode) (row : Opened) (f g h : Frame) → slice_get nodes f.node ≡ Some node → slice_get rows f.node ≡ Some row → IsLed nodes rows row f g → g.cleared ≡ false → (row.colour ≡ Dirty → g.due ≡ Not → length row.body.reads.list ≤ g.at) → h ≡ cleared_frame g → IsLed nodes rows row f h × (h.cleared ≡ true)
led_clear nodes rows node row f g h n r led begun all is =
    let here = here_of nodes rows node row f g n r led in
    let m = clear_moves nodes rows node row g [] here begun in
    let unclean = (led.frame.each node row here.1 here.2).unclean in
    let less = led.less in
    subst (λ (q : Frame). IsLed nodes rows row f q × (q.cleared ≡ true)) (sym is) (
      record { steps = LeadsTo.clears g led.steps (clear_next row g begun unclean all); node = m.1 ∙ led.node; frame = m.0; less = (let d = m.2 in omega arith) },
      refl,
    )

-- the next recorded source is not clean
pub stopped_at : (rows : List Opened) (row : Opened) (f : Frame) (x : Read) (y : Opened) → slice_get row.body.reads.list f.at ≡ Some x → slice_get rows x.row ≡ Some y → is_clean y.colour ≡ false → IsStopped rows row f
stopped_at rows row f x y at source unclean due x' at' y' source' =
    let same : x ≡ x' = one_at x x' at at' in
    let there : slice_get rows x'.row ≡ Some y = subst (λ (q : Read). slice_get rows q.row ≡ Some y) same source in
    ap (λ (q : Opened). is_clean q.colour) (one_at y' y source' there) ∙ unclean

-- a recorded source has a row
pub source_within : (nodes : List PlanNode) (rows : List Opened) (node : PlanNode) (row : Opened) (f g : Frame) (x : Read) → IsGood nodes rows → slice_get nodes f.node ≡ Some node → slice_get rows f.node ≡ Some row → IsLed nodes rows row f g → slice_get row.body.reads.list g.at ≡ Some x → x.row < length rows
source_within nodes rows node row f g x good n r led at = (recorded_within nodes rows node row g g.at x good (here_of nodes rows node row f g n r led) at).1
