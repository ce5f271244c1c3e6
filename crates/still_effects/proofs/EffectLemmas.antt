-- The work on an effect, under which its sources are brought up to date.
use Rattle.std.proofs.Common.{◌≡◌, ◌≢◌, ℕ, zero, suc, ◌<◌, ◌≤◌, inl, inr, List, [], ◌∷◌, slice_get, Option, Some, length, set, refl, sym, ap, subst, ◌∙◌, arith, Bool, true, false, if◌then◌else◌}
use Rattle.values.specs.declared.code.Code.{Code}
use Rattle.values.specs.declared.plan.Kind.{Kind}
use Rattle.values.specs.declared.plan.Kind.TheVariants.{Memo, Effect}
use Rattle.values.specs.declared.plan.PlanNode.{PlanNode}
use Rattle.values.specs.Packing.{packed}
use Rattle.values.specs.PlanValues.{is_derived}
use Rattle.values.proofs.PlanValuesLemmas.{plan_value-derived}
use Rattle.sources.specs.declared.body.Read.{Read}
use Rattle.sources.specs.declared.body.Cause.{Cause}
use Rattle.sources.specs.declared.body.Cause.TheVariants.{First, Changed}
use Rattle.sources.specs.declared.colour.Colour.{Colour}
use Rattle.sources.specs.declared.colour.Colour.TheVariants.{Clean, Check, Dirty}
use Rattle.sources.specs.declared.opening.Opened.{Opened}
use Rattle.sources.specs.Bodies.{IsCaused}
use Rattle.sources.specs.Colours.{is_clean}
use Rattle.sources.specs.Rows.{value_in, IsPresent, IsDerivedGood, IsGood}
use Rattle.work_order.specs.declared.frame.Due.{Due}
use Rattle.work_order.specs.declared.frame.Due.TheVariants as due
use Rattle.work_order.specs.declared.frame.Frame.{Frame}
use Rattle.work_order.specs.Order.{first_frame, is_due}
use Rattle.still_readers.specs.declared.readers.Readers.{Readers}
use Rattle.still_readers.proofs.Lists.{at_within, within_at, not_both}
use Rattle.still_rows.specs.declared.clock.Clock.{Clock}
use Rattle.still_rows.specs.Clock.{now_of}
use Rattle.still_rows.specs.Frames.{AreLawful, IsGoing, IsFrameOf, IsFrame}
use Rattle.still_rows.specs.Moves.{work_left, IsKept, IsRun, IsBelow}
use Rattle.still_rows.specs.Since.{IsSeen, kept_row, finished_row}
use Rattle.still_rows.specs.Ends.{IsRunRecorded}
use Rattle.still_rows.specs.Works.{unclean_count, work_of, IsStill, IsStepped}
use Rattle.still_rows.proofs.FramesLemmas.{reads_back, named_memo}
use Rattle.still_rows.proofs.MovesLemmas.{frame_from, first_is_frame}
use Rattle.still_rows.proofs.WorksLemmas.{stepped_same, stepped_more, moved_less, keep_still, run_still, run_caused}
use Rattle.still_effects.specs.Effects.{IsEffect, IsDue, IsSame, search_left, IsNow, IsRunUnder}

pub effect_derived : (k : Kind) → k ≡ Effect → is_derived k ≡ true
effect_derived k e = rw e refl

-- the row of an effect is there
pub effect_row : (nodes : List PlanNode) (rows : List Opened) (i : ℕ) → IsGood nodes rows → IsEffect nodes i → (row : Opened) × (slice_get rows i ≡ Some row)
effect_row nodes rows i good is = within_at rows i (let l = at_within nodes i is.node is.at in let p = good.paired in omega arith)

-- the row of an effect stays where its sources are brought up to date
pub effect_stays : (nodes : List PlanNode) (rows rows' : List Opened) (readers readers' : Readers) (c c' : Clock) (i : ℕ) → IsEffect nodes i → IsStepped nodes rows rows' readers readers' c c' → slice_get rows' i ≡ slice_get rows i
effect_stays nodes rows rows' readers readers' c c' i is s = s.effects i is.node is.at is.is

-- so does its frame: a recorded source's version only grows
pub frame_stepped : (nodes : List PlanNode) (rows rows' : List Opened) (readers readers' : Readers) (c c' : Clock) (f : Frame) → IsEffect nodes f.node → IsStepped nodes rows rows' readers readers' c c' → IsFrame nodes rows f → IsFrame nodes rows' f
frame_stepped nodes rows rows' readers readers' c c' f effect s is = record {
  below = is.below;
  each = (λ node row n r. let at : slice_get rows f.node ≡ Some row = sym (effect_stays nodes rows rows' readers readers' c c' f.node effect s) ∙ r in let o = is.each node row n at in record {
    derived = o.derived;
    unclean = o.unclean;
    going = going row f.due o.going;
  });
}
  where
    there : (q : ℕ) (z : Opened) → slice_get rows' q ≡ Some z → (y : Opened) × (slice_get rows q ≡ Some y)
    there q z at = let w = at_within rows' q z at in let p = s.since.paired in within_at rows q (omega arith)

    same : (x : Read) → IsPresent rows x → (z : Opened) → slice_get rows' x.row ≡ Some z → slice_get rows x.row ≡ Some z
    same x present z at = let y = there x.row z at in y.1 ∙ ap (λ (q : Opened). Some q) (sym ((s.since.each x.row y.0 z y.1 at).clean (present.clean y.0 y.1)))

    present : (x : Read) → IsPresent rows x → IsPresent rows' x
    present x p = record { version = (λ z at. p.version z (same x p z at)); clean = (λ z at. p.clean z (same x p z at)) }

    later : (q v : ℕ) → ((y : Opened) → slice_get rows q ≡ Some y → v < y.version) → (z : Opened) → slice_get rows' q ≡ Some z → v < z.version
    later q v below z at = let y = there q z at in let u = below y.0 y.1 in let g = (s.since.each q y.0 z y.1 at).grows in omega arith

    going : (row : Opened) (w : Due) → IsGoing rows row f.cleared f.at w → IsGoing rows' row f.cleared f.at w
    going row due.Not g = (g.0, (λ c k x l e. present x (g.1 c k x l e)))
    going row due.First g = g
    going row due.Differs g = (g.0, g.1, (λ z at. later g.0.row g.0.version g.2 z at))

pub due_stepped : (nodes : List PlanNode) (rows rows' : List Opened) (readers readers' : Readers) (c c' : Clock) (f : Frame) → IsEffect nodes f.node → IsStepped nodes rows rows' readers readers' c c' → IsDue nodes rows f.node f → IsDue nodes rows' f.node f
due_stepped nodes rows rows' readers readers' c c' f effect s is = record { node = is.node; frame = frame_stepped nodes rows rows' readers readers' c c' f effect s is.frame; due = is.due }

-- the frame at the start
pub first_stands : (nodes : List PlanNode) (rows : List Opened) (i : ℕ) (y : Opened) → IsEffect nodes i → slice_get rows i ≡ Some y → is_clean y.colour ≡ false → IsFrame nodes rows (first_frame i y.body.cause)
first_stands nodes rows i y effect here unclean = frame_from nodes rows effect.node y (first_frame i y.body.cause) effect.at here (first_is_frame rows effect.node y i (effect_derived effect.node.kind effect.is) unclean)

-- ---- as many rows are not clean

-- what was clean stays so
StayClean : List Opened → List Opened → Type 0
StayClean rows rows' = (i : ℕ) (old new : Opened) → slice_get rows i ≡ Some old → slice_get rows' i ≡ Some new → is_clean old.colour ≡ true → is_clean new.colour ≡ true

one_no_more : (r s : Opened) → (is_clean r.colour ≡ true → is_clean s.colour ≡ true) → (if is_clean s.colour then 0 else 1) ≤ (if is_clean r.colour then 0 else 1)
one_no_more r s h = by (is_clean r.colour) refl (is_clean s.colour) refl
  where
    by : (a : Bool) → is_clean r.colour ≡ a → (b : Bool) → is_clean s.colour ≡ b → (if b then 0 else 1) ≤ (if a then 0 else 1)
    by true c true d = omega arith
    by true c false d = absurd (not_both (is_clean s.colour) (h c) d)
    by false c true d = omega arith
    by false c false d = omega arith

unclean_no_more : (rows rows' : List Opened) → length rows' ≡ length rows → StayClean rows rows' → unclean_count rows' ≤ unclean_count rows
unfolding unclean_count StayClean
unclean_no_more [] [] p h = omega arith
unclean_no_more [] (s ∷ ss) p h = absurd (omega (arith, p))
unclean_no_more (r ∷ rs) [] p h = omega arith
unclean_no_more (r ∷ rs) (s ∷ ss) p h = let one = one_no_more r s (h 0 r s refl refl) in let rest = unclean_no_more rs ss (omega (arith, p)) (λ i old new o n. h (suc i) old new o n) in omega arith

unclean_fewer : (rows rows' : List Opened) (m : ℕ) (y0 y : Opened) → length rows' ≡ length rows → StayClean rows rows' → slice_get rows m ≡ Some y0 → slice_get rows' m ≡ Some y → is_clean y0.colour ≡ false → is_clean y.colour ≡ true → unclean_count rows' < unclean_count rows
unfolding unclean_count StayClean
unclean_fewer [] rows' m y0 y p h at at' u c = cc
unclean_fewer (r ∷ rs) [] m y0 y p h at at' u c = cc
unclean_fewer (r ∷ rs) (s ∷ ss) zero y0 y p h at at' u c =
    let u' : is_clean r.colour ≡ false = (let same : r ≡ y0 = cc in rw same u) in
    let c' : is_clean s.colour ≡ true = (let same : s ≡ y = cc in rw same c) in
    let rest = unclean_no_more rs ss (omega (arith, p)) (λ i old new o n. h (suc i) old new o n) in
    rw (u', c') (omega arith)
unclean_fewer (r ∷ rs) (s ∷ ss) (suc m) y0 y p h at at' u c =
    let one = one_no_more r s (h 0 r s refl refl) in
    let rest = unclean_fewer rs ss m y0 y (omega (arith, p)) (λ i old new o n. h (suc i) old new o n) at at' u c in omega arith

stay_clean : (nodes : List PlanNode) (rows rows' : List Opened) (readers readers' : Readers) (c c' : Clock) → IsStepped nodes rows rows' readers readers' c c' → StayClean rows rows'
unfolding StayClean
stay_clean nodes rows rows' readers readers' c c' s i old new o n k = ap (λ (q : Opened). is_clean q.colour) ((s.since.each i old new o n).clean k) ∙ k

-- a row that was brought up to date
pub stepped_fewer : (nodes : List PlanNode) (rows rows' : List Opened) (readers readers' : Readers) (c c' : Clock) (m : ℕ) (y0 : Opened) → IsStepped nodes rows rows' readers readers' c c' → slice_get rows m ≡ Some y0 → is_clean y0.colour ≡ false → ((y : Opened) → slice_get rows' m ≡ Some y → is_clean y.colour ≡ true) → unclean_count rows' < unclean_count rows
stepped_fewer nodes rows rows' readers readers' c c' m y0 s at u clean =
    let w = at_within rows m y0 at in let p = s.since.paired in
    let y = within_at rows' m (omega arith) in
    unclean_fewer rows rows' m y0 y.0 s.since.paired (stay_clean nodes rows rows' readers readers' c c' s) at y.1 u (clean y.0 y.1)

-- a clean row that is put
pub unclean_put : (rows : List Opened) (m : ℕ) (y : Opened) → is_clean y.colour ≡ true → unclean_count (set rows m y) ≤ unclean_count rows
unfolding unclean_count
unclean_put [] m y c = omega arith
unclean_put (r ∷ rs) zero y c = rw c (omega arith)
unclean_put (r ∷ rs) (suc m) y c = let rest = unclean_put rs m y c in omega arith

-- ---- the search

-- the source that comes first is a memo
pub below_memo : (nodes : List PlanNode) (rows : List Opened) (f : Frame) (node : PlanNode) (r : ℕ) → AreLawful nodes → IsGood nodes rows → IsFrame nodes rows f → slice_get nodes f.node ≡ Some node → IsBelow rows node f r → (r < length nodes) × ((m : PlanNode) → slice_get nodes r ≡ Some m → m.kind ≢ Effect)
below_memo nodes rows f node r lawful good is n below = (inside, (λ m at k. let memo = (named_memo nodes rows lawful good f.node node n r below.1 y.0 y.1 (below.2 y.0 y.1)).each m at in let bad : Memo ≡ Effect = sym memo ∙ k in cc))
  where
    inside : r < length nodes
    inside = let a = below.0 in let b = is.below in omega arith

    y : (y : Opened) × (slice_get rows r ≡ Some y)
    y = within_at rows r (let p = good.paired in let l = inside in omega arith)

-- a source less to bring up to date
pub below_fewer : (nodes : List PlanNode) (rows rows' : List Opened) (readers readers' : Readers) (c c' : Clock) (f : Frame) (node : PlanNode) (r : ℕ) → IsGood nodes rows → IsFrame nodes rows f → IsBelow rows node f r → IsStepped nodes rows rows' readers readers' c c' → ((y : Opened) → slice_get rows' r ≡ Some y → is_clean y.colour ≡ true) → unclean_count rows' < unclean_count rows
below_fewer nodes rows rows' readers readers' c c' f node r good is below s clean =
    let y = within_at rows r (let a = below.0 in let b = is.below in let p = good.paired in omega arith) in
    stepped_fewer nodes rows rows' readers readers' c c' r y.0 s y.1 (below.2 y.0 y.1) clean

pub search_less : (nodes : List PlanNode) (rows rows' : List Opened) (readers readers' : Readers) (c c' : Clock) (f : Frame) → IsEffect nodes f.node → IsStepped nodes rows rows' readers readers' c c' → unclean_count rows' < unclean_count rows → search_left rows' f < search_left rows f
search_less nodes rows rows' readers readers' c c' f effect s less = let same = ap (λ (o : Option Opened). work_of o f) (effect_stays nodes rows rows' readers readers' c c' f.node effect s) in omega arith

-- the frame goes on
pub moved_search : (rows : List Opened) (f g : Frame) (row : Opened) → g.node ≡ f.node → slice_get rows f.node ≡ Some row → work_left row g < work_left row f → search_left rows g < search_left rows f
moved_search rows f g row same at less =
    let l = moved_less rows f.node f g row at less in
    let e = ap (λ (i : ℕ). work_of (slice_get rows i) g) same in omega arith

-- no recorded source differs
pub kept_same : (nodes : List PlanNode) (rows rows' : List Opened) (readers : Readers) (c : Clock) (f : Frame) (node : PlanNode) (row : Opened) → IsStill nodes rows readers c → IsFrame nodes rows f → slice_get nodes f.node ≡ Some node → slice_get rows f.node ≡ Some row → IsKept rows row → rows' ≡ set rows f.node (kept_row row) → IsSame nodes rows rows' readers readers c c f.node
kept_same nodes rows rows' readers c f node row still is n here kept put = record {
  sourced = rows;
  stepped = stepped_same nodes rows readers c still;
  row = row;
  was = here;
  kept = kept;
  put = put;
  still = subst (λ (q : List Opened). IsStill nodes q readers c) (sym put) (keep_still nodes rows readers c f node row still is n here kept);
}

clean_is : (k : Colour) → is_clean k ≡ true → Clean ≡ k
clean_is Clean c = refl
clean_is Check c = cc
clean_is Dirty c = cc

put_same : (rows : List Opened) (i : ℕ) (row : Opened) → slice_get rows i ≡ Some row → rows ≡ set rows i row
put_same [] i row at = cc
put_same (r ∷ rs) zero row at = let same : r ≡ row = cc in ap (λ (q : Opened). q ∷ rs) same
put_same (r ∷ rs) (suc i) row at = ap (λ (l : List Opened). r ∷ l) (put_same rs i row at)

-- a clean effect is as it is
pub clean_same : (nodes : List PlanNode) (rows : List Opened) (readers : Readers) (c : Clock) (i : ℕ) (row : Opened) → IsEffect nodes i → IsStill nodes rows readers c → slice_get rows i ≡ Some row → is_clean row.colour ≡ true → IsSame nodes rows rows readers readers c c i
clean_same nodes rows readers c i row effect still here clean = record {
  sourced = rows;
  stepped = stepped_same nodes rows readers c still;
  row = row;
  was = here;
  kept = ((λ none. not_both (is_clean row.colour) clean (ap is_clean (d.fresh none))), (λ k x e. d.clean clean k x e));
  put = put_same rows i row here ∙ ap (λ (q : Opened). set rows i q) (ap (λ (k : Colour). record row { colour = k }) (sym (clean_is row.colour clean)));
  still = still;
}
  where
    d : IsDerivedGood rows i effect.node row
    d = (still.good.each i effect.node row effect.at here).derived (effect_derived effect.node.kind effect.is)

pub same_more : (nodes : List PlanNode) (rows0 rows1 rows2 : List Opened) (r0 r1 r2 : Readers) (c0 c1 c2 : Clock) (i : ℕ) → IsStepped nodes rows0 rows1 r0 r1 c0 c1 → IsSame nodes rows1 rows2 r1 r2 c1 c2 i → IsSame nodes rows0 rows2 r0 r2 c0 c2 i
same_more nodes rows0 rows1 rows2 r0 r1 r2 c0 c1 c2 i a b = record {
  sourced = b.sourced;
  stepped = stepped_more nodes rows0 rows1 b.sourced r0 r1 r2 c0 c1 c2 a b.stepped;
  row = b.row;
  was = b.was;
  kept = b.kept;
  put = b.put;
  still = b.still;
}

-- ---- a run

-- where a run is due, a recorded source differs or there is none
pub due_not_kept : (nodes : List PlanNode) (rows : List Opened) (f : Frame) (node : PlanNode) (row : Opened) → IsGood nodes rows → IsFrame nodes rows f → is_due f.due ≡ true → slice_get nodes f.node ≡ Some node → slice_get rows f.node ≡ Some row → IsKept rows row → ⊥
due_not_kept nodes rows f node row good is is_due' n here kept = by f.due is_due' o.going
  where
    o : IsFrameOf rows node row f
    o = is.each node row n here

    by : (w : Due) → is_due w ≡ true → IsGoing rows row f.cleared f.at w → ⊥
    by due.Not k g = cc
    by due.First k g = kept.0 g
    by due.Differs k g =
        let low = (((good.each f.node node row n here).derived o.derived).known f.at g.0 g.1).below in
        let y = within_at rows g.0.row (let b = is.below in let p = good.paired in omega arith) in
        let v = (kept.1 f.at g.0 g.1).version y.0 y.1 in let l = g.2 y.0 y.1 in omega arith

-- an effect of which a run is due was not clean
pub due_unclean : (nodes : List PlanNode) (rows rows' : List Opened) (readers readers' : Readers) (c c' : Clock) (i : ℕ) (f : Frame) → IsEffect nodes i → IsStepped nodes rows rows' readers readers' c c' → IsDue nodes rows' i f → (y : Opened) → slice_get rows i ≡ Some y → is_clean y.colour ≡ false
due_unclean nodes rows rows' readers readers' c c' i f is s d y at =
    let here = effect_stays nodes rows rows' readers readers' c c' i is s ∙ at in
    (d.frame.each is.node y (ap (λ (q : ℕ). slice_get nodes q) d.node ∙ is.at) (ap (λ (q : ℕ). slice_get rows' q) d.node ∙ here)).unclean

-- the source's version as it is then
caused_now : (rows : List Opened) (reads : List Read) (was : Option Cause) (cause : Cause) → IsCaused reads was (IsSeen rows rows) cause → IsCaused reads was (IsNow rows) cause
caused_now rows reads was First h = h
caused_now rows reads was (Changed s o n) h = record { place = h.place; read = h.read; recorded = h.recorded; of_source = h.of_source; at_old = h.at_old; shown = (λ y at. elim (h.shown y y at at) [ inl e ↦ e | inr e ↦ e ]); other = h.other }

pub run_whole : (nodes : List PlanNode) (rows rows' : List Opened) (readers readers' : Readers) (c : Clock) (f : Frame) (node : PlanNode) (row : Opened) (code : Code) (version : ℕ) (list : List Read) → IsStill nodes rows readers c → IsFrame nodes rows f → slice_get nodes f.node ≡ Some node → slice_get rows f.node ≡ Some row → IsRun nodes rows node f code list → IsRunRecorded rows rows' readers readers' f code version list row → version ≤ now_of c → row.version < version → IsRunUnder nodes rows rows' readers readers' c c f.node code version
run_whole nodes rows rows' readers readers' c f node row code version list still is n here run fin low newer = record {
  sourced = rows;
  enrolled = readers;
  stepped = stepped_same nodes rows readers c still;
  old = row;
  new = finished_row (packed code) version fin.put.body;
  was = here;
  unclean = o.unclean;
  put = fin.put.is;
  row = record {
    clean = refl;
    value = fin.undone;
    number = refl;
    cause = fin.cause;
    cause_is = fin.put.after.cause_is;
    caused = subst (λ (q : List Opened). IsCaused row.body.reads.list row.body.cause (IsNow q) fin.cause) (sym fin.put.is)
        (caused_now (set rows f.node (finished_row (packed code) version fin.put.body)) row.body.reads.list row.body.cause fin.cause (run_caused nodes rows rows' readers readers' c f node row code version list still is n here run fin (set rows f.node (finished_row (packed code) version fin.put.body))));
  };
  have_read = fin.enrolled.stays;
  plan = sym run.value ∙ sym (plan_value-derived nodes (value_in rows) (reads_back nodes still.lawful) f.node node n o.derived);
  still = run_still nodes rows rows' readers readers' c f node row code version list still is n here run fin c still.ticks (omega arith) low newer;
}
  where
    o : IsFrameOf rows node row f
    o = is.each node row n here

pub under_more : (nodes : List PlanNode) (rows0 rows1 rows2 : List Opened) (r0 r1 r2 : Readers) (c0 c1 c2 : Clock) (i : ℕ) (code : Code) (version : ℕ) → IsStepped nodes rows0 rows1 r0 r1 c0 c1 → IsRunUnder nodes rows1 rows2 r1 r2 c1 c2 i code version → IsRunUnder nodes rows0 rows2 r0 r2 c0 c2 i code version
under_more nodes rows0 rows1 rows2 r0 r1 r2 c0 c1 c2 i code version a b = record {
  sourced = b.sourced;
  enrolled = b.enrolled;
  stepped = stepped_more nodes rows0 rows1 b.sourced r0 r1 b.enrolled c0 c1 c2 a b.stepped;
  old = b.old;
  new = b.new;
  was = b.was;
  unclean = b.unclean;
  put = b.put;
  row = b.row;
  have_read = b.have_read;
  plan = b.plan ∙ ap (λ (g : ℕ → Code). g i) a.values;
  still = b.still;
}
