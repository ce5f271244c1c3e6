-- The stack of frames: what each turn leaves, and that less is left to do.
use Rattle.std.proofs.Common.{◌≡◌, ◌≢◌, ℕ, zero, suc, ◌+◌, ◌-◌, ◌*◌, ◌<◌, ◌≤◌, ◌⊎◌, inl, inr, List, [], ◌∷◌, slice_get, Some, None, length, set, Contains, refl, sym, ap, subst, ◌∙◌, arith, Bool, true, false, if◌then◌else◌, Option, MatchOption}
use Rattle.std.proofs.lemmas.List.{length-map}
use Rattle.std.proofs.Math.Nat.{mul-le-mul_left}
use Rattle.values.specs.declared.code.Code.{Code}
use Rattle.values.specs.declared.plan.Kind.{Kind}
use Rattle.values.specs.declared.plan.Kind.TheVariants.{Signal, Field, Load, Memo, Effect}
use Rattle.values.specs.declared.plan.PlanNode.{PlanNode}
use Rattle.values.specs.Packing.{packed, unpacked}
use Rattle.values.specs.Plan.{names_of, rows_in}
use Rattle.values.specs.PlanValues.{is_derived, plan_value}
use Rattle.values.specs.Reserved.{room_of}
use Rattle.values.proofs.NamesLemmas.{reads_fit}
use Rattle.values.proofs.PackingLemmas.{packed-unpacked}
use Rattle.values.proofs.PlanLemmas.{reads_named}
use Rattle.values.proofs.PlanValuesLemmas.{plan_value-by_sources}
use Rattle.sources.specs.declared.body.Read.{Read}
use Rattle.sources.specs.declared.body.Cause.{Cause}
use Rattle.sources.specs.declared.body.Cause.TheVariants.{First, Changed}
use Rattle.sources.specs.declared.opening.Opened.{Opened}
use Rattle.sources.specs.Bodies.{rows_read, IsRight, IsCaused}
use Rattle.sources.specs.Colours.{is_clean}
use Rattle.sources.specs.Rows.{code_in, value_in, IsDerivedGood, IsGood, IsDated, IsRoomy}
use Rattle.sources.proofs.BodyLemmas.{right_from}
use Rattle.work_order.specs.declared.frame.Due.{Due}
use Rattle.work_order.specs.declared.frame.Due.TheVariants as due
use Rattle.work_order.specs.declared.frame.Frame.{Frame}
use Rattle.work_order.specs.Order.{first_frame}
use Rattle.still_readers.specs.declared.readers.Readers.{Readers}
use Rattle.still_readers.specs.Readers.{HasRead, IsReadersOf, IsEnrolled}
use Rattle.still_readers.proofs.Lists.{at_within, within_at, set_here, set_other, one_at, which, not_both}
use Rattle.still_readers.proofs.ReadersLemmas.{row_in}
use Rattle.still_rows.specs.declared.clock.Clock.{Clock}
use Rattle.still_rows.specs.Clock.{IsClock, IsVersioned, now_of}
use Rattle.still_rows.specs.Frames.{AreLawful, IsConfirmed, IsGoing, IsFrameOf, IsFrame, IsMemo}
use Rattle.still_rows.specs.Moves.{room, begun_left, going_left, work_left, IsKept, IsRun, IsBelow}
use Rattle.still_rows.specs.Since.{IsSeen, finished_row, kept_row, IsBodyAfter}
use Rattle.still_rows.specs.Ends.{IsCauseOf, IsRunRecorded, IsFinished, IsRunnable}
use Rattle.still_rows.specs.Works.{IsUnder, IsStack, unclean_count, width, work_of, top_work, total, IsStill, IsStepped, IsOnward, StayPast, with_top}
use Rattle.still_rows.proofs.FramesLemmas.{reads_back, confirmed_values, named_memo}
use Rattle.still_rows.proofs.Written.{IsWritten, written_good, frame_kept}
use Rattle.still_rows.proofs.MovesLemmas.{frame_from, reads_fit_room, first_is_frame}
use Rattle.still_rows.proofs.SinceLemmas.{IsBodySince, since_same, since_written, since_more}

-- plan evaluation does not look at the value of a derived row
code_in-set : (rows : List Opened) (m i : ℕ) (y : Opened) → (i ≡ m → ⊥) → code_in (set rows m y) i ≡ code_in rows i
unfolding code_in
code_in-set [] m i y n = refl
code_in-set (r ∷ rows) zero zero y n = absurd (n refl)
code_in-set (r ∷ rows) zero (suc i) y n = refl
code_in-set (r ∷ rows) (suc m) zero y n = refl
code_in-set (r ∷ rows) (suc m) (suc i) y n = code_in-set rows m i y (λ e. n (ap suc e))

pub values_set : (nodes : List PlanNode) (rows : List Opened) (m : ℕ) (node : PlanNode) (y : Opened) → slice_get nodes m ≡ Some node → is_derived node.kind ≡ true → plan_value nodes (value_in (set rows m y)) ≡ plan_value nodes (value_in rows)
values_set nodes rows m node y n d = plan_value-by_sources nodes (value_in (set rows m y)) (value_in rows) record { same = (λ i other o given. ap unpacked (code_in-set rows m i y (λ e. not_both (is_derived node.kind) d (ap (λ (q : PlanNode). is_derived q.kind) (one_at node other n (rw (← e) o)) ∙ given)))) }

-- the count of rows that are not clean
pub unclean_less : (rows : List Opened) (m : ℕ) (y0 y : Opened) → slice_get rows m ≡ Some y0 → is_clean y0.colour ≡ false → is_clean y.colour ≡ true → unclean_count (set rows m y) + 1 ≡ unclean_count rows
unfolding unclean_count
unclean_less [] m y0 y h u c = cc
unclean_less (r ∷ rs) zero y0 y h u c = let same : r ≡ y0 = cc in let u' : is_clean r.colour ≡ false = rw same u in rw (u', c) (omega arith)
unclean_less (r ∷ rs) (suc m) y0 y h u c = let rest = unclean_less rs m y0 y h u c in omega arith

-- a row that is not clean is counted
pub some_unclean : (rows : List Opened) (m : ℕ) (y : Opened) → slice_get rows m ≡ Some y → is_clean y.colour ≡ false → 0 < unclean_count rows
unfolding unclean_count
some_unclean [] m y h u = cc
some_unclean (r ∷ rs) zero y h u = let same : r ≡ y = cc in let u' : is_clean r.colour ≡ false = rw same u in rw u' (omega arith)
some_unclean (r ∷ rs) (suc m) y h u = let rest = some_unclean rs m y h u in omega arith

-- the work of a frame is bounded
work_small : (nodes : List PlanNode) (rows : List Opened) (node : PlanNode) (row : Opened) (f : Frame) → IsGood nodes rows → slice_get nodes f.node ≡ Some node → slice_get rows f.node ≡ Some row → IsFrameOf rows node row f → work_left row f + 1 < width nodes
work_small nodes rows node row f good n r is = by f.due refl f.cleared
  where
    small : f.due ≡ due.Not → (b : Bool) → (if b then 1 + (length row.body.reads.list - f.at) else 2 + (length row.body.reads.list - f.at) + (1 + (length row.body.reads.list - 0))) + 1 < width nodes
    small none b =
        let g : IsGoing rows row f.cleared f.at due.Not = subst (λ (w : Due). IsGoing rows row f.cleared f.at w) none is.going in
        at b (reads_fit_room nodes rows f.node node row good n r is.derived g.0)
      where
        at : (b : Bool) → length row.body.reads.list ≤ room nodes → (if b then 1 + (length row.body.reads.list - f.at) else 2 + (length row.body.reads.list - f.at) + (1 + (length row.body.reads.list - 0))) + 1 < width nodes
        at true h = omega arith
        at false h = omega arith

    by : (w : Due) → f.due ≡ w → (b : Bool) → (if b then going_left w (length row.body.reads.list) f.at else 2 + begun_left w (length row.body.reads.list) f.at + going_left w (length row.body.reads.list) 0) + 1 < width nodes
    by due.Not none b = small none b
    by due.First some true = omega arith
    by due.First some false = omega arith
    by due.Differs some true = omega arith
    by due.Differs some false = omega arith

pub row_of : (nodes : List PlanNode) (rows : List Opened) (f : Frame) → IsGood nodes rows → IsFrame nodes rows f → (row : Opened) × (slice_get rows f.node ≡ Some row)
row_of nodes rows f good is = within_at rows f.node (let p = good.paired in let b = is.below in omega arith)

pub node_of : (nodes : List PlanNode) (rows : List Opened) (f : Frame) → IsFrame nodes rows f → (node : PlanNode) × (slice_get nodes f.node ≡ Some node)
node_of nodes rows f is = within_at nodes f.node is.below

work_of_small : (nodes : List PlanNode) (rows : List Opened) (f : Frame) → IsGood nodes rows → IsFrame nodes rows f → work_of (slice_get rows f.node) f + 1 < width nodes
work_of_small nodes rows f good is =
    let row = row_of nodes rows f good is in let node = node_of nodes rows f is in
    rw row.1 (work_small nodes rows node.0 row.0 f good node.1 row.1 (is.each node.0 row.0 node.1 row.1))

scaled : (a b w : ℕ) → a < b → a * w + w ≤ b * w
scaled a b w h = let l : suc a ≤ b = omega arith in omega (arith, mul-le-mul_left w l)

top_small : (nodes : List PlanNode) (rows : List Opened) (root : ℕ) (frames : List Frame) → IsGood nodes rows → IsStack nodes rows root frames → top_work nodes rows frames < 1 + length nodes * width nodes
top_small nodes rows root [] good is = omega arith
top_small nodes rows root (f ∷ fs) good is = let w = work_of_small nodes rows f good is.0 in let s = scaled f.node (length nodes) (width nodes) is.0.below in omega arith

-- a row less to bring up to date
total_less : (nodes : List PlanNode) (rows : List Opened) (m root : ℕ) (y0 y : Opened) (f : Frame) (fs frames' : List Frame) → slice_get rows m ≡ Some y0 → is_clean y0.colour ≡ false → is_clean y.colour ≡ true → IsGood nodes (set rows m y) → IsStack nodes (set rows m y) root frames' → total nodes (set rows m y) frames' < total nodes rows (f ∷ fs)
unfolding total
total_less nodes rows m root y0 y f fs frames' here u c good is =
    let less = unclean_less rows m y0 y here u c in
    let small = top_small nodes (set rows m y) root frames' good is in
    let big = mul-le-mul_left (1 + length nodes * width nodes) (let e : unclean_count (set rows m y) + 1 ≤ unclean_count rows = omega arith in e) in
    omega arith

under_kept : (nodes : List PlanNode) (rows : List Opened) (root m : ℕ) (y0 y : Opened) → slice_get rows m ≡ Some y0 → is_clean y0.colour ≡ false → y0.version ≤ y.version → (bound : ℕ) (fs : List Frame) → m ≤ bound → IsUnder nodes rows root bound fs → IsUnder nodes (set rows m y) root bound fs
under_kept nodes rows root m y0 y here u grows bound [] le is = is
under_kept nodes rows root m y0 y here u grows bound (g ∷ gs) le is =
    let above = is.0 in
    (is.0, frame_kept nodes rows m y0 y g here u grows (λ e. absurd (omega arith)) is.1, is.2, under_kept nodes rows root m y0 y here u grows g.node gs (omega arith) is.3)

-- the top is done
stack_over : (nodes : List PlanNode) (rows : List Opened) (root m : ℕ) (y0 y : Opened) → slice_get rows m ≡ Some y0 → is_clean y0.colour ≡ false → is_clean y.colour ≡ true → y0.version ≤ y.version → (fs : List Frame) → IsUnder nodes rows root m fs → IsStack nodes (set rows m y) root fs
stack_over nodes rows root m y0 y here u clean grows [] is = (λ z at.
    let same : z ≡ y = one_at z y at (subst (λ (i : ℕ). slice_get (set rows m y) i ≡ Some y) is (set_here rows m y0 y here)) in
    ap (λ (q : Opened). is_clean q.colour) same ∙ clean)
stack_over nodes rows root m y0 y here u clean grows (g ∷ gs) is =
    let above = is.0 in
    (frame_kept nodes rows m y0 y g here u grows (λ e. absurd (omega arith)) is.1, is.2, under_kept nodes rows root m y0 y here u grows g.node gs (omega arith) is.3)

-- the top was taken off, where there was one
pub popped : (top : Option Frame) (old new : List Frame) → MatchOption top ((old ≡ []) × (new ≡ [])) (λ f. old ≡ f ∷ new) → with_top top new ≡ old
popped None old new is = is.1 ∙ sym is.0
popped (Some f) old new is = sym is

pub stepped_same : (nodes : List PlanNode) (rows : List Opened) (readers : Readers) (c : Clock) → IsStill nodes rows readers c → IsStepped nodes rows rows readers readers c c
stepped_same nodes rows readers c still = record { still = still; since = since_same rows c; values = refl; effects = (λ i n at k. refl); have_read = (λ m r h. h); spent = omega arith }

pub stepped_more : (nodes : List PlanNode) (rows0 rows1 rows2 : List Opened) (r0 r1 r2 : Readers) (c0 c1 c2 : Clock) → IsStepped nodes rows0 rows1 r0 r1 c0 c1 → IsStepped nodes rows1 rows2 r1 r2 c1 c2 → IsStepped nodes rows0 rows2 r0 r2 c0 c2
stepped_more nodes rows0 rows1 rows2 r0 r1 r2 c0 c1 c2 a b = record {
  still = b.still;
  since = since_more rows0 rows1 rows2 c0 c1 c2 a.since b.since;
  values = b.values ∙ a.values;
  effects = (λ i n at k. b.effects i n at k ∙ a.effects i n at k);
  have_read = (λ m r h. b.have_read m r (a.have_read m r h));
  spent = (let x = a.spent in let y = b.spent in omega arith);
}

memo_derived : (k : Kind) → k ≡ Memo → is_derived k ≡ true
memo_derived k e = rw e refl

-- one write of a derived row, after which all holds
module _ (nodes : List PlanNode) (rows : List Opened) (readers readers' : Readers) (c c' : Clock) (f : Frame) (node : PlanNode) (y0 y : Opened) (still : IsStill nodes rows readers c) (is : IsFrame nodes rows f) (n : slice_get nodes f.node ≡ Some node) (here : slice_get rows f.node ≡ Some y0) (right : IsRight node.expr y.body.reads.list y.code) (w : IsWritten rows f.node y0 y) (later : now_of c ≤ now_of c') (low : y.version ≤ now_of c') (clock : IsClock c') (of_plan : IsReadersOf nodes readers') (stays : (m row : ℕ) → HasRead readers m row → HasRead readers' m row) (enrolled : (k : ℕ) (x : Read) → slice_get y.body.reads.list k ≡ Some x → HasRead readers' f.node x.row) where
  of_frame : IsFrameOf rows node y0 f
  of_frame = is.each node y0 n here

  good' : IsGood nodes (set rows f.node y)
  good' = written_good nodes rows f.node node y0 y still.good n of_frame.derived here of_frame.unclean right w

  dated' : IsDated (set rows f.node y) (now_of c')
  dated' = record {
    held = (λ i z at. held i z (which rows f.node y0 y i z here at));
    recorded = (λ i z at k x e. recorded i z k x e (which rows f.node y0 y i z here at));
  }
    where
      held : (i : ℕ) (z : Opened) → ((i ≡ f.node) × (z ≡ y)) ⊎ ((i ≡ f.node → ⊥) × (slice_get rows i ≡ Some z)) → z.version ≤ now_of c'
      held i z (inl (e, g)) = rw g low
      held i z (inr (m, at)) = let d = still.dated.held i z at in omega arith

      recorded : (i : ℕ) (z : Opened) (k : ℕ) (x : Read) → slice_get z.body.reads.list k ≡ Some x → ((i ≡ f.node) × (z ≡ y)) ⊎ ((i ≡ f.node → ⊥) × (slice_get rows i ≡ Some z)) → x.version ≤ now_of c'
      recorded i z k x e (inl (p, g)) =
          let r = w.reads k x (ap (λ (q : Opened). slice_get q.body.reads.list k) (sym g) ∙ e) in
          let b = is.below in let q = still.good.paired in let low = r.below in
          let t = within_at rows x.row (omega arith) in
          let same = r.present.version t.0 t.1 in
          let d = still.dated.held x.row t.0 t.1 in omega arith
      recorded i z k x e (inr (m, at)) = let d = still.dated.recorded i z at k x e in omega arith

  roomy' : IsRoomy nodes (set rows f.node y)
  roomy' = record { each = (λ i other z q at d. by i other z q d (which rows f.node y0 y i z here at)) }
    where
      by : (i : ℕ) (other : PlanNode) (z : Opened) → slice_get nodes i ≡ Some other → is_derived other.kind ≡ true → ((i ≡ f.node) × (z ≡ y)) ⊎ ((i ≡ f.node → ⊥) × (slice_get rows i ≡ Some z)) → length (names_of other.expr) ≤ room_of z.body.reads
      by i other z q d (inl (e, g)) = let a = still.roomy.each i other y0 q (rw e here) d in let b = w.room in rw g (omega arith)
      by i other z q d (inr (m, at)) = still.roomy.each i other z q at d

  enrolled' : IsEnrolled nodes (set rows f.node y) readers'
  enrolled' = record { each = (λ i other z q at d ran k x e. by i other z q d ran k x e (which rows f.node y0 y i z here at)) }
    where
      by : (i : ℕ) (other : PlanNode) (z : Opened) → slice_get nodes i ≡ Some other → is_derived other.kind ≡ true → z.body.cause ≢ None → (k : ℕ) (x : Read) → slice_get z.body.reads.list k ≡ Some x → ((i ≡ f.node) × (z ≡ y)) ⊎ ((i ≡ f.node → ⊥) × (slice_get rows i ≡ Some z)) → HasRead readers' i x.row
      by i other z q d ran k x e (inl (p, g)) = subst (λ (j : ℕ). HasRead readers' j x.row) (sym p) (enrolled k x (ap (λ (t : Opened). slice_get t.body.reads.list k) (sym g) ∙ e))
      by i other z q d ran k x e (inr (m, at)) = stays i x.row (still.enrolled.each i other z q at d ran k x e)

  pub write_still : IsStill nodes (set rows f.node y) readers' c'
  write_still = record { lawful = still.lawful; good = good'; dated = dated'; roomy = roomy'; of_plan = of_plan; enrolled = enrolled'; ticks = clock }

-- one write of a memo, whole
module _ (nodes : List PlanNode) (rows : List Opened) (root : ℕ) (readers readers' : Readers) (c c' : Clock) (f : Frame) (fs : List Frame) (node : PlanNode) (y0 y : Opened) (code : Code) (still : IsStill nodes rows readers c) (is : IsStack nodes rows root (f ∷ fs)) (n : slice_get nodes f.node ≡ Some node) (here : slice_get rows f.node ≡ Some y0) (right : IsRight node.expr y.body.reads.list y.code) (w : IsWritten rows f.node y0 y) (body : IsBodySince rows (set rows f.node y) y0 y) (coded : unpacked y.code ≡ code) (equal : unpacked y0.code ≡ code → y.code ≡ y0.code) (v : IsVersioned c c' f.node y0 code y.version) (clock : IsClock c') (of_plan : IsReadersOf nodes readers') (stays : (m row : ℕ) → HasRead readers m row → HasRead readers' m row) (enrolled : (k : ℕ) (x : Read) → slice_get y.body.reads.list k ≡ Some x → HasRead readers' f.node x.row) where
  o : IsFrameOf rows node y0 f
  o = is.0.each node y0 n here

  later : IsVersioned c c' f.node y0 code y.version → (now_of c ≤ now_of c') × (y.version ≤ now_of c') × (c'.drawn ≤ c.drawn + 1)
  later (inl (same, e, je)) = let d = still.dated.held f.node y0 here in rw je (omega arith, omega arith, omega arith)
  later (inr (same, e, tick)) = let a = tick.base in let b = tick.drawn in (omega arith, omega arith, omega arith)

  still' : IsStill nodes (set rows f.node y) readers' c'
  still' = write_still nodes rows readers readers' c c' f node y0 y still is.0 n here right w (later v).0 (later v).1 clock of_plan stays enrolled

  stack' : IsStack nodes (set rows f.node y) root fs
  stack' = stack_over nodes rows root f.node y0 y here o.unclean w.clean w.grows fs is.2

  effects' : (i : ℕ) (other : PlanNode) → slice_get nodes i ≡ Some other → other.kind ≡ Effect → slice_get (set rows f.node y) i ≡ slice_get rows i
  effects' i other q k = set_other rows f.node i y (λ e.
      let memo = is.1.each other (rw (← e) q) in
      let bad : Memo ≡ Effect = sym memo ∙ k in cc)

  pub write_steps : IsStepped nodes rows (set rows f.node y) readers readers' c c' × IsOnward nodes rows (set rows f.node y) root (f ∷ fs) fs
  write_steps = (
    record {
      still = still';
      since = since_written rows f.node y0 y c c' code still.ticks here o.unclean w.clean w.grows body coded equal v;
      values = values_set nodes rows f.node node y n o.derived;
      effects = effects';
      have_read = stays;
      spent = (let a = unclean_less rows f.node y0 y here o.unclean w.clean in let b = (later v).2 in omega arith);
    },
    record { stack = stack'; less = total_less nodes rows f.node root y0 y f fs fs here o.unclean w.clean still'.good stack' },
  )

-- what a check that found nothing changed leaves in the row
pub kept_written : (nodes : List PlanNode) (rows : List Opened) (f : Frame) (node : PlanNode) (row : Opened) → IsGood nodes rows → IsFrame nodes rows f → slice_get nodes f.node ≡ Some node → slice_get rows f.node ≡ Some row → IsKept rows row → IsWritten rows f.node row (kept_row row)
kept_written nodes rows f node row good is n here kept = record {
  is_packed = (good.each f.node node row n here).is_packed;
  clean = refl;
  ran = kept.0;
  room = omega arith;
  grows = omega arith;
  stays = (λ _. refl);
  reads = (λ k x e. let r = d.known k x e in let p = kept.1 k x e in record { below = r.below; is_packed = r.is_packed; present = p; code = (λ z at. r.same z at (p.version z at)) });
}
  where
    d : IsDerivedGood rows f.node node row
    d = (good.each f.node node row n here).derived (is.each node row n here).derived

-- a check that found nothing changed
pub keep_steps : (nodes : List PlanNode) (rows : List Opened) (root : ℕ) (readers : Readers) (c : Clock) (f : Frame) (fs : List Frame) (node : PlanNode) (row : Opened) → IsStill nodes rows readers c → IsStack nodes rows root (f ∷ fs) → slice_get nodes f.node ≡ Some node → slice_get rows f.node ≡ Some row → IsKept rows row
    → IsStepped nodes rows (set rows f.node (kept_row row)) readers readers c c × IsOnward nodes rows (set rows f.node (kept_row row)) root (f ∷ fs) fs
keep_steps nodes rows root readers c f fs node row still is n here kept =
    write_steps nodes rows root readers readers c c f fs node row (kept_row row) (unpacked row.code) still is n here (d.right kept.0) (kept_written nodes rows f node row still.good is.0 n here kept)
    (inl (refl, refl)) refl (λ _. refl) (inl (refl, refl, refl)) still.ticks still.of_plan (λ m r h. h)
    (λ k x e. still.enrolled.each f.node node row n here (is.0.each node row n here).derived kept.0 k x e)
  where
    d : IsDerivedGood rows f.node node row
    d = (still.good.each f.node node row n here).derived (is.0.each node row n here).derived

-- the same of any derived row, effects too
pub keep_still : (nodes : List PlanNode) (rows : List Opened) (readers : Readers) (c : Clock) (f : Frame) (node : PlanNode) (row : Opened) → IsStill nodes rows readers c → IsFrame nodes rows f → slice_get nodes f.node ≡ Some node → slice_get rows f.node ≡ Some row → IsKept rows row → IsStill nodes (set rows f.node (kept_row row)) readers c
keep_still nodes rows readers c f node row still is n here kept =
    write_still nodes rows readers readers c c f node row (kept_row row) still is n here (d.right kept.0) (kept_written nodes rows f node row still.good is n here kept)
    (omega arith) (still.dated.held f.node row here) still.ticks still.of_plan (λ m r h. h)
    (λ k x e. still.enrolled.each f.node node row n here (is.each node row n here).derived kept.0 k x e)
  where
    d : IsDerivedGood rows f.node node row
    d = (still.good.each f.node node row n here).derived (is.each node row n here).derived

-- why a run was caused, as it is seen after the write, from any rows before on
caused_seen : (rows0 rows rows' : List Opened) (row : Opened) (i at : ℕ) (cause : Cause) → ((k : ℕ) (x : Read) → slice_get row.body.reads.list k ≡ Some x → x.row < i) → ((q : ℕ) → q < i → slice_get rows' q ≡ slice_get rows q) → IsCauseOf rows row at cause → IsCaused row.body.reads.list row.body.cause (IsSeen rows0 rows') cause
caused_seen rows0 rows rows' row i at First low same h = h
caused_seen rows0 rows rows' row i at (Changed s a b) low same h = record {
  place = at;
  read = h.0;
  recorded = h.1;
  of_source = h.2;
  at_old = h.3;
  shown = (λ old new o n. inr (h.4.2 ∙ ap (λ (q : Opened). q.version) (one_at h.4.0 new h.4.1 (sym (same s (below h.2)) ∙ n))));
  other = (let l = h.4.3 in λ e. omega (arith, e));
}
  where
    below : h.0.row ≡ s → s < i
    below e = let l = low at h.0 h.1 in omega (arith, e)

-- what a whole run leaves in its row
module _ (nodes : List PlanNode) (rows rows' : List Opened) (readers readers' : Readers) (c : Clock) (f : Frame) (node : PlanNode) (row : Opened) (code : Code) (version : ℕ) (list : List Read) (still : IsStill nodes rows readers c) (is : IsFrame nodes rows f) (n : slice_get nodes f.node ≡ Some node) (here : slice_get rows f.node ≡ Some row) (run : IsRun nodes rows node f code list) (fin : IsRunRecorded rows rows' readers readers' f code version list row) where
  after : IsBodyAfter row.body fin.put.body fin.cause list
  after = fin.put.after

  derived_row : IsDerivedGood rows f.node node row
  derived_row = (still.good.each f.node node row n here).derived (is.each node row n here).derived

  named : (k : ℕ) (x : Read) → slice_get list k ≡ Some x → Contains (rows_in node.expr) x.row
  named k x at = reads_named node.expr (plan_value nodes (value_in rows)) x.row (subst (λ (l : List ℕ). Contains l x.row) run.read (row_in list k x at))

  confirmed : (k : ℕ) (x : Read) → slice_get fin.put.body.reads.list k ≡ Some x → IsConfirmed rows f.node x
  confirmed k x e = run.each k x (ap (λ (l : List Read). slice_get l k) (sym after.reads_are) ∙ e)

  pub run_right : IsRight node.expr fin.put.body.reads.list (packed code)
  run_right = right_from node.expr fin.put.body.reads.list (packed code) (plan_value nodes (value_in rows)) (ap rows_read after.reads_are ∙ run.read)
      (confirmed_values nodes rows (reads_back nodes still.lawful) still.good f.node (let p = still.good.paired in let b = is.below in omega arith) fin.put.body.reads.list confirmed)
      (run.value ∙ sym fin.undone)

  pub run_equal : unpacked row.code ≡ code → packed code ≡ row.code
  run_equal e = ap packed (sym e) ∙ packed-unpacked row.code (still.good.each f.node node row n here).is_packed

  pub run_written : row.version ≤ version → (version ≡ row.version → packed code ≡ row.code) → IsWritten rows f.node row (finished_row (packed code) version fin.put.body)
  run_written grows stays = record {
    is_packed = fin.packs;
    clean = refl;
    ran = (λ e. let bad : Some fin.cause ≡ None = sym after.cause_is ∙ e in cc);
    room = (let a = after.room in omega arith);
    grows = grows;
    stays = stays;
    reads = confirmed;
  }

  pub run_caused : (rows0 : List Opened) → IsCaused row.body.reads.list row.body.cause (IsSeen rows0 (set rows f.node (finished_row (packed code) version fin.put.body))) fin.cause
  run_caused rows0 = caused_seen rows0 rows (set rows f.node (finished_row (packed code) version fin.put.body)) row f.node f.at fin.cause (λ k x e. (derived_row.known k x e).below) (λ q l. set_other rows f.node q (finished_row (packed code) version fin.put.body) (λ e. absurd (omega arith))) fin.caused

  pub run_body : IsBodySince rows (set rows f.node (finished_row (packed code) version fin.put.body)) row (finished_row (packed code) version fin.put.body)
  run_body = inr (fin.cause, after.cause_is, run_caused rows)

  pub run_enrolled : (k : ℕ) (x : Read) → slice_get fin.put.body.reads.list k ≡ Some x → HasRead readers' f.node x.row
  run_enrolled k x e =
      let at = ap (λ (l : List Read). slice_get l k) (sym after.reads_are) ∙ e in
      let b = is.below in let low = (run.each k x at).below in
      fin.enrolled.enrolled nodes still.of_plan node n (is.each node row n here).derived k x (at_within list k x at) at (named k x at) (omega arith)

  -- under a newer version all holds
  pub run_still : (c' : Clock) → IsClock c' → now_of c ≤ now_of c' → version ≤ now_of c' → row.version < version → IsStill nodes rows' readers' c'
  run_still c' clock later low newer =
      subst (λ (q : List Opened). IsStill nodes q readers' c') (sym fin.put.is)
      (write_still nodes rows readers readers' c c' f node row (finished_row (packed code) version fin.put.body) still is n here run_right (run_written (omega arith) (λ e. absurd (omega arith))) later low clock (fin.enrolled.of_plan nodes still.of_plan) fin.enrolled.stays run_enrolled)

-- a run of a memo
pub finish_steps : (nodes : List PlanNode) (rows rows' : List Opened) (root : ℕ) (readers readers' : Readers) (c c' : Clock) (f : Frame) (fs : List Frame) (node : PlanNode) (row : Opened) (code : Code) (list : List Read) → IsStill nodes rows readers c → IsStack nodes rows root (f ∷ fs) → slice_get nodes f.node ≡ Some node → slice_get rows f.node ≡ Some row → IsRun nodes rows node f code list → IsClock c' → IsFinished rows rows' readers readers' c c' f code list row
    → IsStepped nodes rows rows' readers readers' c c' × IsOnward nodes rows rows' root (f ∷ fs) fs
finish_steps nodes rows rows' root readers readers' c c' f fs node row code list still is n here run clock end =
    let fin = end.run in
    subst (λ (q : List Opened). IsStepped nodes rows q readers readers' c c' × IsOnward nodes rows q root (f ∷ fs) fs) (sym fin.put.is)
    (write_steps nodes rows root readers readers' c c' f fs node row (finished_row (packed code) end.version fin.put.body) code still is n here
    (run_right nodes rows rows' readers readers' c f node row code end.version list still is.0 n here run fin)
    (run_written nodes rows rows' readers readers' c f node row code end.version list still is.0 n here run fin (grows end.versioned) (λ s. stays end.versioned s))
    (run_body nodes rows rows' readers readers' c f node row code end.version list still is.0 n here run fin)
    fin.undone equal end.versioned clock (fin.enrolled.of_plan nodes still.of_plan) fin.enrolled.stays
    (run_enrolled nodes rows rows' readers readers' c f node row code end.version list still is.0 n here run fin))
  where
    equal : unpacked row.code ≡ code → packed code ≡ row.code
    equal e = run_equal nodes rows rows' readers readers' c f node row code end.version list still is.0 n here run end.run e

    grows : IsVersioned c c' f.node row code end.version → row.version ≤ end.version
    grows (inl (same, e, je)) = omega arith
    grows (inr (same, e, tick)) = let l = still.dated.held f.node row here in omega arith

    stays : IsVersioned c c' f.node row code end.version → end.version ≡ row.version → packed code ≡ row.code
    stays (inl (same, e, je)) _ = equal same
    stays (inr (same, e, tick)) s = let l = still.dated.held f.node row here in absurd (omega arith)

-- frames of rising nodes are few
pub few_under : (nodes : List PlanNode) (rows : List Opened) (root bound : ℕ) (fs : List Frame) → IsUnder nodes rows root bound fs → bound + length fs ≤ root
few_under nodes rows root bound [] is = omega arith
few_under nodes rows root bound (g ∷ gs) is = let a = is.0 in let r = few_under nodes rows root g.node gs is.3 in omega arith

first_of : (nodes : List PlanNode) (rows : List Opened) (r : ℕ) (y : Opened) → IsGood nodes rows → r < length nodes → slice_get rows r ≡ Some y → is_clean y.colour ≡ false → IsFrame nodes rows (first_frame r y.body.cause)
first_of nodes rows r y good below here unclean =
    let at = within_at nodes r below in
    frame_from nodes rows at.0 y (first_frame r y.body.cause) at.1 here (first_is_frame rows at.0 y r (by at.0 at.1 (is_derived at.0.kind) refl) unclean)
  where
    by : (node : PlanNode) → slice_get nodes r ≡ Some node → (b : Bool) → is_derived node.kind ≡ b → is_derived node.kind ≡ true
    by node n true e = e
    by node n false e = absurd (not_both (is_clean y.colour) ((good.each r node y n here).source e) unclean)

-- a source comes first
pub below_steps : (nodes : List PlanNode) (rows : List Opened) (root r : ℕ) (f : Frame) (fs : List Frame) (node : PlanNode) (y : Opened) → AreLawful nodes → IsGood nodes rows → IsStack nodes rows root (f ∷ fs) → slice_get nodes f.node ≡ Some node → IsBelow rows node f r → slice_get rows r ≡ Some y → IsOnward nodes rows rows root (f ∷ fs) (first_frame r y.body.cause ∷ f ∷ fs)
unfolding total
below_steps nodes rows root r f fs node y lawful good is n below here = record {
  stack = (first, named_memo nodes rows lawful good f.node node n r below.1 y here (below.2 y here), (below.0, is.0, is.1, is.2));
  less = (let w = work_of_small nodes rows (first_frame r y.body.cause) good first in let s = scaled r f.node (width nodes) below.0 in omega arith);
}
  where
    first : IsFrame nodes rows (first_frame r y.body.cause)
    first = first_of nodes rows r y good (let b = is.0.below in let l = below.0 in omega arith) here (below.2 y here)

-- the stack at the start
pub start_stack : (nodes : List PlanNode) (rows : List Opened) (root : ℕ) (y : Opened) → IsGood nodes rows → IsMemo nodes root → root < length nodes → slice_get rows root ≡ Some y → is_clean y.colour ≡ false → IsStack nodes rows root (first_frame root y.body.cause ∷ [])
start_stack nodes rows root y good memo below here unclean = (first_of nodes rows root y good below here unclean, memo, refl)

-- what a run reads has room in its row
pub run_fits : (nodes : List PlanNode) (rows : List Opened) (node : PlanNode) (row : Opened) (f : Frame) (code : Code) (list : List Read) → IsRoomy nodes rows → IsFrame nodes rows f → slice_get nodes f.node ≡ Some node → slice_get rows f.node ≡ Some row → IsRun nodes rows node f code list → length list ≤ room_of row.body.reads
run_fits nodes rows node row f code list roomy is n r run =
    let a = reads_fit node.expr (plan_value nodes (value_in rows)) in
    let b = roomy.each f.node node row n r (is.each node row n r).derived in
    let c = ap length run.read in
    let e = length-map list (λ (x : Read). x.row) in
    omega arith

-- a run that is whole may be recorded
pub run_runs : (nodes : List PlanNode) (rows : List Opened) (node : PlanNode) (row : Opened) (f : Frame) (code : Code) (list : List Read) → IsGood nodes rows → IsRoomy nodes rows → IsFrame nodes rows f → slice_get nodes f.node ≡ Some node → slice_get rows f.node ≡ Some row → IsRun nodes rows node f code list → IsRunnable rows row f list
run_runs nodes rows node row f code list good roomy is n r run = record {
  is_packed = (good.each f.node node row n r).is_packed;
  going = (is.each node row n r).going;
  within = (λ x e. let b = (((good.each f.node node row n r).derived (is.each node row n r).derived).known f.at x e).below in let w = is.below in let p = good.paired in omega arith);
  room = run_fits nodes rows node row f code list roomy is n r run;
}

-- a frame that went on, under which the others stay
pub gone_stack : (nodes : List PlanNode) (rows : List Opened) (root : ℕ) (f g : Frame) (fs : List Frame) → IsStack nodes rows root (f ∷ fs) → IsFrame nodes rows g → g.node ≡ f.node → IsStack nodes rows root (g ∷ fs)
gone_stack nodes rows root f g fs is frame same = (frame, subst (λ (i : ℕ). IsMemo nodes i) (sym same) is.1, subst (λ (i : ℕ). IsUnder nodes rows root i fs) (sym same) is.2)

pub gone_less : (nodes : List PlanNode) (rows rows' : List Opened) (root : ℕ) (f g : Frame) (fs fs' : List Frame) → g.node ≡ f.node → work_of (slice_get rows f.node) g ≤ work_of (slice_get rows f.node) f → IsOnward nodes rows rows' root (g ∷ fs) fs' → IsOnward nodes rows rows' root (f ∷ fs) fs'
unfolding total
gone_less nodes rows rows' root f g fs fs' same less on = record {
  stack = on.stack;
  less = (let a = on.less in
      let b : work_of (slice_get rows g.node) g ≡ work_of (slice_get rows f.node) g = ap (λ (i : ℕ). work_of (slice_get rows i) g) same in
      let c : g.node * width nodes ≡ f.node * width nodes = ap (λ (i : ℕ). i * width nodes) same in omega arith);
}

-- a frame that moved has less to do, counted at the row of the first
pub moved_less : (rows : List Opened) (i : ℕ) (f g : Frame) (row : Opened) → slice_get rows i ≡ Some row → work_left row g < work_left row f → work_of (slice_get rows i) g < work_of (slice_get rows i) f
moved_less rows i f g row at less = rw at less

-- ---- a span of rows

-- a frame stands at the root or before it
pub frame_low : (nodes : List PlanNode) (rows : List Opened) (root : ℕ) (f : Frame) (fs : List Frame) → IsStack nodes rows root (f ∷ fs) → f.node ≤ root
frame_low nodes rows root f fs is = let a = few_under nodes rows root f.node fs is.2 in omega arith

-- one row is written, at the root or before it
pub past_written : (rows : List Opened) (root m : ℕ) (y : Opened) → m ≤ root → StayPast root rows (set rows m y)
past_written rows root m y low i past = set_other rows m i y (λ e. absurd (omega arith))

-- rows that are no memos, and memos that were clean, stay
pub step_stays : (nodes : List PlanNode) (rows rows' : List Opened) (readers readers' : Readers) (c c' : Clock) (i : ℕ) → IsGood nodes rows → IsStepped nodes rows rows' readers readers' c c' → i < length nodes → ((node : PlanNode) (row : Opened) → slice_get nodes i ≡ Some node → slice_get rows i ≡ Some row → node.kind ≡ Memo → is_clean row.colour ≡ true) → slice_get rows' i ≡ slice_get rows i
step_stays nodes rows rows' readers readers' c c' i good step within clean =
    let p = good.paired in
    let q = step.since.paired in
    let n = within_at nodes i within in
    let old = within_at rows i (omega arith) in
    let new = within_at rows' i (omega arith) in
    by n.0 old.0 new.0 n.1 old.1 new.1 n.0.kind refl
  where
    by : (node : PlanNode) (old new : Opened) → slice_get nodes i ≡ Some node → slice_get rows i ≡ Some old → slice_get rows' i ≡ Some new → (k : Kind) → node.kind ≡ k → slice_get rows' i ≡ slice_get rows i
    by node old new n o w Effect e = step.effects i node n e
    by node old new n o w Memo e = w ∙ ap (λ (z : Opened). Some z) ((step.since.each i old new o w).clean (clean node old n o e)) ∙ sym o
    by node old new n o w Signal e = w ∙ ap (λ (z : Opened). Some z) ((step.since.each i old new o w).clean ((good.each i node old n o).source (ap is_derived e))) ∙ sym o
    by node old new n o w Field e = w ∙ ap (λ (z : Opened). Some z) ((step.since.each i old new o w).clean ((good.each i node old n o).source (ap is_derived e))) ∙ sym o
    by node old new n o w Load e = w ∙ ap (λ (z : Opened). Some z) ((step.since.each i old new o w).clean ((good.each i node old n o).source (ap is_derived e))) ∙ sym o

head_same : (r s : Opened) (rs ss : List Opened) → slice_get (s ∷ ss) 0 ≡ slice_get (r ∷ rs) 0 → is_clean s.colour ≡ is_clean r.colour
head_same r s rs ss e = let same : s ≡ r = cc in ap (λ (z : Opened). is_clean z.colour) same

-- at most so many rows came up to date as may have changed
pub unclean_within : (rows rows' : List Opened) (from count : ℕ) → length rows' ≡ length rows → ((i : ℕ) → i < from → slice_get rows' i ≡ slice_get rows i) → ((i : ℕ) → from + count ≤ i → slice_get rows' i ≡ slice_get rows i) → unclean_count rows ≤ unclean_count rows' + count
unfolding unclean_count
unclean_within [] rows' from count long below past = omega arith
unclean_within (r ∷ rs) [] from count long below past = absurd (omega arith)
unclean_within (r ∷ rs) (s ∷ ss) (suc from) count long below past =
    let rest = unclean_within rs ss from count (omega arith) (λ i l. below (suc i) (omega arith)) (λ i l. past (suc i) (omega arith)) in
    rw (head_same r s rs ss (below 0 (omega arith))) (omega arith)
unclean_within (r ∷ rs) (s ∷ ss) zero zero long below past =
    let rest = unclean_within rs ss zero zero (omega arith) (λ i l. absurd (omega arith)) (λ i l. past (suc i) (omega arith)) in
    rw (head_same r s rs ss (past 0 (omega arith))) (omega arith)
unclean_within (r ∷ rs) (s ∷ ss) zero (suc count) long below past =
    let rest = unclean_within rs ss zero count (omega arith) (λ i l. absurd (omega arith)) (λ i l. past (suc i) (omega arith)) in
    by (is_clean r.colour) (is_clean s.colour) rest
  where
    by : (a b : Bool) → unclean_count rs ≤ unclean_count ss + count → (if a then 0 else 1) + unclean_count rs ≤ (if b then 0 else 1) + unclean_count ss + suc count
    by true true h = omega arith
    by true false h = omega arith
    by false true h = omega arith
    by false false h = omega arith

module _ (nodes : List PlanNode) (rows rows' : List Opened) (readers readers' : Readers) (c c' : Clock) (from to : ℕ) (good : IsGood nodes rows) (step : IsStepped nodes rows rows' readers readers' c c') (span : from ≤ to) (within : to ≤ length nodes) (behind : (i : ℕ) (node : PlanNode) (row : Opened) → i < from → slice_get nodes i ≡ Some node → slice_get rows i ≡ Some row → node.kind ≡ Memo → is_clean row.colour ≡ true) (past : (i : ℕ) → to ≤ i → slice_get rows' i ≡ slice_get rows i) where
  pub span_below : (i : ℕ) → i < from → slice_get rows' i ≡ slice_get rows i
  span_below i l = step_stays nodes rows rows' readers readers' c c' i good step (omega arith) (λ node row n r k. behind i node row l n r k)

  pub span_drawn : c'.drawn ≤ c.drawn + (to - from)
  span_drawn =
      let a = unclean_within rows rows' from (to - from) step.since.paired span_below (λ i l. past i (omega arith)) in
      let b = step.spent in omega arith
