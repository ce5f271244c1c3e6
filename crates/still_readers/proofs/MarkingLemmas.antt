-- Marking out a write.
use Rattle.std.proofs.Common.{◌≡◌, ◌≢◌, ℕ, zero, suc, ◌+◌, ◌<◌, ◌≤◌, ◌⊎◌, inl, inr, List, [], ◌∷◌, ◌++◌, slice_get, Option, Some, None, length, set, replicate, refl, sym, ap, subst, ◌∙◌, arith, Bool, true, false, ◌==◌, length-set, nat_lt, get_or}
use Rattle.std.proofs.lemmas.Option.{slice_get-get_or}
use Rattle.values.specs.declared.plan.PlanNode.{PlanNode}
use Rattle.values.specs.Packing.{IsPacked}
use Rattle.values.specs.PlanValues.{is_derived}
use Rattle.values.specs.Reserved.{room_of}
use Rattle.sources.specs.declared.body.Read.{Read}
use Rattle.sources.specs.declared.colour.Colour.{Colour}
use Rattle.sources.specs.declared.colour.Colour.TheVariants.{Clean, Check, Dirty}
use Rattle.sources.specs.declared.opening.Opened.{Opened}
use Rattle.sources.specs.Bits.{IsIn}
use Rattle.sources.specs.Colours.{is_clean}
use Rattle.sources.specs.Rows.{IsRecorded, IsPresent, IsGood}
use Rattle.still_readers.specs.declared.marking.Marking.{Marking}
use Rattle.still_readers.specs.declared.readers.Reader.{Reader}
use Rattle.still_readers.specs.declared.readers.Readers.{Readers}
use Rattle.still_readers.specs.Readers.{HasReadBelow, HasRead, IsLast, bound_of, IsReadersOf, IsEnrolled}
use Rattle.still_readers.specs.Marking.{darkened, IsDarker, IsDarkened, Reached, IsMet, LeavesOthers, written_row, IsSource, In, AreMet, IsOwed, out_count, IsSpreadingRow, IsSpreading, IsReaching, marking_left, IsSpread}
use Rattle.still_readers.proofs.Lists.{within_at, at_within, set_here, set_other, one_at, which, either, length_more, replicate_at, not_both}

-- a row as it was before, but for its colour
pub before : (rows rows' : List Opened) → IsDarkened rows rows' → (i : ℕ) (z : Opened) → slice_get rows' i ≡ Some z → (y : Opened) × (slice_get rows i ≡ Some y) × IsDarker y z
before rows rows' re i z at =
    let w = at_within rows' i z at in let p = re.paired in
    let y = within_at rows i (omega arith) in
    (y.0, y.1, re.each i y.0 z y.1 at)

pub darkened_unclean : (direct : Bool) (c : Colour) → is_clean (darkened direct c) ≡ false
darkened_unclean true c = refl
darkened_unclean false Clean = refl
darkened_unclean false Check = refl
darkened_unclean false Dirty = refl

darkened_dirty : (direct : Bool) (c : Colour) → c ≡ Dirty → darkened direct c ≡ Dirty
darkened_dirty true c e = refl
darkened_dirty false c e = rw e refl

pub darkened_same : (rows : List Opened) → IsDarkened rows rows
darkened_same rows = record { paired = refl; each = (λ i old new o n. let e = one_at old new o n in subst (λ (q : Opened). IsDarker old q) e record { same = refl; unclean = (λ u. u); dirty = (λ d. d) }) }

pub darkened_more : (rows0 rows1 rows2 : List Opened) → IsDarkened rows0 rows1 → IsDarkened rows1 rows2 → IsDarkened rows0 rows2
darkened_more rows0 rows1 rows2 a b = record {
  paired = b.paired ∙ a.paired;
  each = (λ i old new o n.
      let y = before rows1 rows2 b i new n in
      let s = a.each i old y.0 o y.1 in
      record { same = y.2.same ∙ ap (λ (q : Opened). record q { colour = new.colour }) s.same; unclean = (λ u. y.2.unclean (s.unclean u)); dirty = (λ d. y.2.dirty (s.dirty d)) });
}

pub darkened_one : (rows : List Opened) (m : ℕ) (y0 : Opened) (direct : Bool) → slice_get rows m ≡ Some y0 → IsDarkened rows (set rows m record y0 { colour = darkened direct y0.colour })
darkened_one rows m y0 direct here = record {
  paired = length-set rows m y;
  each = (λ i old new o n. by i old new o (which rows m y0 y i new here n));
}
  where
    y : Opened
    y = record y0 { colour = darkened direct y0.colour }

    by : (i : ℕ) (old new : Opened) → slice_get rows i ≡ Some old → ((i ≡ m) × (new ≡ y)) ⊎ ((i ≡ m → ⊥) × (slice_get rows i ≡ Some new)) → IsDarker old new
    by i old new o (inl (e, f)) =
        let s : old ≡ y0 = one_at old y0 o (rw e here) in
        subst (λ (q : Opened). IsDarker q new) (sym s) (subst (λ (q : Opened). IsDarker y0 q) (sym f) record { same = refl; unclean = (λ _. darkened_unclean direct y0.colour); dirty = darkened_dirty direct y0.colour })
    by i old new o (inr (n', at)) = subst (λ (q : Opened). IsDarker old q) (one_at old new o at) record { same = refl; unclean = (λ v. v); dirty = (λ d. d) }

pub recorded_darkened : (rows rows' : List Opened) (i : ℕ) (x : Read) → IsDarkened rows rows' → IsRecorded rows i x → IsRecorded rows' i x
recorded_darkened rows rows' i x re known = record {
  below = known.below;
  is_packed = known.is_packed;
  older = (λ z at. let y = before rows rows' re x.row z at in let o = known.older y.0 y.1 in let v = ap (λ (q : Opened). q.version) y.2.same in omega arith);
  same = (λ z at v. let y = before rows rows' re x.row z at in known.same y.0 y.1 (v ∙ ap (λ (q : Opened). q.version) y.2.same) ∙ sym (ap (λ (q : Opened). q.code) y.2.same));
}

pub enrolled_darkened : (nodes : List PlanNode) (rows rows' : List Opened) (readers : Readers) → IsDarkened rows rows' → IsEnrolled nodes rows readers → IsEnrolled nodes rows' readers
enrolled_darkened nodes rows rows' readers re en = record {
  each = (λ i node z n at d ran k x e.
      let y = before rows rows' re i z at in
      en.each i node y.0 n y.1 d (λ none. ran (ap (λ (q : Opened). q.body.cause) y.2.same ∙ none)) k x (ap (λ (q : Opened). slice_get q.body.reads.list k) (sym y.2.same) ∙ e));
}

-- lists of rows that wait
pub in_front : (x : ℕ) (xs : List ℕ) (y : ℕ) → In x xs → In x (xs ++ y ∷ [])
in_front x [] y h = absurd h
in_front x (z ∷ xs) y (inl e) = inl e
in_front x (z ∷ xs) y (inr h) = inr (in_front x xs y h)

pub in_last : (xs : List ℕ) (y : ℕ) → In y (xs ++ y ∷ [])
in_last [] y = inl refl
in_last (z ∷ xs) y = inr (in_last xs y)

pub in_snoc : (x : ℕ) (xs : List ℕ) (y : ℕ) → In x (xs ++ y ∷ []) → In x xs ⊎ (x ≡ y)
in_snoc x [] y (inl e) = inr e
in_snoc x [] y (inr h) = absurd h
in_snoc x (z ∷ xs) y (inl e) = inl (inl e)
in_snoc x (z ∷ xs) y (inr h) = elim (in_snoc x xs y h) [ inl g ↦ inl (inr g) | inr e ↦ inr e ]

-- counts of those that are not reached
out_at : (set : List Bool) (i : ℕ) → i < length set → (IsIn set i → ⊥) → slice_get set i ≡ Some false
out_at [] i l n = absurd (omega arith)
out_at (true ∷ set) zero l n = absurd (n refl)
out_at (false ∷ set) zero l n = refl
out_at (b ∷ set) (suc i) l n = out_at set i (omega arith) n

out_count-set : (bits : List Bool) (i : ℕ) → slice_get bits i ≡ Some false → out_count (set bits i true) + 1 ≡ out_count bits
unfolding out_count
out_count-set [] i h = cc
out_count-set (b ∷ bits) zero h = let e : b ≡ false = cc in rw e (omega arith)
out_count-set (b ∷ bits) (suc i) h = let r = out_count-set bits i h in omega arith

pub out_count-replicate : (n : ℕ) → out_count (replicate n false) ≡ n
unfolding out_count
out_count-replicate zero = refl
out_count-replicate (suc n) = let r = out_count-replicate n in omega arith

-- a place for each row that is not reached
pub some_room : (marking : Marking) (row : ℕ) → row < length marking.seen → (IsIn marking.seen row → ⊥) → out_count marking.seen + length marking.todo.list ≤ room_of marking.todo → 0 < marking.todo.spare
some_room marking row l n room = let e = out_count-set marking.seen row (out_at marking.seen row l n) in omega arith

pub reaching_new : (row : ℕ) (old new : Marking) → row < length old.seen → (IsIn old.seen row → ⊥) → new.seen ≡ set old.seen row true → new.todo.list ≡ old.todo.list ++ row ∷ [] → new.todo.spare + 1 ≡ old.todo.spare → IsReaching row old new
reaching_new row old new l n seen list spare = record {
  long = ap length seen ∙ length-set old.seen row true;
  size = (let a = ap length list in let b = length_more old.todo.list row in omega arith);
  room = (let a = ap length list in let b = length_more old.todo.list row in let c = out_count-set old.seen row is in let d = ap out_count seen in omega arith);
  seen = ap (λ (s : List Bool). slice_get s row) seen ∙ set_here old.seen row false true is;
  stays = (λ i h. ap (λ (s : List Bool). slice_get s i) seen ∙ either i row (slice_get (set old.seen row true) i ≡ Some true) (λ same. rw same (set_here old.seen row false true is)) (λ other. set_other old.seen row i true other ∙ h));
  alone = (λ i h. either i row ((i ≡ row) ⊎ IsIn old.seen i) (λ same. inl same) (λ other. inr (sym (set_other old.seen row i true other) ∙ sym (ap (λ (s : List Bool). slice_get s i) seen) ∙ h)));
  waits = (λ x h. subst (λ (t : List ℕ). In x t) (sym list) (in_front x old.todo.list row h));
  first = inr (subst (λ (t : List ℕ). In row t) (sym list) (in_last old.todo.list row));
  from = (λ x h. elim (in_snoc x old.todo.list row (subst (λ (t : List ℕ). In x t) list h)) [ inl g ↦ inr g | inr e ↦ inl e ]);
}
  where
    is : slice_get old.seen row ≡ Some false
    is = out_at old.seen row l n

reaching_old : (row : ℕ) (m : Marking) → IsIn m.seen row → IsReaching row m m
reaching_old row m h = record { long = refl; size = refl; room = refl; seen = h; stays = (λ i g. g); alone = (λ i g. inr g); waits = (λ x g. g); first = inl h; from = (λ x g. inr g) }

set_kept : (bits : List Bool) (i : ℕ) → slice_get bits i ≡ Some true → set bits i true ≡ bits
set_kept [] i h = refl
set_kept (b ∷ bits) zero h = let e : b ≡ true = cc in rw e refl
set_kept (b ∷ bits) (suc i) h = ap (λ (l : List Bool). b ∷ l) (set_kept bits i h)

in_unless : (bits : List Bool) (row : ℕ) → row < length bits → ((IsIn bits row → ⊥) → ⊥) → IsIn bits row
in_unless bits row l n = let w = within_at bits row l in by w.0 w.1
  where
    by : (b : Bool) → slice_get bits row ≡ Some b → IsIn bits row
    by true e = e
    by false e = let clash : IsIn bits row → ⊥ = (λ h. let k : true ≡ false = cc in not_both true refl k) in absurd (n clash)

-- a row that was reached before
pub reaching_again : (row : ℕ) (m : Marking) (seen : List Bool) → row < length m.seen → ((IsIn m.seen row → ⊥) → ⊥) → seen ≡ set m.seen row true → IsReaching row m (record m { seen = seen })
reaching_again row m seen l again is =
    let h = in_unless m.seen row l again in
    subst (λ (s : List Bool). IsReaching row m (record m { seen = s })) (sym (is ∙ set_kept m.seen row h)) (reaching_old row m h)

-- one reader is marked
module _ (nodes : List PlanNode) (rows : List Opened) (readers : Readers) (marking marking' : Marking) (signal now p : ℕ) (u : Reader) (y0 : Opened) (direct : Bool) (is : IsSpreading nodes rows readers marking signal now (p + 1)) (at_p : slice_get readers.list p ≡ Some u) (enrolled : u.enrolled ≡ true) (r : IsReaching u.node marking marking') (here : slice_get rows u.node ≡ Some y0) (direct_is : direct ≡ (now == signal)) where
  abbrev y : Opened
  y = record y0 { colour = darkened direct y0.colour }

  abbrev rows' : List Opened
  rows' = set rows u.node y

  unclean : is_clean y.colour ≡ false
  unclean = darkened_unclean direct y0.colour

  re : IsDarkened rows rows'
  re = darkened_one rows u.node y0 direct here

  -- what is owed at the place is paid, else it is owed still
  paid : (i n : ℕ) (P : Type 0) → (i ≡ u.node → P) → (In n marking'.todo.list → P) → ((n ≡ now) × HasReadBelow readers p i n → P) → IsOwed readers marking.todo.list now (p + 1) i n → P
  paid i n P here_ waits later (inl w) = waits (r.waits n w)
  paid i n P here_ waits later (inr (s, h)) = either h.place p P
      (λ same. let e : h.reader ≡ u = one_at h.reader u h.at (rw same at_p) in here_ (sym h.of_node ∙ ap (λ (q : Reader). q.node) e))
      (λ other. later (s, record { place = h.place; reader = h.reader; at = h.at; below = (let b = h.below in omega (arith, other)); of_node = h.of_node; of_row = h.of_row; enrolled = h.enrolled }))

  on_source : (i : ℕ) (node : PlanNode) (z : Opened) → slice_get nodes i ≡ Some node → is_derived node.kind ≡ false → ((i ≡ u.node) × (z ≡ y)) ⊎ ((i ≡ u.node → ⊥) × (slice_get rows i ≡ Some z)) → is_clean z.colour ≡ true
  on_source i node z n d (inl (e, f)) = absurd (not_both (is_derived node.kind) ((is.of_plan.each p u at_p).derived node (rw (← e) n)) d)
  on_source i node z n d (inr (o, at)) = is.source i node z n at d

  on_row : (i : ℕ) (node : PlanNode) (z : Opened) → slice_get nodes i ≡ Some node → is_derived node.kind ≡ true → ((i ≡ u.node) × (z ≡ y)) ⊎ ((i ≡ u.node → ⊥) × (slice_get rows i ≡ Some z)) → IsSpreadingRow rows' readers marking'.todo.list now p i node z
  on_row i node z n d (inl (e, f)) =
      let g = is.each i node y0 n (rw e here) d in
      subst (λ (q : Opened). IsSpreadingRow rows' readers marking'.todo.list now p i node q) (sym f) record {
        fresh = (λ none. darkened_dirty direct y0.colour (g.fresh none));
        right = g.right;
        known = (λ k x at. recorded_darkened rows rows' i x re (g.known k x at));
        clean = (λ cl k x at. absurd (not_both (is_clean y.colour) cl unclean));
      }
  on_row i node z n d (inr (o, at)) =
      let g = is.each i node z n at d in
      record {
        fresh = g.fresh;
        right = g.right;
        known = (λ k x e. recorded_darkened rows rows' i x re (g.known k x e));
        clean = (λ cl k x e. on x (g.clean cl k x e));
      }
    where
      present : (x : Read) → IsPresent rows x → IsPresent rows' x ⊎ IsOwed readers marking'.todo.list now p i x.row
      present x q = either x.row u.node _
          (λ s. elim r.first [ inl w ↦ absurd (not_both (is_clean y0.colour) (q.clean y0 (rw s here)) (is.seen u.node y0 w here)) | inr w ↦ inr (inl (rw s w)) ])
          (λ s. inl record {
            version = (λ z' e. q.version z' (sym (set_other rows u.node x.row y s) ∙ e));
            clean = (λ z' e. q.clean z' (sym (set_other rows u.node x.row y s) ∙ e));
          })

      on : (x : Read) → IsPresent rows x ⊎ IsOwed readers marking.todo.list now (p + 1) i x.row → IsPresent rows' x ⊎ IsOwed readers marking'.todo.list now p i x.row
      on x (inl q) = present x q
      on x (inr w) = paid i x.row _ (λ e. absurd (o e)) (λ t. inr (inl t)) (λ t. inr (inr t)) w

  on_seen : (i : ℕ) (z : Opened) → IsIn marking'.seen i → slice_get rows' i ≡ Some z → is_clean z.colour ≡ false
  on_seen i z s at = elim (which rows u.node y0 y i z here at) [
    | inl q ↦ ap (λ (t : Opened). is_clean t.colour) q.1 ∙ unclean
    | inr q ↦ elim (r.alone i s) [ inl e ↦ absurd (q.0 e) | inr w ↦ is.seen i z w q.1 ]
  ]

  on_closed : (n m : ℕ) → (n ≡ signal) ⊎ IsIn marking'.seen n → HasRead readers m n → IsIn marking'.seen m ⊎ IsOwed readers marking'.todo.list now p m n
  on_closed n m s h = elim s [ inl e ↦ old (inl e) | inr w ↦ elim (r.alone n w) [ inl e ↦ new e | inr v ↦ old (inr v) ] ]
    where
      old : (n ≡ signal) ⊎ IsIn marking.seen n → IsIn marking'.seen m ⊎ IsOwed readers marking'.todo.list now p m n
      old q = elim (is.closed n m q h) [
        | inl w ↦ inl (r.stays m w)
        | inr w ↦ paid m n _ (λ e. inl (rw e r.seen)) (λ t. inr (inl t)) (λ t. inr (inr t)) w
      ]

      new : n ≡ u.node → IsIn marking'.seen m ⊎ IsOwed readers marking'.todo.list now p m n
      new e = elim r.first [ inl w ↦ old (inr (rw e w)) | inr w ↦ inr (inl (rw e w)) ]

  on_direct : (m : ℕ) (z : Opened) → HasRead readers m signal → slice_get rows' m ≡ Some z → (z.colour ≡ Dirty) ⊎ IsOwed readers marking'.todo.list now p m signal
  on_direct m z h at = elim (which rows u.node y0 y m z here at) [
    | inl q ↦ mine q.0 q.1
    | inr q ↦ elim (is.direct m z h q.1) [ inl d ↦ inl d | inr w ↦ paid m signal _ (λ e. absurd (q.0 e)) (λ t. inr (inl t)) (λ t. inr (inr t)) w ]
  ]
    where
      dirty : (b : Bool) → direct ≡ b → (now == signal) ≡ b → (y0.colour ≡ Dirty) ⊎ IsOwed readers marking.todo.list now (p + 1) m signal → (y.colour ≡ Dirty) ⊎ IsOwed readers marking'.todo.list now p m signal
      dirty true e f w = inl (ap (λ (b : Bool). darkened b y0.colour) e)
      dirty false e f (inl d) = inl (darkened_dirty direct y0.colour d)
      dirty false e f (inr (inl w)) = inr (inl (r.waits signal w))
      dirty false e f (inr (inr (s, hb))) = let t : now ≡ signal = sym s in absurd (grind (arith, f, t))

      mine : m ≡ u.node → z ≡ y → (z.colour ≡ Dirty) ⊎ IsOwed readers marking'.todo.list now p m signal
      mine e f = subst (λ (q : Opened). (q.colour ≡ Dirty) ⊎ IsOwed readers marking'.todo.list now p m signal) (sym f) (dirty direct refl (sym direct_is) (is.direct m y0 h (rw e here)))

  pub visit : IsSpreading nodes rows' readers marking' signal now p
  visit = record {
    paired = length-set rows u.node y ∙ is.paired;
    whole = r.long ∙ is.whole;
    size = (let a = r.size in let b = is.size in omega arith);
    room = (let a = r.size in let b = r.room in let c = is.room in omega arith);
    of_plan = is.of_plan;
    enrolled = enrolled_darkened nodes rows rows' readers re is.enrolled;
    waiting = (λ x w. elim (r.from x w) [ inl e ↦ (let b = (is.of_plan.each p u at_p).within in omega arith) | inr v ↦ is.waiting x v ]);
    is_packed = (λ i z at. elim (which rows u.node y0 y i z here at) [ inl q ↦ subst (λ (t : Opened). IsPacked t.code) (sym q.1) (is.is_packed u.node y0 here) | inr q ↦ is.is_packed i z q.1 ]);
    source = (λ i node z n at d. on_source i node z n d (which rows u.node y0 y i z here at));
    each = (λ i node z n at d. on_row i node z n d (which rows u.node y0 y i z here at));
    seen = on_seen;
    closed = on_closed;
    direct = on_direct;
  }

-- fewer readers are left of the row that is gone through
pub narrow : (nodes : List PlanNode) (rows : List Opened) (readers : Readers) (marking : Marking) (signal now b b' : ℕ) → ((i n : ℕ) → n ≡ now → HasReadBelow readers b i n → HasReadBelow readers b' i n) → IsSpreading nodes rows readers marking signal now b → IsSpreading nodes rows readers marking signal now b'
narrow nodes rows readers marking signal now b b' fewer is = record {
  paired = is.paired;
  whole = is.whole;
  size = is.size;
  room = is.room;
  of_plan = is.of_plan;
  enrolled = is.enrolled;
  waiting = is.waiting;
  is_packed = is.is_packed;
  source = is.source;
  each = (λ i node z n at d. let g = is.each i node z n at d in record { fresh = g.fresh; right = g.right; known = g.known; clean = (λ cl k x e. elim (g.clean cl k x e) [ inl q ↦ inl q | inr w ↦ inr (owed i x.row w) ]) });
  seen = is.seen;
  closed = (λ n m s h. elim (is.closed n m s h) [ inl q ↦ inl q | inr w ↦ inr (owed m n w) ]);
  direct = (λ m z h at. elim (is.direct m z h at) [ inl q ↦ inl q | inr w ↦ inr (owed m signal w) ]);
}
  where
    owed : (i n : ℕ) → IsOwed readers marking.todo.list now b i n → IsOwed readers marking.todo.list now b' i n
    owed i n (inl w) = inl w
    owed i n (inr (s, h)) = inr (s, fewer i n s h)

pub fewer_unread : (readers : Readers) (p : ℕ) (u : Reader) → slice_get readers.list p ≡ Some u → u.enrolled ≡ false → (i n : ℕ) → HasReadBelow readers (p + 1) i n → HasReadBelow readers p i n
fewer_unread readers p u at unread i n h = either h.place p _
    (λ same. let e : h.reader ≡ u = one_at h.reader u h.at (rw same at) in absurd (not_both u.enrolled (sym (ap (λ (q : Reader). q.enrolled) e) ∙ h.enrolled) unread))
    (λ other. record { place = h.place; reader = h.reader; at = h.at; below = (let b = h.below in omega (arith, other)); of_node = h.of_node; of_row = h.of_row; enrolled = h.enrolled })

pub fewer_last : (readers : Readers) (now bound : ℕ) (o : Option ℕ) → IsLast readers.list now bound o → (i n : ℕ) → n ≡ now → HasReadBelow readers bound i n → HasReadBelow readers (bound_of o) i n
fewer_last readers now bound None last i n s h = absurd (last h.place h.reader h.below h.at (h.of_row ∙ s))
fewer_last readers now bound (Some q) last i n s h = by (within (nat_lt q h.place) refl)
  where
    within : (t : Bool) → nat_lt q h.place ≡ t → h.place < q + 1
    within true e = absurd (last.2 h.place h.reader (grind arith) h.below h.at (h.of_row ∙ s))
    within false e = grind arith

    by : h.place < q + 1 → HasReadBelow readers (q + 1) i n
    by l = record { place = h.place; reader = h.reader; at = h.at; below = l; of_node = h.of_node; of_row = h.of_row; enrolled = h.enrolled }

ran_if_clean : (row : Opened) → (row.body.cause ≡ None → row.colour ≡ Dirty) → is_clean row.colour ≡ true → row.body.cause ≡ None → ⊥
ran_if_clean row fresh clean none = not_both (is_clean row.colour) clean (ap is_clean (fresh none))

-- the next row that waits is gone through
pub taken : (nodes : List PlanNode) (rows : List Opened) (readers : Readers) (marking marking' : Marking) (signal old now : ℕ) → IsSpreading nodes rows readers marking signal old 0 → marking.todo.list ≡ marking'.todo.list ++ now ∷ [] → room_of marking'.todo ≡ room_of marking.todo → marking'.seen ≡ marking.seen → IsSpreading nodes rows readers marking' signal now (length readers.list) × (now < length nodes) × (marking_left marking' < marking_left marking)
taken nodes rows readers marking marking' signal old now is list room seen = (
  record {
    paired = is.paired;
    whole = ap length seen ∙ is.whole;
    size = (let a = is.size in omega arith);
    room = (let a = is.room in let b = ap out_count seen in let c = ap length list in let d = length_more marking'.todo.list now in omega arith);
    of_plan = is.of_plan;
    enrolled = is.enrolled;
    waiting = (λ x w. is.waiting x (subst (λ (t : List ℕ). In x t) (sym list) (in_front x marking'.todo.list now w)));
    is_packed = is.is_packed;
    source = is.source;
    each = (λ i node z n at d. let g = is.each i node z n at d in record {
      fresh = g.fresh;
      right = g.right;
      known = g.known;
      clean = (λ cl k x e. elim (g.clean cl k x e) [ inl q ↦ inl q | inr w ↦ inr (owed i x.row (is.enrolled.each i node z n at d (ran_if_clean z g.fresh cl) k x e) w) ]);
    });
    seen = (λ i z s at. is.seen i z (old_seen i s) at);
    closed = (λ n m s h. elim (is.closed n m (elim s [ inl e ↦ inl e | inr w ↦ inr (old_seen n w) ]) h) [ inl q ↦ inl (ap (λ (t : List Bool). slice_get t m) seen ∙ q) | inr w ↦ inr (owed m n h w) ]);
    direct = (λ m z h at. elim (is.direct m z h at) [ inl q ↦ inl q | inr w ↦ inr (owed m signal h w) ]);
  },
  is.waiting now (subst (λ (t : List ℕ). In now t) (sym list) (in_last marking'.todo.list now)),
  (let b = ap out_count seen in let c = ap length list in let d = length_more marking'.todo.list now in omega arith),
)
  where
    old_seen : (i : ℕ) → IsIn marking'.seen i → IsIn marking.seen i
    old_seen i s = ap (λ (t : List Bool). slice_get t i) (sym seen) ∙ s

    owed : (i n : ℕ) → HasRead readers i n → IsOwed readers marking.todo.list old 0 i n → IsOwed readers marking'.todo.list now (length readers.list) i n
    owed i n h (inl w) = elim (in_snoc n marking'.todo.list now (subst (λ (t : List ℕ). In n t) list w)) [ inl v ↦ inl v | inr e ↦ inr (e, h) ]
    owed i n h (inr (s, g)) = let b = g.below in absurd (omega arith)

-- nothing waits
pub spread_out : (nodes : List PlanNode) (rows : List Opened) (readers : Readers) (marking marking' : Marking) (signal now : ℕ) → IsSpreading nodes rows readers marking signal now 0 → marking.todo.list ≡ [] → room_of marking'.todo ≡ room_of marking.todo → marking'.seen ≡ marking.seen → IsSpread nodes rows readers marking' signal
spread_out nodes rows readers marking marking' signal now is list room seen = record {
  good = record {
    paired = is.paired;
    each = (λ i node z n at. record {
      is_packed = is.is_packed i z at;
      source = is.source i node z n at;
      derived = (λ d. let g = is.each i node z n at d in record { fresh = g.fresh; right = g.right; known = g.known; clean = (λ cl k x e. elim (g.clean cl k x e) [ inl q ↦ q | inr w ↦ absurd (nothing i x.row w) ]) });
    });
  };
  enrolled = is.enrolled;
  fits = record { seen = ap length seen ∙ is.whole; room = (let a = is.size in omega arith) };
  direct = (λ m z h at. elim (is.direct m z h at) [ inl q ↦ q | inr w ↦ absurd (nothing m signal w) ]);
  further = (λ m z h at. is.seen m z (reached m h) at);
}
  where
    nothing : (i n : ℕ) → IsOwed readers marking.todo.list now 0 i n → ⊥
    nothing i n (inl w) = let v : In n [] = subst (λ (t : List ℕ). In n t) list w in v
    nothing i n (inr (s, h)) = let b = h.below in omega arith

    reached : (m : ℕ) → Reached readers signal m → IsIn marking.seen m
    reached m (Reached.direct m' h) = elim (is.closed signal m' (inl refl) h) [ inl q ↦ q | inr w ↦ absurd (nothing m' signal w) ]
    reached m (Reached.further n m' g h) = elim (is.closed n m' (inr (reached n g)) h) [ inl q ↦ q | inr w ↦ absurd (nothing m' n w) ]

-- a write begins
pub write_spreads : (nodes : List PlanNode) (rows : List Opened) (readers : Readers) (marking : Marking) (s : ℕ) (y0 : Opened) (code v : ℕ) → IsGood nodes rows → IsReadersOf nodes readers → IsEnrolled nodes rows readers → IsSource nodes s → slice_get rows s ≡ Some y0 → y0.version < v → IsPacked code → length marking.seen ≡ length nodes → marking.seen ≡ replicate (length nodes) false → length nodes + 1 ≤ room_of marking.todo → marking.todo.list ≡ s ∷ [] → IsSpreading nodes (set rows s (written_row y0 code v)) readers marking s 0 0
write_spreads nodes rows readers marking s y0 code v good of_plan en src here newer packs long seen size list = record {
  paired = length-set rows s y ∙ good.paired;
  whole = long;
  size = size;
  room = (let a = ap length list in let b = ap out_count seen in let c = out_count-replicate (length nodes) in omega arith);
  of_plan = of_plan;
  enrolled = record { each = (λ i node z n at d ran k x e. enrolled i node z n d ran k x e (which rows s y0 y i z here at)) };
  waiting = (λ x w. waiting x (subst (λ (t : List ℕ). In x t) list w));
  is_packed = (λ i z at. elim (which rows s y0 y i z here at) [ inl q ↦ subst (λ (t : Opened). IsPacked t.code) (sym q.1) packs | inr q ↦ old_packed i z q.1 ]);
  source = (λ i other z o at e. by_source i other z o e (which rows s y0 y i z here at));
  each = (λ i other z o at e. by_each i other z o e (which rows s y0 y i z here at));
  seen = (λ i z w at. absurd (none i w));
  closed = (λ n m w h. elim w [ inl e ↦ inr (inl (subst (λ (t : List ℕ). In n t) (sym list) (inl e))) | inr g ↦ absurd (none n g) ]);
  direct = (λ m z h at. inr (inl (subst (λ (t : List ℕ). In s t) (sym list) (inl refl))));
}
  where
    y : Opened
    y = written_row y0 code v

    rows' : List Opened
    rows' = set rows s y

    none : (i : ℕ) → IsIn marking.seen i → ⊥
    none i w = let e : true ≡ false = replicate_at (length nodes) false i true (ap (λ (t : List Bool). slice_get t i) (sym seen) ∙ w) in cc

    waiting : (x : ℕ) → In x (s ∷ []) → x < length nodes
    waiting x (inl e) = let b = at_within nodes s src.node src.at in omega arith
    waiting x (inr w) = absurd w

    old_packed : (i : ℕ) (z : Opened) → slice_get rows i ≡ Some z → IsPacked z.code
    old_packed i z at = let l = at_within rows i z at in let p = good.paired in let n = within_at nodes i (omega arith) in (good.each i n.0 z n.1 at).is_packed

    is_source : (i : ℕ) (other : PlanNode) → i ≡ s → slice_get nodes i ≡ Some other → is_derived other.kind ≡ true → ⊥
    is_source i other e o d = not_both (is_derived other.kind) d (ap (λ (q : PlanNode). is_derived q.kind) (one_at other src.node o (rw e src.at)) ∙ src.given)

    enrolled : (i : ℕ) (node : PlanNode) (z : Opened) → slice_get nodes i ≡ Some node → is_derived node.kind ≡ true → z.body.cause ≢ None → (k : ℕ) (x : Read) → slice_get z.body.reads.list k ≡ Some x → ((i ≡ s) × (z ≡ y)) ⊎ ((i ≡ s → ⊥) × (slice_get rows i ≡ Some z)) → HasRead readers i x.row
    enrolled i node z n d ran k x e (inl (p, f)) = absurd (is_source i node p n d)
    enrolled i node z n d ran k x e (inr (p, at)) = en.each i node z n at d ran k x e

    by_source : (i : ℕ) (other : PlanNode) (z : Opened) → slice_get nodes i ≡ Some other → is_derived other.kind ≡ false → ((i ≡ s) × (z ≡ y)) ⊎ ((i ≡ s → ⊥) × (slice_get rows i ≡ Some z)) → is_clean z.colour ≡ true
    by_source i other z o e (inl (p, f)) = ap (λ (q : Opened). is_clean q.colour) f ∙ (good.each s src.node y0 src.at here).source src.given
    by_source i other z o e (inr (p, at)) = (good.each i other z o at).source e

    by_each : (i : ℕ) (other : PlanNode) (z : Opened) → slice_get nodes i ≡ Some other → is_derived other.kind ≡ true → ((i ≡ s) × (z ≡ y)) ⊎ ((i ≡ s → ⊥) × (slice_get rows i ≡ Some z)) → IsSpreadingRow rows' readers marking.todo.list 0 0 i other z
    by_each i other z o e (inl (p, f)) = absurd (is_source i other p o e)
    by_each i other z o e (inr (p, at)) =
        let g = (good.each i other z o at).derived e in
        record { fresh = g.fresh; right = g.right; known = (λ k x h. known x (g.known k x h)); clean = (λ cl k x h. on x (g.clean cl k x h)) }
      where
        known : (x : Read) → IsRecorded rows i x → IsRecorded rows' i x
        known x q = record {
          below = q.below;
          is_packed = q.is_packed;
          older = (λ z' h. older z' (which rows s y0 y x.row z' here h));
          same = (λ z' h. same z' (which rows s y0 y x.row z' here h));
        }
          where
            older : (z' : Opened) → ((x.row ≡ s) × (z' ≡ y)) ⊎ ((x.row ≡ s → ⊥) × (slice_get rows x.row ≡ Some z')) → x.version ≤ z'.version
            older z' (inl (e', f')) = let w = q.older y0 (rw e' here) in rw f' (omega arith)
            older z' (inr (n', at')) = q.older z' at'

            same : (z' : Opened) → ((x.row ≡ s) × (z' ≡ y)) ⊎ ((x.row ≡ s → ⊥) × (slice_get rows x.row ≡ Some z')) → x.version ≡ z'.version → x.code ≡ z'.code
            same z' (inl (e', f')) w = let a = q.older y0 (rw e' here) in let w' : x.version ≡ v = w ∙ ap (λ (t : Opened). t.version) f' in absurd (omega arith)
            same z' (inr (n', at')) w = q.same z' at' w

        on : (x : Read) → IsPresent rows x → IsPresent rows' x ⊎ IsOwed readers marking.todo.list 0 0 i x.row
        on x q = either x.row s _
            (λ e'. inr (inl (subst (λ (t : List ℕ). In x.row t) (sym list) (inl e'))))
            (λ e'. inl record {
              version = (λ z' h. q.version z' (sym (set_other rows s x.row y e') ∙ h));
              clean = (λ z' h. q.clean z' (sym (set_other rows s x.row y e') ∙ h));
            })

-- the reader at a place
pub reader_at : (list xs : List Reader) (p : ℕ) (d : Reader) → xs ≡ list → p < length list → slice_get list p ≡ Some (get_or xs p d)
reader_at list xs p d e l = rw e (slice_get-get_or list p d l)

pub last_at : (list xs : List (Option ℕ)) (p : ℕ) → xs ≡ list → p < length list → slice_get list p ≡ Some (get_or xs p None)
last_at list xs p e l = rw e (slice_get-get_or list p None l)

-- the last place is the last up to itself
pub last_here : (list : List Reader) (row b : ℕ) (o : Option ℕ) → IsLast list row b o → IsLast list row (bound_of o) o
last_here list row b None h = λ k u l e. absurd (omega arith)
last_here list row b (Some p) h = (omega arith, h.1, (λ k u l m e. absurd (omega arith)))

pub last_low : (list : List Reader) (row b : ℕ) (o : Option ℕ) → IsLast list row b o → bound_of o ≤ b
last_low list row b None h = omega arith
last_low list row b (Some p) h = let l = h.0 in omega arith

-- the readers of a row from the last one on
pub spreading_last : (nodes : List PlanNode) (rows : List Opened) (readers : Readers) (marking : Marking) (signal now b : ℕ) (o : Option ℕ) → IsLast readers.list now b o → IsSpreading nodes rows readers marking signal now b → IsSpreading nodes rows readers marking signal now (bound_of o)
spreading_last nodes rows readers marking signal now b o last is = narrow nodes rows readers marking signal now b (bound_of o) (λ i n s h. fewer_last readers now b o last i n s h) is

-- ---- what is reached

-- a reader of a row that is met is reached
pub reached_reader : (readers : Readers) (signal now p : ℕ) (u : Reader) → slice_get readers.list p ≡ Some u → u.row ≡ now → u.enrolled ≡ true → IsMet readers signal now → Reached readers signal u.node
reached_reader readers signal now p u at of_row enrolled (inl e) = Reached.direct u.node record { place = p; reader = u; at = at; below = at_within readers.list p u at; of_node = refl; of_row = of_row ∙ e; enrolled = enrolled }
reached_reader readers signal now p u at of_row enrolled (inr r) = Reached.further now u.node r record { place = p; reader = u; at = at; below = at_within readers.list p u at; of_node = refl; of_row = of_row; enrolled = enrolled }

-- one row that is reached is put among those that wait, and written
pub met_more : (readers : Readers) (signal row : ℕ) (old new : Marking) → Reached readers signal row → IsReaching row old new → AreMet readers signal old.todo.list → AreMet readers signal new.todo.list
met_more readers signal row old new reached r met i w = elim (r.from i w) [ inl e ↦ inr (rw e reached) | inr v ↦ met i v ]

pub leaves_one : (readers : Readers) (signal row : ℕ) (rows : List Opened) (y : Opened) → Reached readers signal row → LeavesOthers readers signal rows (set rows row y)
leaves_one readers signal row rows y reached i none = set_other rows row i y (λ e. none (rw e reached))

-- those that wait, with one taken out
pub met_taken : (readers : Readers) (signal now : ℕ) (old new : List ℕ) → old ≡ new ++ now ∷ [] → AreMet readers signal old → AreMet readers signal new × IsMet readers signal now
met_taken readers signal now old new list met = (
  (λ i w. met i (subst (λ (t : List ℕ). In i t) (sym list) (in_front i new now w))),
  met now (subst (λ (t : List ℕ). In now t) (sym list) (in_last new now)),
)

-- the signal waits alone
pub met_first : (readers : Readers) (signal : ℕ) (todo : List ℕ) → todo ≡ signal ∷ [] → AreMet readers signal todo
met_first readers signal todo list i w = by (subst (λ (t : List ℕ). In i t) list w)
  where
    by : In i (signal ∷ []) → IsMet readers signal i
    by (inl e) = inl e
    by (inr h) = absurd h
