-- Flags of readers.
use Rattle.std.proofs.Common.{◌≡◌, ◌≢◌, ℕ, zero, suc, ◌+◌, ◌<◌, ◌⊎◌, inl, inr, Bool, true, false, if◌then◌else◌, ◌==◌, List, [], ◌∷◌, slice_get, length, Option, Some, None, Contains, set, refl, sym, ap, subst, ◌∙◌, arith, length-set}
use Rattle.values.specs.declared.plan.PlanNode.{PlanNode}
use Rattle.values.specs.Plan.{rows_in}
use Rattle.values.specs.PlanValues.{is_derived}
use Rattle.values.proofs.PlanLemmas.{reads_named}
use Rattle.sources.specs.declared.body.Read.{Read}
use Rattle.sources.specs.declared.opening.Opened.{Opened}
use Rattle.sources.specs.Bodies.{rows_read, recorded_value, IsRight}
use Rattle.sources.specs.Rows.{IsGood}
use Rattle.still_readers.specs.declared.readers.Reader.{Reader}
use Rattle.still_readers.specs.declared.readers.Span.{Span}
use Rattle.still_readers.specs.declared.readers.Readers.{Readers}
use Rattle.still_readers.specs.Readers.{stands_in, has_recorded, recorded_by, HasRead, IsLast, StandsFor, IsOwn, IsReader, IsReadersOf, IsEnrolled, IsReflagged, IsEnrolledAt, IsPlaceIn, IsNoneIn, IsReadIn, IsExact}
use Rattle.still_readers.proofs.Lists.{within_at, at_within, set_here, one_at, which}

pub row_in : (reads : List Read) (k : ℕ) (x : Read) → slice_get reads k ≡ Some x → Contains (rows_read reads) x.row
row_in [] k x h = cc
row_in (z ∷ zs) zero x h = (0, omega arith, ap (λ (q : Read). q.row) (let e : z ≡ x = cc in e))
row_in (z ∷ zs) (suc k) x h = let c = row_in zs k x h in (suc c.0, omega (arith, c.1), c.2)

-- a recorded row is one that the expression names
pub recorded_named : (node : PlanNode) (reads : List Read) (code k : ℕ) (x : Read) → IsRight node.expr reads code → slice_get reads k ≡ Some x → Contains (rows_in node.expr) x.row
recorded_named node reads code k x right e = reads_named node.expr (recorded_value reads) x.row (subst (λ (l : List ℕ). Contains l x.row) right.read (row_in reads k x e))

-- a recorded row stands among them
pub stands_at : (reads : List Read) (k : ℕ) (x : Read) → slice_get reads k ≡ Some x → stands_in x.row (rows_read reads) ≡ true
unfolding stands_in
stands_at [] k x h = cc
stands_at (z ∷ zs) zero x h = let same : z ≡ x = cc in by (z.row == x.row) refl (ap (λ (q : Read). q.row) same)
  where
    by : (b : Bool) → (z.row == x.row) ≡ b → z.row ≡ x.row → (if b then true else stands_in x.row (rows_read zs)) ≡ true
    by true is e = refl
    by false is e = absurd (grind (arith, is, e))
stands_at (z ∷ zs) (suc k) x h = by (z.row == x.row) (stands_at zs k x h)
  where
    by : (b : Bool) → stands_in x.row (rows_read zs) ≡ true → (if b then true else stands_in x.row (rows_read zs)) ≡ true
    by true e = refl
    by false e = e

pub reflagged_same : (r : Readers) → IsReflagged r r
reflagged_same r = record { last = refl; spans = refl; long = refl; each = (λ k u v e f. let same = one_at u v e f in subst (λ (q : Reader). q ≡ record u { enrolled = q.enrolled }) same refl) }

pub reflagged_more : (a b c : Readers) → IsReflagged a b → IsReflagged b c → IsReflagged a c
reflagged_more a b c f g = record {
  last = g.last ∙ f.last;
  spans = g.spans ∙ f.spans;
  long = g.long ∙ f.long;
  each = (λ k u w e h.
      let l = at_within a.list k u e in let same = f.long in
      let v = within_at b.list k (omega arith) in
      let p = f.each k u v.0 e v.1 in let q = g.each k v.0 w v.1 h in
      q ∙ ap (λ (z : Reader). record z { enrolled = w.enrolled }) p);
}

-- a flag is put
pub reflagged_one : (r : Readers) (place : ℕ) (u : Reader) (b : Bool) → slice_get r.list place ≡ Some u → IsReflagged r (record r { list = set r.list place record u { enrolled = b } })
reflagged_one r place u b here = record {
  last = refl;
  spans = refl;
  long = length-set r.list place record u { enrolled = b };
  each = (λ k v w e f. by k v w e (which r.list place u record u { enrolled = b } k w here f));
}
  where
    by : (k : ℕ) (v w : Reader) → slice_get r.list k ≡ Some v → ((k ≡ place) × (w ≡ record u { enrolled = b })) ⊎ ((k ≡ place → ⊥) × (slice_get r.list k ≡ Some w)) → w ≡ record v { enrolled = w.enrolled }
    by k v w e (inl (same, f)) =
        let s : v ≡ u = one_at v u e (rw same here) in
        subst (λ (q : Reader). w ≡ record q { enrolled = w.enrolled }) (sym s) (subst (λ (q : Reader). q ≡ record u { enrolled = q.enrolled }) (sym f) refl)
    by k v w e (inr (other, at)) = subst (λ (q : Reader). q ≡ record v { enrolled = q.enrolled }) (one_at v w e at) refl

-- what stood there before
back : (old new : Readers) → IsReflagged old new → (k : ℕ) (v : Reader) → slice_get new.list k ≡ Some v → (u : Reader) × (slice_get old.list k ≡ Some u) × (v ≡ record u { enrolled = v.enrolled })
back old new f k v e =
    let l = at_within new.list k v e in let same = f.long in
    let u = within_at old.list k (omega arith) in
    (u.0, u.1, f.each k u.0 v u.1 e)

last_kept : (old new : Readers) → IsReflagged old new → (row bound : ℕ) (o : Option ℕ) → IsLast old.list row bound o → IsLast new.list row bound o
last_kept old new f row bound None h = λ k v l e. (λ same. let u = back old new f k v e in h k u.0 l u.1 (sym (ap (λ (q : Reader). q.row) u.2) ∙ same))
last_kept old new f row bound (Some p) h = (
  h.0,
  (λ v e. let u = back old new f p v e in ap (λ (q : Reader). q.row) u.2 ∙ h.1 u.0 u.1),
  (λ k v l m e. (λ same. let u = back old new f k v e in h.2 k u.0 l m u.1 (sym (ap (λ (q : Reader). q.row) u.2) ∙ same))),
)

stands_kept : (old new : Readers) → IsReflagged old new → (from to row : ℕ) → StandsFor old.list from to row → StandsFor new.list from to row
stands_kept old new f from to row s =
    let l = at_within old.list s.place s.reader s.at in let same = f.long in
    let v = within_at new.list s.place (omega arith) in
    record { place = s.place; reader = v.0; at = v.1; from_on = s.from_on; below = s.below; of_row = ap (λ (q : Reader). q.row) (f.each s.place s.reader v.0 s.at v.1) ∙ s.of_row }

-- the readers of a plan stay so
pub of_plan_kept : (nodes : List PlanNode) (old new : Readers) → IsReflagged old new → IsReadersOf nodes old → IsReadersOf nodes new
of_plan_kept nodes old new f is = record {
  rows = ap length f.last ∙ is.rows;
  spans = ap length f.spans ∙ is.spans;
  chained = record {
    last_of = (λ row o e. subst (λ (b : ℕ). IsLast new.list row b o) (sym f.long) (last_kept old new f row (length old.list) o (is.chained.last_of row o (ap (λ (l : List (Option ℕ)). slice_get l row) (sym f.last) ∙ e))));
    before = (λ k v e. let u = back old new f k v e in
        subst (λ (q : Reader). IsLast new.list q.row k q.before) (sym u.2) (last_kept old new f u.0.row k u.0.before (is.chained.before k u.0 u.1)));
  };
  spanned = (λ node s e. own node s (is.spanned node s (ap (λ (l : List Span). slice_get l node) (sym f.spans) ∙ e)));
  each = (λ k v e. let u = back old new f k v e in subst (λ (q : Reader). IsReader nodes q) (sym u.2) (reader u.0 v.enrolled (is.each k u.0 u.1)));
}
  where
    own : (node : ℕ) (s : Span) → IsOwn old.list nodes node s → IsOwn new.list nodes node s
    own node s o = record {
      within = (let a = o.within in let b = f.long in omega arith);
      own = (λ k v l m e. let u = back old new f k v e in ap (λ (q : Reader). q.node) u.2 ∙ o.own k u.0 l m u.1);
      named = (λ n at d row c l. stands_kept old new f s.from s.to row (o.named n at d row c l));
    }

    reader : (u : Reader) (b : Bool) → IsReader nodes u → IsReader nodes record u { enrolled = b }
    reader u b r = record { within = r.within; row_within = r.row_within; derived = r.derived; names = r.names }

-- who had read has read
pub read_kept : (r : Readers) (place : ℕ) (u : Reader) → slice_get r.list place ≡ Some u → (n row : ℕ) → HasRead r n row → HasRead (record r { list = set r.list place record u { enrolled = true } }) n row
read_kept r place u here n row h =
    let v : Reader = record u { enrolled = true } in
    let long : length (set r.list place v) ≡ length r.list = length-set r.list place v in
    let l = h.below in
    let now = within_at (set r.list place v) h.place (omega arith) in
    by now.0 now.1 (which r.list place u v h.place now.0 here now.1)
  where
    by : (w : Reader) → slice_get (set r.list place record u { enrolled = true }) h.place ≡ Some w → ((h.place ≡ place) × (w ≡ record u { enrolled = true })) ⊎ ((h.place ≡ place → ⊥) × (slice_get r.list h.place ≡ Some w)) → HasRead (record r { list = set r.list place record u { enrolled = true } }) n row
    by w e (inl (same, f)) =
        let s : h.reader ≡ u = one_at h.reader u h.at (rw same here) in
        record {
          place = h.place;
          reader = w;
          at = e;
          below = (let a = h.below in let b = length-set r.list place record u { enrolled = true } in omega arith);
          of_node = ap (λ (q : Reader). q.node) f ∙ sym (ap (λ (q : Reader). q.node) s) ∙ h.of_node;
          of_row = ap (λ (q : Reader). q.row) f ∙ sym (ap (λ (q : Reader). q.row) s) ∙ h.of_row;
          enrolled = ap (λ (q : Reader). q.enrolled) f;
        }
    by w e (inr (other, at)) =
        let s : h.reader ≡ w = one_at h.reader w h.at at in
        record {
          place = h.place;
          reader = w;
          at = e;
          below = (let a = h.below in let b = length-set r.list place record u { enrolled = true } in omega arith);
          of_node = sym (ap (λ (q : Reader). q.node) s) ∙ h.of_node;
          of_row = sym (ap (λ (q : Reader). q.row) s) ∙ h.of_row;
          enrolled = sym (ap (λ (q : Reader). q.enrolled) s) ∙ h.enrolled;
        }

pub enrolled_some : (node row : ℕ) (r : Readers) (place : ℕ) (u : Reader) → IsPlaceIn r node row place → slice_get r.list place ≡ Some u → IsEnrolledAt node row r (record r { list = set r.list place record u { enrolled = true } })
enrolled_some node row r place u is here = record {
  same = reflagged_one r place u true here;
  stays = (λ n q h. read_kept r place u here n q h);
  alone = (λ k v w e f other. by k v w e other (which r.list place u record u { enrolled = true } k w here f));
  enrolled = (λ nodes of_plan n at d c l. record {
    place = place;
    reader = record u { enrolled = true };
    at = set_here r.list place u record u { enrolled = true } here;
    below = (let a = is.within in let b = length-set r.list place record u { enrolled = true } in omega arith);
    of_node = (of_plan.spanned node is.span is.is_span).own place u is.from_on is.below here;
    of_row = is.of_row u here;
    enrolled = refl;
  });
}
  where
    by : (k : ℕ) (v w : Reader) → slice_get r.list k ≡ Some v → v.row ≢ row → ((k ≡ place) × (w ≡ record u { enrolled = true })) ⊎ ((k ≡ place → ⊥) × (slice_get r.list k ≡ Some w)) → w ≡ v
    by k v w e other (inl (same, f)) = absurd (other (ap (λ (q : Reader). q.row) (one_at v u e (rw same here)) ∙ is.of_row u here))
    by k v w e other (inr (n, at)) = one_at w v at e

pub enrolled_none : (node row : ℕ) (r : Readers) → IsNoneIn r node row → IsEnrolledAt node row r r
enrolled_none node row r is = record {
  same = reflagged_same r;
  stays = (λ n q h. h);
  alone = (λ k v w e f other. one_at w v f e);
  enrolled = (λ nodes of_plan n at d c l.
      let w = at_within nodes node n at in let p = of_plan.spans in
      let s = within_at r.spans node (omega arith) in
      let stands = (of_plan.spanned node s.0 s.1).named n at d row c l in
      absurd (is.none s.0 s.1 stands.place stands.reader stands.from_on stands.below stands.at stands.of_row));
}

-- a node that has read the row is enrolled at it as it is
pub enrolled_there : (node row : ℕ) (r : Readers) → IsReadIn r node row → IsEnrolledAt node row r r
enrolled_there node row r there = let o = there.own in record {
  same = reflagged_same r;
  stays = (λ n q h. h);
  alone = (λ k u v a b other. sym (one_at u v a b));
  enrolled = (λ nodes is n at d c w. record { place = o.place; reader = there.reader; at = o.at; below = at_within r.list o.place there.reader o.at; of_node = (is.spanned node o.span o.is_span).own o.place there.reader o.from_on o.below o.at; of_row = there.of_row; enrolled = there.enrolled });
}

-- one flag more says what is recorded
pub exact_more : (rows : List Opened) (r : Readers) (place : ℕ) (u : Reader) (b : Bool) → slice_get r.list place ≡ Some u → b ≡ has_recorded rows u.node u.row → IsExact rows place r → IsExact rows (place + 1) (record r { list = set r.list place record u { enrolled = b } })
exact_more rows r place u b here is exact = record { each = (λ k v l e. by k v l (which r.list place u record u { enrolled = b } k v here e)) }
  where
    by : (k : ℕ) (v : Reader) → k < place + 1 → ((k ≡ place) × (v ≡ record u { enrolled = b })) ⊎ ((k ≡ place → ⊥) × (slice_get r.list k ≡ Some v)) → v.enrolled ≡ has_recorded rows v.node v.row
    by k v l (inl (same, f)) = rw f is
    by k v l (inr (other, at)) = exact.each k v (omega (arith, other)) at

-- exact flags are those of all that is recorded
pub exact_enrolled : (nodes : List PlanNode) (rows : List Opened) (r : Readers) → IsReadersOf nodes r → IsGood nodes rows → IsExact rows (length r.list) r → IsEnrolled nodes rows r
exact_enrolled nodes rows r of_plan good exact = record { each = (λ i node row n at d ran k x e. by i node row n at d ran k x e) }
  where
    by : (i : ℕ) (node : PlanNode) (row : Opened) → slice_get nodes i ≡ Some node → slice_get rows i ≡ Some row → is_derived node.kind ≡ true → row.body.cause ≢ None → (k : ℕ) (x : Read) → slice_get row.body.reads.list k ≡ Some x → HasRead r i x.row
    by i node row n at d ran k x e =
        let g = (good.each i node row n at).derived d in
        let w = at_within nodes i node n in let p = of_plan.spans in
        let s = within_at r.spans i (omega arith) in
        let own = of_plan.spanned i s.0 s.1 in
        let named = recorded_named node row.body.reads.list row.code k x (g.right ran) e in
        let low = (g.known k x e).below in
        let stands = own.named node n d x.row named (omega arith) in
        let of_node = own.own stands.place stands.reader stands.from_on stands.below stands.at in
        let within = at_within r.list stands.place stands.reader stands.at in
        record {
          place = stands.place;
          reader = stands.reader;
          at = stands.at;
          below = within;
          of_node = of_node;
          of_row = stands.of_row;
          enrolled = exact.each stands.place stands.reader within stands.at
              ∙ ap (λ (q : ℕ). has_recorded rows q stands.reader.row) of_node
              ∙ ap (λ (q : ℕ). has_recorded rows i q) stands.of_row
              ∙ ap (λ (o : Option Opened). recorded_by o x.row) at
              ∙ stands_at row.body.reads.list k x e;
        }
