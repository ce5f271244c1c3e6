-- Readers that grow by one node.
use Rattle.std.proofs.Common.{◌≡◌, ◌≢◌, ℕ, zero, suc, ◌+◌, ◌<◌, ◌≤◌, ◌⊎◌, inl, inr, nat_lt, Bool, true, false, List, [], ◌∷◌, ◌++◌, slice_get, length, replicate, Option, Some, None, Contains, set, refl, sym, ap, subst, ◌∙◌, arith, length-set}
use Rattle.std.proofs.lemmas.List.Elements.{Contains-append_cases, Contains-append_left, Contains-append_right}
use Rattle.values.specs.declared.code.Code.{Code}
use Rattle.values.specs.declared.code.Op.{Op}
use Rattle.values.specs.declared.expr.Expr.{Expr}
use Rattle.values.specs.declared.expr.Expr.TheVariants as of
use Rattle.values.specs.declared.expr.Expr.TheOpen as level
use Rattle.values.specs.declared.expr.Expr.TheFolds.{fold-roll-Expr}
use Rattle.values.specs.declared.plan.PlanNode.{PlanNode}
use Rattle.values.specs.Plan.{rows_in}
use Rattle.values.specs.PlanValues.{is_derived}
use Rattle.values.proofs.PlanLemmas.{rows_in-Lit, rows_in-Read, rows_in-Binary, rows_in-If}
use Rattle.still_readers.specs.declared.readers.Reader.{Reader}
use Rattle.still_readers.specs.declared.readers.Span.{Span}
use Rattle.still_readers.specs.declared.readers.Readers.{Readers}
use Rattle.still_readers.specs.Readers.{IsLast, IsChained, IsOwn, IsReader, IsReadersOf}
use Rattle.still_readers.specs.Building.{weight, weight_step, IsGrown, HasAll, NamedIn, NamedBy, IsOne, IsLinked, IsBegun}
use Rattle.still_readers.proofs.Lists.{within_at, at_within, one_at, which, snoc_at, length_more, at_front, at_last, in_front, replicate_at}

pub grown_none : (node : ℕ) (P : ℕ → Type 0) (r : Readers) → IsGrown node P r r
grown_none node P r = record { spans = refl; rows = refl; chained = (λ c. c); longer = omega arith; front = (λ k u e. e); more = (λ k u l e. let w = at_within r.list k u e in absurd (omega arith)) }

pub grown_more : (node : ℕ) (P Q R : ℕ → Type 0) (a b c : Readers) → ((r : ℕ) → P r → R r) → ((r : ℕ) → Q r → R r) → IsGrown node P a b → IsGrown node Q b c → IsGrown node R a c
grown_more node P Q R a b c p q g h = record {
  spans = h.spans ∙ g.spans;
  rows = h.rows ∙ g.rows;
  chained = (λ x. h.chained (g.chained x));
  longer = (let x = g.longer in let y = h.longer in omega arith);
  front = (λ k u e. h.front k u (g.front k u e));
  more = (λ k u l e. by k u l e (nat_lt k (length b.list)) refl);
}
  where
    by : (k : ℕ) (u : Reader) → length a.list ≤ k → slice_get c.list k ≡ Some u → (t : Bool) → nat_lt k (length b.list) ≡ t → (u.node ≡ node) × R u.row × (u.row < length a.last) × (u.enrolled ≡ false)
    by k u l e true is =
        let v = within_at b.list k (grind arith) in
        let same : v.0 ≡ u = one_at v.0 u (h.front k v.0 v.1) e in
        let m = g.more k v.0 l v.1 in
        subst (λ (z : Reader). (z.node ≡ node) × R z.row × (z.row < length a.last) × (z.enrolled ≡ false)) same (m.0, p v.0.row m.1, m.2, m.3)
    by k u l e false is =
        let m = h.more k u (grind arith) e in
        (m.0, q u.row m.1, (let x = m.2 in let y = g.rows in omega arith), m.3)

pub all_later : (node : ℕ) (P Q : ℕ → Type 0) (from : ℕ) (b c : Readers) → HasAll P from b → IsGrown node Q b c → HasAll P from c
all_later node P Q from b c h g = record {
  each = (λ row p l.
      let s = h.each row p (let x = g.rows in omega arith) in
      record { place = s.place; reader = s.reader; at = g.front s.place s.reader s.at; from_on = s.from_on; below = (let x = s.below in let y = g.longer in omega arith); of_row = s.of_row });
}

pub all_both : (P Q R : ℕ → Type 0) (from : ℕ) (c : Readers) → ((r : ℕ) → R r → P r ⊎ Q r) → HasAll P from c → HasAll Q from c → HasAll R from c
all_both P Q R from c cases h g = record { each = (λ row r l. elim (cases row r) [ inl p ↦ h.each row p l | inr q ↦ g.each row q l ]) }

-- what an expression names
pub named_lit : (code : Code) (r : ℕ) → NamedIn (of.Lit code) r → ⊥
named_lit code r c = let d = subst (λ (l : List ℕ). Contains l r) (rows_in-Lit code) c in let l = d.1 in omega arith

pub named_read : (row r : ℕ) → NamedIn (of.Read row) r → IsOne row r
named_read row r c = by (subst (λ (l : List ℕ). Contains l r) (rows_in-Read row) c)
  where
    by : Contains (row ∷ []) r → r ≡ row
    by (zero, l, e) = sym e
    by (suc k, l, e) = absurd (omega arith)

pub read_named : (row r : ℕ) → IsOne row r → NamedIn (of.Read row) r
read_named row r e = subst (λ (l : List ℕ). Contains l r) (sym (rows_in-Read row)) (0, omega arith, sym e)

pub grown_as : (node : ℕ) (P Q : ℕ → Type 0) (a b : Readers) → ((r : ℕ) → P r → Q r) → IsGrown node P a b → IsGrown node Q a b
grown_as node P Q a b f g = record { spans = g.spans; rows = g.rows; chained = g.chained; longer = g.longer; front = g.front; more = (λ k u l e. let m = g.more k u l e in (m.0, f u.row m.1, m.2, m.3)) }

pub all_as : (P Q : ℕ → Type 0) (from : ℕ) (b : Readers) → ((r : ℕ) → Q r → P r) → HasAll P from b → HasAll Q from b
all_as P Q from b f h = record { each = (λ row q l. h.each row (f row q) l) }

-- one reader more
last_front : (list : List Reader) (u : Reader) (r b : ℕ) (o : Option ℕ) → b ≤ length list → IsLast list r b o → IsLast (list ++ u ∷ []) r b o
last_front list u r b None le h = λ k v l e. h k v l (in_front list u k v (omega arith) e)
last_front list u r b (Some p) le h =
    let low = h.0 in (
      h.0,
      (λ v e. h.1 v (in_front list u p v (omega arith) e)),
      (λ k v l m e. h.2 k v l m (in_front list u k v (omega arith) e)),
    )

last_more : (list : List Reader) (u : Reader) (r : ℕ) (o : Option ℕ) → (u.row ≡ r → ⊥) → IsLast list r (length list) o → IsLast (list ++ u ∷ []) r (length (list ++ u ∷ [])) o
last_more list u r None other h = λ k v l e. by k v (snoc_at list u k v e)
  where
    by : (k : ℕ) (v : Reader) → (slice_get list k ≡ Some v) ⊎ ((k ≡ length list) × (v ≡ u)) → v.row ≢ r
    by k v (inl at) = h k v (at_within list k v at) at
    by k v (inr p) = λ same. other (ap (λ (q : Reader). q.row) (sym p.1) ∙ same)
last_more list u r (Some p) other h =
    let low = h.0 in let long = length_more list u in (
      omega arith,
      (λ v e. h.1 v (in_front list u p v low e)),
      (λ k v l m e. by k v l (snoc_at list u k v e)),
    )
  where
    by : (k : ℕ) (v : Reader) → p < k → (slice_get list k ≡ Some v) ⊎ ((k ≡ length list) × (v ≡ u)) → v.row ≢ r
    by k v l (inl at) = h.2 k v l (at_within list k v at) at
    by k v l (inr q) = λ same. other (ap (λ (z : Reader). z.row) (sym q.1) ∙ same)

-- a reader of a row that does not stand there
pub linked_grows : (node row : ℕ) (before : Option ℕ) (old new : Readers) → slice_get old.last row ≡ Some before → IsLinked node row before old new → IsGrown node (IsOne row) old new
linked_grows node row before old new here is = subst (λ (q : Readers). IsGrown node (IsOne row) old q) (sym is) record {
  spans = refl;
  rows = length-set old.last row (Some n);
  chained = chained;
  longer = (let l = length_more old.list u in omega arith);
  front = (λ k v e. at_front old.list (u ∷ []) k v e);
  more = (λ k v l e. more k v l (snoc_at old.list u k v e));
}
  where
    n : ℕ
    n = length old.list

    u : Reader
    u = record { node = node; row = row; before = before; enrolled = false }

    more : (k : ℕ) (v : Reader) → length old.list ≤ k → (slice_get old.list k ≡ Some v) ⊎ ((k ≡ length old.list) × (v ≡ u)) → (v.node ≡ node) × IsOne row v.row × (v.row < length old.last) × (v.enrolled ≡ false)
    more k v l (inl at) = let w = at_within old.list k v at in absurd (omega arith)
    more k v l (inr p) = rw p.1 (refl, refl, at_within old.last row before here, refl)

    chained : IsChained old.list old.last → IsChained (old.list ++ u ∷ []) (set old.last row (Some n))
    chained c = record {
      last_of = (λ r o e. last r o (which old.last row before (Some n) r o here e));
      before = (λ k v e. link k v (snoc_at old.list u k v e));
    }
      where
        last : (r : ℕ) (o : Option ℕ) → ((r ≡ row) × (o ≡ Some n)) ⊎ ((r ≡ row → ⊥) × (slice_get old.last r ≡ Some o)) → IsLast (old.list ++ u ∷ []) r (length (old.list ++ u ∷ [])) o
        last r o (inl (same, e)) = subst (λ (q : Option ℕ). IsLast (old.list ++ u ∷ []) r (length (old.list ++ u ∷ [])) q) (sym e) (
          (let l = length_more old.list u in omega arith),
          (λ v at. ap (λ (z : Reader). z.row) (one_at v u at (at_last old.list u)) ∙ sym same),
          (λ k v l m at. let long = length_more old.list u in absurd (omega arith)),
        )
        last r o (inr (other, at)) = last_more old.list u r o (λ e. other (sym e)) (c.last_of r o at)

        link : (k : ℕ) (v : Reader) → (slice_get old.list k ≡ Some v) ⊎ ((k ≡ length old.list) × (v ≡ u)) → IsLast (old.list ++ u ∷ []) v.row k v.before
        link k v (inl at) = let w = at_within old.list k v at in last_front old.list u v.row k v.before (omega arith) (c.before k v at)
        link k v (inr (e, f)) = rw (e, f) (last_front old.list u row n before (omega arith) (c.last_of row before here))

pub linked_all : (node row : ℕ) (before : Option ℕ) (old new : Readers) (from : ℕ) → from ≤ length old.list → IsLinked node row before old new → HasAll (IsOne row) from new
linked_all node row before old new from le is = subst (λ (q : Readers). HasAll (IsOne row) from q) (sym is) record {
  each = (λ r e l. record {
    place = length old.list;
    reader = record { node = node; row = row; before = before; enrolled = false };
    at = at_last old.list record { node = node; row = row; before = before; enrolled = false };
    from_on = le;
    below = (let long = length_more old.list record { node = node; row = row; before = before; enrolled = false } in omega arith);
    of_row = sym e;
  });
}

-- a reader that stands there
pub standing_all : (row from place : ℕ) (r : Readers) → from ≤ place → place < length r.list → ((u : Reader) → slice_get r.list place ≡ Some u → u.row ≡ row) → HasAll (IsOne row) from r
standing_all row from place r le l is = let u = within_at r.list place l in record { each = (λ q e m. record { place = place; reader = u.0; at = u.1; from_on = le; below = l; of_row = is u.0 u.1 ∙ sym e }) }

pub outside_all : (row from : ℕ) (r : Readers) → length r.last ≤ row → HasAll (IsOne row) from r
outside_all row from r le = record { each = (λ q e l. absurd (omega arith)) }

-- how expressions weigh
weight_binary : (op : Op) (a b : Expr) → weight (of.Binary op a b) ≡ 1 + weight a + weight b
unfolding weight
weight_binary op a b = ap weight (sym (of.rolls-Binary op a b)) ∙ fold-roll-Expr ℕ weight_step (level.Binary op a b)

weight_if : (c a b : Expr) → weight (of.If c a b) ≡ 1 + weight c + weight a + weight b
unfolding weight
weight_if c a b = ap weight (sym (of.rolls-If c a b)) ∙ fold-roll-Expr ℕ weight_step (level.If c a b)

pub weight_left : (e l : Expr) (op : Op) (a b : Expr) → e ≡ of.Binary op a b → l ≡ a → weight l < weight e
weight_left e l op a b is at = let f = ap weight is ∙ weight_binary op a b in let g = ap weight at in omega arith

pub weight_right : (e l : Expr) (op : Op) (a b : Expr) → e ≡ of.Binary op a b → l ≡ b → weight l < weight e
weight_right e l op a b is at = let f = ap weight is ∙ weight_binary op a b in let g = ap weight at in omega arith

pub weight_test : (e l c a b : Expr) → e ≡ of.If c a b → l ≡ c → weight l < weight e
weight_test e l c a b is at = let f = ap weight is ∙ weight_if c a b in let g = ap weight at in omega arith

pub weight_first : (e l c a b : Expr) → e ≡ of.If c a b → l ≡ a → weight l < weight e
weight_first e l c a b is at = let f = ap weight is ∙ weight_if c a b in let g = ap weight at in omega arith

pub weight_second : (e l c a b : Expr) → e ≡ of.If c a b → l ≡ b → weight l < weight e
weight_second e l c a b is at = let f = ap weight is ∙ weight_if c a b in let g = ap weight at in omega arith

-- the readers of no node
pub begun_none : (nodes : List PlanNode) (r : Readers) → r.list ≡ [] → r.spans ≡ [] → r.last ≡ replicate (length nodes) None → length r.last ≡ length nodes → IsBegun nodes 0 r
begun_none nodes r list spans last long = record {
  rows = long;
  counted = ap length spans;
  chained = record {
    last_of = (λ row o e. let none : o ≡ None = replicate_at (length nodes) None row o (ap (λ (l : List (Option ℕ)). slice_get l row) (sym last) ∙ e) in
        subst (λ (q : Option ℕ). IsLast r.list row (length r.list) q) (sym none) (λ k u l at. let w = nothing k u at in absurd w));
    before = (λ k u at. absurd (nothing k u at));
  };
  spanned = (λ node s at. let e : slice_get [] node ≡ Some s = ap (λ (l : List Span). slice_get l node) (sym spans) ∙ at in cc);
  each = (λ k u at. absurd (nothing k u at));
  unread = record { each = (λ k u at. absurd (nothing k u at)) };
}
  where
    nothing : (k : ℕ) (u : Reader) → slice_get r.list k ≡ Some u → ⊥
    nothing k u at = let e : slice_get [] k ≡ Some u = ap (λ (l : List Reader). slice_get l k) (sym list) ∙ at in cc

-- one node more
pub begun_more : (nodes : List PlanNode) (count : ℕ) (node : PlanNode) (old mid : Readers) → slice_get nodes count ≡ Some node → IsBegun nodes count old → IsGrown count (NamedBy node) old mid → HasAll (NamedBy node) (length old.list) mid → IsBegun nodes (count + 1) (record mid { spans = mid.spans ++ record { from = length old.list; to = length mid.list } ∷ [] })
begun_more nodes count node old mid here is g all = record {
  rows = g.rows ∙ is.rows;
  counted = (let a = length_more mid.spans mine in let b = ap length g.spans in let c = is.counted in omega arith);
  chained = g.chained is.chained;
  spanned = (λ m s at. own m s (snoc_at mid.spans mine m s at));
  each = (λ k u at. reader k u at (nat_lt k (length old.list)) refl);
  unread = record { each = (λ k u at. unread k u at (nat_lt k (length old.list)) refl) };
}
  where
    mine : Span
    mine = record { from = length old.list; to = length mid.list }

    old_at : (k : ℕ) (u : Reader) → slice_get mid.list k ≡ Some u → k < length old.list → slice_get old.list k ≡ Some u
    old_at k u at l = let v = within_at old.list k l in let same : v.0 ≡ u = one_at v.0 u (g.front k v.0 v.1) at in v.1 ∙ ap (λ (q : Reader). Some q) same

    reader : (k : ℕ) (u : Reader) → slice_get mid.list k ≡ Some u → (t : Bool) → nat_lt k (length old.list) ≡ t → IsReader nodes u
    reader k u at true l = is.each k u (old_at k u at (grind arith))
    reader k u at false l =
        let m = g.more k u (grind arith) at in
        let same : (n : PlanNode) → slice_get nodes u.node ≡ Some n → node ≡ n = (λ n e. one_at node n here (ap (λ (q : ℕ). slice_get nodes q) (sym m.0) ∙ e)) in
        record {
          within = (let w = at_within nodes count node here in let s = m.0 in omega arith);
          row_within = (let a = m.2 in let b = is.rows in omega arith);
          derived = (λ n e. subst (λ (q : PlanNode). is_derived q.kind ≡ true) (same n e) m.1.0);
          names = (λ n e. subst (λ (q : PlanNode). Contains (rows_in q.expr) u.row) (same n e) m.1.1);
        }

    unread : (k : ℕ) (u : Reader) → slice_get mid.list k ≡ Some u → (t : Bool) → nat_lt k (length old.list) ≡ t → u.enrolled ≡ false
    unread k u at true l = is.unread.each k u (old_at k u at (grind arith))
    unread k u at false l = (g.more k u (grind arith) at).3

    own : (m : ℕ) (s : Span) → (slice_get mid.spans m ≡ Some s) ⊎ ((m ≡ length mid.spans) × (s ≡ mine)) → IsOwn mid.list nodes m s
    own m s (inl at) =
        let o = is.spanned m s (ap (λ (l : List Span). slice_get l m) (sym g.spans) ∙ at) in
        record {
          within = (let a = o.within in let b = g.longer in omega arith);
          own = (λ k u l h e. o.own k u l h (old_at k u e (let a = o.within in omega arith)));
          named = (λ n e d row c l. let st = o.named n e d row c l in record { place = st.place; reader = st.reader; at = g.front st.place st.reader st.at; from_on = st.from_on; below = st.below; of_row = st.of_row });
        }
    own m s (inr (e, f)) =
        let last : m ≡ count = e ∙ ap length g.spans ∙ is.counted in
        subst (λ (q : Span). IsOwn mid.list nodes m q) (sym f) record {
          within = omega arith;
          own = (λ k u l h at. (g.more k u l at).0 ∙ sym last);
          named = (λ n at d row c l.
              let same : node ≡ n = one_at node n here (ap (λ (q : ℕ). slice_get nodes q) (sym last) ∙ at) in
              all.each row (subst (λ (q : PlanNode). NamedBy q row) (sym same) (d, c)) (let a = g.rows in let b = is.rows in omega arith));
        }

-- the readers of all nodes
pub begun_all : (nodes : List PlanNode) (r : Readers) → IsBegun nodes (length nodes) r → IsReadersOf nodes r
begun_all nodes r is = record { rows = is.rows; spans = is.counted; chained = is.chained; spanned = is.spanned; each = is.each }

-- what the parts of an expression name
abbrev pub Either : (ℕ → Type 0) → (ℕ → Type 0) → ℕ → Type 0
Either P Q row = P row ⊎ Q row

pub names_binary : (e l r : Expr) (op : Op) (a b : Expr) → e ≡ of.Binary op a b → l ≡ a → r ≡ b → (row : ℕ) → NamedIn e row → NamedIn l row ⊎ NamedIn r row
names_binary e l r op a b is at bt row c = rw (at, bt) (Contains-append_cases (rows_in a) (rows_in b) row (subst (λ (xs : List ℕ). Contains xs row) (ap rows_in is ∙ rows_in-Binary op a b) c))

pub left_named : (e l : Expr) (op : Op) (a b : Expr) → e ≡ of.Binary op a b → l ≡ a → (row : ℕ) → NamedIn l row → NamedIn e row
left_named e l op a b is at row c = subst (λ (xs : List ℕ). Contains xs row) (sym (ap rows_in is ∙ rows_in-Binary op a b)) (Contains-append_left (rows_in a) (rows_in b) row (subst (λ (q : Expr). NamedIn q row) at c))

pub right_named : (e r : Expr) (op : Op) (a b : Expr) → e ≡ of.Binary op a b → r ≡ b → (row : ℕ) → NamedIn r row → NamedIn e row
right_named e r op a b is at row c = subst (λ (xs : List ℕ). Contains xs row) (sym (ap rows_in is ∙ rows_in-Binary op a b)) (Contains-append_right (rows_in a) (rows_in b) row (subst (λ (q : Expr). NamedIn q row) at c))

pub names_if : (e t f s : Expr) (c a b : Expr) → e ≡ of.If c a b → t ≡ c → f ≡ a → s ≡ b → (row : ℕ) → NamedIn e row → Either (NamedIn t) (NamedIn f) row ⊎ NamedIn s row
names_if e t f s c a b is ct ft st row n =
    rw (ct, ft, st) (elim (Contains-append_cases (rows_in c ++ rows_in a) (rows_in b) row (subst (λ (xs : List ℕ). Contains xs row) (ap rows_in is ∙ rows_in-If c a b) n)) [
      | inl g ↦ inl (Contains-append_cases (rows_in c) (rows_in a) row g)
      | inr g ↦ inr g
    ])

pub branches_named : (e t f : Expr) (c a b : Expr) → e ≡ of.If c a b → t ≡ c → f ≡ a → (row : ℕ) → Either (NamedIn t) (NamedIn f) row → NamedIn e row
branches_named e t f c a b is ct ft row n = subst (λ (xs : List ℕ). Contains xs row) (sym (ap rows_in is ∙ rows_in-If c a b)) (Contains-append_left (rows_in c ++ rows_in a) (rows_in b) row (elim n [
  | inl g ↦ Contains-append_left (rows_in c) (rows_in a) row (subst (λ (q : Expr). NamedIn q row) ct g)
  | inr g ↦ Contains-append_right (rows_in c) (rows_in a) row (subst (λ (q : Expr). NamedIn q row) ft g)
]))

pub second_named : (e s : Expr) (c a b : Expr) → e ≡ of.If c a b → s ≡ b → (row : ℕ) → NamedIn s row → NamedIn e row
second_named e s c a b is st row n = subst (λ (xs : List ℕ). Contains xs row) (sym (ap rows_in is ∙ rows_in-If c a b)) (Contains-append_right (rows_in c ++ rows_in a) (rows_in b) row (subst (λ (q : Expr). NamedIn q row) st n))
