-- A source is given a value between phases.
use Rattle.std.proofs.Common.{◌≡◌, ◌≢◌, inl, inr, ℕ, ◌+◌, ◌≤◌, ◌<◌, ◌^◌, Bool, true, false, Some, List, [], slice_get, get_or, Contains, length, length-set, refl, sym, ap, subst, ◌∙◌, arith}
use Rattle.std.specs.Prelude.{if◌then◌else◌, nat_eq, IsSomeAnd}
use Rattle.std.proofs.lemmas.Bool.Decides.{nat_tests}
use Rattle.std.proofs.lemmas.Option.{get_or_from_slice_get}
use Rattle.values.specs.declared.code.Code.{Code}
use Rattle.values.specs.declared.plan.PlanNode.{PlanNode}
use Rattle.values.specs.Plan.{rows_in}
use Rattle.values.specs.Packing.{packed, unpacked, IsPacked}
use Rattle.values.specs.PlanValues.{is_derived}
use Rattle.values.proofs.PackingLemmas.{unpacked-packed}
use Rattle.store_fields.specs.declared.edit.Edit.{Edit}
use Rattle.sources.specs.declared.opening.Opened.{Opened}
use Rattle.still_readers.specs.declared.readers.Readers.{Readers}
use Rattle.still_readers.specs.Readers.{HasRead, IsReadersOf}
use Rattle.still_readers.specs.Marking.{Reached, written_row, IsSource}
use Rattle.still_readers.proofs.Lists.{within_at, set_here, set_other, one_at}
use Rattle.still_rows.specs.Clock.{now_of}
use Rattle.still_rows.specs.Frames.{AreLawful}
use Rattle.phase_graph.specs.declared.table.Table.{Table}
use Rattle.phase_graph.specs.Graph.{GraphState}
use Rattle.phase_graph.specs.Table.{seen, noted_in, IsTable, IsKept, IsWrittenIn, HasWord, IsPutAs}
use Rattle.phase_graph.proofs.Steps.{some_and}
use Rattle.phase_graph.proofs.Tables.{written_kept}
use Rattle.phase_graph.proofs.Views.{row_packed}

-- a word that is kept says what the value is
word_says : (word : ℕ) (code : Code) → IsPacked word → unpacked word ≡ code → packed code ≡ word
word_says word code p e = ap packed (sym e ∙ ap unpacked (sym p.packs) ∙ unpacked-packed p.code p.value) ∙ p.packs

-- whether the row's word is this one
pub word_at : (t : Table) (row word : ℕ) (o : Opened) (is : Bool) → IsTable t → row < length t.plan.nodes → o ≡ get_or t.rows.items row o → is ≡ nat_eq o.code word → HasWord t row word is
word_at t row word o is table within here same =
    let paired = table.good.paired in
    let there = within_at t.rows.items row (omega arith) in
    let one : o ≡ there.0 = here ∙ get_or_from_slice_get t.rows.items row there.0 o there.1 in
    record {
      opened = o;
      at = there.1 ∙ ap (λ (z : Opened). Some z) (sym one);
      yes = (λ e. equal o.code word (sym same ∙ e));
      no = (λ e q. unequal o.code word q (sym same ∙ e));
    }
  where
    equal : (a b : ℕ) → nat_eq a b ≡ true → a ≡ b
    equal a b e = grind (arith, nat_tests)

    unequal : (a b : ℕ) → a ≡ b → nat_eq a b ≡ false → ⊥
    unequal a b q e = grind (arith, nat_tests)

-- the row has the value already
pub put_same : (t : Table) (row word : ℕ) (code : Code) (is : Bool) → HasWord t row word is → is ≡ true → unpacked word ≡ code → IsPutAs t t row code
put_same t row word code is h was says = (h.opened, h.at, inl (ap unpacked (h.yes was) ∙ says, refl))

-- the row had another value
pub put_other : (t t' : Table) (row word number : ℕ) (code : Code) (is : Bool) → IsTable t → HasWord t row word is → is ≡ false → word ≡ packed code → IsWrittenIn t t' row code number → IsPutAs t t' row code
put_other t t' row word number code is table h not_so same w = (h.opened, h.at, inr ((λ e. h.no not_so (sym (word_says h.opened.code code (row_packed t table row h.opened h.at) e) ∙ sym same)), (number, w)))

-- what a table is then
pub put_kept : (t t' : Table) (row : ℕ) (code : Code) → IsTable t → t.clock.base < 2 ^ 62 → IsPutAs t t' row code → IsKept t t'
put_kept t t' row code table early (opened, at, inl p) = subst (IsKept t) (sym p.1) record { table = table; plan = refl; base = refl; in_phase = refl }
put_kept t t' row code table early (opened, at, inr (other, (number, w))) = written_kept t t' table early row code number w

-- a reader of a row is derived, and its expression names the row
reader_names : (nodes : List PlanNode) (readers : Readers) (m row : ℕ) → IsReadersOf nodes readers → HasRead readers m row → (node : PlanNode) × (slice_get nodes m ≡ Some node) × (is_derived node.kind ≡ true) × Contains (rows_in node.expr) row
reader_names nodes readers m row of_plan h =
    let is = of_plan.each h.place h.reader h.at in
    let w = is.within in let s = h.of_node in
    let node = within_at nodes m (omega arith) in
    let at = ap (slice_get nodes) s ∙ node.1 in
    (node.0, node.1, is.derived node.0 at, subst (λ (r : ℕ). Contains (rows_in node.0.expr) r) h.of_row (is.names node.0 at))

-- a row that is reached stands at the bound or past it, where all that name the row do
reached_past : (nodes : List PlanNode) (readers : Readers) (row bound : ℕ) → AreLawful nodes → IsReadersOf nodes readers → ((n : ℕ) (node : PlanNode) → slice_get nodes n ≡ Some node → Contains (rows_in node.expr) row → is_derived node.kind ≡ true → bound ≤ n) → (m : ℕ) → Reached readers row m → bound ≤ m
reached_past nodes readers row bound lawful of_plan names m (Reached.direct m' h) = let r = reader_names nodes readers m' row of_plan h in names m' r.0 r.1 r.3 r.2
reached_past nodes readers row bound lawful of_plan names m (Reached.further n m' g h) =
    let r = reader_names nodes readers m' n of_plan h in
    let low = (lawful.reads m' r.0 r.1 n r.3).0 in
    let rest = reached_past nodes readers row bound lawful of_plan names n g in
    omega arith

module _ (x : GraphState) (t t' : Table) (lists : List (List Edit)) (room row : ℕ) (code : Code) (view : seen t lists room ≡ x) where
  rest_of : t.clock.in_phase ≡ false → IsPutAs t t' row code → seen t' lists room ≡ record (seen t lists room) { rows = t'.rows.items; drawn = t'.clock.drawn }
  rest_of closed (opened, at, inl p) = subst (λ (q : Table). seen q lists room ≡ record (seen t lists room) { rows = q.rows.items; drawn = q.clock.drawn }) (sym p.1) refl
  rest_of closed (opened, at, inr (other, (number, w))) =
      let silent : noted_in t'.clock ≡ noted_in t.clock = ap (λ (b : Bool). if b then t'.clock.entries.list else []) (w.ticked.in_phase ∙ closed) ∙ sym (ap (λ (b : Bool). if b then t.clock.entries.list else []) closed) in
      (λ i. record { plan = w.plan i; rows = t'.rows.items; live = (w.live i).items; base = w.ticked.base i; drawn = t'.clock.drawn; is_open = w.ticked.in_phase i; entries = silent i; edits = lists; edit_room = room })

  pub put_source : IsSomeAnd (slice_get x.plan.nodes row) (λ node. is_derived node.kind ≡ false) → IsSource t.plan.nodes row
  put_source h =
      let n = some_and (slice_get x.plan.nodes row) _ h in
      subst (λ (y : GraphState). IsSource y.plan.nodes row) (sym view) record { node = n.0; at = n.1; given = n.2 }

  pub put_rest : x.is_open ≡ false → IsPutAs t t' row code → seen t' lists room ≡ record x { rows = t'.rows.items; drawn = t'.clock.drawn }
  put_rest closed put = rest_of (ap (λ (y : GraphState). y.is_open) view ∙ closed) put ∙ ap (λ (y : GraphState). record y { rows = t'.rows.items; drawn = t'.clock.drawn }) view

  pub put_ticks : IsPutAs t t' row code → (x.drawn ≤ t'.clock.drawn) × (t'.clock.drawn ≤ x.drawn + 1)
  put_ticks (opened, at, inl p) = let a = ap (λ (y : GraphState). y.drawn) view in let b = ap (λ (q : Table). q.clock.drawn) p.1 in ((omega arith), (omega arith))
  put_ticks (opened, at, inr (other, (number, w))) = let a = ap (λ (y : GraphState). y.drawn) view in let b = w.ticked.drawn in ((omega arith), (omega arith))

  pub put_long : IsPutAs t t' row code → length t'.rows.items ≡ length x.rows
  put_long (opened, at, inl p) = ap (λ (q : Table). length q.rows.items) p.1 ∙ ap (λ (y : GraphState). length y.rows) view
  put_long (opened, at, inr (other, (number, w))) = (w.written opened at).paired ∙ length-set t.rows.items row (written_row opened (packed code) (now_of t'.clock)) ∙ ap (λ (y : GraphState). length y.rows) view

  pub put_value : IsPutAs t t' row code → (r : Opened) → slice_get t'.rows.items row ≡ Some r → unpacked r.code ≡ code
  put_value (opened, at, inl p) r is = ap (λ (z : Opened). unpacked z.code) (one_at r opened is (ap (λ (q : Table). slice_get q.rows.items row) p.1 ∙ at)) ∙ p.0
  put_value (opened, at, inr (other, (number, w))) r is =
      let new = written_row opened (packed code) (now_of t'.clock) in
      ap (λ (z : Opened). unpacked z.code) ((w.written opened at).each row new r (set_here t.rows.items row opened new at) is).same ∙ w.undone

  stays_same : IsPutAs t t' row code → (r : Opened) → slice_get t.rows.items row ≡ Some r → unpacked r.code ≡ code → seen t' lists room ≡ seen t lists room
  stays_same (opened, at, inl p) r is has = ap (λ (q : Table). seen q lists room) p.1
  stays_same (opened, at, inr (other, (number, w))) r is has = absurd (other (ap (λ (z : Opened). unpacked z.code) (one_at opened r at is) ∙ has))

  pub put_same_seen : IsPutAs t t' row code → (r : Opened) → slice_get x.rows row ≡ Some r → unpacked r.code ≡ code → seen t' lists room ≡ x
  put_same_seen put = subst (λ (y : GraphState). (r : Opened) → slice_get y.rows row ≡ Some r → unpacked r.code ≡ code → seen t' lists room ≡ y) view (stays_same put)

  others_of : IsPutAs t t' row code → (n : ℕ) (one two : Opened) → n ≢ row → slice_get t.rows.items n ≡ Some one → slice_get t'.rows.items n ≡ Some two → two ≡ record one { colour = two.colour }
  others_of (opened, at, inl p) n one two apart was is = let same : two ≡ one = one_at two one is (ap (λ (q : Table). slice_get q.rows.items n) p.1 ∙ was) in subst (λ (z : Opened). z ≡ record one { colour = z.colour }) (sym same) refl
  others_of (opened, at, inr (other, (number, w))) n one two apart was is =
      let new = written_row opened (packed code) (now_of t'.clock) in
      ((w.written opened at).each n one two (set_other t.rows.items row n new apart ∙ was) is).same

  pub put_others : IsPutAs t t' row code → (n : ℕ) (one two : Opened) → n ≢ row → slice_get x.rows n ≡ Some one → slice_get t'.rows.items n ≡ Some two → two ≡ record one { colour = two.colour }
  put_others put = subst (λ (y : GraphState). (n : ℕ) (one two : Opened) → n ≢ row → slice_get y.rows n ≡ Some one → slice_get t'.rows.items n ≡ Some two → two ≡ record one { colour = two.colour }) view (others_of put)

  pub put_settled : IsTable t → t.clock.base < 2 ^ 62 → IsPutAs t t' row code → (bound : ℕ) → ((n : ℕ) (node : PlanNode) → slice_get x.plan.nodes n ≡ Some node → Contains (rows_in node.expr) row → is_derived node.kind ≡ true → bound ≤ n) → (n : ℕ) → n < bound → n ≢ row → slice_get t'.rows.items n ≡ slice_get x.rows n
  put_settled table early put bound = subst (λ (y : GraphState). ((n : ℕ) (node : PlanNode) → slice_get y.plan.nodes n ≡ Some node → Contains (rows_in node.expr) row → is_derived node.kind ≡ true → bound ≤ n) → (n : ℕ) → n < bound → n ≢ row → slice_get t'.rows.items n ≡ slice_get y.rows n) view (λ names n l apart. by put names n l apart)
    where
      by : IsPutAs t t' row code → ((n : ℕ) (node : PlanNode) → slice_get t.plan.nodes n ≡ Some node → Contains (rows_in node.expr) row → is_derived node.kind ≡ true → bound ≤ n) → (n : ℕ) → n < bound → n ≢ row → slice_get t'.rows.items n ≡ slice_get t.rows.items n
      by (opened, at, inl p) names n l apart = ap (λ (q : Table). slice_get q.rows.items n) p.1
      by (opened, at, inr (other, (number, w))) names n l apart =
          let still = table.still early in
          w.others n apart (λ reached. let r = reached_past t.plan.nodes t.readers row bound still.lawful still.of_plan names n reached in absurd (omega arith))
