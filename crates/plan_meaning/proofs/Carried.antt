-- Two layouts of one component: what is in both goes over by its place.
use Rattle.std.proofs.Common.{◌≡◌, ℕ, zero, suc, Bool, true, List, [], ◌∷◌, ◌++◌, ◌||◌, slice_get, slice_index_or, Contains, Option, Some, None, unwrap_or, refl, sym, ap, subst, ◌∙◌, append_assoc, arith}
use Rattle.std.specs.List.{list_all}
use Rattle.std.specs.Option.{option_map}
use Rattle.values.specs.declared.code.Code.TheVariants.{Empty}
use Rattle.values.specs.declared.expr.Expr.{Expr}
use Rattle.values.specs.declared.expr.Expr.TheVariants.{Lit, Read}
use Rattle.values.specs.declared.plan.Kind.{Kind}
use Rattle.values.specs.declared.plan.PlanNode.{PlanNode}
use Rattle.values.specs.Plan.{rows_in}
use Rattle.values.proofs.PlanLemmas.{rows_in-Lit}
use Rattle.component_items.specs.declared.component.Component.{Component}
use Rattle.component_items.specs.Kept.{IsKept}
use Rattle.plain_evaluation.specs.Fits.{RowsFit}
use Rattle.plain_evaluation.specs.Keyed.{Stand, literal, place, stands_for, is_keyed}
use Rattle.plain_evaluation.specs.Origins.{Told, nothing_told, source, loads, derives, Around, Origin, told_of, around_of, origin_of, origin_in}
use Rattle.plain_evaluation.specs.Place.{Place}
use Rattle.plain_evaluation.specs.Sound.{has_place, comes_before, ids_read, names_come_before, IsSound}
use Rattle.plain_evaluation.specs.Written.{State, RowAround, Scene, Says, given, loaded, derived, kind_said, Written, place_of, key_in, written_in}
use Rattle.plain_evaluation.proofs.Every.{Every}
use Rattle.plain_evaluation.proofs.Makes.{makes_sense}
use Rattle.plain_evaluation.proofs.Origins.{HasOrigin, all_have_origins}
use Rattle.plain_evaluation.proofs.Places.{and_cases, and_both, has_place-append}
use Rattle.plain_evaluation.proofs.Solves.{each_of, has_named}
use Rattle.plan_meaning.specs.Carried.{rows_to, moved_row, node_renumbered, IsCarried}
use Rattle.plan_meaning.specs.Layout.{rows_of, places_of, row_of, read_row, read_by, expr_said, node_of, nodes_of_text, plan_of}
use Rattle.plan_meaning.specs.Renamed.{renamed, renumbered}
use Rattle.plan_meaning.specs.Told.{kind_told}
use Rattle.plan_meaning.proofs.Back.{reads_row}
use Rattle.plan_meaning.proofs.Renamed.{renamed-Lit, renamed-Read, named, twice}
use Rattle.plan_meaning.proofs.Rows.{every_row, every_at, are_apart, row_got, row_there, at_map, map_at}
use Rattle.plan_meaning.proofs.Told.{kinds}

-- ---- what a line names is there

abbrev has_stand : List Written → Stand → Bool
has_stand ws (literal code) = true
has_stand ws (place p) = has_place ws p

abbrev NamesHere : (ℕ → Bool) → List Written → Written → Type 0
NamesHere keyed ws w = list_all (λ id. has_stand ws (stands_for keyed w.scene id)) (ids_read w.says w.id) ≡ true

here_from : (keyed : ℕ → Bool) (before after : List Written) (w : Written) (ids : List ℕ) → list_all (λ id. comes_before before (stands_for keyed w.scene id)) ids ≡ true → list_all (λ id. has_stand (before ++ after) (stands_for keyed w.scene id)) ids ≡ true
here_from keyed before after w [] come = refl
here_from keyed before after w (id ∷ ids) come =
    let both = and_cases (comes_before before (stands_for keyed w.scene id)) (list_all (λ id. comes_before before (stands_for keyed w.scene id)) ids) come in
    and_both _ _ (at (stands_for keyed w.scene id) both.0) (here_from keyed before after w ids both.1)
  where
    at : (stand : Stand) → comes_before before stand ≡ true → has_stand (before ++ after) stand ≡ true
    at (literal code) h = refl
    at (place p) h = has_place-append before after p ∙ ap (λ b. b || has_place after p) (has_named before p h)

names_here : (keyed : ℕ → Bool) (before ws all : List Written) → all ≡ before ++ ws → names_come_before keyed before ws ≡ true → Every (NamesHere keyed all) ws
names_here keyed before [] all is come = tt
names_here keyed before (w ∷ ws) all is come =
    let both = and_cases (list_all (λ id. comes_before before (stands_for keyed w.scene id)) (ids_read w.says w.id)) (names_come_before keyed (before ++ w ∷ []) ws) come in
    (subst (λ xs. NamesHere keyed xs w) (sym is) (here_from keyed before (w ∷ ws) w (ids_read w.says w.id) both.0), names_here keyed (before ++ w ∷ []) ws all (is ∙ sym (append_assoc before (w ∷ []) ws)) both.1)

all_names_here : (keyed : ℕ → Bool) (ws : List Written) → IsSound keyed ws → Every (NamesHere keyed ws) ws
all_names_here keyed ws sound = names_here keyed [] ws ws refl sound.back

-- ---- one origin and one key: one scene

same_row : (a b : Option RowAround) → option_map (λ row. row.store) a ≡ option_map (λ row. row.store) b → option_map (λ row. row.key) a ≡ option_map (λ row. row.key) b → a ≡ b
same_row None None store key = refl
same_row None (Some b) store key = cc
same_row (Some a) None store key = cc
same_row (Some a) (Some b) store key = let x : a.store ≡ b.store = cc in let y : a.key ≡ b.key = cc in λ i. Some (record { store = x i; key = y i })

same_scene : (a b : Scene) → around_of a ≡ around_of b → key_in a ≡ key_in b → a ≡ b
same_scene a b around key =
    let rows = same_row a.row b.row (ap (λ (x : Around). x.store) around) key in
    λ i. record { owner = (around i).owner; row = rows i }

-- ---- a node, by what is told of its id

abbrev expr_told : Told → (ℕ → Expr) → Expr
expr_told (derives k e) stand = renamed stand e
expr_told (loads pairs) stand = Lit Empty
expr_told (source k) stand = Lit Empty
expr_told nothing_told stand = Lit Empty

exprs : (says : Says) (stand : ℕ → Expr) → expr_said says stand ≡ expr_told (told_of says) stand
exprs (given k code) stand = refl
exprs (loaded pairs arrived) stand = refl
exprs (derived k e) stand = refl

derived_reads : (says : Says) (id : ℕ) (k : Kind) (e : Expr) → told_of says ≡ derives k e → ids_read says id ≡ rows_in e
derived_reads (given k' code) id k e is = cc
derived_reads (loaded pairs arrived) id k e is = cc
derived_reads (derived k' e') id k e is = let x : e' ≡ e = cc in ap rows_in x

row_to : (old new : List Place) (r : ℕ) (p : Place) → slice_get old r ≡ Some p → slice_index_or (rows_to old new) r None ≡ row_of new p
row_to [] new r p is = cc
row_to (q ∷ old) new zero p is = let e : q ≡ p = cc in ap (row_of new) e
row_to (q ∷ old) new (suc r) p is = row_to old new r p is

-- ---- two texts

module _ (keyed : ℕ → Bool) (ws later : List Written) where
  abbrev move : ℕ → ℕ
  move = moved_row (places_of ws) (places_of later)

  moves : (p : Place) (r s : ℕ) → slice_get (places_of ws) r ≡ Some p → row_of (places_of later) p ≡ Some s → move r ≡ s
  moves p r s old new = ap (λ (o : Option ℕ). unwrap_or o 0) (row_to (places_of ws) (places_of later) r p old ∙ new)

  stand_moves : (stand : Stand) → has_stand ws stand ≡ true → has_stand later stand ≡ true → renamed (λ row. Read (move row)) (read_by (places_of ws) stand) ≡ read_by (places_of later) stand
  stand_moves (literal code) here there = renamed-Lit (λ row. Read (move row)) code
  stand_moves (place p) here there =
      let one = row_there ws p here in
      let two = row_there later p there in
      ap (λ o. renamed (λ row. Read (move row)) (read_row o)) one.1
      ∙ renamed-Read (λ row. Read (move row)) one.0
      ∙ ap Read (moves p one.0 two.0 one.2 two.1)
      ∙ sym (ap read_row two.1)

  -- an expression of one scene, told alike
  expr_moves : (t : Told) (says : Says) (id : ℕ) (scene : Scene) → told_of says ≡ t
      → list_all (λ n. has_stand ws (stands_for keyed scene n)) (ids_read says id) ≡ true
      → list_all (λ n. has_stand later (stands_for keyed scene n)) (ids_read says id) ≡ true
      → renumbered move (expr_told t (λ n. read_by (places_of ws) (stands_for keyed scene n))) ≡ expr_told t (λ n. read_by (places_of later) (stands_for keyed scene n))
  expr_moves nothing_told says id scene is here there = renamed-Lit (λ row. Read (move row)) Empty
  expr_moves (source k) says id scene is here there = renamed-Lit (λ row. Read (move row)) Empty
  expr_moves (loads pairs) says id scene is here there = renamed-Lit (λ row. Read (move row)) Empty
  expr_moves (derives k e) says id scene is here there =
      let reads = derived_reads says id k e is in
      twice e (λ row. Read (move row)) (λ n. read_by (places_of ws) (stands_for keyed scene n)) (λ n. read_by (places_of later) (stands_for keyed scene n))
      (λ n among. stand_moves (stands_for keyed scene n)
      (each_of (λ n. has_stand ws (stands_for keyed scene n)) (ids_read says id) n here (subst (λ xs. Contains xs n) (sym reads) among))
      (each_of (λ n. has_stand later (stands_for keyed scene n)) (ids_read says id) n there (subst (λ xs. Contains xs n) (sym reads) among)))

  named_moves : (t : Told) (says : Says) (id : ℕ) (scene : Scene) → told_of says ≡ t
      → list_all (λ n. has_stand later (stands_for keyed scene n)) (ids_read says id) ≡ true
      → (row : ℕ) → Contains (rows_in (expr_told t (λ n. read_by (places_of ws) (stands_for keyed scene n)))) row
      → (q : Place) × (slice_get (places_of ws) row ≡ Some q) × (slice_get (places_of later) (move row) ≡ Some q)
  named_moves nothing_told says id scene is there row among = let none : Contains [] row = subst (λ xs. Contains xs row) (rows_in-Lit Empty) among in absurd (omega (arith, none.1))
  named_moves (source k) says id scene is there row among = let none : Contains [] row = subst (λ xs. Contains xs row) (rows_in-Lit Empty) among in absurd (omega (arith, none.1))
  named_moves (loads pairs) says id scene is there row among = let none : Contains [] row = subst (λ xs. Contains xs row) (rows_in-Lit Empty) among in absurd (omega (arith, none.1))
  named_moves (derives k e) says id scene is there row among =
      let one = named e (λ n. read_by (places_of ws) (stands_for keyed scene n)) row among in
      let found = reads_row (places_of ws) (stands_for keyed scene one.0) row one.2 in
      let at_old = row_got (places_of ws) found.0 row found.2 in
      let stands = each_of (λ n. has_stand later (stands_for keyed scene n)) (ids_read says id) one.0 there (subst (λ xs. Contains xs one.0) (sym (derived_reads says id k e is)) one.1) in
      let two = row_there later found.0 (subst (λ s. has_stand later s ≡ true) found.1 stands) in
      (found.0, at_old, subst (λ s. slice_get (places_of later) s ≡ Some found.0) (sym (moves found.0 row two.0 at_old two.1)) two.2)

  -- ---- one place in both

  node_at : (xs : List Written) (k : ℕ) (w : Written) (node : PlanNode) → slice_get (rows_of xs) k ≡ Some w → slice_get (nodes_of_text keyed xs) k ≡ Some node → node_of keyed (places_of xs) w ≡ node
  node_at xs k w node is got = let same : Some (node_of keyed (places_of xs) w) ≡ Some node = sym (at_map (node_of keyed (places_of xs)) (rows_of xs) k w is) ∙ got in cc

  module _ (sound : IsSound keyed ws) (sound_later : IsSound keyed later) (told : ℕ → Origin) (origins : Every (HasOrigin told) ws) (origins_later : Every (HasOrigin told) later) where
    abbrev Line : List Written → ℕ → Place → Type 0
    Line xs r p = (w : Written) × (slice_get (rows_of xs) r ≡ Some w) × (place_of w ≡ p)

    same_origin : (r s : ℕ) (p : Place) (one : Line ws r p) (two : Line later s p) → origin_of one.0 ≡ origin_of two.0
    same_origin r s p one two =
        let first = every_at (HasOrigin told) (rows_of ws) r one.0 (every_row (HasOrigin told) ws origins) one.1 in
        let second = every_at (HasOrigin told) (rows_of later) s two.0 (every_row (HasOrigin told) later origins_later) two.1 in
        sym first ∙ ap (λ (q : Place). told q.id) (one.2 ∙ sym two.2) ∙ second

    scenes : (r s : ℕ) (p : Place) (one : Line ws r p) (two : Line later s p) → one.0.scene ≡ two.0.scene
    scenes r s p one two = same_scene one.0.scene two.0.scene (ap (λ (o : Origin). o.around) (same_origin r s p one two)) (ap (λ (q : Place). q.key) (one.2 ∙ sym two.2))

    -- what the old line reads is in the later text
    there_for : (r s : ℕ) (p : Place) (one : Line ws r p) (two : Line later s p) → list_all (λ n. has_stand later (stands_for keyed one.0.scene n)) (ids_read one.0.says one.0.id) ≡ true
    there_for r s p one two =
        let there = every_at (NamesHere keyed later) (rows_of later) s two.0 (every_row (NamesHere keyed later) later (all_names_here keyed later sound_later)) two.1 in
        let ids : two.0.id ≡ one.0.id = ap (λ (q : Place). q.id) (two.2 ∙ sym one.2) in
        let read : ids_read two.0.says two.0.id ≡ ids_read one.0.says one.0.id = by_told two.0.says one.0.says two.0.id one.0.id ids (ap (λ (o : Origin). o.told) (sym (same_origin r s p one two))) in
        subst (λ xs. list_all (λ n. has_stand later (stands_for keyed one.0.scene n)) xs ≡ true) read
        (subst (λ scene. list_all (λ n. has_stand later (stands_for keyed scene n)) (ids_read two.0.says two.0.id) ≡ true) (sym (scenes r s p one two)) there)
      where
        read_told : Told → ℕ → List ℕ
        read_told (derives k e) id = rows_in e
        read_told (loads pairs) id = suc id ∷ []
        read_told (source k) id = []
        read_told nothing_told id = []

        reads : (says : Says) (id : ℕ) → ids_read says id ≡ read_told (told_of says) id
        reads (given k code) id = refl
        reads (loaded pairs arrived) id = refl
        reads (derived k e) id = refl

        by_told : (a b : Says) (m n : ℕ) → m ≡ n → told_of a ≡ told_of b → ids_read a m ≡ ids_read b n
        by_told a b m n same alike = reads a m ∙ (λ i. read_told (alike i) (same i)) ∙ sym (reads b n)

    node_moves : (r s : ℕ) (p : Place) → Line ws r p → Line later s p → (n m : PlanNode) → slice_get (nodes_of_text keyed ws) r ≡ Some n → slice_get (nodes_of_text keyed later) s ≡ Some m → m ≡ node_renumbered move n
    node_moves r s p one two n m is_n is_m =
        let w = one.0 in
        let v = two.0 in
        let here = every_at (NamesHere keyed ws) (rows_of ws) r w (every_row (NamesHere keyed ws) ws (all_names_here keyed ws sound)) one.1 in
        let there = there_for r s p one two in
        let scene = scenes r s p one two in
        let alike = same_origin r s p one two in
        let exprs_move = expr_moves (told_of w.says) w.says w.id w.scene refl here there in
        let old : node_of keyed (places_of ws) w ≡ n = node_at ws r w n one.1 is_n in
        let new : node_of keyed (places_of later) v ≡ m = node_at later s v m two.1 is_m in
        let kinds_same : kind_said v.says ≡ kind_said w.says = (let k = kinds v.says in let l = kinds w.says in let o : kind_told (told_of v.says) ≡ kind_told (told_of w.says) = ap (λ (o : Origin). kind_told o.told) (sym alike) in cc) in
        let expr_same : expr_said v.says (λ id. read_by (places_of later) (stands_for keyed v.scene id)) ≡ renumbered move (expr_said w.says (λ id. read_by (places_of ws) (stands_for keyed w.scene id))) =
        exprs v.says (λ id. read_by (places_of later) (stands_for keyed v.scene id))
        ∙ (λ i. expr_told (sym alike i).told (λ id. read_by (places_of later) (stands_for keyed (sym scene i) id)))
        ∙ sym exprs_move
        ∙ ap (renumbered move) (sym (exprs w.says (λ id. read_by (places_of ws) (stands_for keyed w.scene id)))) in
        sym new ∙ (λ i. record { kind = kinds_same i; expr = expr_same i; owner = (sym scene i).owner }) ∙ ap (node_renumbered move) old

    named_go : (r s : ℕ) (p : Place) → Line ws r p → Line later s p → (n : PlanNode) → slice_get (nodes_of_text keyed ws) r ≡ Some n → (row : ℕ) → Contains (rows_in n.expr) row → (q : Place) × (slice_get (places_of ws) row ≡ Some q) × (slice_get (places_of later) (move row) ≡ Some q)
    named_go r s p one two n is row among =
        let w = one.0 in
        let old : node_of keyed (places_of ws) w ≡ n = node_at ws r w n one.1 is in
        named_moves (told_of w.says) w.says w.id w.scene refl (there_for r s p one two) row
        (subst (λ e. Contains (rows_in e) row) (ap (λ (x : PlanNode). x.expr) (sym old) ∙ exprs w.says (λ id. read_by (places_of ws) (stands_for keyed w.scene id))) among)

    texts_carry : IsCarried (places_of ws) (places_of later) (nodes_of_text keyed ws) (nodes_of_text keyed later)
    texts_carry = record {
      apart = are_apart ws sound.differ;
      apart_later = are_apart later sound_later.differ;
      node = λ r s p n m at_r at_s is_n is_m. node_moves r s p (map_at place_of (rows_of ws) r p at_r) (map_at place_of (rows_of later) s p at_s) n m is_n is_m;
      named = λ r s p n at_r at_s is row among. named_go r s p (map_at place_of (rows_of ws) r p at_r) (map_at place_of (rows_of later) s p at_s) n is row among;
    }

pub carried : (component : Component) (state later : State) → IsKept component → RowsFit component state → RowsFit component later → IsCarried (places_of (written_in component state)) (places_of (written_in component later)) (plan_of component state).nodes (plan_of component later).nodes
carried component state later kept fits fits_later =
    texts_carry (is_keyed component) (written_in component state) (written_in component later) (makes_sense component state kept fits) (makes_sense component later kept fits_later) (origin_in component) (all_have_origins component state kept fits) (all_have_origins component later kept fits_later)
