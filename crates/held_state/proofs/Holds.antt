-- What each id holds: at the start, after a disposal, and after a change.
use Rattle.std.proofs.Common.{◌≡◌, ℕ, zero, suc, ◌+◌, ◌<◌, ◌≤◌, ◌⊎◌, inl, inr, ◌==◌, ◌||◌, if◌then◌else◌, Bool, true, false, List, [], ◌∷◌, ◌++◌, map, length, set, refl, sym, ap, subst, ◌∙◌, arith}
use Rattle.std.specs.Prelude.{slice_index_or}
use Rattle.std.specs.List.{range_with_len}
use Rattle.std.proofs.Math.ListN.{get_or-eq_default}
use Rattle.std.proofs.lemmas.Bool.{eqb-true}
use Rattle.std.proofs.lemmas.List.{length-map, length-set}
use Rattle.values.specs.declared.code.Code.{Code}
use Rattle.component_items.specs.declared.component.Component.{Component}
use Rattle.component_items.specs.Ids.{ids_in, owners_in}
use Rattle.component_items.specs.Kept.{IsKept}
use Rattle.plain_evaluation.specs.Held.{Holding, nothing, Held, holding_of, is_live, first_held}
use Rattle.plain_evaluation.specs.Changed.{with_holding}
use Rattle.plain_evaluation.specs.Killed.{going_if, ids_going, owners_going, going_with, with_each, killed}
use Rattle.plain_evaluation.specs.Lookup.{found_in}
use Rattle.plain_evaluation.specs.Origins.{Origin, no_origin, tell_items, top_around, origin_in}
use Rattle.plain_evaluation.specs.Written.{pairs_among}
use Rattle.plain_evaluation.proofs.Begins.{items_begun}
use Rattle.plain_evaluation.proofs.Goings.{has_number, items_go}
use Rattle.plain_evaluation.proofs.Lookup.{ids_of, AreFound, numbered_found}
use Rattle.plain_evaluation.proofs.Most.{changed}
use Rattle.plain_evaluation.proofs.Nesting.{holding_left, live_left}
use Rattle.plain_evaluation.proofs.Told.{origins_right}
use Rattle.held_state.specs.Holds.{no_form, form_of, owner_around, HoldsAsSaid}
use Rattle.held_state.proofs.Gone.{areas_in, those, gone_ids, AllLive, AllTold, IsTaken, items_taken}

-- ---- lists

or_first : (a b : Bool) → a ≡ true → (a || b) ≡ true
or_first true b is = refl
or_first false b is = cc

or_second : (a b : Bool) → b ≡ true → (a || b) ≡ true
or_second true b is = refl
or_second false b is = is

-- ---- owners that go

those_gone : (gone : ℕ → Bool) (ns : List ℕ) (n : ℕ) → has_number (those gone ns) n ≡ true → gone n ≡ true
those_gone gone [] n has = cc
those_gone gone (k ∷ ns) n has = at (gone k) refl has (those_gone gone ns n)
  where
    here : (e : Bool) → (k == n) ≡ e → gone k ≡ true → (e || has_number (those gone ns) n) ≡ true → (has_number (those gone ns) n ≡ true → gone n ≡ true) → gone n ≡ true
    here true same is g later = subst (λ (m : ℕ). gone m ≡ true) (eqb-true k n same) is
    here false other is g later = later g

    at : (b : Bool) → gone k ≡ b → has_number (if b then k ∷ those gone ns else those gone ns) n ≡ true → (has_number (those gone ns) n ≡ true → gone n ≡ true) → gone n ≡ true
    at false is h later = later h
    at true is h later = here (k == n) refl is h later

those_has : (gone : ℕ → Bool) (ns : List ℕ) (n : ℕ) → gone n ≡ true → has_number ns n ≡ true → has_number (those gone ns) n ≡ true
those_has gone [] n goes has = cc
those_has gone (k ∷ ns) n goes has = at (gone k) refl (k == n) refl has (those_has gone ns n goes)
  where
    at : (b : Bool) → gone k ≡ b → (e : Bool) → (k == n) ≡ e → (e || has_number ns n) ≡ true → (has_number ns n ≡ true → has_number (those gone ns) n ≡ true) → has_number (if b then k ∷ those gone ns else those gone ns) n ≡ true
    at true is true same h later = or_first (k == n) (has_number (those gone ns) n) same
    at true is false other h later = or_second (k == n) (has_number (those gone ns) n) (later h)
    at false is true same h later = let e : k ≡ n = eqb-true k n same in let f : gone k ≡ true = ap gone e ∙ goes in cc
    at false is false other h later = later h

-- an owner of which a table says that it goes is in the table
in_table : (pairs : List (ℕ × Bool)) (n : ℕ) → found_in false pairs n ≡ true → has_number (ids_of pairs) n ≡ true
in_table [] n is = cc
in_table (pair ∷ pairs) n is = at (pair.0 == n) is (in_table pairs n)
  where
    at : (b : Bool) → (if b then pair.1 else found_in false pairs n) ≡ true → (found_in false pairs n ≡ true → has_number (ids_of pairs) n ≡ true) → (b || has_number (ids_of pairs) n) ≡ true
    at true h later = refl
    at false h later = later h

-- ---- ids that go

gone_found : (gone : ℕ → Bool) (told : ℕ → Origin) (pairs : List (ℕ × Origin)) (id : ℕ) → AreFound told pairs → has_number (gone_ids gone pairs) id ≡ true → gone (told id).around.owner ≡ true
gone_found gone told [] id found has = cc
gone_found gone told (pair ∷ pairs) id found has = at (gone pair.1.around.owner) refl has (gone_found gone told pairs id found.1)
  where
    here : (e : Bool) → (pair.0 == id) ≡ e → gone pair.1.around.owner ≡ true → (e || has_number (gone_ids gone pairs) id) ≡ true → (has_number (gone_ids gone pairs) id ≡ true → gone (told id).around.owner ≡ true) → gone (told id).around.owner ≡ true
    here true same is g later = subst (λ (m : ℕ). gone (told m).around.owner ≡ true) (eqb-true pair.0 id same) (ap (λ (o : Origin). gone o.around.owner) found.0 ∙ is)
    here false other is g later = later g

    at : (b : Bool) → gone pair.1.around.owner ≡ b → has_number (if b then pair.0 ∷ gone_ids gone pairs else gone_ids gone pairs) id ≡ true → (has_number (gone_ids gone pairs) id ≡ true → gone (told id).around.owner ≡ true) → gone (told id).around.owner ≡ true
    at false is h later = later h
    at true is h later = here (pair.0 == id) refl is h later

gone_has : (gone : ℕ → Bool) (told : ℕ → Origin) (pairs : List (ℕ × Origin)) (id : ℕ) → AreFound told pairs → gone (told id).around.owner ≡ true → has_number (ids_of pairs) id ≡ true → has_number (gone_ids gone pairs) id ≡ true
gone_has gone told [] id found goes has = cc
gone_has gone told (pair ∷ pairs) id found goes has = at (gone pair.1.around.owner) refl (pair.0 == id) refl has (gone_has gone told pairs id found.1 goes)
  where
    at : (b : Bool) → gone pair.1.around.owner ≡ b → (e : Bool) → (pair.0 == id) ≡ e → (e || has_number (ids_of pairs) id) ≡ true → (has_number (ids_of pairs) id ≡ true → has_number (gone_ids gone pairs) id ≡ true) → has_number (if b then pair.0 ∷ gone_ids gone pairs else gone_ids gone pairs) id ≡ true
    at true is true same h later = or_first (pair.0 == id) (has_number (gone_ids gone pairs) id) same
    at true is false other h later = or_second (pair.0 == id) (has_number (gone_ids gone pairs) id) (later h)
    at false is true same h later =
        let e : pair.0 ≡ id = eqb-true pair.0 id same in
        let f : gone pair.1.around.owner ≡ true = ap (λ (o : Origin). gone o.around.owner) (sym found.0 ∙ ap told e) ∙ goes in
        cc
    at false is false other h later = later h

-- ---- numbers of a range

range_has : (first count k : ℕ) → k < count → has_number (range_with_len first count) (first + k) ≡ true
range_has first zero k lt = absurd (omega arith)
range_has first (suc count) zero lt = or_first (first == first + 0) (has_number (range_with_len (first + 1) count) (first + 0)) (let e : first + 0 ≡ first = omega arith in ap (λ (m : ℕ). first == m) e ∙ (grind arith))
range_has first (suc count) (suc k) lt = or_second (first == first + suc k) (has_number (range_with_len (first + 1) count) (first + suc k)) (let e : first + 1 + k ≡ first + suc k = omega arith in subst (λ (m : ℕ). has_number (range_with_len (first + 1) count) m ≡ true) e (range_has (first + 1) count k (omega arith)))

below_or_not : (k n : ℕ) → (k < n) ⊎ (n ≤ k)
below_or_not k zero = inr (omega arith)
below_or_not zero (suc n) = inl (omega arith)
below_or_not (suc k) (suc n) = at (below_or_not k n)
  where
    at : (k < n) ⊎ (n ≤ k) → (suc k < suc n) ⊎ (suc n ≤ suc k)
    at (inl lt) = inl (omega arith)
    at (inr le) = inr (omega arith)

-- an id of the component, or one past all of them
in_ids : (component : Component) → IsKept component → (id : ℕ) → (has_number (ids_in component.items) id ≡ true) ⊎ (length (ids_in component.items) ≤ id)
in_ids component kept id = at (below_or_not id (length (ids_in component.items)))
  where
    at : (id < length (ids_in component.items)) ⊎ (length (ids_in component.items) ≤ id) → (has_number (ids_in component.items) id ≡ true) ⊎ (length (ids_in component.items) ≤ id)
    at (inl lt) = inl (subst (λ (ids : List ℕ). has_number ids id ≡ true) (sym kept.numbered.ids) (let e : 0 + id ≡ id = omega arith in subst (λ (m : ℕ). has_number (range_with_len 0 (length (ids_in component.items))) m ≡ true) e (range_has 0 (length (ids_in component.items)) id lt)))
    at (inr le) = inr le

-- ---- at the start

true_at : (owners : List ℕ) (n : ℕ) → n < length owners → slice_index_or (map (λ owner. true) owners) n false ≡ true
true_at [] n lt = absurd (omega arith)
true_at (owner ∷ owners) zero lt = refl
true_at (owner ∷ owners) (suc n) lt = true_at owners n (omega arith)

found_live : (live : ℕ → Bool) (pairs : List (ℕ × Origin)) (id : ℕ) → live 0 ≡ true → AllTold live pairs → live (found_in no_origin pairs id).around.owner ≡ true
found_live live [] id top told = top
found_live live (pair ∷ pairs) id top told = at (pair.0 == id) (found_live live pairs id top told.1)
  where
    at : (b : Bool) → live (found_in no_origin pairs id).around.owner ≡ true → live (if b then pair.1 else found_in no_origin pairs id).around.owner ≡ true
    at true later = told.0
    at false later = later

module _ (component : Component) (kept : IsKept component) where
  abbrev pairs : ℕ → List (Code × Code)
  pairs = pairs_among component.items

  abbrev told : List (ℕ × Origin)
  told = tell_items pairs component.items top_around

  taken : (owner : ℕ) → IsTaken (owners_in component.items) (areas_in owner component.items) (ids_going owner component.items) (owners_going owner component.items) (tell_items pairs component.items)
  taken owner = items_taken owner pairs component.items

  right : AreFound (origin_in component) told
  right = origins_right pairs component.items top_around kept.numbered.ids

  all_live : (first count : ℕ) → first + count ≤ length (owners_in component.items) → AllLive (is_live (first_held component)) (range_with_len (first + 1) count)
  all_live first zero le = tt
  all_live first (suc count) le =
      let e : first + 1 ≡ suc first = omega arith in
      (subst (λ (n : ℕ). is_live (first_held component) n ≡ true) (sym e) (true_at (owners_in component.items) first (omega arith)), all_live (first + 1) count (omega arith))

  pub owner_live : (id : ℕ) → is_live (first_held component) (owner_around component id) ≡ true
  owner_live id = found_live (is_live (first_held component)) told id refl ((taken 0).alive (is_live (first_held component)) top_around refl (subst (λ (ns : List ℕ). AllLive (is_live (first_held component)) ns) (sym kept.numbered.owners) (all_live 0 (length (owners_in component.items)) (omega arith))))

  first_long : length (first_held component).holdings ≡ length (ids_in component.items)
  first_long = sym (items_begun (first_held component) component.items).0

  pub first_holds : HoldsAsSaid component (first_held component)
  first_holds = record {
    long = first_long;
    live_long = ap suc (length-map (owners_in component.items) (λ (owner : ℕ). true));
    each = λ id. sym (ap (λ (b : Bool). if b then form_of (holding_of (first_held component) id) else no_form) (owner_live id));
  }

  -- ---- after a disposal

  module _ (owner : ℕ) where
    abbrev table : List (ℕ × Bool)
    table = (0, owner == 0) ∷ areas_in owner component.items (owner == 0)

    abbrev gone : ℕ → Bool
    gone = found_in false table

    table_ids : ids_of table ≡ 0 ∷ owners_in component.items
    table_ids = ap (λ (more : List ℕ). 0 ∷ more) ((taken owner).areas_are (owner == 0))

    found : AreFound gone table
    found = numbered_found false table (0 ∷ owners_in component.items) table_ids (ap (λ (more : List ℕ). 0 ∷ more) kept.numbered.owners)

    ids_are : (going_with component owner).ids ≡ gone_ids gone told
    ids_are = (taken owner).ids_are (owner == 0) gone top_around found.0 found.1

    owners_are : (going_with component owner).owners ≡ those gone (0 ∷ owners_in component.items)
    owners_are = (λ i. going_if (sym found.0 i) (0 ∷ []) ++ (taken owner).owners_are (owner == 0) gone found.1 i) ∙ first (gone 0)
      where
        first : (b : Bool) → going_if b (0 ∷ []) ++ those gone (owners_in component.items) ≡ (if b then 0 ∷ those gone (owners_in component.items) else those gone (owners_in component.items))
        first true = refl
        first false = refl

    -- an owner goes where the table says so
    owner_goes : (n : ℕ) → has_number (going_with component owner).owners n ≡ gone n
    owner_goes n = ap (λ (ns : List ℕ). has_number ns n) owners_are ∙ same (has_number (those gone (0 ∷ owners_in component.items)) n) (gone n) (those_gone gone (0 ∷ owners_in component.items) n) (λ is. those_has gone (0 ∷ owners_in component.items) n is (subst (λ (ns : List ℕ). has_number ns n ≡ true) table_ids (in_table table n is)))
      where
        same : (a b : Bool) → (a ≡ true → b ≡ true) → (b ≡ true → a ≡ true) → a ≡ b
        same true b there back = sym (there refl)
        same false true there back = back refl
        same false false there back = refl

    nothing_past : (id : ℕ) → length (ids_in component.items) ≤ id → holding_of (first_held component) id ≡ nothing
    nothing_past id le = get_or-eq_default (first_held component).holdings nothing (let long = first_long in omega arith)

    told_ids : ids_in component.items ≡ ids_of told
    told_ids = sym (items_go owner component.items).all_ids ∙ (taken owner).every_id top_around

    pub killed_form : (held : Held) → HoldsAsSaid component held → (id : ℕ) → form_of (holding_of (killed component owner held) id) ≡ (if is_live (killed component owner held) (owner_around component id) then form_of (holding_of (first_held component) id) else no_form)
    killed_form held is id =
        ap form_of (holding_left (going_with component owner) held id)
        ∙ at (gone (owner_around component id)) refl (has_number (going_with component owner).ids id) refl
        ∙ sym (ap (λ (b : Bool). if b then form_of (holding_of (first_held component) id) else no_form) (live_left (going_with component owner) held (owner_around component id) ∙ ap (λ (b : Bool). if b then false else is_live held (owner_around component id)) (owner_goes (owner_around component id))))
      where
        never : (b : Bool) (h : Holding) → h ≡ nothing → (if b then form_of h else no_form) ≡ no_form
        never true h none = ap form_of none
        never false h none = refl

        left : has_number (going_with component owner).ids id ≡ false → gone (owner_around component id) ≡ true → holding_of (first_held component) id ≡ nothing
        left out goes = there (in_ids component kept id)
          where
            there : (has_number (ids_in component.items) id ≡ true) ⊎ (length (ids_in component.items) ≤ id) → holding_of (first_held component) id ≡ nothing
            there (inl has) =
                let in_told : has_number (ids_of told) id ≡ true = subst (λ (ns : List ℕ). has_number ns id ≡ true) told_ids has in
                let f : has_number (gone_ids gone told) id ≡ true = gone_has gone (origin_in component) told id right goes in_told in
                let g : has_number (going_with component owner).ids id ≡ true = ap (λ (ns : List ℕ). has_number ns id) ids_are ∙ f in
                cc
            there (inr past) = nothing_past id past

        at : (g : Bool) → gone (owner_around component id) ≡ g → (h : Bool) → has_number (going_with component owner).ids id ≡ h → form_of (if h then nothing else holding_of held id) ≡ (if (if g then false else is_live held (owner_around component id)) then form_of (holding_of (first_held component) id) else no_form)
        at true goes true has = refl
        at true goes false out = is.each id ∙ never (is_live held (owner_around component id)) (holding_of (first_held component) id) (left out goes)
        at false stays true has =
            let f : has_number (gone_ids gone told) id ≡ true = ap (λ (ns : List ℕ). has_number ns id) (sym ids_are) ∙ has in
            let g : gone (owner_around component id) ≡ true = gone_found gone (origin_in component) told id right f in
            cc
        at false stays false out = is.each id

each_long : {A : Type 0} (new : A) (places : List ℕ) (list : List A) → length (with_each new places list) ≡ length list
each_long new [] list = refl
each_long new (place ∷ places) list = each_long new places (set list place new) ∙ length-set list place new

pub killed_holds : (component : Component) (held : Held) (owner : ℕ) → IsKept component → HoldsAsSaid component held → HoldsAsSaid component (killed component owner held)
killed_holds component held owner kept is = record {
  long = each_long nothing (going_with component owner).ids held.holdings ∙ is.long;
  live_long = each_long false (going_with component owner).owners held.live ∙ is.live_long;
  each = killed_form component kept owner held is;
}

-- ---- after a change

-- what has the same forms and the same live owners
pub alike_holds : (component : Component) (held later : Held) → length later.holdings ≡ length held.holdings → later.live ≡ held.live → ((id : ℕ) → form_of (holding_of later id) ≡ form_of (holding_of held id)) → HoldsAsSaid component held → HoldsAsSaid component later
alike_holds component held later long live same is = record {
  long = long ∙ is.long;
  live_long = ap length live ∙ is.live_long;
  each = λ id. same id ∙ is.each id ∙ sym (ap (λ (flags : List Bool). if slice_index_or flags (owner_around component id) false then form_of (holding_of (first_held component) id) else no_form) live);
}

pub changed_holds : (component : Component) (held : Held) (id : ℕ) (holding : Holding) → form_of holding ≡ form_of (holding_of held id) → HoldsAsSaid component held → HoldsAsSaid component (with_holding held id holding)
changed_holds component held id holding same is = alike_holds component held (with_holding held id holding) (length-set held.holdings id holding) refl (λ other. at other (changed held id holding other)) is
  where
    at : (other : ℕ) → (holding_of (with_holding held id holding) other ≡ holding_of held other) ⊎ ((other ≡ id) × (holding_of (with_holding held id holding) other ≡ holding)) → form_of (holding_of (with_holding held id holding) other) ≡ form_of (holding_of held other)
    at other (inl e) = ap form_of e
    at other (inr both) = ap form_of both.1 ∙ same ∙ ap (λ (n : ℕ). form_of (holding_of held n)) (sym both.0)
