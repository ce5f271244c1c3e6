use Rattle.std.proofs.Common.{◌≡◌, List, [], ◌∷◌, ◌++◌, ℕ, Bool, true, false, Option, Some, None, if◌then◌else◌, IfOk, sym, ap, subst, ◌∙◌, arith, refl}
use Rattle.component_items.specs.Around.{items_listed, item_listed, within}
use Rattle.component_items.specs.Own.{place, inside, path_among}
use Rattle.std.specs.Option.{option_map}
use Rattle.component_items.proofs.AroundLemmas.{path_own, found_held, found_here, found_behind, held_area, held_block, held_none}
use Rattle.component_items.proofs.around.+path.Goals as goal

-- what a search gives where it found, and where it did not
where_found : (found : Bool) (path : List ℕ) → found ≡ true → (if found then Some path else None) ≡ Some path
where_found found path is = ap (λ b. if b then Some path else None) is

where_none : (found : Bool) (path : List ℕ) → found ≡ false → (if found then Some path else None) ≡ None
where_none found path is = ap (λ b. if b then Some path else None) is

pub path_among-returns-then-branch-clause-path : goal.path_among-returns-then-branch-clause-path
path_among-returns-then-branch-clause-path t c = λ owner.
    let start = c.args.path.now.items in
    let here : path_among c.args.id (item_listed c.item-item.result (place owner start)) ≡ Some c.path_within.new.path.items =
    ap (λ p. path_among c.args.id (item_listed c.item-item.result (place owner p))) (sym c.loop-item.invariant.0)
    ∙ c.in_ok-path_within.ensures.path owner
    ∙ where_found _ _ c.if-branch.true
    in
    c.loop-item.invariant.1 owner ∙ found_here (λ l. l.path) c.args.id c.args.items.now c.loop-item.item-index c.item-item.result (place owner start) c.loop-item-test.true c.item-item.is _ here

pub path_among-loop-item-preserved : goal.path_among-loop-item-preserved
path_among-loop-item-preserved t c =
    let start = c.args.path.now.items in
    let none : (owner : ℕ) → path_among c.args.id (item_listed c.item-item.result (place owner start)) ≡ None = λ owner.
    ap (λ p. path_among c.args.id (item_listed c.item-item.result (place owner p))) (sym c.loop-item.invariant.0)
    ∙ c.in_ok-path_within.ensures.path owner
    ∙ where_none _ _ c.if-branch.false
    in
    (c.in_ok-path_within.ensures.same c.if-branch.false ∙ c.loop-item.invariant.0, λ owner. c.loop-item.invariant.1 owner ∙ found_behind (λ l. l.path) c.args.id c.args.items.now c.loop-item.item-index c.item-item.result (place owner start) c.loop-item-test.true c.item-item.is (none owner))

pub path_within-returns-in-Some-clause-path : goal.path_within-returns-in-Some-clause-path
path_within-returns-in-Some-clause-path t c = λ owner. path_own c.args.item.now c.args.id owner c.args.path.now.items c.in-Some.own c.in-Some.ensures ∙ ap Some (sym c.in_ok-put_name.ensures)

pub path_within-returns-then-branch-clause-path : goal.path_within-returns-then-branch-clause-path
path_within-returns-then-branch-clause-path t c = λ owner.
    let around = place owner c.args.path.now.items in
    let pushed : c.push.new.self.items ≡ c.args.path.now.items ++ c.in-Area.name ∷ [] = grind arith in
    ap (option_map (λ l. l.path)) (found_held c.args.item.now c.args.id around (c.in_default.ensures around))
    ∙ ap (path_among c.args.id) (held_area c.args.item.now c.in-Area.id c.in-Area.name c.in-Area.owner c.in-Area.items around c.in-Area.is)
    ∙ ap (λ items. path_among c.args.id (items_listed items (within c.in-Area.name c.in-Area.owner around))) (sym c.as_slice.ensures)
    ∙ ap (λ p. path_among c.args.id (items_listed c.as_slice.result.now (place c.in-Area.owner p))) (sym pushed)
    ∙ c.in_ok-path_among-in-Area.ensures.path c.in-Area.owner
    ∙ where_found _ _ c.if-branch.true

pub path_within-returns-else-branch-clause-path : goal.path_within-returns-else-branch-clause-path
path_within-returns-else-branch-clause-path t c = λ owner.
    let around = place owner c.args.path.now.items in
    let pushed : c.push.new.self.items ≡ c.args.path.now.items ++ c.in-Area.name ∷ [] = grind arith in
    ap (option_map (λ l. l.path)) (found_held c.args.item.now c.args.id around (c.in_default.ensures around))
    ∙ ap (path_among c.args.id) (held_area c.args.item.now c.in-Area.id c.in-Area.name c.in-Area.owner c.in-Area.items around c.in-Area.is)
    ∙ ap (λ items. path_among c.args.id (items_listed items (within c.in-Area.name c.in-Area.owner around))) (sym c.as_slice.ensures)
    ∙ ap (λ p. path_among c.args.id (items_listed c.as_slice.result.now (place c.in-Area.owner p))) (sym pushed)
    ∙ c.in_ok-path_among-in-Area.ensures.path c.in-Area.owner
    ∙ where_none _ _ c.if-branch.false

pub path_within-returns-in_default-item : goal.path_within-returns-in_default-item
path_within-returns-in_default-item t c = record {
  path = λ owner.
      let around = place owner c.args.path.now.items in
      ap (option_map (λ l. l.path)) (found_held c.args.item.now c.args.id around (c.in_default.ensures around))
      ∙ ap (λ items. path_among c.args.id (items_listed items (inside c.args.item.now around))) (held_none c.args.item.now c.in_default-item.not-Area c.in_default-item.not-If c.in_default-item.not-Each c.in_default-item.not-Element);
  same = λ is. refl;
}

pub path_within-returns-in-If-clause-path : goal.path_within-returns-in-If-clause-path
path_within-returns-in-If-clause-path t c =
    let start = c.args.path.now.items in
    let inner : (owner : ℕ) → path_among c.args.id (items_listed c.as_slice-in-If.result.now (place owner start)) ≡ path_among c.args.id (item_listed c.args.item.now (place owner start)) = λ owner.
    ap (λ items. path_among c.args.id (items_listed items (place owner start))) c.as_slice-in-If.ensures
    ∙ sym (ap (path_among c.args.id) (held_block c.args.item.now c.in-If.items (place owner start) c.in-If.is))
    ∙ sym (ap (option_map (λ l. l.path)) (found_held c.args.item.now c.args.id (place owner start) (c.in_default.ensures (place owner start))))
    in
    let P : (ℕ → Option (List ℕ)) → Type 0 = λ f. IfOk c.path_among-in-If.result (λ found. (owner : ℕ) → f owner ≡ (if found then Some c.path_among-in-If.new.path.items else None)) in
    let same : (λ (owner : ℕ). path_among c.args.id (items_listed c.as_slice-in-If.result.now (place owner start))) ≡ (λ (owner : ℕ). path_among c.args.id (item_listed c.args.item.now (place owner start))) = λ i owner. inner owner i in
    subst P same c.path_among-in-If.ensures.path
