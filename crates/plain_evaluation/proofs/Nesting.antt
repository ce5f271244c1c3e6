-- An owner is live only where the one around it is: at the start, and after each disposal.
use Rattle.std.proofs.Common.{◌≡◌, ℕ, zero, suc, ◌+◌, ◌≢◌, ◌==◌, ◌||◌, not, if◌then◌else◌, Bool, true, false, List, [], ◌∷◌, ◌++◌, map, length, get_or, set, refl, sym, ap, subst, ◌∙◌, arith, get_or-set_other}
use Rattle.std.specs.List.{concat, list_all}
use Rattle.std.proofs.lemmas.Bool.{eqb-true}
use Rattle.std.proofs.lemmas.List.Folds.{list_any-append}
use Rattle.component_items.specs.declared.component.Component.{Component}
use Rattle.component_items.specs.declared.component.Item.{Item}
use Rattle.component_items.specs.declared.component.Item.TheOpen as level
use Rattle.component_items.specs.declared.component.Item.TheOpen.{Item-F}
use Rattle.component_items.specs.declared.component.Item.TheViews.{roll-Item}
use Rattle.component_items.specs.declared.component.Item.TheFolds.{fold-roll-Item, map-Item, ind-Item}
use Rattle.component_items.specs.Ids.{owners_step, item_owners, owners_in}
use Rattle.component_items.specs.Kept.{IsKept}
use Rattle.plain_evaluation.specs.Held.{nothing, Held, holding_of, is_live}
use Rattle.plain_evaluation.specs.Begins.{all_begin, begins_step, item_begins, Begins}
use Rattle.plain_evaluation.specs.Killed.{Going, going_if, going_all, owners_going_step, item_owners_going, owners_going, going_with, with_each, without, killed, nest_all, nests_step, item_nests, OwnersFit}
use Rattle.plain_evaluation.proofs.Places.{and_cases, and_both, or_right}
use Rattle.plain_evaluation.proofs.Goings.{has_number, Numbered, numbered-cons, numbered-append, numbered_apart, item_goes, all_go, concat-map, owners_going-all}

-- ---- a list with the same at each of some places

put_same : {A : Type 0} (new : A) (list : List A) (place : ℕ) → get_or (set list place new) place new ≡ new
put_same new [] place = refl
put_same new (x ∷ list) zero = refl
put_same new (x ∷ list) (suc place) = put_same new list place

pub each_at : {A : Type 0} (new : A) (places : List ℕ) (list : List A) (k : ℕ) → get_or (with_each new places list) k new ≡ (if has_number places k then new else get_or list k new)
each_at new [] list k = refl
each_at {A} new (place ∷ places) list k = each_at new places (set list place new) k ∙ at (place == k) refl
  where
    never : (b : Bool) → (if b then new else new) ≡ new
    never true = refl
    never false = refl

    at : (same : Bool) → (place == k) ≡ same → (if has_number places k then new else get_or (set list place new) k new) ≡ (if same || has_number places k then new else get_or list k new)
    at true is =
        let e : place ≡ k = eqb-true place k is in
        ap (λ (x : A). if has_number places k then new else x) (subst (λ (p : ℕ). get_or (set list p new) k new ≡ new) (sym e) (put_same new list k)) ∙ never (has_number places k)
    at false is =
        let other : k ≢ place = grind arith in
        ap (λ (x : A). if has_number places k then new else x) (get_or-set_other list place k new new other)

-- what an id holds after a disposal, and which owners are live
pub holding_left : (going : Going) (held : Held) (id : ℕ) → holding_of (without going held) id ≡ (if has_number going.ids id then nothing else holding_of held id)
holding_left going held id = each_at nothing going.ids held.holdings id

pub live_left : (going : Going) (held : Held) (owner : ℕ) → is_live (without going held) owner ≡ (if has_number going.owners owner then false else is_live held owner)
live_left going held owner = each_at false going.owners held.live owner

-- ---- the first state

module _ (held : Held) where
  abbrev BegunNests : Item → Type 0
  BegunNests item = item_begins held item ≡ true → item_nests (is_live held) item true ≡ true

  abbrev Begun : Type 0
  Begun = (item : Item) × BegunNests item

  abbrev begun_of : List Begun → List Item
  begun_of known = map (λ p. p.0) known

  begun_rolled : (x : Item-F Item) → (begins_step held (map-Item Item Bool (item_begins held) x) ≡ true → nests_step (is_live held) (map-Item Item (Bool → Bool) (item_nests (is_live held)) x) true ≡ true) → BegunNests (roll-Item x)
  unfolding item_begins item_nests
  begun_rolled x follows begins = ap (λ (f : Bool → Bool). f true) (fold-roll-Item (Bool → Bool) (nests_step (is_live held)) x) ∙ follows (sym (fold-roll-Item Bool (begins_step held) x) ∙ begins)

  begun_block : (known : List Begun) → all_begin (map (item_begins held) (begun_of known)) ≡ true → nest_all (map (item_nests (is_live held)) (begun_of known)) true ≡ true
  begun_block [] begins = refl
  begun_block (p ∷ known) begins =
      let both = and_cases (item_begins held p.0) (all_begin (map (item_begins held) (begun_of known))) begins in
      and_both _ _ (p.1 both.0) (begun_block known both.1)

  begun_form : (y : Item-F Begun) → begins_step held (map-Item Item Bool (item_begins held) (map-Item Begun Item (λ p. p.0) y)) ≡ true → nests_step (is_live held) (map-Item Item (Bool → Bool) (item_nests (is_live held)) (map-Item Begun Item (λ p. p.0) y)) true ≡ true
  begun_form (level.Signal id name start) begins = refl
  begun_form (level.Memo id name expr) begins = refl
  begun_form (level.Effect id name expr) begins = refl
  begun_form (level.Resource id name after keys values) begins = refl
  begun_form (level.Load id name resource key) begins = refl
  begun_form (level.Store id name max fields starts) begins = refl
  begun_form (level.Cleanup text) begins = refl
  begun_form (level.Area id name owner known) begins =
      let both = and_cases (is_live held owner) (all_begin (map (item_begins held) (begun_of known))) begins in
      ap (nest_all (map (item_nests (is_live held)) (begun_of known))) both.0 ∙ begun_block known both.1
  begun_form (level.If id cond known) begins = begun_block known begins
  begun_form (level.Each id store known) begins = begun_block known begins
  begun_form (level.Element tag closed attrs known) begins = begun_block known begins
  begun_form (level.Text text) begins = refl
  begun_form (level.Shown id expr) begins = refl

  item_begun_nests : (item : Item) → BegunNests item
  item_begun_nests = ind-Item BegunNests (λ x y is. subst (λ z. BegunNests (roll-Item z)) is (begun_rolled (map-Item Begun Item (λ p. p.0) y) (begun_form y)))

  items_begun_nest : (items : List Item) → list_all (item_begins held) items ≡ true → list_all (λ item. item_nests (is_live held) item true) items ≡ true
  items_begun_nest [] begins = refl
  items_begun_nest (item ∷ items) begins =
      let both = and_cases (item_begins held item) (list_all (item_begins held) items) begins in
      and_both _ _ (item_begun_nests item both.0) (items_begun_nest items both.1)

pub begun_owners_fit : (component : Component) (held : Held) → Begins component held → OwnersFit component held
begun_owners_fit component held begins = record {
  areas = ap (λ (around : Bool). list_all (λ item. item_nests (is_live held) item around) component.items) begins.top ∙ items_begun_nest held component.items begins.items;
}

-- ---- a disposal

-- an owner that went was live no longer
module _ (owner : ℕ) (live after gone : ℕ → Bool) (after_is : (n : ℕ) → after n ≡ (if gone n then false else live n)) where
  -- of these owners, those that went are among these
  abbrev Agree : List ℕ → List ℕ → Type 0
  Agree owners going = (n : ℕ) → has_number owners n ≡ true → gone n ≡ has_number going n

  -- where what is around it goes, or stays
  abbrev around_left : Bool → Bool → Bool
  around_left goes around = if goes then false else around

  abbrev NestsOn : List ℕ → (Bool → List ℕ) → (Bool → Bool) → (Bool → Bool) → Type 0
  NestsOn owners going nested nests = (n : ℕ) (goes around : Bool) → Numbered n owners → Agree owners (going goes) → nested around ≡ true → nests (around_left goes around) ≡ true

  abbrev ItemNestsOn : Item → Type 0
  ItemNestsOn item = NestsOn (item_owners item) (item_owners_going owner item) (item_nests live item) (item_nests after item)

  abbrev Proven : Type 0
  Proven = (item : Item) × ItemNestsOn item

  abbrev items_of : List Proven → List Item
  items_of known = map (λ k. k.0) known

  abbrev FormNestsOn : Item-F Item → Type 0
  FormNestsOn x = NestsOn (owners_step (map-Item Item (List ℕ) item_owners x)) (owners_going_step owner (map-Item Item (Bool → List ℕ) (item_owners_going owner) x)) (nests_step live (map-Item Item (Bool → Bool) (item_nests live) x)) (nests_step after (map-Item Item (Bool → Bool) (item_nests after) x))

  rolled : (x : Item-F Item) → FormNestsOn x → ItemNestsOn (roll-Item x)
  unfolding item_owners item_owners_going item_nests
  rolled x nests =
      subst (λ f. NestsOn f (item_owners_going owner (roll-Item x)) (item_nests live (roll-Item x)) (item_nests after (roll-Item x))) (sym (fold-roll-Item (List ℕ) owners_step x))
      (subst (λ f. NestsOn (owners_step (map-Item Item (List ℕ) item_owners x)) f (item_nests live (roll-Item x)) (item_nests after (roll-Item x))) (sym (fold-roll-Item (Bool → List ℕ) (owners_going_step owner) x))
      (subst (λ f. NestsOn (owners_step (map-Item Item (List ℕ) item_owners x)) (owners_going_step owner (map-Item Item (Bool → List ℕ) (item_owners_going owner) x)) f (item_nests after (roll-Item x))) (sym (fold-roll-Item (Bool → Bool) (nests_step live) x))
      (subst (λ f. NestsOn (owners_step (map-Item Item (List ℕ) item_owners x)) (owners_going_step owner (map-Item Item (Bool → List ℕ) (item_owners_going owner) x)) (nests_step live (map-Item Item (Bool → Bool) (item_nests live) x)) f) (sym (fold-roll-Item (Bool → Bool) (nests_step after) x))
      nests)))

  or_no : (b : Bool) → (b || false) ≡ b
  or_no true = refl
  or_no false = refl

  or_left : (a b : Bool) → a ≡ true → (a || b) ≡ true
  or_left true b h = refl
  or_left false b h = cc

  -- of the first part, and of the second
  agree_first : (n : ℕ) (owners others going more : List ℕ) → Numbered n (owners ++ others) → ((k : ℕ) → has_number others k ≡ false → has_number more k ≡ false) → Agree (owners ++ others) (going ++ more) → Agree owners going
  agree_first n owners others going more numbered none agree k has =
      agree k (list_any-append (λ j. j == k) owners others ∙ or_left (has_number owners k) (has_number others k) has)
      ∙ list_any-append (λ j. j == k) going more
      ∙ ap (λ (b : Bool). has_number going k || b) (none k (numbered_apart n owners others k numbered has))
      ∙ or_no (has_number going k)

  agree_others : (n : ℕ) (owners others going more : List ℕ) → Numbered n (owners ++ others) → ((k : ℕ) → has_number owners k ≡ false → has_number going k ≡ false) → Agree (owners ++ others) (going ++ more) → Agree others more
  agree_others n owners others going more numbered none agree k has =
      agree k (list_any-append (λ j. j == k) owners others ∙ or_right (has_number owners k) (has_number others k) has)
      ∙ list_any-append (λ j. j == k) going more
      ∙ ap (λ (b : Bool). b || has_number more k) (none k (out (has_number owners k) refl))
    where
      out : (also : Bool) → has_number owners k ≡ also → has_number owners k ≡ false
      out true is = absurd (let apart = numbered_apart n owners others k numbered is in cc)
      out false is = is

  block : (known : List Proven) → NestsOn (concat (map item_owners (items_of known))) (going_all (map (item_owners_going owner) (items_of known))) (nest_all (map (item_nests live) (items_of known))) (nest_all (map (item_nests after) (items_of known)))
  block [] n goes around numbered agree nested = refl
  block (k ∷ known) n goes around numbered agree nested =
      let both = and_cases (item_nests live k.0 around) (nest_all (map (item_nests live) (items_of known)) around) nested in
      let parts = numbered-append n (item_owners k.0) (concat (map item_owners (items_of known))) numbered in
      let first = agree_first n (item_owners k.0) (concat (map item_owners (items_of known))) (item_owners_going owner k.0 goes) (going_all (map (item_owners_going owner) (items_of known)) goes) numbered ((all_go owner (items_of known)).no_others goes) agree in
      let others = agree_others n (item_owners k.0) (concat (map item_owners (items_of known))) (item_owners_going owner k.0 goes) (going_all (map (item_owners_going owner) (items_of known)) goes) numbered ((item_goes owner k.0).no_others goes) agree in
      and_both _ _ (k.1 n goes around parts.0 first both.0) (block known (n + length (item_owners k.0)) goes around parts.1 others both.1)

  -- the owner of an area goes where its area does
  itself : (n : ℕ) → (n == n) ≡ true
  itself n = grind arith

  own_gone : (n own : ℕ) (owners going : List ℕ) (goes : Bool) → Numbered n (own ∷ owners) → (has_number owners own ≡ false → has_number going own ≡ false) → Agree (own ∷ owners) (going_if goes (own ∷ []) ++ going) → gone own ≡ goes
  own_gone n own owners going goes numbered none agree =
      agree own (or_left (own == own) (has_number owners own) (itself own)) ∙ at goes
    where
      later : has_number owners own ≡ false
      later = numbered_apart n (own ∷ []) owners own numbered (or_left (own == own) false (itself own))

      at : (b : Bool) → has_number (going_if b (own ∷ []) ++ going) own ≡ b
      at true = or_left (own == own) (has_number going own) (itself own)
      at false = none later

  agree_inner : (n own : ℕ) (owners going : List ℕ) (goes : Bool) → Numbered n (own ∷ owners) → Agree (own ∷ owners) (going_if goes (own ∷ []) ++ going) → Agree owners going
  agree_inner n own owners going goes numbered agree = agree_others n (own ∷ []) owners (going_if goes (own ∷ [])) going numbered (none goes) agree
    where
      none : (b : Bool) (k : ℕ) → has_number (own ∷ []) k ≡ false → has_number (going_if b (own ∷ [])) k ≡ false
      none true k h = h
      none false k h = refl

  -- an owner that stays live has a live one around it
  stays : (around lives goes same : Bool) → (around || not lives) ≡ true → (around_left goes around || not (if goes || same then false else lives)) ≡ true
  stays around false goes same h = dead (around_left goes around) (goes || same)
    where
      dead : (a b : Bool) → (a || not (if b then false else false)) ≡ true
      dead true b = refl
      dead false true = refl
      dead false false = refl
  stays true true true same h = refl
  stays true true false same h = refl
  stays false true goes same h = absurd cc

  by_form : (y : Item-F Proven) → FormNestsOn (map-Item Proven Item (λ k. k.0) y)
  by_form (level.Signal id name start) n goes around numbered agree nested = refl
  by_form (level.Memo id name expr) n goes around numbered agree nested = refl
  by_form (level.Effect id name expr) n goes around numbered agree nested = refl
  by_form (level.Resource id name after_asks keys values) n goes around numbered agree nested = refl
  by_form (level.Load id name resource key) n goes around numbered agree nested = refl
  by_form (level.Store id name max fields starts) n goes around numbered agree nested = refl
  by_form (level.Cleanup text) n goes around numbered agree nested = refl
  by_form (level.Area id name own known) n goes around numbered agree nested =
      let both = and_cases (around || not (live own)) (nest_all (map (item_nests live) (items_of known)) (live own)) nested in
      let owners : List ℕ = concat (map item_owners (items_of known)) in
      let going : List ℕ = going_all (map (item_owners_going owner) (items_of known)) (goes || own == owner) in
      let went = own_gone n own owners going (goes || own == owner) numbered ((all_go owner (items_of known)).no_others (goes || own == owner) own) agree in
      let lives : after own ≡ (if goes || own == owner then false else live own) = after_is own ∙ ap (λ (b : Bool). if b then false else live own) went in
      and_both _ _
      (ap (λ (b : Bool). around_left goes around || not b) lives ∙ stays around (live own) goes (own == owner) both.0)
      (ap (nest_all (map (item_nests after) (items_of known))) lives ∙ block known (n + 1) (goes || own == owner) (live own) ((numbered-cons n own owners numbered).1) (agree_inner n own owners going (goes || own == owner) numbered agree) both.1)
  by_form (level.If id cond known) n goes around numbered agree nested = block known n goes around numbered agree nested
  by_form (level.Each id store known) n goes around numbered agree nested = block known n goes around numbered agree nested
  by_form (level.Element tag closed attrs known) n goes around numbered agree nested = block known n goes around numbered agree nested
  by_form (level.Text text) n goes around numbered agree nested = refl
  by_form (level.Shown id expr) n goes around numbered agree nested = refl

  item_nests_on : (item : Item) → ItemNestsOn item
  item_nests_on = ind-Item ItemNestsOn (λ x y is. subst (λ z. ItemNestsOn (roll-Item z)) is (rolled (map-Item Proven Item (λ k. k.0) y) (by_form y)))

  known_of : List Item → List Proven
  known_of items = map (λ item. (item, item_nests_on item)) items

  pub items_nest_on : (items : List Item) → NestsOn (owners_in items) (owners_going owner items) (λ around. list_all (λ item. item_nests live item around) items) (λ around. list_all (λ item. item_nests after item around) items)
  items_nest_on [] n goes around numbered agree nested = refl
  items_nest_on (item ∷ items) n goes around numbered agree nested =
      let both = and_cases (item_nests live item around) (list_all (λ other. item_nests live other around) items) nested in
      let parts = numbered-append n (item_owners item) (owners_in items) numbered in
      let first = agree_first n (item_owners item) (owners_in items) (item_owners_going owner item goes) (owners_going owner items goes) numbered (others_of items goes) agree in
      let others = agree_others n (item_owners item) (owners_in items) (item_owners_going owner item goes) (owners_going owner items goes) numbered ((item_goes owner item).no_others goes) agree in
      and_both _ _ (item_nests_on item n goes around parts.0 first both.0) (items_nest_on items (n + length (item_owners item)) goes around parts.1 others both.1)
    where
      others_of : (items : List Item) (goes : Bool) (k : ℕ) → has_number (owners_in items) k ≡ false → has_number (owners_going owner items goes) k ≡ false
      others_of items goes k none =
          ap (λ (numbers : List ℕ). has_number numbers k) (sym (owners_going-all owner items goes))
          ∙ (all_go owner items).no_others goes k (ap (λ (numbers : List ℕ). has_number numbers k) (concat-map item_owners items) ∙ none)

  -- all of it, with the top
  pub whole_nests : (items : List Item) → Numbered 0 (0 ∷ owners_in items) → Agree (0 ∷ owners_in items) (going_if (owner == 0) (0 ∷ []) ++ owners_going owner items (owner == 0)) → list_all (λ item. item_nests live item (live 0)) items ≡ true → list_all (λ item. item_nests after item (after 0)) items ≡ true
  whole_nests items numbered agree nested =
      let going : List ℕ = owners_going owner items (owner == 0) in
      let went = own_gone 0 0 (owners_in items) going (owner == 0) numbered (λ none. ap (λ (numbers : List ℕ). has_number numbers 0) (sym (owners_going-all owner items (owner == 0))) ∙ (all_go owner items).no_others (owner == 0) 0 (ap (λ (numbers : List ℕ). has_number numbers 0) (concat-map item_owners items) ∙ none)) agree in
      let lives : after 0 ≡ around_left (owner == 0) (live 0) = after_is 0 ∙ ap (λ (b : Bool). if b then false else live 0) went in
      ap (λ (b : Bool). list_all (λ item. item_nests after item b) items) lives
      ∙ items_nest_on items 1 (owner == 0) (live 0) ((numbered-cons 0 0 (owners_in items) numbered).1) (agree_inner 0 0 (owners_in items) going (owner == 0) numbered agree) nested

pub killed_owners_fit : (component : Component) (held : Held) (owner : ℕ) → IsKept component → OwnersFit component held → OwnersFit component (killed component owner held)
killed_owners_fit component held owner kept fits = record {
  areas = whole_nests owner (is_live held) (is_live (killed component owner held)) (has_number (going_with component owner).owners) (live_left (going_with component owner) held) component.items numbered (λ n has. refl) fits.areas;
}
  where
    numbered : Numbered 0 (0 ∷ owners_in component.items)
    numbered = ap (λ (more : List ℕ). 0 ∷ more) kept.numbered.owners
