-- What a script may name has the kind that the text tells of its id.
use Rattle.std.proofs.Common.{◌≡◌, ◌≢◌, ◌⊎◌, ℕ, zero, suc, ◌+◌, ◌<◌, List, [], ◌∷◌, ◌++◌, length, map, Contains, Option, Some, None, inl, inr, sym, subst, ap, ⊎_elim, ◌∙◌, arith}
use Rattle.std.specs.List.{AllByRecursion as Each, flat_map}
use Rattle.std.proofs.lemmas.List.Elements.{All-from_recursion, All-contains}
use Rattle.values.specs.declared.code.Code.{Code}
use Rattle.values.specs.declared.plan.Kind.{Kind}
use Rattle.values.specs.declared.plan.Kind.TheVariants as kind
use Rattle.component_items.specs.declared.component.Component.{Component}
use Rattle.component_items.specs.declared.component.Item.{Item}
use Rattle.component_items.specs.declared.component.Item.TheOpen as level
use Rattle.component_items.specs.declared.component.Item.TheOpen.{Item-F}
use Rattle.component_items.specs.declared.component.Item.TheViews.{roll-Item}
use Rattle.component_items.specs.declared.component.Item.TheFolds.{fold-roll-Item, map-Item, ind-Item}
use Rattle.component_items.specs.Kept.{IsKept}
use Rattle.script_items.specs.KeptFor.{IsField, MaySet, MayGet}
use Rattle.script_items.specs.Members.{Member, a_signal, a_memo, a_load, a_store, an_area, members_step, item_members, members_of}
use Rattle.plain_evaluation.specs.Origins.{Around, Origin, tell_attr, tell_fields, tell_all, tell_step, tell_item, tell_items, top_around, origin_in}
use Rattle.plain_evaluation.specs.Written.{pairs_among}
use Rattle.plain_evaluation.proofs.Lookup.{AreFound, found-append}
use Rattle.plain_evaluation.proofs.Told.{origins_right}
use Rattle.plan_meaning.specs.Told.{kind_told, kind_of_id}

each_append : {X : Type 0} (P : X → Type 0) (xs ys : List X) → Each P xs → Each P ys → Each P (xs ++ ys)
each_append P [] ys h g = g
each_append P (x ∷ xs) ys h g = (h.0, each_append P xs ys h.1 g)

abbrev HasKind : (ℕ → Origin) → ℕ → Kind → Type 0
HasKind told id k = kind_told (told id).told ≡ Some k

-- what a member takes has its kind
abbrev IsTold : (ℕ → Origin) → Member → Type 0
IsTold told (a_signal id) = HasKind told id kind.Signal
IsTold told (a_memo id) = HasKind told id kind.Memo
IsTold told (a_load id) = HasKind told id kind.Load
IsTold told (a_store id fields) = (n : ℕ) → n < fields → HasKind told (id + 2 + n) kind.Field
IsTold told (an_area owner) = Unit {0}

fields_told : (told : ℕ → Origin) (first : ℕ) (names : List ℕ) (around : Around) → AreFound told (tell_fields first names around) → (n : ℕ) → n < length names → HasKind told (first + n) kind.Field
fields_told told first [] around are n l = absurd (omega arith)
fields_told told first (name ∷ names) around are zero l = let e : first + 0 ≡ first = omega arith in ap (λ (k : ℕ). kind_told (told k).told) e ∙ ap (λ (o : Origin). kind_told o.told) are.0
fields_told told first (name ∷ names) around are (suc n) l = let e : first + suc n ≡ suc first + n = omega arith in ap (λ (k : ℕ). kind_told (told k).told) e ∙ fields_told told (suc first) names around are.1 n (omega arith)

module _ (told : ℕ → Origin) (pairs : ℕ → List (Code × Code)) where
  abbrev Tells : (Around → List (ℕ × Origin)) → List Member → Type 0
  Tells tells members = (around : Around) → AreFound told (tells around) → Each (IsTold told) members

  abbrev ItemTells : Item → Type 0
  ItemTells item = Tells (tell_item pairs item) (item_members item)

  abbrev Proven : Type 0
  Proven = (item : Item) × ItemTells item

  abbrev items_of : List Proven → List Item
  items_of known = map (λ k. k.0) known

  abbrev FormTells : Item-F Item → Type 0
  FormTells x = Tells (tell_step pairs (map-Item Item (Around → List (ℕ × Origin)) (tell_item pairs) x)) (members_step (map-Item Item (List Member) item_members x))

  rolled : (x : Item-F Item) → FormTells x → ItemTells (roll-Item x)
  unfolding tell_item item_members
  rolled x tells =
      subst (λ f. Tells f (item_members (roll-Item x))) (sym (fold-roll-Item (Around → List (ℕ × Origin)) (tell_step pairs) x))
      (subst (λ ms. Tells (tell_step pairs (map-Item Item (Around → List (ℕ × Origin)) (tell_item pairs) x)) ms) (sym (fold-roll-Item (List Member) members_step x)) tells)

  block : (known : List Proven) → Tells (tell_all (map (tell_item pairs) (items_of known))) (flat_map (λ one. one) (map item_members (items_of known)))
  block [] around are = tt
  block (k ∷ known) around are =
      let both = found-append told (tell_item pairs k.0 around) (tell_all (map (tell_item pairs) (items_of known)) around) are in
      each_append (IsTold told) (item_members k.0) (flat_map (λ one. one) (map item_members (items_of known))) (k.1 around both.0) (block known around both.1)

  by_form : (y : Item-F Proven) → FormTells (map-Item Proven Item (λ k. k.0) y)
  by_form (level.Signal id name start) around are = (ap (λ (o : Origin). kind_told o.told) are.0, tt)
  by_form (level.Memo id name expr) around are = (ap (λ (o : Origin). kind_told o.told) are.0, tt)
  by_form (level.Effect id name expr) around are = tt
  by_form (level.Resource id name after keys values) around are = tt
  by_form (level.Load id name resource key) around are = (ap (λ (o : Origin). kind_told o.told) are.0, tt)
  by_form (level.Store id name max fields starts) around are =
      (λ n l. let e : id + 2 + n ≡ 2 + id + n = omega arith in ap (λ (k : ℕ). kind_told (told k).told) e ∙ fields_told told (2 + id) fields (record around { store = Some id }) are.1.1 n l, tt)
  by_form (level.Cleanup text) around are = tt
  by_form (level.Area id name owner known) around are = (tt, block known (record around { owner = owner }) are.1)
  by_form (level.If id cond known) around are = tt
  by_form (level.Each id store known) around are = tt
  by_form (level.Element tag closed attrs known) around are =
      let both = found-append told (flat_map (tell_attr around) attrs) (tell_all (map (tell_item pairs) (items_of known)) around) are in block known around both.1
  by_form (level.Text text) around are = tt
  by_form (level.Shown id expr) around are = tt

  item_tells : (item : Item) → ItemTells item
  item_tells = ind-Item ItemTells (λ x y is. subst (λ z. ItemTells (roll-Item z)) is (rolled (map-Item Proven Item (λ k. k.0) y) (by_form y)))

  text_tells : (items : List Item) → Tells (tell_items pairs items) (members_of items)
  text_tells [] around are = tt
  text_tells (item ∷ items) around are =
      let both = found-append told (tell_item pairs item around) (tell_items pairs items around) are in
      each_append (IsTold told) (item_members item) (members_of items) (item_tells item around both.0) (text_tells items around both.1)

member_told : (component : Component) → IsKept component → (m : Member) → Contains (members_of component.items) m → IsTold (origin_in component) m
member_told component kept m has =
    let all = text_tells (origin_in component) (pairs_among component.items) component.items top_around (origins_right (pairs_among component.items) component.items top_around kept.numbered.ids) in
    All-contains (IsTold (origin_in component)) (members_of component.items) m (All-from_recursion (IsTold (origin_in component)) (members_of component.items) all) has

field_told : (component : Component) → IsKept component → (id : ℕ) → IsField (members_of component.items) id → kind_of_id component id ≡ Some kind.Field
field_told component kept id is =
    let told : IsTold (origin_in component) (a_store is.store is.fields) = member_told component kept (a_store is.store is.fields) is.declared in
    subst (λ (k : ℕ). kind_of_id component k ≡ Some kind.Field) (sym is.is) (told is.field is.within)

-- what is set is a signal or a field
pub set_kind : (component : Component) → IsKept component → (id : ℕ) (key : Option Code) → MaySet (members_of component.items) id key → (kind_of_id component id ≡ Some kind.Signal) ⊎ (kind_of_id component id ≡ Some kind.Field)
set_kind component kept id None may = inl (member_told component kept (a_signal id) may)
set_kind component kept id (Some key) may = inr (field_told component kept id may)

abbrev pub ReadsAs : Component → ℕ → Type 0
ReadsAs component id = (k : Kind) × (kind_of_id component id ≡ Some k) × (k ≢ kind.Effect)

-- what is got is no effect
pub get_kind : (component : Component) → IsKept component → (id : ℕ) (key : Option Code) → MayGet (members_of component.items) id key → ReadsAs component id
get_kind component kept id None may = ⊎_elim
    (λ has. (kind.Signal, member_told component kept (a_signal id) has, λ e. cc))
    (λ others. ⊎_elim
    (λ has. (kind.Memo, member_told component kept (a_memo id) has, λ e. cc))
    (λ has. (kind.Load, member_told component kept (a_load id) has, λ e. cc)) others) may
get_kind component kept id (Some key) may = (kind.Field, field_told component kept id may, λ e. cc)
