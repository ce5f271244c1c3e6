-- The walk over items, one after another.
use Rattle.std.proofs.Common.{◌≡◌, ℕ, ◌+◌, Bool, true, false, if◌then◌else◌, Option, Some, List, [], ◌∷◌, ◌++◌, map, take, slice_get, refl, sym, ap, ◌∙◌, append_assoc}
use Rattle.std.specs.Bool.{OnTrue, OnFalse}
use Rattle.std.proofs.lemmas.List.{take_more, append-nil}
use Rattle.std.proofs.lemmas.Option.{slice_get_within, get_or_from_slice_get}
use Rattle.values.specs.declared.code.Code.{Code}
use Rattle.component_items.specs.declared.component.Item.{Item}
use Rattle.plain_evaluation.specs.Page.{View}
use Rattle.view_meaning.specs.Mounted.{Seen}
use Rattle.view_meaning.specs.Parts.{Part, begins, begun, ending, item_parts, items_parts}
use Rattle.view_slots.specs.Home.{Sides, rowless, home_parts, mounted_with}
use Rattle.view_slots.proofs.SlotLemmas.{mounted-none, mounted-append, mounted-element}

pub on_true : (b : Bool) (P : Type 0) → b ≡ true → OnTrue b P → P
on_true true P is p = p
on_true false P is p = cc

pub on_false : (b : Bool) (P : Type 0) → b ≡ false → OnFalse b P → P
on_false true P is p = cc
on_false false P is p = p

pub items_parts-append : (view : View) (key : Option Code) (xs ys : List Item) → items_parts view (xs ++ ys) key ≡ items_parts view xs key ++ items_parts view ys key
items_parts-append view key [] ys = refl
items_parts-append view key (x ∷ xs) ys = ap (λ more. item_parts view x key ++ more) (items_parts-append view key xs ys) ∙ sym (append_assoc (item_parts view x key) (items_parts view xs key) (items_parts view ys key))

map-append : {X Y : Type 0} (f : X → Y) (xs ys : List X) → map f (xs ++ ys) ≡ map f xs ++ map f ys
map-append f [] ys = refl
map-append f (x ∷ xs) ys = ap (λ more. f x ∷ more) (map-append f xs ys)

more : {X : Type 0} (xs : List X) (i : ℕ) (x : X) → slice_get xs i ≡ Some x → take (i + 1) xs ≡ take i xs ++ x ∷ []
more xs i x is = take_more xs i x (slice_get_within xs i x is) ∙ ap (λ y. take i xs ++ y ∷ []) (get_or_from_slice_get xs i x x is)

module _ (seen : Seen) (key : Option Code) (base : ℕ) where
  pub one_more : (items : List Item) (i : ℕ) (item : Item) (first before after : List Sides) → slice_get items i ≡ Some item → before ≡ mounted_with seen (home_parts seen.view (take i items) key) key base first → after ≡ mounted_with seen (item_parts (rowless seen.view) item key) key base before → after ≡ mounted_with seen (home_parts seen.view (take (i + 1) items) key) key base first
  one_more items i item first before after is done next =
      next
      ∙ ap (mounted_with seen (item_parts (rowless seen.view) item key) key base) done
      ∙ sym (mounted-append seen key base (home_parts seen.view (take i items) key) (item_parts (rowless seen.view) item key) first)
      ∙ ap (λ parts. mounted_with seen parts key base first) (sym (ap (λ l. items_parts (rowless seen.view) l key) (more items i item is) ∙ items_parts-append (rowless seen.view) key (take i items) (item ∷ []) ∙ ap (λ l. items_parts (rowless seen.view) (take i items) key ++ l) (append-nil (item_parts (rowless seen.view) item key))))

  pub one_attr : {X : Type 0} (f : X → Part) (xs : List X) (i : ℕ) (x : X) (first before after : List Sides) → slice_get xs i ≡ Some x → before ≡ mounted_with seen (map f (take i xs)) key base first → after ≡ mounted_with seen (f x ∷ []) key base before → after ≡ mounted_with seen (map f (take (i + 1) xs)) key base first
  one_attr f xs i x first before after is done next =
      next
      ∙ ap (mounted_with seen (f x ∷ []) key base) done
      ∙ sym (mounted-append seen key base (map f (take i xs)) (f x ∷ []) first)
      ∙ ap (λ parts. mounted_with seen parts key base first) (sym (ap (map f) (more xs i x is) ∙ map-append f (take i xs) (x ∷ [])))

  -- ---- one item, whose parts are known
  module _ (item : Item) (sides : List Sides) where
    abbrev Walks : List Sides → Type 0
    Walks new = new ≡ mounted_with seen (item_parts (rowless seen.view) item key) key base sides

    abbrev Has : List Part → Type 0
    Has parts = item_parts (rowless seen.view) item key ≡ parts

    pub walks : (parts : List Part) (new : List Sides) → Has parts → new ≡ mounted_with seen parts key base sides → Walks new
    walks parts new has is = is ∙ ap (λ l. mounted_with seen l key base sides) (sym has)

    pub walks_none : Has [] → Walks sides
    walks_none has = walks [] sides has (sym (mounted-none seen key base sides))

    pub walks_open : (holds : Bool) (part : Part) (inner : List Item) (mid new : List Sides) → Has (if holds then part ∷ home_parts seen.view inner key else []) → holds ≡ true → mid ≡ mounted_with seen (part ∷ []) key base sides → new ≡ mounted_with seen (home_parts seen.view inner key) key base mid → Walks new
    walks_open holds part inner mid new has is first rest =
        walks (part ∷ home_parts seen.view inner key) new (has ∙ ap (λ b. if b then part ∷ home_parts seen.view inner key else []) is)
        (rest ∙ ap (mounted_with seen (home_parts seen.view inner key) key base) first ∙ sym (mounted-append seen key base (part ∷ []) (home_parts seen.view inner key) sides))

    pub walks_closed : (holds : Bool) (opened : List Part) → Has (if holds then opened else []) → holds ≡ false → (new : List Sides) → new ≡ sides → Walks new
    walks_closed holds opened has is new same = same ∙ walks_none (has ∙ ap (λ b. if b then opened else []) is)

    pub walks_element : (tag : ℕ) (closed : Bool) (attrs : List Part) (inner : List Item) (mid new : List Sides) → Has (begins tag ∷ attrs ++ begun ∷ home_parts seen.view inner key ++ ending tag closed) → mid ≡ mounted_with seen attrs key base sides → new ≡ mounted_with seen (home_parts seen.view inner key) key base mid → Walks new
    walks_element tag closed attrs inner mid new has first rest =
        walks (begins tag ∷ attrs ++ begun ∷ home_parts seen.view inner key ++ ending tag closed) new has
        (rest ∙ ap (mounted_with seen (home_parts seen.view inner key) key base) first ∙ sym (mounted-element seen key base tag closed attrs (home_parts seen.view inner key) sides))
