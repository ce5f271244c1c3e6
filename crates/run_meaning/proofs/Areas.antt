-- The owners that a disposal takes by the text are those of the area by the plan's parents.
use Rattle.std.proofs.Common.{◌≡◌, ℕ, zero, suc, ◌+◌, ◌<◌, ◌==◌, ◌||◌, Bool, true, false, Option, Some, List, [], ◌∷◌, ◌++◌, map, length, cond, inl, inr, refl, sym, ap, subst, ⊎_elim, ◌∙◌, arith, length-append}
use Rattle.std.specs.Prelude.{slice_get, unwrap_or}
use Rattle.std.specs.List.{list_any, flat_map, concat, filter, range_with_len}
use Rattle.std.proofs.lemmas.Bool.{eqb-true, true≢false}
use Rattle.std.proofs.lemmas.List.Folds.{list_any-append}
use Rattle.values.specs.declared.plan.PlanOwner.{PlanOwner}
use Rattle.component_items.specs.declared.component.Component.{Component}
use Rattle.component_items.specs.declared.component.Item.{Item}
use Rattle.component_items.specs.declared.component.Item.TheOpen as level
use Rattle.component_items.specs.declared.component.Item.TheOpen.{Item-F}
use Rattle.component_items.specs.declared.component.Item.TheViews.{roll-Item}
use Rattle.component_items.specs.declared.component.Item.TheFolds.{fold-roll-Item, map-Item, ind-Item}
use Rattle.component_items.specs.Ids.{owners_step, item_owners, owners_in}
use Rattle.component_items.specs.Kept.{IsKept}
use Rattle.plain_evaluation.specs.Killed.{going_if, going_with, going_all, owners_going_step, item_owners_going, owners_going}
use Rattle.plain_evaluation.proofs.Places.{or_none}
use Rattle.plain_evaluation.proofs.Goings.{has_number, Numbered, numbered-cons, numbered-append, numbered_bounds, numbered_apart, item_goes, items_go, all_go}
use Rattle.plain_evaluation.specs.Held.{Held}
use Rattle.plan_meaning.specs.Owners.{Owning, owners_inside, owning_step, item_owning, plan_owners}
use Rattle.run_meaning.specs.Words.{In}
use Rattle.run_meaning.specs.Opened.{around_of, around_from, is_inside, area_of, opened_of}

-- the owners around one, where they are known
abbrev pub around_at : List (List ℕ) → ℕ → List ℕ
around_at known m = unwrap_or (slice_get known m) []

abbrev pub holds : ℕ → List ℕ → Bool
holds n ms = list_any (λ m. n == m) ms

around_from-append : (known : List (List ℕ)) (xs ys : List PlanOwner) → around_from known (xs ++ ys) ≡ around_from (around_from known xs) ys
around_from-append known [] ys = refl
around_from-append known (x ∷ xs) ys = around_from-append (known ++ around_of known (length known) x.parent ∷ []) xs ys

pub at_front : (xs ys : List (List ℕ)) (k : ℕ) → k < length xs → slice_get (xs ++ ys) k ≡ slice_get xs k
at_front [] ys k l = absurd (omega arith)
at_front (x ∷ xs) ys zero l = refl
at_front (x ∷ xs) ys (suc k) l = at_front xs ys k (omega arith)

pub at_end : (xs : List (List ℕ)) (x : List ℕ) → slice_get (xs ++ x ∷ []) (length xs) ≡ Some x
at_end [] x = refl
at_end (y ∷ xs) x = at_end xs x

pub within : (xs : List (List ℕ)) (k : ℕ) (x : List ℕ) → slice_get xs k ≡ Some x → k < length xs
within [] k x e = cc
within (y ∷ xs) zero x e = omega arith
within (y ∷ xs) (suc k) x e = let l = within xs k x e in omega arith

-- what these owners add to those that are known: of an area that is around or among them, the owners that go with it
pub record Grown (n : ℕ) (owners : List ℕ) (known after : List (List ℕ)) (going : List ℕ) : Type 0 where
  pub same : (k : ℕ) → k < length known → slice_get after k ≡ slice_get known k
  pub long : length after ≡ length known + length owners
  pub inside : (m : ℕ) → has_number owners m ≡ true → holds n (around_at after m) ≡ has_number going m
  -- each is around itself first
  pub itself : (m : ℕ) → has_number owners m ≡ true → (rest : List ℕ) × (slice_get after m ≡ Some (m ∷ rest))

-- owners that are numbered from the count of the known ones on, inside of a known one
abbrev Grows : ℕ → List ℕ → (ℕ → List PlanOwner) → (Bool → List ℕ) → Type 0
Grows n owners owns going = (known : List (List ℕ)) (parent : ℕ) (around : List ℕ) → Numbered (length known) owners → slice_get known parent ≡ Some around → Grown n owners known (around_from known (owns parent)) (going (holds n around))

grows_none : (n : ℕ) → Grows n [] (λ parent. []) (λ goes. [])
grows_none n known parent around numbered at = record { same = λ k l. refl; long = omega arith; inside = λ m h. cc; itself = λ m h. cc }

-- a number of a list is of the first or of the second part
either : (xs ys : List ℕ) (m : ℕ) (b : Bool) → has_number xs m ≡ b → has_number (xs ++ ys) m ≡ true → b ≡ false → has_number ys m ≡ true
either xs ys m b is h f = ap (λ (c : Bool). c || has_number ys m) (sym (is ∙ f)) ∙ sym (list_any-append (λ j. j == m) xs ys) ∙ h

or_no : (b : Bool) → (b || false) ≡ b
or_no true = refl
or_no false = refl

grows_both : (n : ℕ) (xs ys : List ℕ) (first second : ℕ → List PlanOwner) (f g : Bool → List ℕ)
    → ((goes : Bool) (k : ℕ) → has_number xs k ≡ false → has_number (f goes) k ≡ false) → ((goes : Bool) (k : ℕ) → has_number ys k ≡ false → has_number (g goes) k ≡ false)
    → Grows n xs first f → Grows n ys second g → Grows n (xs ++ ys) (λ parent. first parent ++ second parent) (λ goes. f goes ++ g goes)
grows_both n xs ys first second f g no_f no_g one two known parent around numbered at =
    subst (λ (after : List (List ℕ)). Grown n (xs ++ ys) known after (f (holds n around) ++ g (holds n around))) (sym (around_from-append known (first parent) (second parent))) (record {
      same = λ k l. b.same k (omega (arith, a.long)) ∙ a.same k l;
      long = omega (arith, a.long, b.long, length-append xs ys);
      inside = λ m h. inside m (has_number xs m) refl h;
      itself = λ m h. itself m (has_number xs m) refl h;
    })
  where
    parts : Numbered (length known) xs × Numbered (length known + length xs) ys
    parts = numbered-append (length known) xs ys numbered

    mid : List (List ℕ)
    mid = around_from known (first parent)

    goes : Bool
    goes = holds n around

    a : Grown n xs known mid (f goes)
    a = one known parent around parts.0 at

    b : Grown n ys mid (around_from mid (second parent)) (g goes)
    b = two mid parent around (subst (λ (k : ℕ). Numbered k ys) (sym a.long) parts.1) (a.same parent (within known parent around at) ∙ at)

    below : (m : ℕ) → has_number xs m ≡ true → m < length mid
    below m h = let bounds = numbered_bounds (length known) xs m parts.0 h in omega (arith, a.long)

    inside : (m : ℕ) (c : Bool) → has_number xs m ≡ c → has_number (xs ++ ys) m ≡ true → holds n (around_at (around_from mid (second parent)) m) ≡ has_number (f goes ++ g goes) m
    inside m true is h =
        ap (λ (o : Option (List ℕ)). holds n (unwrap_or o [])) (b.same m (below m is)) ∙ a.inside m is
        ∙ sym (list_any-append (λ j. j == m) (f goes) (g goes) ∙ ap (λ (d : Bool). has_number (f goes) m || d) (no_g goes m (numbered_apart (length known) xs ys m numbered is)) ∙ or_no (has_number (f goes) m))
    inside m false is h =
        b.inside m (either xs ys m false is h refl)
        ∙ sym (list_any-append (λ j. j == m) (f goes) (g goes) ∙ ap (λ (d : Bool). d || has_number (g goes) m) (no_f goes m is))

    itself : (m : ℕ) (c : Bool) → has_number xs m ≡ c → has_number (xs ++ ys) m ≡ true → (rest : List ℕ) × (slice_get (around_from mid (second parent)) m ≡ Some (m ∷ rest))
    itself m true is h = let i = a.itself m is in (i.0, b.same m (below m is) ∙ i.1)
    itself m false is h = b.itself m (either xs ys m false is h refl)

pub itself_equal : (n : ℕ) → (n == n) ≡ true
itself_equal n = grind arith

equal_sym : (a b : ℕ) → (a == b) ≡ (b == a)
equal_sym a b = grind arith

or_comm : (a b : Bool) → (a || b) ≡ (b || a)
or_comm true true = refl
or_comm true false = refl
or_comm false true = refl
or_comm false false = refl

pub or_left : (a b : Bool) → a ≡ true → (a || b) ≡ true
or_left true b h = refl
or_left false b h = cc

-- an area: its owner, and the owners in it, where the cleanups are these
grows_area : (n own : ℕ) (cleanups owners : List ℕ) (owns : ℕ → List PlanOwner) (going : Bool → List ℕ)
    → ((goes : Bool) (k : ℕ) → has_number owners k ≡ false → has_number (going goes) k ≡ false) → Grows n owners owns going
    → Grows n (own ∷ owners) (λ parent. record { parent = Some parent; cleanups = cleanups } ∷ owns own) (λ goes. going_if (goes || own == n) (own ∷ []) ++ going (goes || own == n))
grows_area n own cleanups owners owns going no_others inner known parent around numbered at = record {
  same = λ k l. (let e = at_front known (entry ∷ []) k l in next.same k (omega (arith, length-append known (entry ∷ []))) ∙ e);
  long = omega (arith, next.long, length-append known (entry ∷ []));
  inside = λ m h. inside m (own == m) refl h;
  itself = λ m h. itself m (own == m) refl h;
}
  where
    first : (own ≡ length known) × Numbered (length known + 1) owners
    first = numbered-cons (length known) own owners numbered

    entry : List ℕ
    entry = around_of known (length known) (Some parent)

    entry_is : entry ≡ own ∷ around
    entry_is = λ i. sym first.0 i ∷ unwrap_or (at i) []

    grown : List (List ℕ)
    grown = known ++ entry ∷ []

    own_at : slice_get grown own ≡ Some entry
    own_at = ap (slice_get grown) first.0 ∙ at_end known entry

    goes : Bool
    goes = holds n around || own == n

    goes_is : holds n entry ≡ goes
    goes_is = ap (holds n) entry_is ∙ ap (λ (b : Bool). b || holds n around) (equal_sym n own) ∙ or_comm (own == n) (holds n around)

    next : Grown n owners grown (around_from grown (owns own)) (going goes)
    next = subst (λ (b : Bool). Grown n owners grown (around_from grown (owns own)) (going b)) goes_is
        (inner grown own entry (subst (λ (k : ℕ). Numbered k owners) {x = length known + 1} {y = length grown} (omega (arith, length-append known (entry ∷ []))) first.1) own_at)

    own_below : own < length grown
    own_below = omega (arith, length-append known (entry ∷ []), first.0)

    later : has_number owners own ≡ false
    later = numbered_apart (length known) (own ∷ []) owners own numbered (or_left (own == own) false (itself_equal own))

    own_goes : (b : Bool) → has_number (going_if b (own ∷ []) ++ going b) own ≡ b
    own_goes true = or_left (own == own) (has_number (going true) own) (itself_equal own)
    own_goes false = no_others false own later

    not_own : (b : Bool) (m : ℕ) → (own == m) ≡ false → has_number (going_if b (own ∷ []) ++ going b) m ≡ has_number (going b) m
    not_own true m f = ap (λ (c : Bool). c || has_number (going true) m) f
    not_own false m f = refl

    inside : (m : ℕ) (b : Bool) → (own == m) ≡ b → has_number (own ∷ owners) m ≡ true → holds n (around_at (around_from grown (owns own)) m) ≡ has_number (going_if goes (own ∷ []) ++ going goes) m
    inside m true is h = subst (λ (k : ℕ). holds n (around_at (around_from grown (owns own)) k) ≡ has_number (going_if goes (own ∷ []) ++ going goes) k) (eqb-true own m is)
        (ap (λ (o : Option (List ℕ)). holds n (unwrap_or o [])) (next.same own own_below ∙ own_at) ∙ goes_is ∙ sym (own_goes goes))
    inside m false is h = next.inside m (ap (λ (b : Bool). b || has_number owners m) (sym is) ∙ h) ∙ sym (not_own goes m is)

    itself : (m : ℕ) (b : Bool) → (own == m) ≡ b → has_number (own ∷ owners) m ≡ true → (rest : List ℕ) × (slice_get (around_from grown (owns own)) m ≡ Some (m ∷ rest))
    itself m true is h = subst (λ (k : ℕ). (rest : List ℕ) × (slice_get (around_from grown (owns own)) k ≡ Some (k ∷ rest))) (eqb-true own m is)
        (around, next.same own own_below ∙ own_at ∙ ap Some entry_is)
    itself m false is h = next.itself m (ap (λ (b : Bool). b || has_number owners m) (sym is) ∙ h)

-- ---- items

module _ (n : ℕ) where
  abbrev ItemGrows : Item → Type 0
  ItemGrows item = Grows n (item_owners item) (item_owning item).owners (item_owners_going n item)

  abbrev Proven : Type 0
  Proven = (item : Item) × ItemGrows item

  abbrev items_of : List Proven → List Item
  items_of known = map (λ k. k.0) known

  abbrev FormGrows : Item-F Item → Type 0
  FormGrows x = Grows n (owners_step (map-Item Item (List ℕ) item_owners x)) (owning_step (map-Item Item Owning item_owning x)).owners (owners_going_step n (map-Item Item (Bool → List ℕ) (item_owners_going n) x))

  rolled : (x : Item-F Item) → FormGrows x → ItemGrows (roll-Item x)
  unfolding item_owners item_owning item_owners_going
  rolled x grows =
      subst (λ f. Grows n f (item_owning (roll-Item x)).owners (item_owners_going n (roll-Item x))) (sym (fold-roll-Item (List ℕ) owners_step x))
      (subst (λ (f : Owning). Grows n (owners_step (map-Item Item (List ℕ) item_owners x)) f.owners (item_owners_going n (roll-Item x))) (sym (fold-roll-Item Owning owning_step x))
      (subst (λ f. Grows n (owners_step (map-Item Item (List ℕ) item_owners x)) (owning_step (map-Item Item Owning item_owning x)).owners f) (sym (fold-roll-Item (Bool → List ℕ) (owners_going_step n) x))
      grows))

  block : (known : List Proven) → Grows n (concat (map item_owners (items_of known))) (owners_inside (map item_owning (items_of known))) (going_all (map (item_owners_going n) (items_of known)))
  block [] = grows_none n
  block (k ∷ known) =
      grows_both n (item_owners k.0) (concat (map item_owners (items_of known))) (item_owning k.0).owners (owners_inside (map item_owning (items_of known))) (item_owners_going n k.0) (going_all (map (item_owners_going n) (items_of known)))
      (item_goes n k.0).no_others (all_go n (items_of known)).no_others k.1 (block known)

  by_form : (y : Item-F Proven) → FormGrows (map-Item Proven Item (λ k. k.0) y)
  by_form (level.Signal id name start) = grows_none n
  by_form (level.Memo id name expr) = grows_none n
  by_form (level.Effect id name expr) = grows_none n
  by_form (level.Resource id name after keys values) = grows_none n
  by_form (level.Load id name resource key) = grows_none n
  by_form (level.Store id name max fields starts) = grows_none n
  by_form (level.Cleanup text) = grows_none n
  by_form (level.Area id name own known) = grows_area n own (flat_map (λ one. one.cleanups) (map item_owning (items_of known))) (concat (map item_owners (items_of known))) (owners_inside (map item_owning (items_of known))) (going_all (map (item_owners_going n) (items_of known))) (all_go n (items_of known)).no_others (block known)
  by_form (level.If id cond known) = block known
  by_form (level.Each id store known) = block known
  by_form (level.Element tag closed attrs known) = block known
  by_form (level.Text text) = grows_none n
  by_form (level.Shown id expr) = grows_none n

  pub item_grows : (item : Item) → ItemGrows item
  item_grows = ind-Item ItemGrows (λ x y is. subst (λ z. ItemGrows (roll-Item z)) is (rolled (map-Item Proven Item (λ k. k.0) y) (by_form y)))

  pub items_grow : (items : List Item) → Grows n (owners_in items) (owners_inside (map item_owning items)) (owners_going n items)
  items_grow [] = grows_none n
  items_grow (item ∷ items) =
      grows_both n (item_owners item) (owners_in items) (item_owning item).owners (owners_inside (map item_owning items)) (item_owners_going n item) (owners_going n items)
      (item_goes n item).no_others (items_go n items).no_others (item_grows item) (items_grow items)

-- ---- the whole component

-- the owners around each owner of the plan
abbrev pub around_all : Component → List (List ℕ)
around_all component = around_from [] (plan_owners component)

module _ (component : Component) (kept : IsKept component) (n : ℕ) where
  abbrev owners : List ℕ
  owners = owners_in component.items

  numbered : Numbered 0 (0 ∷ owners)
  numbered = ap (λ (more : List ℕ). 0 ∷ more) kept.numbered.owners

  rest : Numbered 1 owners
  rest = subst (λ (k : ℕ). Numbered k owners) {x = 0 + 1} {y = 1} (omega arith) (numbered-cons 0 0 owners numbered).1

  top_goes : holds n (0 ∷ []) ≡ (n == 0)
  top_goes = or_no (n == 0)

  inner : Grown n owners ((0 ∷ []) ∷ []) (around_all component) (owners_going n component.items (n == 0))
  inner = subst (λ (b : Bool). Grown n owners ((0 ∷ []) ∷ []) (around_all component) (owners_going n component.items b)) top_goes (items_grow n component.items ((0 ∷ []) ∷ []) 0 (0 ∷ []) rest refl)

  later : has_number owners 0 ≡ false
  later = numbered_apart 0 (0 ∷ []) owners 0 numbered refl

  own_goes : (b : Bool) → has_number (going_if b (0 ∷ []) ++ owners_going n component.items b) 0 ≡ b
  own_goes true = refl
  own_goes false = (items_go n component.items).no_others false 0 later

  not_own : (b : Bool) (m : ℕ) → (0 == m) ≡ false → has_number (going_if b (0 ∷ []) ++ owners_going n component.items b) m ≡ has_number (owners_going n component.items b) m
  not_own true m f = ap (λ (c : Bool). c || has_number (owners_going n component.items true) m) f
  not_own false m f = refl

  inside : (m : ℕ) (b : Bool) → (0 == m) ≡ b → has_number (0 ∷ owners) m ≡ true → holds n (around_at (around_all component) m) ≡ has_number (going_with component n).owners m
  inside m true is h = subst (λ (k : ℕ). holds n (around_at (around_all component) k) ≡ has_number (going_with component n).owners k) (eqb-true 0 m is)
      (ap (λ (o : Option (List ℕ)). holds n (unwrap_or o [])) (inner.same 0 (omega arith)) ∙ top_goes ∙ sym (own_goes (n == 0)))
  inside m false is h = inner.inside m (ap (λ (b : Bool). b || has_number owners m) (sym is) ∙ h) ∙ sym (not_own (n == 0) m is)

  itself : (m : ℕ) (b : Bool) → (0 == m) ≡ b → has_number (0 ∷ owners) m ≡ true → (more : List ℕ) × (slice_get (around_all component) m ≡ Some (m ∷ more))
  itself m true is h = subst (λ (k : ℕ). (more : List ℕ) × (slice_get (around_all component) k ≡ Some (k ∷ more))) (eqb-true 0 m is) ([], inner.same 0 (omega arith))
  itself m false is h = inner.itself m (ap (λ (b : Bool). b || has_number owners m) (sym is) ∙ h)

  -- what is around an owner of the plan, against what goes with n
  pub whole_grows : Grown n (0 ∷ owners_in component.items) [] (around_all component) (going_with component n).owners
  whole_grows = record { same = λ k l. absurd (omega arith); long = omega (arith, inner.long); inside = λ m h. inside m (0 == m) refl h; itself = λ m h. itself m (0 == m) refl h }

-- ---- as lists

or_right : (a b : Bool) → b ≡ true → (a || b) ≡ true
or_right true b h = refl
or_right false b h = h

pub has_in : (xs : List ℕ) (n : ℕ) → has_number xs n ≡ true → In n xs
has_in [] n h = cc
has_in (x ∷ xs) n h = at (x == n) refl h (has_in xs n)
  where
    at : (b : Bool) → (x == n) ≡ b → (b || has_number xs n) ≡ true → (has_number xs n ≡ true → In n xs) → In n (x ∷ xs)
    at true is h later = inl (eqb-true x n is)
    at false is h later = inr (later h)

pub in_has : (xs : List ℕ) (n : ℕ) → In n xs → has_number xs n ≡ true
in_has [] n i = absurd i
in_has (x ∷ xs) n i = ⊎_elim (λ (e : x ≡ n). or_left (x == n) (has_number xs n) (ap (λ (k : ℕ). x == k) (sym e) ∙ itself_equal x)) (λ j. or_right (x == n) (has_number xs n) (in_has xs n j)) i

pub in_filter : (p : ℕ → Bool) (xs : List ℕ) (n : ℕ) → In n (filter p xs) → In n xs × (p n ≡ true)
in_filter p [] n i = absurd i
in_filter p (x ∷ xs) n i = at (p x) refl i (in_filter p xs n)
  where
    at : (b : Bool) → p x ≡ b → In n (cond b (x ∷ filter p xs) (filter p xs)) → (In n (filter p xs) → In n xs × (p n ≡ true)) → In n (x ∷ xs) × (p n ≡ true)
    at true is i later = ⊎_elim (λ (e : x ≡ n). (inl e, ap p (sym e) ∙ is)) (λ j. let r = later j in (inr r.0, r.1)) i
    at false is i later = let r = later i in (inr r.0, r.1)

pub filter_in : (p : ℕ → Bool) (xs : List ℕ) (n : ℕ) → In n xs → p n ≡ true → In n (filter p xs)
filter_in p [] n i h = absurd i
filter_in p (x ∷ xs) n i h = at (p x) refl (λ j. filter_in p xs n j h)
  where
    at : (b : Bool) → p x ≡ b → (In n xs → In n (filter p xs)) → In n (cond b (x ∷ filter p xs) (filter p xs))
    at true is later = ⊎_elim (λ (e : x ≡ n). inl e) (λ j. inr (later j)) i
    at false is later = ⊎_elim (λ (e : x ≡ n). absurd (true≢false (sym h ∙ (ap p (sym e) ∙ is)))) later i

pub around_long : (known : List (List ℕ)) (os : List PlanOwner) → length (around_from known os) ≡ length known + length os
around_long known [] = omega arith
around_long known (o ∷ os) = let e = around_long (known ++ around_of known (length known) o.parent ∷ []) os in omega (arith, length-append known (around_of known (length known) o.parent ∷ []))

module _ (component : Component) (kept : IsKept component) where
  abbrev range : List ℕ
  range = range_with_len 0 (length (plan_owners component))

  pub owners_long : length (0 ∷ owners_in component.items) ≡ length (plan_owners component)
  owners_long = omega (arith, (whole_grows component kept 0).long, around_long [] (plan_owners component))

  all_is : 0 ∷ owners_in component.items ≡ range
  all_is = ap (λ (more : List ℕ). 0 ∷ more) kept.numbered.owners ∙ ap (range_with_len 0) owners_long

  pub has_owner : (n : ℕ) → In n range → has_number (0 ∷ owners_in component.items) n ≡ true
  has_owner n i = in_has (0 ∷ owners_in component.items) n (subst (In n) (sym all_is) i)

  no_top : (b : Bool) (area n : ℕ) → (0 == n) ≡ false → has_number (owners_going area component.items b) n ≡ false → has_number (going_if b (0 ∷ []) ++ owners_going area component.items b) n ≡ false
  no_top true area n f g = λ i. f i || g i
  no_top false area n f g = g

  none_goes : (area n : ℕ) → has_number (0 ∷ owners_in component.items) n ≡ false → has_number (going_with component area).owners n ≡ false
  none_goes area n f =
      let both = or_none (0 == n) (has_number (owners_in component.items) n) f in
      no_top (area == 0) area n both.0 ((items_go area component.items).no_others (area == 0) n both.1)

  pub area_goes : (held : Held) (area n : ℕ) → In n (area_of (opened_of component held) area) → In n (going_with component area).owners
  area_goes held area n i =
      let r = in_filter (is_inside (opened_of component held) area) range n i in
      has_in (going_with component area).owners n (sym ((whole_grows component kept area).inside n (has_owner n r.0)) ∙ r.1)

  pub goes_area : (held : Held) (area n : ℕ) → In n (going_with component area).owners → In n (area_of (opened_of component held) area)
  goes_area held area n i = at (has_number (0 ∷ owners_in component.items) n) refl
    where
      at : (b : Bool) → has_number (0 ∷ owners_in component.items) n ≡ b → In n (area_of (opened_of component held) area)
      at true is = filter_in (is_inside (opened_of component held) area) range n (subst (In n) all_is (has_in (0 ∷ owners_in component.items) n is)) ((whole_grows component kept area).inside n is ∙ in_has (going_with component area).owners n i)
      at false is = absurd (true≢false (sym (in_has (going_with component area).owners n i) ∙ none_goes area n is))
