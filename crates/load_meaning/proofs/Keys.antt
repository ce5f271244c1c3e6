-- The value of a load's key: it depends on the loads before it alone.
use Rattle.std.proofs.Common.{◌≡◌, ℕ, zero, suc, ◌<◌, ◌⊎◌, inl, inr, if◌then◌else◌, Bool, true, false, List, [], ◌∷◌, ◌++◌, map, length, slice_get, Option, Some, refl, sym, ap, subst, ◌∙◌, arith}
use Rattle.std.specs.List.{filter}
use Rattle.std.proofs.lemmas.List.{map-append}
use Rattle.std.proofs.lemmas.List.Elements.{filter-append}
use Rattle.values.specs.declared.code.Code.{Code}
use Rattle.component_items.specs.declared.component.Component.{Component}
use Rattle.component_items.specs.Kept.{IsKept}
use Rattle.plain_evaluation.specs.Fits.{RowsFit}
use Rattle.plain_evaluation.specs.Keyed.{is_keyed}
use Rattle.plain_evaluation.specs.Place.{Place, outside, same_place}
use Rattle.plain_evaluation.specs.Scratch.{Values, no_values, with_value, seen_from, value_said, values_in, scratch_in}
use Rattle.plain_evaluation.specs.Sound.{Among, has_place, places_differ}
use Rattle.plain_evaluation.specs.Written.{State, Says, given, loaded, derived, Written, place_of, written_in}
use Rattle.plain_evaluation.proofs.Differ.{places_are_apart}
use Rattle.plain_evaluation.proofs.Makes.{makes_sense}
use Rattle.plain_evaluation.proofs.Places.{or_none, place_itself, apart}
use Rattle.plain_evaluation.proofs.Solves.{framed}
use Rattle.plan_meaning.specs.There.{AreNested}
use Rattle.plan_meaning.proofs.Rows.{true_or_false, among_has}
use Rattle.load_table.specs.Loads.{LoadOf, loads_in, is_live_load}
use Rattle.load_table.proofs.Keys.{read_before}
use Rattle.load_table.proofs.Lines.{is_loaded, loaded_of, load_line, loads_written}
use Rattle.load_table.proofs.Pending.{among_filter}
use Rattle.load_meaning.specs.Arrivals.{says_arrived, line_arrived, text_arrived}
use Rattle.load_meaning.proofs.Arrives.{state_arrived}
use Rattle.load_meaning.proofs.Texts.{written_alike}

-- ---- loads of a list

abbrev pub AmongLoads : List LoadOf → LoadOf → Type 0
AmongLoads [] load = ⊥
AmongLoads (x ∷ loads) load = (x ≡ load) ⊎ AmongLoads loads load

among_passes : (live : LoadOf → Bool) (loads : List LoadOf) (load : LoadOf) → AmongLoads (filter live loads) load → AmongLoads loads load × (live load ≡ true)
among_passes live [] load among = absurd among
among_passes live (x ∷ loads) load among = at (live x) refl among (among_passes live loads load)
  where
    at : (b : Bool) → live x ≡ b → AmongLoads (if b then x ∷ filter live loads else filter live loads) load → (AmongLoads (filter live loads) load → AmongLoads loads load × (live load ≡ true)) → AmongLoads (x ∷ loads) load × (live load ≡ true)
    at true is (inl here) later = (inl here, ap live (sym here) ∙ is)
    at true is (inr there) later = let one = later there in (inr one.0, one.1)
    at false is there later = let one = later there in (inr one.0, one.1)

line_in : (live : LoadOf → Bool) (line : LoadOf → Written) (loads : List LoadOf) (load : LoadOf) → AmongLoads loads load → live load ≡ true → Among (map line (filter live loads)) (line load)
line_in live line [] load among is = absurd among
line_in live line (x ∷ loads) load (inl here) is = at (live x) (ap live here ∙ is)
  where
    at : (b : Bool) → b ≡ true → Among (map line (if b then x ∷ filter live loads else filter live loads)) (line load)
    at true t = inl (ap line here)
    at false t = cc
line_in live line (x ∷ loads) load (inr there) is = at (live x) (line_in live line loads load there is)
  where
    at : (b : Bool) → Among (map line (filter live loads)) (line load) → Among (map line (if b then x ∷ filter live loads else filter live loads)) (line load)
    at true later = inr later
    at false later = later

-- ---- parts of a text

-- a part of what passes is what passes of a part
split_filter : (f : Written → Bool) (ws xs : List Written) (y : Written) (zs : List Written) → filter f ws ≡ xs ++ y ∷ zs → (before : List Written) × (after : List Written) × (ws ≡ before ++ y ∷ after) × (filter f before ≡ xs)
split_filter f [] [] y zs is = cc
split_filter f [] (x ∷ xs) y zs is = cc
split_filter f (w ∷ ws) xs y zs is = at (f w) refl xs is (split_filter f ws)
  where
    at : (b : Bool) → f w ≡ b → (xs : List Written) → (if b then w ∷ filter f ws else filter f ws) ≡ xs ++ y ∷ zs → ((others : List Written) (z : Written) (more : List Written) → filter f ws ≡ others ++ z ∷ more → (before : List Written) × (after : List Written) × (ws ≡ before ++ z ∷ after) × (filter f before ≡ others)) → (before : List Written) × (after : List Written) × (w ∷ ws ≡ before ++ y ∷ after) × (filter f before ≡ xs)
    at true d [] is later = let here : w ≡ y = cc in ([], ws, (λ i. here i ∷ ws), refl)
    at true d (x ∷ xs) is later =
        let same : w ≡ x = cc in
        let rest : filter f ws ≡ xs ++ y ∷ zs = cc in
        let one = later xs y zs rest in
        (w ∷ one.0, one.1, (λ i. w ∷ one.2 i), ap (λ (b : Bool). if b then w ∷ filter f one.0 else filter f one.0) d ∙ (λ i. same i ∷ one.3 i))
    at false d xs is later =
        let one = later xs y zs is in
        (w ∷ one.0, one.1, (λ i. w ∷ one.2 i), ap (λ (b : Bool). if b then w ∷ filter f one.0 else filter f one.0) d ∙ one.3)

values_append : (keyed : ℕ → Bool) (first rest : List Written) (values : Values) → values_in keyed (first ++ rest) values ≡ values_in keyed rest (values_in keyed first values)
values_append keyed [] rest values = refl
values_append keyed (w ∷ first) rest values = values_append keyed first rest (with_value (place_of w) (value_said w.says w.id (seen_from keyed values w.scene)) values)

-- a place of a first part has its value by that part
value_first : (keyed : ℕ → Bool) (first rest : List Written) (p : Place) → places_differ (first ++ rest) ≡ true → has_place first p ≡ true → values_in keyed (first ++ rest) no_values p ≡ values_in keyed first no_values p
value_first keyed first rest p differ has = ap (λ (values : Values). values p) (values_append keyed first rest no_values) ∙ framed keyed rest (values_in keyed first no_values) p (apart first rest p differ has)

-- ---- the text before a load

module _ (component : Component) (state : State) (keys : ℕ → Option Code) where
  -- lines of loads whose keys are the same stay
  kept_lines : (ws : List Written) (loads : List LoadOf) → loaded_of ws ≡ map (load_line component state) loads → ((load : LoadOf) → AmongLoads loads load → keys load.id ≡ state.arrived load.id) → text_arrived keys ws ≡ ws
  kept_lines [] loads is same = refl
  kept_lines (w ∷ ws) loads is same = at w.says loads is same (kept_lines ws)
    where
      with_says : Says → Written
      with_says says = record { id = w.id; scene = w.scene; says = says }

      one : (pairs : List (Code × Code)) (key : Option Code) (loads : List LoadOf) → with_says (loaded pairs key) ∷ loaded_of ws ≡ map (load_line component state) loads → ((load : LoadOf) → AmongLoads loads load → keys load.id ≡ state.arrived load.id) → ((ls : List LoadOf) → loaded_of ws ≡ map (load_line component state) ls → ((l : LoadOf) → AmongLoads ls l → keys l.id ≡ state.arrived l.id) → text_arrived keys ws ≡ ws) → with_says (loaded pairs (keys w.id)) ∷ text_arrived keys ws ≡ with_says (loaded pairs key) ∷ ws
      one pairs key [] is same later = cc
      one pairs key (load ∷ loads) is same later =
          let here : with_says (loaded pairs key) ≡ load_line component state load = cc in
          let rest : loaded_of ws ≡ map (load_line component state) loads = cc in
          let id : w.id ≡ load.id = ap (λ (v : Written). v.id) here in
          let says : loaded pairs key ≡ loaded load.pairs (state.arrived load.id) = ap (λ (v : Written). v.says) here in
          let told : key ≡ state.arrived load.id = cc in
          let stays : keys w.id ≡ key = ap keys id ∙ same load (inl refl) ∙ sym told in
          let others = later loads rest (λ other among. same other (inr among)) in
          λ i. with_says (loaded pairs (stays i)) ∷ others i

      at : (says : Says) (loads : List LoadOf) → (if is_loaded says then with_says says ∷ loaded_of ws else loaded_of ws) ≡ map (load_line component state) loads → ((load : LoadOf) → AmongLoads loads load → keys load.id ≡ state.arrived load.id) → ((ls : List LoadOf) → loaded_of ws ≡ map (load_line component state) ls → ((l : LoadOf) → AmongLoads ls l → keys l.id ≡ state.arrived l.id) → text_arrived keys ws ≡ ws) → with_says (says_arrived keys w.id says) ∷ text_arrived keys ws ≡ with_says says ∷ ws
      at (given k code) loads is same later = ap (λ (more : List Written). with_says (given k code) ∷ more) (later loads is same)
      at (loaded pairs key) loads is same later = one pairs key loads is same later
      at (derived k expr) loads is same later = ap (λ (more : List Written). with_says (derived k expr) ∷ more) (later loads is same)

-- what stands before a live load: the lines of the live loads before it, and that of its key
pub record UpTo (component : Component) (state : State) (before : List LoadOf) (load : LoadOf) : Type 0 where
  pub first : List Written
  pub rest : List Written
  pub parted : written_in component state ≡ first ++ load_line component state load ∷ rest
  pub loads : loaded_of first ≡ map (load_line component state) (filter (is_live_load component state) before)
  pub key : has_place first (outside (suc load.id)) ≡ true

module _ (component : Component) (state : State) (kept : IsKept component) (fits : RowsFit component state) (nested : AreNested component state) (before after : List LoadOf) (load : LoadOf) (parted : loads_in component ≡ before ++ load ∷ after) (lives : is_live_load component state load ≡ true) where
  abbrev live : LoadOf → Bool
  live = is_live_load component state

  abbrev line : LoadOf → Written
  line = load_line component state

  lines : loaded_of (written_in component state) ≡ map line (filter live before) ++ line load ∷ map line (filter live after)
  lines =
      loads_written component state kept nested
      ∙ ap (λ (loads : List LoadOf). map line (filter live loads)) parted
      ∙ ap (map line) (filter-append live before (load ∷ after))
      ∙ ap (λ (b : Bool). map line (filter live before ++ (if b then load ∷ filter live after else filter live after))) lives
      ∙ map-append line (filter live before) (load ∷ filter live after)

  pub up_to : UpTo component state before load
  up_to =
      let split = split_filter (λ w. is_loaded w.says) (written_in component state) (map line (filter live before)) (line load) (map line (filter live after)) lines in
      record {
        first = split.0;
        rest = split.1;
        parted = split.2;
        loads = split.3;
        key = read_before (is_keyed component) (written_in component state) split.0 split.1 (line load) (makes_sense component state kept fits) split.2 (suc load.id) (0, omega arith, refl) (outside (suc load.id)) refl;
      }

  -- no live load before it has its id
  pub ids_apart : (other : LoadOf) → AmongLoads before other → live other ≡ true → other.id ≡ load.id → ⊥
  ids_apart other among is same =
      let here : Among (loaded_of up_to.first) (line other) = subst (λ (ws : List Written). Among ws (line other)) (sym up_to.loads) (line_in live line before other among is) in
      let has : has_place up_to.first (outside load.id) ≡ true = subst (λ (id : ℕ). has_place up_to.first (outside id) ≡ true) same (among_has up_to.first (line other) (among_filter (λ w. is_loaded w.says) up_to.first (line other) here)) in
      let differ : places_differ (up_to.first ++ line load ∷ up_to.rest) ≡ true = subst (λ (ws : List Written). places_differ ws ≡ true) up_to.parted (places_are_apart component state kept fits) in
      let none = apart up_to.first (line load ∷ up_to.rest) (outside load.id) differ has in
      true_or_false (same_place (outside load.id) (outside load.id)) (place_itself (outside load.id)) (or_none (same_place (outside load.id) (outside load.id)) (has_place up_to.rest (outside load.id)) none).0

  -- its key has the same value where the live loads before it have the same keys
  pub key_stays : (keys : ℕ → Option Code) → ((other : LoadOf) → AmongLoads before other → live other ≡ true → keys other.id ≡ state.arrived other.id) → scratch_in component (state_arrived keys state) (outside (suc load.id)) ≡ scratch_in component state (outside (suc load.id))
  key_stays keys same = later ∙ sym now
    where
      now : scratch_in component state (outside (suc load.id)) ≡ values_in (is_keyed component) up_to.first no_values (outside (suc load.id))
      now =
          ap (λ (xs : List Written). values_in (is_keyed component) xs no_values (outside (suc load.id))) up_to.parted
          ∙ value_first (is_keyed component) up_to.first (line load ∷ up_to.rest) (outside (suc load.id)) (subst (λ (xs : List Written). places_differ xs ≡ true) up_to.parted (places_are_apart component state kept fits)) up_to.key

      text : written_in component (state_arrived keys state) ≡ up_to.first ++ text_arrived keys (line load ∷ up_to.rest)
      text =
          written_alike component state keys
          ∙ ap (text_arrived keys) up_to.parted
          ∙ map-append (line_arrived keys) up_to.first (line load ∷ up_to.rest)
          ∙ ap (λ (first : List Written). first ++ text_arrived keys (line load ∷ up_to.rest)) (kept_lines component state keys up_to.first (filter live before) up_to.loads (λ other among. (let both = among_passes live before other among in same other both.0 both.1)))

      later_fits : RowsFit component (state_arrived keys state)
      later_fits = record { stores = fits.stores; keys = fits.keys; few = fits.few }

      later : scratch_in component (state_arrived keys state) (outside (suc load.id)) ≡ values_in (is_keyed component) up_to.first no_values (outside (suc load.id))
      later =
          ap (λ (xs : List Written). values_in (is_keyed component) xs no_values (outside (suc load.id))) text
          ∙ value_first (is_keyed component) up_to.first (text_arrived keys (line load ∷ up_to.rest)) (outside (suc load.id)) (subst (λ (xs : List Written). places_differ xs ≡ true) text (places_are_apart component (state_arrived keys state) kept later_fits)) up_to.key

-- ---- places of loads

pub parts_at : (loads : List LoadOf) (place : ℕ) (load : LoadOf) → slice_get loads place ≡ Some load → (before : List LoadOf) × (after : List LoadOf) × (loads ≡ before ++ load ∷ after) × (length before ≡ place)
parts_at [] place load is = cc
parts_at (x ∷ loads) zero load is = let here : x ≡ load = cc in ([], loads, (λ i. here i ∷ loads), refl)
parts_at (x ∷ loads) (suc place) load is = let one = parts_at loads place load is in (x ∷ one.0, one.1, (λ i. x ∷ one.2 i), ap suc one.3)

pub among_at : (before after : List LoadOf) (load : LoadOf) → AmongLoads before load → (place : ℕ) × (place < length before) × (slice_get (before ++ after) place ≡ Some load)
among_at [] after load among = absurd among
among_at (x ∷ before) after load (inl here) = (0, omega arith, ap Some here)
among_at (x ∷ before) after load (inr there) = let one = among_at before after load there in (suc one.0, omega (arith, one.1), one.2)

pub at_among : (before : List LoadOf) (place : ℕ) (load : LoadOf) → slice_get before place ≡ Some load → AmongLoads before load
at_among [] place load is = cc
at_among (x ∷ before) zero load is = let here : x ≡ load = cc in inl here
at_among (x ∷ before) (suc place) load is = inr (at_among before place load is)
