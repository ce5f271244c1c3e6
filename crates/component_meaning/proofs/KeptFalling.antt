-- The ids of what is seen fall from one declaration to the one before.
use Rattle.std.proofs.Common.{◌≡◌, ℕ, suc, ◌+◌, ◌<◌, ◌≤◌, true, List, [], ◌∷◌, length, refl, sym, subst, arith, lt-ltb}
use Rattle.std.specs.List.{list_all}
use Rattle.grammar.specs.Keeping.{Keeps}
use Rattle.grammar.proofs.Theory.{and_cases, and_both}
use Rattle.text_grammar.specs.Component.{table}
use Rattle.text_grammar.specs.declared.component.Action.{Action}
use Rattle.text_grammar.specs.declared.component.Action.TheVariants as action
use Rattle.text_grammar.specs.declared.component.Terminal.{Terminal}
use Rattle.text_grammar.specs.declared.component.Terminal.TheVariants as terminal
use Rattle.text_lexer.specs.declared.token.Token.{Token}
use Rattle.component_items.specs.declared.component.Attr.{Attr}
use Rattle.component_items.specs.declared.component.Attr.TheVariants as attr
use Rattle.component_items.specs.declared.component.Item.{Item}
use Rattle.component_items.specs.declared.component.Item.TheVariants as item
use Rattle.component_meaning.specs.State.{State, start, Declared, What, Frame, area_frame, if_frame, each_frame, element_frame, Open, signal_name, memo_name, effect_name, resource_name, load_name, store_name, area_name}
use Rattle.component_meaning.specs.Names.{id_of}
use Rattle.component_meaning.specs.Effects.{effect}
use Rattle.component_meaning.specs.Actions.{whole, taken, known_as, with_item, with_numbered, closed, with_attr, perform}
use Rattle.component_meaning.specs.Meaning.{semantics}
use Rattle.component_meaning.proofs.KeptTokens.{accepted}
use Rattle.component_items.proofs.Longer.{all_more}
use Rattle.component_meaning.proofs.KeptNames.{falls, falls_more}

pub record AreFalling (bound : ℕ) (seen : List Declared) (opened : List Open) : Type 0 where
  pub now : falls bound seen ≡ true
  pub outside : list_all (λ (o : Open). falls bound o.outside) opened ≡ true

abbrev pub Fall : State → Type 0
Fall a = AreFalling a.next_id a.seen a.opened

more : (bound bound' : ℕ) (seen : List Declared) (opened : List Open) → bound ≤ bound' → AreFalling bound seen opened → AreFalling bound' seen opened
more bound bound' seen opened within h = record {
  now = falls_more bound bound' seen within h.now;
  outside = all_more (λ (o : Open). falls bound o.outside) (λ (o : Open). falls bound' o.outside) (λ o f. falls_more bound bound' o.outside within f) opened h.outside;
}

declared_more : (bound bound' : ℕ) (name : ℕ) (what : What) (seen : List Declared) (opened : List Open) → bound < bound' → AreFalling bound seen opened
    → AreFalling bound' (record { name = name; id = bound; what = what } ∷ seen) opened
declared_more bound bound' name what seen opened within h = record {
  now = and_both _ _ (lt-ltb bound bound' within) h.now;
  outside = (more bound bound' seen opened (omega arith) h).outside;
}

item_falls : (i : Item) (a : State) (opened : List Open) → AreFalling a.next_id a.seen opened → Fall (with_item i (record a { opened = opened }))
item_falls i a [] h = h
item_falls i a (o ∷ outer) h = record { now = h.now; outside = h.outside }

numbered_falls : (made : ℕ → Item) (count : ℕ) (a : State) → AreFalling (a.next_id + count) a.seen a.opened → Fall (with_numbered made count a)
numbered_falls made count a h = item_falls (made a.next_id) (record a { next_id = a.next_id + count }) a.opened h

named_falls : (made : ℕ → Item) (count : ℕ) (what : What) (a : State) → Fall a → 0 < count → Fall (with_numbered made count (known_as what a))
named_falls made count what a h some = numbered_falls made count (known_as what a) (declared_more a.next_id (a.next_id + count) a.name what a.seen a.opened (omega arith) h)

closed_falls : (a : State) (opened : List Open) → AreFalling a.next_id a.seen opened → Fall (closed (record a { opened = opened }))
closed_falls a [] h = h
closed_falls a (o ∷ outer) h =
    let both = and_cases (falls a.next_id o.outside) _ h.outside in
    at o.frame o.outside o.items both.0 (record { now = h.now; outside = both.1 })
  where
    at : (frame : Frame) (outside : List Declared) (inner : List Item) → falls a.next_id outside ≡ true → AreFalling a.next_id a.seen outer
        → Fall (closed (record a { opened = record { frame = frame; outside = outside; items = inner } ∷ outer }))
    at (area_frame id name owner) outside inner falls_there h = item_falls _ (record a { seen = outside }) outer (record { now = falls_there; outside = h.outside })
    at (if_frame id cond) outside inner falls_there h = item_falls _ (record a { seen = outside }) outer (record { now = falls_there; outside = h.outside })
    at (each_frame id rows) outside inner falls_there h = item_falls _ (record a { seen = outside }) outer (record { now = falls_there; outside = h.outside })
    at (element_frame tag has_end attrs) outside inner falls_there h = item_falls _ a outer h

attr_falls : (made : ℕ → Attr) (count : ℕ) (a : State) (opened : List Open) → AreFalling a.next_id a.seen opened → Fall (with_attr made count (record a { opened = opened }))
attr_falls made count a [] h = h
attr_falls made count a (o ∷ outer) h = at o.frame o.outside o.items h
  where
    at : (frame : Frame) (outside : List Declared) (inner : List Item) → AreFalling a.next_id a.seen (record { frame = frame; outside = outside; items = inner } ∷ outer)
        → Fall (with_attr made count (record a { opened = record { frame = frame; outside = outside; items = inner } ∷ outer }))
    at frame outside (i ∷ inner) h = h
    at (area_frame id name owner) outside [] h = h
    at (if_frame id cond) outside [] h = h
    at (each_frame id rows) outside [] h = h
    at (element_frame tag has_end attrs) outside [] h =
        let next = more a.next_id (a.next_id + count) a.seen (record { frame = element_frame tag has_end attrs; outside = outside; items = [] } ∷ outer) (omega arith) h in
        record { now = next.now; outside = next.outside }

opened_falls : (frame : Frame) (bound bound' : ℕ) (seen : List Declared) (opened : List Open) → bound ≤ bound' → AreFalling bound seen opened
    → AreFalling bound' seen (record { frame = frame; outside = seen; items = [] } ∷ opened)
opened_falls frame bound bound' seen opened within h = let next = more bound bound' seen opened within h in record { now = next.now; outside = and_both _ _ next.now next.outside }

perform_falls : (d : Action) (a : State) → Fall a → Fall (perform d a)
perform_falls action.BeginExpression a h = h
perform_falls action.MakeSignal a h = named_falls (λ id. item.Signal id a.name a.literal) 1 signal_name a h (omega arith)
perform_falls action.MakeMemo a h = named_falls (λ id. item.Memo id a.name (whole a)) 1 memo_name (taken a) h (omega arith)
perform_falls action.MakeEffect a h = named_falls (λ id. item.Effect id a.name (whole a)) 1 effect_name (taken a) h (omega arith)
perform_falls action.BeginEntries a h = h
perform_falls action.AddValue a h = h
perform_falls action.MakeResource a h =
    numbered_falls (λ id. item.Resource id a.name a.number a.keys a.values) 1 (record (known_as resource_name a) { keys = []; values = [] })
    (declared_more a.next_id (a.next_id + 1) a.name resource_name a.seen a.opened (omega arith) h)
perform_falls action.MakeLoad a h = named_falls (λ id. item.Load id a.name (id_of a.used) (whole a)) 2 load_name (taken a) h (omega arith)
perform_falls action.MakeStore a h =
    numbered_falls (λ id. item.Store id a.name a.number a.fields a.values) (2 + length a.fields) (record (known_as (store_name a.fields) a) { fields = []; values = [] })
    (declared_more a.next_id (a.next_id + (2 + length a.fields)) a.name (store_name a.fields) a.seen a.opened (omega arith) h)
perform_falls action.MakeCleanup a h = item_falls (item.Cleanup a.written) a a.opened h
perform_falls action.MakeText a h = item_falls (item.Text a.written) a a.opened h
perform_falls action.MakeShown a h = numbered_falls (λ id. item.Shown id (whole a)) 1 (taken a) (more a.next_id (a.next_id + 1) a.seen a.opened (omega arith) h)
perform_falls action.OpenArea a h =
    opened_falls (area_frame a.next_id a.name a.next_owner) (suc a.next_id) (suc a.next_id) (known_as area_name a).seen a.opened (omega arith) (declared_more a.next_id (suc a.next_id) a.name area_name a.seen a.opened (omega arith) h)
perform_falls action.OpenIf a h = opened_falls _ a.next_id (suc a.next_id) a.seen a.opened (omega arith) h
perform_falls action.OpenEach a h = opened_falls _ a.next_id (suc a.next_id) a.seen a.opened (omega arith) h
perform_falls action.OpenElement a h = opened_falls _ a.next_id a.next_id a.seen a.opened (omega arith) h
perform_falls action.OpenVoid a h = opened_falls _ a.next_id a.next_id a.seen a.opened (omega arith) h
perform_falls action.Close a h = closed_falls a a.opened h
perform_falls action.NameAttribute a h = h
perform_falls action.MakeBare a h = attr_falls (λ id. attr.Bare a.name) 0 a a.opened h
perform_falls action.MakeFixed a h = attr_falls (λ id. attr.Fixed a.name a.written) 0 a a.opened h
perform_falls action.MakeShownAttribute a h = attr_falls (λ id. attr.Shown a.name id (whole a)) 1 (taken a) a.opened h
perform_falls action.MakeLiteral a h = h
perform_falls (action.MakeBinary op) a h = h
perform_falls action.MakeIf a h = h

effect_falls : (text : List ℕ) (t : Terminal) (a : State) (x : Token) → Fall a → Fall (effect text t a x)
effect_falls text terminal.Component a x h = h
effect_falls text _ a x h = h

pub start_falls : Fall start
start_falls = record { now = refl; outside = refl }

pub keeps_falling : (bytes : List ℕ) → Keeps table (semantics bytes) Fall
keeps_falling bytes = record {
  terminal = λ w a b x has takes h.
      let is = accepted bytes w a x.token x.next b takes in
      subst Fall (sym is.after) (effect_falls bytes w a is.token h);
  action = perform_falls;
}
