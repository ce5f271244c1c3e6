-- What is done apart from the rest of a state is what the meaning of component texts does with a state.
use Rattle.std.proofs.Common.{◌≡◌, ℕ, ◌+◌, ◌==◌, Bool, true, false, if◌then◌else◌, Option, Some, None, List, [], ◌∷◌, ◌++◌, find, refl}
use Rattle.std.specs.List.{list_any}
use Rattle.component_items.specs.declared.component.Attr.{Attr}
use Rattle.component_items.specs.declared.component.Item.{Item}
use Rattle.component_meaning.specs.State.{State, What, Declared, Frame, area_frame, if_frame, each_frame, element_frame, Open}
use Rattle.component_meaning.specs.Actions.{with_item, known_as, with_open, closed, with_attr, item_of}
use Rattle.component_frames.specs.Nest.{nest_in, with_nest, declaring, holding, opening, closing, taking_numbered}

holds : (i : Item) (a : State) (opened : List Open) → with_item i (record a { opened = opened }) ≡ with_nest (holding i (nest_in (record a { opened = opened }))) (record a { opened = opened })
holds i a [] = refl
holds i a (o ∷ outer) = refl

pub holding_agrees : (i : Item) (a : State) → with_item i a ≡ with_nest (holding i (nest_in a)) a
holding_agrees i a = holds i a a.opened

pub declaring_agrees : (what : What) (a : State) → known_as what a ≡ with_nest (declaring (record { name = a.name; id = a.next_id; what = what }) (nest_in a)) a
declaring_agrees what a = refl

pub opening_agrees : (frame : Frame) (a : State) → with_open frame a ≡ with_nest (opening frame (nest_in a)) a
opening_agrees frame a = refl

closes : (a : State) (frame : Frame) (outside : List Declared) (items : List Item) (outer : List Open) → let o : Open = record { frame = frame; outside = outside; items = items } in
    closed (record a { opened = o ∷ outer }) ≡ with_nest (closing (nest_in (record a { opened = o ∷ outer }))) (record a { opened = o ∷ outer })
closes a (area_frame id name owner) outside items outer = holds _ (record a { seen = outside }) outer
closes a (if_frame id cond) outside items outer = holds _ (record a { seen = outside }) outer
closes a (each_frame id rows) outside items outer = holds _ (record a { seen = outside }) outer
closes a (element_frame tag has_end attrs) outside items outer = holds _ a outer

closes_all : (a : State) (opened : List Open) → closed (record a { opened = opened }) ≡ with_nest (closing (nest_in (record a { opened = opened }))) (record a { opened = opened })
closes_all a [] = refl
closes_all a (o ∷ outer) = closes a o.frame o.outside o.items outer

pub closing_agrees : (a : State) → closed a ≡ with_nest (closing (nest_in a)) a
closing_agrees a = closes_all a a.opened

-- the attribute comes where one may
abbrev pub Takes : (ℕ → Attr) → ℕ → State → Type 0
Takes made count a = with_attr made count a ≡ taking_numbered (made a.next_id) count a

takes : (made : ℕ → Attr) (count : ℕ) (a : State) (frame : Frame) (outside : List Declared) (items : List Item) (outer : List Open) → Takes made count (record a { opened = record { frame = frame; outside = outside; items = items } ∷ outer })
takes made count a (area_frame id name owner) outside [] outer = refl
takes made count a (if_frame id cond) outside [] outer = refl
takes made count a (each_frame id rows) outside [] outer = refl
takes made count a (element_frame tag has_end attrs) outside [] outer = refl
takes made count a frame outside (i ∷ items) outer = refl

takes_all : (made : ℕ → Attr) (count : ℕ) (a : State) (opened : List Open) → Takes made count (record a { opened = opened })
takes_all made count a [] = refl
takes_all made count a (o ∷ outer) = takes made count a o.frame o.outside o.items outer

pub taking_agrees : (made : ℕ → Attr) (count : ℕ) (a : State) → Takes made count a
taking_agrees made count a = takes_all made count a a.opened
