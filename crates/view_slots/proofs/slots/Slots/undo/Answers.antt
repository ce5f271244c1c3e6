use Rattle.std.proofs.Common.{List, map, sym, ap, subst, ◌∙◌}
use Rattle.std.proofs.lemmas.List.{with_items_is}
use Rattle.view_slots.specs.declared.slot.Slot.{Slot}
use Rattle.view_slots.specs.Home.{undone, home_undone}
use Rattle.view_slots.specs.Plain.{all_sides, home_of}
use Rattle.view_slots.specs.Shows.{Shows}
use Rattle.view_slots.proofs.Meaning.{undone_shows}
use Rattle.view_slots.proofs.slots.Slots.undo.Goals as goal

pub returns-clause-shows : goal.returns-clause-shows
returns-clause-shows c = λ seen parts key home mounted of is shown.
    (let items = with_items_is c.self.inside.slots c.undo_all.new.slots (c.undo_all.auto.slots ∙ c.as_mut_slice.ensures.len) in
    let whole = ap (home_of c.self.inside.base) items ∙ (λ i. record { base = c.self.inside.base; sides = (c.undo_all.ensures ∙ ap (λ (slots : List Slot). map undone (all_sides slots)) c.as_mut_slice.ensures.value) i }) ∙ ap home_undone c.self.view_is in
    subst (Shows mounted of) (sym (whole ∙ ap home_undone is)) (undone_shows seen parts key home mounted of shown))
