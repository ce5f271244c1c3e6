-- Rows that go over by number, and their values.
use Rattle.std.proofs.Common.{◌≡◌, ℕ, List, length, slice_get, Option, Some, None, sym, ap, ◌∙◌}
use Rattle.values.specs.declared.plan.PlanNode.{PlanNode}
use Rattle.values.specs.Packing.{unpacked}
use Rattle.sources.specs.declared.opening.Opened.{Opened}
use Rattle.sources.specs.Rows.{value_in}
use Rattle.sources.proofs.RowLemmas.{code_in-at}
use Rattle.plain_evaluation.specs.Place.{Place}
use Rattle.plan_meaning.specs.Carried.{AreApart, rows_to, moved_row}
use Rattle.plan_meaning.specs.Layout.{row_of}
use Rattle.plan_meaning.proofs.Rows.{at_map, map_at, row_got}
use Rattle.carried_rows.specs.Moved.{HasMoved, GoOver, ArePaired}
use Rattle.carried_rows.proofs.Good.{there_is}

pub by_number : (old new : List Place) (rows first after : List Opened) → AreApart old → AreApart new → length after ≡ length new → ((row later : ℕ) (one two : Opened) → slice_get (rows_to old new) row ≡ Some (Some later) → slice_get rows row ≡ Some one → slice_get after later ≡ Some two → HasMoved (moved_row old new) one two) → ((later : ℕ) → ((row : ℕ) → slice_get (rows_to old new) row ≡ Some (Some later) → ⊥) → slice_get after later ≡ slice_get first later) → GoOver old new rows first after
by_number old new rows first after apart apart_later filled kept fresh = record {
  filled = filled;
  kept = λ row later p one two at_old at_new at_row at_after. kept row later one two (at_map (row_of new) old row p at_old ∙ ap Some (apart_later later p at_new)) at_row at_after;
  fresh = λ later p at_new none. fresh later (λ row goes. (
      let q = map_at (row_of new) old row (Some later) goes in
      let there = row_got new q.0 later q.2 in
      clash q.0 p row (same q.0 p there at_new) (apart row q.0 q.1) none));
}
  where
    same : {o : Option Place} (q p : Place) → o ≡ Some q → o ≡ Some p → q ≡ p
    same q p here there = cc

    clash : (q p : Place) (row : ℕ) → q ≡ p → row_of old q ≡ Some row → row_of old p ≡ None → ⊥
    clash q p row alike some none = let moved : row_of old q ≡ row_of old p = ap (row_of old) alike in no (sym some ∙ moved ∙ none)
      where
        no : Some row ≡ None → ⊥
        no h = cc

pub values_kept : (old new : List Place) (nodes : List PlanNode) (rows first after : List Opened) → ArePaired old nodes rows → GoOver old new rows first after → (row later : ℕ) (p : Place) → slice_get old row ≡ Some p → slice_get new later ≡ Some p → value_in after later ≡ value_in rows row
values_kept old new nodes rows first after was over row later p at_old at_new =
    let one = there_is old rows row p (sym was.filled) at_old in
    let two = there_is new after later p (sym over.filled) at_new in
    let moved = over.kept row later p one.0 two.0 at_old at_new one.1 two.1 in
    ap unpacked (code_in-at after later two.0 two.1 ∙ moved.code ∙ sym (code_in-at rows row one.0 one.1))
