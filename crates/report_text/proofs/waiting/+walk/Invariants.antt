use Rattle.std.proofs.Common.{◌≡◌, ◌++◌, ℕ, drop}
use Rattle.std.specs.List.{flat_map}
use Rattle.component_items.specs.Around.{items_listed}
use Rattle.component_items.specs.Own.{place}
use Rattle.run_meaning.specs.Ending.{waiting_line}
use Rattle.report_text.specs.Found.{AreFound}
use Rattle.report_text.proofs.waiting.+walk.Given as goal

abbrev pub invariant-put_among-loop-item : goal.invariant-put_among-loop-item
invariant-put_among-loop-item l =
    (l.path.items ≡ l.initial.path.items)
    × ((owner : ℕ) → AreFound l.component (items_listed l.items (place owner l.initial.path.items)) →
    (l.out.items ++ flat_map (waiting_line l.component) l.others ≡ l.initial.out.items ++ flat_map (waiting_line l.component) l.loads)
    × AreFound l.component (items_listed (drop l.item-index l.items) (place owner l.initial.path.items)))
