use Rattle.std.proofs.Common.{◌≡◌, ◌++◌, [], ◌∙◌}
use Rattle.load_table.specs.Loads.{loads_among}
use Rattle.load_table.specs.Table.{after_by, pairs_by, loads_with, resources_told, resources_put}
use Rattle.load_table.proofs.Found.{all_found}
use Rattle.load_table.proofs.table.LoadTable.new.Goals as goal

pub returns : goal.returns
returns c =
    let component = c.args.component.now in
    let es = c.put_resources.new.resources.entries in
    let put : es ≡ resources_put [] (resources_told component.items) = c.in_ok-put_resources.ensures ∙ (λ i. resources_put (c.new-resources.ensures.empty i) (resources_told (c.items-items.ensures.items i))) in
    c.in_ok-put_loads.ensures
    ∙ (λ i. loads_with es (c.new-loads.ensures i) ++ loads_among (pairs_by es) (after_by es) (c.items-items.ensures.items i))
    ∙ (λ i. loads_among (pairs_by (put i)) (after_by (put i)) component.items)
    ∙ all_found component c.items-items.ensures.kept
