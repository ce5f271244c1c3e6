use Rattle.std.proofs.Common.{◌++◌, ◌∙◌}
use Rattle.id_owners.specs.Table.{items_owned}
use Rattle.id_owners.proofs.Alike.{walked}
use Rattle.id_owners.proofs.table.IdOwners.new.Goals as goal

pub returns : goal.returns
returns c =
    c.in_ok-put_owners.ensures
    ∙ (λ i. c.new-owners.ensures i ++ items_owned (c.items.ensures.items i) 0)
    ∙ walked c.args.component.now c.items.ensures.kept
