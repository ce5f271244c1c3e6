use Rattle.std.proofs.Common.{ap, ◌∙◌}
use Rattle.plain_evaluation.specs.Scratch.{value_by}
use Rattle.load_table.specs.Table.{ResourceOf}
use Rattle.load_table.proofs.Puts.{resource_there, resource_missing}
use Rattle.load_table.proofs.resources.value_of.Goals as goal

pub returns-in-Some : goal.returns-in-Some
returns-in-Some c = c.value.ensures ∙ ap (λ (r : ResourceOf). value_by r.pairs c.args.key) (resource_there c.args.resources.now.entries c.args.id c.in-Some.resource.now c.in-Some.ensures.value)

pub returns-in-None : goal.returns-in-None
returns-in-None c = ap (λ (r : ResourceOf). value_by r.pairs c.args.key) (resource_missing c.args.resources.now.entries c.args.id c.in-None.ensures.value)
