use Rattle.std.proofs.Common.{unwrap_or, ap, ◌∙◌}
use Rattle.values.specs.declared.code.Code.TheVariants.{Empty}
use Rattle.plain_evaluation.specs.Scratch.{value_by}
use Rattle.load_table.specs.Table.{ResourceOf}
use Rattle.load_table.proofs.Puts.{value_found}
use Rattle.load_table.proofs.resource.Resource.value.Goals as goal

pub returns : goal.returns
returns c =
    c.unwrap_or.ensures
    ∙ ap (λ found. unwrap_or found Empty) (c.copied.ensures ∙ c.get.ensures.value)
    ∙ value_found c.self.inside.by_key.entries c.args.key
    ∙ ap (λ (resource : ResourceOf). value_by resource.pairs c.args.key) c.self.view_is
