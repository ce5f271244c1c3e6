use Rattle.std.proofs.Common.{unwrap_or, ap, ◌∙◌}
use Rattle.values.specs.declared.code.Code.TheVariants.{Empty}
use Rattle.load_polls.proofs.Lists.{found_value}
use Rattle.load_polls.proofs.polling.row_code.Goals as goal

pub returns : goal.returns
returns c = c.unwrap_or.ensures ∙ ap (λ o. unwrap_or o Empty) c.value.ensures ∙ found_value c.args.graph.now.rows c.args.row
