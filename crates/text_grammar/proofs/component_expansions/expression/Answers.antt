use Rattle.std.proofs.Common.{sym, ◌∙◌}
use Rattle.text_grammar.specs.declared.component.Rule.TheVariants.{Expression}
use Rattle.text_grammar.proofs.Operands.{at_expression, at_production}
use Rattle.text_grammar.proofs.component_expansions.expression.Goals as goal

pub returns-then-contains : goal.returns-then-contains
returns-then-contains c = at_production c.args.token Expression c.production.result.now c.production.ensures

pub returns-else-contains : goal.returns-else-contains
returns-else-contains c = at_expression c.args.token c.operand_with.result.now (sym c.contains.ensures ∙ c.if-contains.false) c.operand_with.ensures
