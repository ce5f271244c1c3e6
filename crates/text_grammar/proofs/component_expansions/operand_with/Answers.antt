use Rattle.text_grammar.proofs.Operands.{part_of}
use Rattle.text_grammar.proofs.component_expansions.operand_with.Goals as goal
use Rattle.text_grammar.specs.Operands.{operand}

pub returns : goal.returns
returns c = part_of c.whole_operand-whole.result.now (operand c.args.token.kind) c.args.count c.whole_operand-whole.ensures c.requires
