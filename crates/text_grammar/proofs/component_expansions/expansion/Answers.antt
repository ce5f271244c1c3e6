use Rattle.text_grammar.proofs.Operands.{at_atom, at_term, at_sum, at_production}
use Rattle.text_grammar.proofs.component_expansions.expansion.Goals as goal

pub returns-in-Sum : goal.returns-in-Sum
returns-in-Sum c = rw c.in-Sum.is (at_sum c.args.token c.operand_with.result.now c.operand_with.ensures)

pub returns-in-Term : goal.returns-in-Term
returns-in-Term c = rw c.in-Term.is (at_term c.args.token c.operand_with-in-Term.result.now c.operand_with-in-Term.ensures)

pub returns-in-Atom : goal.returns-in-Atom
returns-in-Atom c = rw c.in-Atom.is (at_atom c.args.token c.operand_with-in-Atom.result.now c.operand_with-in-Atom.ensures)

pub returns-in_default : goal.returns-in_default
returns-in_default c = at_production c.args.token c.args.rule c.production.result.now c.production.ensures
