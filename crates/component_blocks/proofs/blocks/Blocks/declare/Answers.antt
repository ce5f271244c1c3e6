use Rattle.component_blocks.proofs.Whole.{whole_declared, nest_declared}
use Rattle.component_blocks.proofs.blocks.Blocks.declare.Goals as goal

pub invariant_of-self : goal.invariant_of-self
invariant_of-self c = whole_declared c.declare.result c.self.inside c.declare.new.self c.args.declaration c.self.invariant c.declare.ensures.seen c.declare.ensures.unchanged

pub returns : goal.returns
returns c = nest_declared c.declare.result c.self.inside c.args.self.now c.declare.new.self c.args.declaration c.self.invariant c.self.view_is c.declare.ensures.seen
