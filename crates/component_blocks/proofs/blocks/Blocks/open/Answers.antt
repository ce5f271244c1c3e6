use Rattle.std.proofs.Common.{◌∙◌, ap, sym}
use Rattle.component_meaning.specs.State.{standing_in, rows_in, inside, rows_of}
use Rattle.component_frames.specs.declared.block.Block.{Block}
use Rattle.component_frames.specs.Nest.{Nest}
use Rattle.component_frames.specs.Blocks.{frame_of}
use Rattle.component_blocks.proofs.Whole.{Begins, whole_opened, nest_opened}
use Rattle.component_blocks.proofs.blocks.Blocks.open.Goals as goal

abbrev block : goal.After-put_inside → Block
block c = record { frame = c.args.frame; outside = c.len-outside.result; items = c.new.result; branched = c.branched_within-branched.result; rows = c.in_ok-rows.rows }

begins : (c : goal.After-put_inside) → Begins c.self.inside (block c)
begins c = record {
  at = c.len-outside.ensures;
  empty = c.new.ensures;
  branched = c.branched_within-branched.ensures ∙ ap (λ (n : Nest). (inside (frame_of c.args.frame) (standing_in n.opened)).branched) (sym c.self.view_is);
  rows = c.in_ok-rows.ensures ∙ ap (λ (n : Nest). rows_of (frame_of c.args.frame) (rows_in n.opened)) (sym c.self.view_is);
}

pub invariant_of-self : goal.invariant_of-self
invariant_of-self c = whole_opened c.put_inside.result c.self.inside (block c) c.put_inside.new.innermost c.put_inside.new.outer c.self.invariant (begins c) c.put_inside.ensures.ok c.put_inside.ensures.err

pub returns : goal.returns
returns c = nest_opened c.put_inside.result c.self.inside c.args.self.now (block c) c.put_inside.new.innermost c.put_inside.new.outer c.self.view_is (begins c) c.put_inside.ensures.ok
