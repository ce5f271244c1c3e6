use Rattle.std.proofs.Common.{length, ap, ◌∙◌}
use Rattle.component_frames.specs.Nest.{Nest}
use Rattle.component_blocks.proofs.Around.{depth_is}
use Rattle.component_blocks.proofs.blocks.Blocks.depth.Goals as goal

pub returns-in-Some : goal.returns-in-Some
returns-in-Some c =
    depth_is c.self.inside.seen c.self.inside.innermost c.as_slice.result.now c.self.inside.outer c.in-Some.field-0 c.in-Some.is c.as_slice.ensures
    ∙ ap (λ (n : Nest). length n.opened) c.self.view_is
