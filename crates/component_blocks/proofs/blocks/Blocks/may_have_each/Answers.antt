use Rattle.std.proofs.Common.{ap, ◌∙◌}
use Rattle.component_items.specs.Kept.{may_have_each}
use Rattle.component_meaning.specs.State.{standing_in}
use Rattle.component_frames.specs.Nest.{Nest}
use Rattle.component_blocks.proofs.Around.{is_none_from, each_by_rows}
use Rattle.component_blocks.proofs.blocks.Blocks.may_have_each.Goals as goal

pub returns-in-Some : goal.returns-in-Some
returns-in-Some c =
    is_none_from c.in-Some.block.rows _ c.is_none.ensures
    ∙ each_by_rows c.self.inside.seen c.self.inside.innermost c.self.inside.outer c.in-Some.block c.in-Some.is c.self.invariant.around
    ∙ ap (λ (n : Nest). may_have_each (standing_in n.opened)) c.self.view_is
