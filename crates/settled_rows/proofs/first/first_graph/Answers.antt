use Rattle.std.proofs.Common.{true, ap, ◌∙◌}
use Rattle.std.specs.Prelude.{replicate}
use Rattle.settled_rows.proofs.Begins.{first_of_plan}
use Rattle.settled_rows.proofs.first.first_graph.Goals as goal

pub returns : goal.returns
returns c =
    first_of_plan c.new.result c.args.plan c.in_ok-live.live.items c.args.codes.now
    (c.in_ok-live.ensures.items_if_clones_equal (λ y is. is) ∙ ap (λ n. replicate n true) c.len.ensures)
    c.new.ensures.plan c.new.ensures.live c.new.ensures.«open» c.new.ensures.base c.new.ensures.drawn c.new.ensures.paired c.new.ensures.sources c.new.ensures.derived
