use Rattle.std.proofs.Common.{ap, ◌∙◌}
use Rattle.still_graph.proofs.still.Still.settle.Goals as goal
