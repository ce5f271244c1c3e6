use Rattle.still_readers.specs.Building.{weight}
use Rattle.still_readers.proofs.readers.Readers.+add_names.Given as goal

abbrev pub decreases-add_names : goal.decreases-add_names
decreases-add_names l = weight l.expr.now
