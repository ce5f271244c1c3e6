use Rattle.still_readers.specs.Building.{weight}
use Rattle.still_rows.proofs.fresh.+count_names.Given as goal

abbrev pub decreases-count_names : goal.decreases-count_names
decreases-count_names l = weight l.expr.now
