use Rattle.still_readers.specs.Building.{weight}
use Rattle.still_rows.proofs.lawful.+names_lawfully.Given as goal

abbrev pub decreases-names_lawfully : goal.decreases-names_lawfully
decreases-names_lawfully l = weight l.expr.now
