use Rattle.component_items.specs.Ids.{item_owners}
use Rattle.plain_evaluation.specs.Held.{item_first}
use Rattle.plain_evaluation.specs.Keyed.{item_keyed}
use Rattle.plain_evaluation.specs.Page.{item_bytes}
use Rattle.plain_evaluation.specs.Written.{write_item}
use Rattle.plain_evaluation.proofs.Computes.{computes}
use Rattle.plain_evaluation.proofs.worked.marks.Goals as goal

pub returns-clause-escapes : goal.returns-clause-escapes
unfolding item_first write_item item_bytes item_owners item_keyed
returns-clause-escapes c = simp computes

pub returns-clause-marks : goal.returns-clause-marks
unfolding item_first write_item item_bytes item_owners item_keyed
returns-clause-marks c = simp computes
