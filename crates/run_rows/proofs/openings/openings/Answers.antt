use Rattle.component_items.specs.Ids.{item_owners}
use Rattle.values.proofs.Evaluation.{value_of-If}
use Rattle.plain_evaluation.specs.Held.{item_first}
use Rattle.plain_evaluation.specs.Keyed.{item_keyed}
use Rattle.plain_evaluation.specs.Origins.{tell_item}
use Rattle.plain_evaluation.specs.Written.{write_item}
use Rattle.plain_evaluation.proofs.Computes.{computes}
use Rattle.plan_meaning.specs.Owners.{item_owning}
use Rattle.plan_meaning.proofs.Computes.{lays_out}
use Rattle.plan_meaning.proofs.Renamed.{renamed-If}
use Rattle.run_rows.proofs.openings.openings.Goals as goal

pub returns-clause-branch : goal.returns-clause-branch
unfolding item_first write_item item_owners item_keyed item_owning tell_item
returns-clause-branch c = record { held = simp (computes, lays_out, renamed-If, value_of-If); plan = simp (computes, lays_out, renamed-If, value_of-If); places = simp (computes, lays_out, renamed-If, value_of-If); values = simp (computes, lays_out, renamed-If, value_of-If) }

pub returns-clause-remainder : goal.returns-clause-remainder
unfolding item_first write_item item_owners item_keyed item_owning tell_item
returns-clause-remainder c = record { held = simp (computes, lays_out, renamed-If, value_of-If); plan = simp (computes, lays_out, renamed-If, value_of-If); places = simp (computes, lays_out, renamed-If, value_of-If); values = simp (computes, lays_out, renamed-If, value_of-If) }

pub returns-clause-equal : goal.returns-clause-equal
unfolding item_first write_item item_owners item_keyed item_owning tell_item
returns-clause-equal c = record { held = simp (computes, lays_out, renamed-If, value_of-If); plan = simp (computes, lays_out, renamed-If, value_of-If); places = simp (computes, lays_out, renamed-If, value_of-If); values = simp (computes, lays_out, renamed-If, value_of-If) }

pub returns-clause-diamond : goal.returns-clause-diamond
unfolding item_first write_item item_owners item_keyed item_owning tell_item
returns-clause-diamond c = record { held = simp (computes, lays_out, renamed-If, value_of-If); plan = simp (computes, lays_out, renamed-If, value_of-If); places = simp (computes, lays_out, renamed-If, value_of-If); values = simp (computes, lays_out, renamed-If, value_of-If) }

pub returns-clause-store : goal.returns-clause-store
unfolding item_first write_item item_owners item_keyed item_owning tell_item
returns-clause-store c = record { held = simp (computes, lays_out, renamed-If, value_of-If); plan = simp (computes, lays_out, renamed-If, value_of-If); places = simp (computes, lays_out, renamed-If, value_of-If); values = simp (computes, lays_out, renamed-If, value_of-If) }

pub returns-clause-area : goal.returns-clause-area
unfolding item_first write_item item_owners item_keyed item_owning tell_item
returns-clause-area c = record { held = simp (computes, lays_out, renamed-If, value_of-If); plan = simp (computes, lays_out, renamed-If, value_of-If); places = simp (computes, lays_out, renamed-If, value_of-If); values = simp (computes, lays_out, renamed-If, value_of-If) }

pub returns-clause-effect : goal.returns-clause-effect
unfolding item_first write_item item_owners item_keyed item_owning tell_item
returns-clause-effect c = record { held = simp (computes, lays_out, renamed-If, value_of-If); plan = simp (computes, lays_out, renamed-If, value_of-If); places = simp (computes, lays_out, renamed-If, value_of-If); values = simp (computes, lays_out, renamed-If, value_of-If) }

pub returns-clause-gone : goal.returns-clause-gone
unfolding item_first write_item item_owners item_keyed item_owning tell_item
returns-clause-gone c = record { held = simp (computes, lays_out, renamed-If, value_of-If); plan = simp (computes, lays_out, renamed-If, value_of-If); places = simp (computes, lays_out, renamed-If, value_of-If); values = simp (computes, lays_out, renamed-If, value_of-If) }
