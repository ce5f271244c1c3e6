use Rattle.std.proofs.Common.{rules, refl}
use Rattle.plain_evaluation.specs.Killed.{item_ids_going, item_owners_going}
use Rattle.plain_evaluation.proofs.Computes.{computes}
use Rattle.run_rows.specs.Parts.{number}
use Rattle.run_rows.proofs.states.lanes_share_a_store.Goals as goal

pub returns-clause-verdicts : goal.returns-clause-verdicts
returns-clause-verdicts c = record {
  grow = search rules;
  noted = (((refl, refl), ((refl, refl), tt)), (((1, number 3, refl, refl, refl), ((1, number 4, refl, refl, refl), ((refl, refl), tt))), tt));
}

pub returns-clause-disposed : goal.returns-clause-disposed
unfolding item_ids_going item_owners_going
returns-clause-disposed c = simp computes
