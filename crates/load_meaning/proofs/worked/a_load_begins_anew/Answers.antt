use Rattle.std.proofs.Common.{Some}
use Rattle.plain_evaluation.specs.Rows.{number}
use Rattle.load_meaning.proofs.Rows.{who_round}
use Rattle.load_meaning.proofs.worked.a_load_begins_anew.Goals as goal

pub returns : goal.returns
returns c = who_round (Some (number 1)) (number 2) (record { key = Some (number 1); arrived = Some (number 1); asked = 3 })
