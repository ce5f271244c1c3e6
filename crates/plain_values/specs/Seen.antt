-- What the code has, as the definitions say it.
use Rattle.std.specs.Prelude.{unwrap_or, Option}
use Rattle.std.specs.Option.{option_map}
use Rattle.std.specs.HashMap.{get}
use Rattle.values.specs.declared.code.Code.TheVariants.{Empty}
use Rattle.plain_evaluation.specs.Place.{same_place, of_row}
use Rattle.plain_evaluation.specs.Scratch.{Values}
use Rattle.plain_evaluation.specs.Written as written
use Rattle.plain_evaluation.specs.Written.{state_of}
use Rattle.plan_lines.specs.Flags.{flag_at}
use Rattle.plain_values.specs.declared.place_values.PlaceValues.{PlaceValues}
use Rattle.plain_values.specs.declared.evaluation.Evaluation.{Evaluation}
use Rattle.plain_values.specs.declared.evaluation.RowAround.{RowAround}
use Rattle.plain_values.specs.Evaluated.{Given}

abbrev pub values_seen : PlaceValues → Values
values_seen values p = unwrap_or (get same_place values.codes p) Empty

abbrev pub row_seen : Option RowAround → Option written.RowAround
row_seen row = option_map (λ r. record { store = r.store; key = r.key }) row

abbrev pub given_in : Evaluation → Given
given_in evaluation = record {
  state = state_of evaluation.held.now.held;
  keyed = flag_at evaluation.keyed.now;
  by_key = λ id key. values_seen evaluation.pairs.now (of_row id key);
}
