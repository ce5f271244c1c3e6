-- What a component writes out makes sense.
use Rattle.component_items.specs.declared.component.Component.{Component}
use Rattle.component_items.specs.Kept.{IsKept}
use Rattle.plain_evaluation.specs.Written.{State, written_in}
use Rattle.plain_evaluation.specs.Keyed.{is_keyed}
use Rattle.plain_evaluation.specs.Sound.{IsSound}
use Rattle.plain_evaluation.specs.Fits.{RowsFit}
use Rattle.plain_evaluation.proofs.Comes.{names_come}
use Rattle.plain_evaluation.proofs.Differ.{places_are_apart}

pub makes_sense : (component : Component) (state : State) → IsKept component → RowsFit component state → IsSound (is_keyed component) (written_in component state)
makes_sense component state kept fits = record { differ = places_are_apart component state kept fits; back = names_come component state kept fits }
