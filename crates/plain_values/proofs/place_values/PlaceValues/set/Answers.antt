use Rattle.std.proofs.Common.{cond, unwrap_or, Some, ap, sym, ◌∙◌}
use Rattle.std.specs.HashMap.{get}
use Rattle.values.specs.declared.code.Code.TheVariants.{Empty}
use Rattle.plain_evaluation.specs.Place.{same_place}
use Rattle.plain_values.proofs.PlaceLemmas.{eq_is_same_place, value_found}
use Rattle.plain_values.proofs.place_values.PlaceValues.set.Goals as goal

pub returns : goal.returns
returns c = λ i p. (
    ap (λ found. unwrap_or found Empty) ((λ j. get (sym eq_is_same_place j) c.insert.new.self p) ∙ c.in_ok-insert.ensures.updates.0 p ∙ (λ j. cond (eq_is_same_place j c.args.place p) (Some c.args.code) (get (eq_is_same_place j) c.args.self.now.codes p)))
    ∙ value_found (same_place c.args.place p) (get same_place c.args.self.now.codes p) c.args.code) i
