use Rattle.std.proofs.Common.{◌≡◌, true, sym, subst, ◌∙◌}
use Rattle.plain_evaluation.specs.Written.{place_of, written_in}
use Rattle.plain_evaluation.specs.Sound.{has_place}
use Rattle.plan_meaning.specs.Layout.{rows_of}
use Rattle.plan_meaning.proofs.Present.{written_as_due}
use Rattle.plan_meaning.proofs.Rows.{map_at, row_among, among_has, none_found, not_there}
use Rattle.plan_meaning.proofs.There.{due}
use Rattle.plan_meaning.proofs.laws.places_are_where_they_are_due.Goals as goal

pub returns-clause-written : goal.returns-clause-written
returns-clause-written c = written_as_due

pub returns-clause-none : goal.returns-clause-none
returns-clause-none c component state kept fits nested p = (
  λ none. sym (written_as_due component state kept fits nested p) ∙ none_found (written_in component state) p none,
  λ gone. not_there (written_in component state) p (written_as_due component state kept fits nested p ∙ gone),
)

pub returns-clause-row : goal.returns-clause-row
returns-clause-row c component state kept fits row p at_row =
    let one = map_at place_of (rows_of (written_in component state)) row p at_row in
    due component state kept fits p (subst (λ q. has_place (written_in component state) q ≡ true) one.2 (among_has (written_in component state) one.0 (row_among (written_in component state) row one.0 one.1)))
