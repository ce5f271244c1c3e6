use Rattle.std.proofs.Common.{◌≡◌, ap, ◌∙◌, Some, None, [], ◌∷◌}
use Rattle.async_derived.specs.declared.loading.Loading.{Loading}
use Rattle.async_derived.specs.Loads.{first_load}
use Rattle.plain_evaluation.specs.Rows.{number, who, who_held}
use Rattle.plain_evaluation.proofs.Computes.{computes}
use Rattle.load_table.specs.Loads.{item_loads}
use Rattle.load_meaning.specs.Polls.{Progress, all_promptly, rounds_promptly}
use Rattle.load_meaning.proofs.Rows.{who_start, who_starts, who_round}
use Rattle.load_meaning.proofs.worked.a_load_arrives.Goals as goal

abbrev waiting : Loading
waiting = record { key = Some (number 1); arrived = None; asked = 1 }

abbrev waiting_on : Loading
waiting_on = record { key = Some (number 1); arrived = None; asked = 2 }

abbrev there : Loading
there = record { key = Some (number 1); arrived = Some (number 1); asked = 3 }

first_round : all_promptly who who_start ≡ record { held = who_held None (number 1); loadings = waiting ∷ [] }
first_round = who_round None (number 1) first_load

second_round : all_promptly who (all_promptly who who_start) ≡ record { held = who_held None (number 1); loadings = waiting_on ∷ [] }
second_round = ap (all_promptly who) first_round ∙ who_round None (number 1) waiting

third_round : all_promptly who (all_promptly who (all_promptly who who_start)) ≡ record { held = who_held (Some (number 1)) (number 1); loadings = there ∷ [] }
third_round = ap (all_promptly who) second_round ∙ who_round None (number 1) waiting_on

last_round : all_promptly who (all_promptly who (all_promptly who (all_promptly who who_start))) ≡ record { held = who_held (Some (number 1)) (number 1); loadings = there ∷ [] }
last_round = ap (all_promptly who) third_round ∙ who_round (Some (number 1)) (number 1) there

pub returns-clause-waits : goal.returns-clause-waits
returns-clause-waits c = ap (all_promptly who) who_starts ∙ first_round

pub returns-clause-waits_again : goal.returns-clause-waits_again
unfolding rounds_promptly
returns-clause-waits_again c = ap (λ (p : Progress). all_promptly who (all_promptly who p)) who_starts ∙ second_round

pub returns-clause-arrives : goal.returns-clause-arrives
unfolding rounds_promptly
returns-clause-arrives c = ap (λ (p : Progress). all_promptly who (all_promptly who (all_promptly who p))) who_starts ∙ third_round

pub returns-clause-stays : goal.returns-clause-stays
unfolding rounds_promptly
returns-clause-stays c = ap (λ (p : Progress). all_promptly who (all_promptly who (all_promptly who (all_promptly who p)))) who_starts ∙ last_round

pub returns-clause-enough : goal.returns-clause-enough
unfolding item_loads
returns-clause-enough c = simp computes
