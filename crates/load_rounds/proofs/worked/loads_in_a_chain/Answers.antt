use Rattle.std.proofs.Common.{ap, ◌∙◌}
use Rattle.plain_evaluation.specs.Scratch.{pending}
use Rattle.load_meaning.specs.Polls.{Progress, all_promptly, rounds_promptly}
use Rattle.load_rounds.specs.Rows.{chain}
use Rattle.load_rounds.proofs.Chain.{chain_starts, after_three, after_four, last_pending, none_pending, four_enough}
use Rattle.load_rounds.proofs.worked.loads_in_a_chain.Goals as goal

pub returns-clause-three : goal.returns-clause-three
unfolding rounds_promptly
returns-clause-three c = ap (λ (p : Progress). pending chain (all_promptly chain (all_promptly chain (all_promptly chain p))).held) chain_starts ∙ ap (λ (p : Progress). pending chain p.held) after_three ∙ last_pending

pub returns-clause-four : goal.returns-clause-four
unfolding rounds_promptly
returns-clause-four c = ap (λ (p : Progress). pending chain (all_promptly chain (all_promptly chain (all_promptly chain (all_promptly chain p)))).held) chain_starts ∙ ap (λ (p : Progress). pending chain p.held) after_four ∙ none_pending

pub returns-clause-enough : goal.returns-clause-enough
returns-clause-enough c = four_enough
