-- What a loader is asked, and what the loaders of this crate answer.
use Rattle.std.specs.Prelude.{◌≡◌, ◌↔◌, ℕ, if◌then◌else◌, nat_le}
use Rattle.values.specs.declared.code.Code.{Code}
use Rattle.outside.specs.Counts.{next_count}
use Rattle.outside.specs.Fallible.{Fallible, FailsNextAsk, after_ask}
use Rattle.outside.specs.Prompt.{prompt_arrival}
use Rattle.outside.specs.declared.traits.Arrival.{Arrival}
use Rattle.outside.specs.declared.traits.Arrival.TheVariants.{Failed}

-- one ask: for the value of a resource at a key, with how many calls the resource wants before it is ready, and
-- how often this load was asked before
pub record Ask : Type 0 where
  pub resource : ℕ
  pub key : Code
  pub after : ℕ
  pub asked : ℕ

-- a prompt loader, of which only its count of early calls is kept, answers an ask
abbrev pub PromptAnswers : ℕ → Ask → Arrival → ℕ → Type 0
PromptAnswers not_yets ask answer later =
    (answer ≡ prompt_arrival ask.after ask.asked) × (later ≡ (if nat_le ask.after ask.asked then not_yets else next_count not_yets))

-- a loader that fails at chosen calls answers an ask
abbrev pub FallibleAnswers : Fallible → Ask → Arrival → Fallible → Type 0
FallibleAnswers before ask answer later =
    (answer ≡ Failed ↔ FailsNextAsk before)
    × (¬ FailsNextAsk before → answer ≡ prompt_arrival ask.after ask.asked)
    × (later ≡ after_ask before answer)
