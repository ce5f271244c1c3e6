-- What a prompt loader answers.
use Rattle.std.specs.Prelude.{ℕ, if◌then◌else◌, nat_le}
use Rattle.outside.specs.declared.traits.Arrival.{Arrival}
use Rattle.outside.specs.declared.traits.Arrival.TheVariants.{Ready, NotYet}

-- ready once it was asked often enough
abbrev pub prompt_arrival : ℕ → ℕ → Arrival
prompt_arrival after asked = if nat_le after asked then Ready else NotYet
