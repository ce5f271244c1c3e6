-- What the reader answers in place of a state.
use Rattle.std.specs.Prelude.{ℕ, List}
use Rattle.component_items.specs.declared.refusal.Refusal.{Refusal}
use Rattle.component_items.specs.declared.refusal.Refusal.TheVariants.{Bad, NoMemory}
use Rattle.part_meaning.specs.Part.{Language, IsRefused}

-- why the bytes are refused, or that memory could not be had
abbrev pub IsRefusedOr : {W R D S : Type 0} → Language W R D S → List ℕ → Refusal → Type 0
IsRefusedOr l bytes NoMemory = Unit {0}
IsRefusedOr l bytes (Bad w p) = IsRefused l bytes (Bad w p)
