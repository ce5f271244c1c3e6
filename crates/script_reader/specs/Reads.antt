-- What the reader of a script answers.
use Rattle.std.specs.Prelude.{◌≡◌, ℕ, List, ◌++◌}
use Rattle.component_items.specs.declared.component.Component.{Component}
use Rattle.component_items.specs.declared.refusal.Refusal.{Refusal}
use Rattle.component_items.specs.declared.refusal.Refusal.TheVariants.{Bad, NoMemory}
use Rattle.script_meaning.specs.Script.{IsNoScript}

-- the bytes are the text of no script for the component, for this reason; or memory could not be had
abbrev pub IsNoScriptOr : Component → ℕ → List ℕ → Refusal → Type 0
IsNoScriptOr component first_line bytes NoMemory = Unit {0}
IsNoScriptOr component first_line bytes (Bad why place) = IsNoScript component first_line bytes (Bad why place)

-- the texts, and perhaps more behind them
abbrev pub Extends : List (List ℕ) → List (List ℕ) → Type 0
Extends old new = (more : List (List ℕ)) × (new ≡ old ++ more)
