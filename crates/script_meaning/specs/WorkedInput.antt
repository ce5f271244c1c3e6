-- Words for worked rows of whole inputs.
use Rattle.std.specs.Prelude.{ℕ, List}
use Rattle.component_items.specs.declared.component.Item.{Item}
use Rattle.component_items.specs.declared.refusal.Refusal.TheVariants.{Bad}
use Rattle.component_items.specs.declared.refusal.Why.{Why}
use Rattle.script_items.specs.declared.operation.ScriptOp.{ScriptOp}
use Rattle.script_meaning.specs.Input.{IsInput, IsBadInput}

-- the bytes are refused as an input, for this reason at this line and column
abbrev pub InputRefusedAt : List ℕ → Why → ℕ → ℕ → Type 0
InputRefusedAt bytes why line column = IsBadInput bytes (Bad why (record { line = line; column = column }))

-- the bytes are the texts of the component with these texts and items and of the script, and these are all texts then
abbrev pub InputMeans : List ℕ → List (List ℕ) → List Item → List (List (List ScriptOp)) → List (List ℕ) → Type 0
InputMeans bytes texts items script all_texts = IsInput bytes (record { texts = texts; items = items }) script all_texts
