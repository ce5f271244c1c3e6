-- Bytes are an input, or are refused.
use Rattle.std.proofs.Common.{ℕ, List, ◌⊎◌, inl, inr}
use Rattle.input_split.specs.declared.Split.{Split}
use Rattle.input_split.specs.Parts.{IsSplit}
use Rattle.input_split.specs.Computed.{split_of}
use Rattle.input_split.proofs.Computed.{split_computed}
use Rattle.component_items.specs.declared.component.Component.{Component}
use Rattle.component_items.specs.declared.refusal.Refusal.{Refusal}
use Rattle.component_meaning.specs.Component.{IsComponent, IsNoComponent}
use Rattle.component_meaning.proofs.Either as of_component
use Rattle.script_items.specs.declared.operation.ScriptOp.{ScriptOp}
use Rattle.script_meaning.specs.Script.{IsScript, IsNoScript}
use Rattle.script_meaning.specs.Input.{component_part, script_part, IsInput, IsBadInput, bad_component, bad_script}
use Rattle.script_meaning.proofs.Either as of_script

module _ (bytes : List ℕ) where
  abbrev Either : Type 0
  Either = ((component : Component) × (script : List (List (List ScriptOp))) × (texts : List (List ℕ)) × IsInput bytes component script texts) ⊎ ((why : Refusal) × IsBadInput bytes why)

  module _ (split : Split) (is_split : IsSplit bytes split) where
    by_script : (c : Component) → IsComponent (component_part bytes split) c
        → ((script : List (List (List ScriptOp))) × (texts : List (List ℕ)) × IsScript c split.script_line (script_part bytes split) script texts) ⊎ ((why : Refusal) × IsNoScript c split.script_line (script_part bytes split) why) → Either
    by_script c is (inl found) = inl (c, found.0, found.1, record { split = split; is_split = is_split; is_component = is; is_script = found.2 })
    by_script c is (inr found) = inr (found.0, bad_script split is_split c is found.1)

    by_component : ((component : Component) × IsComponent (component_part bytes split) component) ⊎ ((why : Refusal) × IsNoComponent (component_part bytes split) why) → Either
    by_component (inl found) = by_script found.0 found.1 (of_script.one_of_both found.0 split.script_line (script_part bytes split))
    by_component (inr found) = inr (found.0, bad_component split is_split found.1)

  pub one_of_both : Either
  one_of_both = by_component (split_of bytes) (split_computed bytes) (of_component.one_of_both (component_part bytes (split_of bytes)))
