-- Bytes are the text of a script for a component, or are refused.
use Rattle.std.proofs.Common.{ℕ, false, List, ◌⊎◌, inl, inr, refl}
use Rattle.text_grammar.specs.declared.script.Terminal.TheVariants as terminal
use Rattle.text_grammar.specs.ScriptAhead.{level}
use Rattle.text_grammar.proofs.Ends.{script_down, script_last_token}
use Rattle.component_items.specs.declared.component.Component.{Component}
use Rattle.component_items.specs.declared.refusal.Refusal.{Refusal}
use Rattle.part_meaning.specs.Part.{EndsEach, IsReadTo, IsRefused}
use Rattle.part_meaning.proofs.Either as either
use Rattle.script_items.specs.declared.operation.ScriptOp.{ScriptOp}
use Rattle.script_meaning.specs.Names.{Declaration, names_of}
use Rattle.script_meaning.specs.State.{State}
use Rattle.script_meaning.specs.Script.{script_for, script_text, IsScript, IsNoScript}
use Rattle.script_meaning.proofs.Decided.{decided}

pub ends_each : (texts : List (List ℕ)) (names : List Declaration) (first_line : ℕ) → EndsEach (script_for texts names first_line)
ends_each texts names first_line = record {
  level = level;
  down = script_down;
  end = terminal.End;
  blocked = λ w. false;
  blocks = λ bytes w a b x is takes. absurd cc;
  kinds = λ bytes x. refl;
  last = script_last_token;
}

module _ (component : Component) (first_line : ℕ) (bytes : List ℕ) where
  abbrev Either : Type 0
  Either = ((script : List (List (List ScriptOp))) × (texts : List (List ℕ)) × IsScript component first_line bytes script texts) ⊎ ((why : Refusal) × IsNoScript component first_line bytes why)

  of_text : ((last : State) × IsReadTo (script_text component first_line) bytes last) ⊎ ((why : Refusal) × IsRefused (script_text component first_line) bytes why) → Either
  of_text (inl found) = inl (found.0.phases, found.0.texts, record { last = found.0; read = found.1; phases = refl; all_texts = refl })
  of_text (inr found) = inr found

  pub one_of_both : Either
  one_of_both = of_text (either.one_of_both (script_text component first_line) (decided component.texts (names_of component.items) first_line) (ends_each component.texts (names_of component.items) first_line) bytes)
