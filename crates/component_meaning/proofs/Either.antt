-- Bytes are the text of a component, or are refused.
use Rattle.std.proofs.Common.{◌≡◌, ℕ, ◌<◌, ◌≤◌, List, ◌⊎◌, inl, inr, refl, arith}
use Rattle.std.proofs.lemmas.Bool.{cases_order}
use Rattle.text_grammar.specs.declared.component.Terminal.TheVariants as terminal
use Rattle.text_grammar.specs.Closed.{is_closer}
use Rattle.text_grammar.specs.ComponentAhead.{level}
use Rattle.text_grammar.proofs.Ends.{component_down, component_last_token}
use Rattle.values.specs.declared.limits.TheConstants.{MOST_NODES}
use Rattle.component_items.specs.declared.component.Component.{Component}
use Rattle.component_items.specs.declared.refusal.Refusal.{Refusal}
use Rattle.component_items.specs.Counts.{nodes_of}
use Rattle.part_meaning.specs.Part.{EndsEach, IsReadTo, IsRefused}
use Rattle.part_meaning.proofs.Either as either
use Rattle.component_meaning.specs.State.{State}
use Rattle.component_meaning.specs.Component.{component_text, IsComponent, IsNoComponent, refused_text, too_large, too_many_nodes}
use Rattle.component_meaning.specs.Computed.{component_in}
use Rattle.component_meaning.proofs.Closers.{blocked}
use Rattle.component_meaning.proofs.Decided.{decided}

pub ends_each : EndsEach component_text
ends_each = record {
  level = level;
  down = component_down;
  end = terminal.End;
  blocked = is_closer;
  blocks = blocked;
  kinds = λ bytes x. refl;
  last = component_last_token;
}

module _ (bytes : List ℕ) where
  abbrev Either : Type 0
  Either = ((component : Component) × IsComponent bytes component) ⊎ ((why : Refusal) × IsNoComponent bytes why)

  few : (last : State) → IsReadTo component_text bytes last → nodes_of last.items ≤ MOST_NODES → Either
  few last read holds = inl (component_in last, record { last = last; read = read; texts = refl; items = refl; few_nodes = holds })

  counted : (last : State) (n : ℕ) → nodes_of last.items ≡ n → IsReadTo component_text bytes last → (n ≡ MOST_NODES) ⊎ ((n < MOST_NODES) ⊎ (MOST_NODES < n)) → Either
  counted last n is read (inl same) = few last read (omega arith)
  counted last n is read (inr (inl less)) = few last read (omega arith)
  counted last n is read (inr (inr more)) = inr (too_many_nodes bytes, too_large last read (omega arith))

  of_text : ((last : State) × IsReadTo component_text bytes last) ⊎ ((why : Refusal) × IsRefused component_text bytes why) → Either
  of_text (inl found) = counted found.0 (nodes_of found.0.items) refl found.1 (cases_order (nodes_of found.0.items) MOST_NODES)
  of_text (inr found) = inr (found.0, refused_text found.1)

  pub one_of_both : Either
  one_of_both = of_text (either.one_of_both component_text decided ends_each bytes)
