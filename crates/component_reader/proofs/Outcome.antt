-- What the reader's answers say.
use Rattle.std.proofs.Common.{◌≡◌, ℕ, true, false, nat_lt, List, sym, ap, ◌∙◌, ltb-true}
use Rattle.std.proofs.lemmas.Bool.{ltb-false}
use Rattle.values.specs.declared.limits.TheConstants.{MOST_NODES}
use Rattle.component_items.specs.Counts.{nodes_of}
use Rattle.component_items.specs.declared.component.Item.{Item}
use Rattle.component_items.specs.declared.refusal.Refusal.{Refusal}
use Rattle.component_items.specs.declared.refusal.Refusal.TheVariants.{Bad, NoMemory}
use Rattle.component_items.specs.Parts.{Parts}
use Rattle.part_meaning.specs.Part.{IsReadTo}
use Rattle.token_reader.specs.Refused.{IsRefusedOr}
use Rattle.component_meaning.specs.State.{State}
use Rattle.component_meaning.specs.Component.{component_text, IsComponent, IsNoComponent, refused_text, too_large, too_many_nodes}
use Rattle.component_reader.specs.Answer.{IsNoComponentOr}

pub refused : (bytes : List ℕ) (why : Refusal) → IsRefusedOr component_text bytes why → IsNoComponentOr bytes why
refused bytes (Bad why place) h = refused_text h
refused bytes NoMemory h = tt

pub over : (bytes : List ℕ) (last : State) (items : List Item) → IsReadTo component_text bytes last → items ≡ last.items → nat_lt MOST_NODES (nodes_of items) ≡ true → IsNoComponent bytes (too_many_nodes bytes)
over bytes last items read same more = too_large last read (ltb-true MOST_NODES (nodes_of last.items) (ap (λ xs. nat_lt MOST_NODES (nodes_of xs)) (sym same) ∙ more))

pub component : (bytes : List ℕ) (last : State) (parts : Parts) → IsReadTo component_text bytes last → parts.texts ≡ last.texts → parts.items ≡ last.items → nat_lt MOST_NODES (nodes_of parts.items) ≡ false → IsComponent bytes parts
component bytes last parts read texts items few = record { last = last; read = read; texts = texts; items = items; few_nodes = ltb-false MOST_NODES (nodes_of parts.items) few }
