-- Two components of worked inputs.
use Rattle.std.proofs.Common.{◌≡◌, ◌≤◌, List, [], ◌∷◌, codes, pos, refl, arith}
use Rattle.values.specs.declared.code.Code.TheVariants.{Number}
use Rattle.component_items.specs.Counts.{item_maximum, item_nodes, nodes_of}
use Rattle.component_items.specs.declared.component.Component.{Component}
use Rattle.component_items.specs.declared.component.Item.{Item}
use Rattle.component_items.specs.declared.component.Item.TheVariants as item
use Rattle.component_items.proofs.FoldLemmas.{at-Signal, fold-Signal}
use Rattle.script_meaning.specs.Names.{Declaration, a_signal, declared, item_names, names_of}
use Rattle.script_meaning.proofs.InputComputed.{ComponentRead}

-- ---- nothing behind the head

abbrev pub empty_component : Component
empty_component = record { texts = [] ∷ []; items = [] }

empty_count : nodes_of [] ≡ 0
unfolding item_maximum item_nodes
empty_count = refl

empty_nodes : nodes_of [] ≤ 4096
empty_nodes = let count = empty_count in omega arith

pub head_read : ComponentRead (codes "component 1") empty_component []
head_read = record { read = refl; few_nodes = empty_nodes; named = refl }

pub head_line_read : ComponentRead (codes "component 1\n") empty_component []
head_line_read = record { read = refl; few_nodes = empty_nodes; named = refl }

-- ---- one signal

abbrev pub signal_items : List Item
signal_items = item.Signal 0 1 (Number (pos 1)) ∷ []

abbrev pub signal_component : Component
signal_component = record { texts = [] ∷ codes "a" ∷ []; items = signal_items }

abbrev pub signal_names : List Declaration
signal_names = declared 0 1 (a_signal 0)

signal_count : nodes_of signal_items ≡ 1
unfolding item_maximum item_nodes
signal_count = simp fold-Signal

signal_nodes : nodes_of signal_items ≤ 4096
signal_nodes = let count = signal_count in omega arith

signal_named : names_of signal_items ≡ signal_names
unfolding item_names
signal_named = simp at-Signal

pub signal_read : ComponentRead (codes "component 1\nsignal a = 1\n") signal_component signal_names
signal_read = record { read = refl; few_nodes = signal_nodes; named = signal_named }
