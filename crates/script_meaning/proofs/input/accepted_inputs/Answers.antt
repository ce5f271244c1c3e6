use Rattle.std.proofs.Common.{◌≡◌, [], ◌∷◌, Some, None, codes, pos, refl}
use Rattle.values.specs.declared.code.Code.TheVariants.{Number}
use Rattle.input_split.specs.Computed.{split_of}
use Rattle.input_split.specs.declared.Split.{Split}
use Rattle.script_items.specs.declared.operation.ScriptOp.TheVariants as op
use Rattle.script_meaning.specs.Computed.{Read, read_of}
use Rattle.script_meaning.specs.Input.{component_part, script_part}
use Rattle.script_meaning.proofs.InputComputed.{computed_input}
use Rattle.script_meaning.proofs.InputWorked.{empty_component, head_read, signal_component, signal_names, signal_read}
use Rattle.script_meaning.proofs.input.accepted_inputs.Goals as goal

abbrev no_separator_split : Split
no_separator_split = record { component_end = 11; script_start = 11; script_line = 1 }

no_separator_splits : split_of (codes "component 1") ≡ no_separator_split
no_separator_splits = refl

no_separator_part : component_part (codes "component 1") no_separator_split ≡ codes "component 1"
no_separator_part = refl

no_separator_rest : script_part (codes "component 1") no_separator_split ≡ codes ""
no_separator_rest = refl

abbrev no_separator_means : Read
no_separator_means = record { phases = []; texts = empty_component.texts }

no_separator_read : read_of empty_component.texts [] 1 (codes "") ≡ Some no_separator_means
no_separator_read = refl

pub returns-clause-no_separator : goal.returns-clause-no_separator
returns-clause-no_separator c =
    computed_input (codes "component 1") no_separator_split (codes "component 1") (codes "") empty_component [] no_separator_means no_separator_splits no_separator_part no_separator_rest head_read no_separator_read

abbrev signal_is_set_split : Split
signal_is_set_split = record { component_end = 25; script_start = 29; script_line = 4 }

signal_is_set_splits : split_of (codes "component 1\nsignal a = 1\n---\nphase lane set a = 2") ≡ signal_is_set_split
signal_is_set_splits = refl

signal_is_set_part : component_part (codes "component 1\nsignal a = 1\n---\nphase lane set a = 2") signal_is_set_split ≡ codes "component 1\nsignal a = 1\n"
signal_is_set_part = refl

signal_is_set_rest : script_part (codes "component 1\nsignal a = 1\n---\nphase lane set a = 2") signal_is_set_split ≡ codes "phase lane set a = 2"
signal_is_set_rest = refl

abbrev signal_is_set_means : Read
signal_is_set_means = record { phases = ((op.Set 0 None (Number (pos 2)) ∷ []) ∷ []) ∷ []; texts = signal_component.texts }

signal_is_set_read : read_of signal_component.texts signal_names 4 (codes "phase lane set a = 2") ≡ Some signal_is_set_means
signal_is_set_read = refl

pub returns-clause-signal_is_set : goal.returns-clause-signal_is_set
returns-clause-signal_is_set c =
    computed_input (codes "component 1\nsignal a = 1\n---\nphase lane set a = 2") signal_is_set_split (codes "component 1\nsignal a = 1\n") (codes "phase lane set a = 2") signal_component signal_names signal_is_set_means signal_is_set_splits signal_is_set_part signal_is_set_rest signal_read signal_is_set_read
