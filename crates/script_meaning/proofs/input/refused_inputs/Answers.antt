use Rattle.std.proofs.Common.{◌≡◌, [], Some, codes, refl}
use Rattle.input_split.specs.Computed.{split_of}
use Rattle.input_split.specs.declared.Split.{Split}
use Rattle.component_items.specs.declared.refusal.Refusal.TheVariants.{Bad}
use Rattle.component_items.specs.declared.refusal.Why.TheVariants as Why
use Rattle.component_meaning.specs.Computed.{refusal_of}
use Rattle.script_meaning.specs.Computed as script
use Rattle.script_meaning.specs.Input.{component_part, script_part}
use Rattle.script_meaning.proofs.InputComputed.{computed_bad_component, computed_bad_script}
use Rattle.script_meaning.proofs.InputWorked.{empty_component, head_line_read, signal_component, signal_names, signal_read}
use Rattle.script_meaning.proofs.input.refused_inputs.Goals as goal

abbrev nothing_split : Split
nothing_split = record { component_end = 0; script_start = 0; script_line = 1 }

nothing_splits : split_of (codes "") ≡ nothing_split
nothing_splits = refl

nothing_part : component_part (codes "") nothing_split ≡ codes ""
nothing_part = refl

nothing_refused : refusal_of (codes "") ≡ Some (Bad Why.Unexpected (record { line = 1; column = 1 }))
nothing_refused = refl

pub returns-clause-nothing : goal.returns-clause-nothing
returns-clause-nothing c = computed_bad_component (codes "") nothing_split (codes "") (Bad Why.Unexpected (record { line = 1; column = 1 })) nothing_splits nothing_part nothing_refused

abbrev element_left_open_split : Split
element_left_open_split = record { component_end = 16; script_start = 20; script_line = 4 }

element_left_open_splits : split_of (codes "component 1\n<p>\n---\nphase") ≡ element_left_open_split
element_left_open_splits = refl

element_left_open_part : component_part (codes "component 1\n<p>\n---\nphase") element_left_open_split ≡ codes "component 1\n<p>\n"
element_left_open_part = refl

element_left_open_refused : refusal_of (codes "component 1\n<p>\n") ≡ Some (Bad Why.UnclosedTag (record { line = 3; column = 1 }))
element_left_open_refused = refl

pub returns-clause-element_left_open : goal.returns-clause-element_left_open
returns-clause-element_left_open c = computed_bad_component (codes "component 1\n<p>\n---\nphase") element_left_open_split (codes "component 1\n<p>\n") (Bad Why.UnclosedTag (record { line = 3; column = 1 })) element_left_open_splits element_left_open_part element_left_open_refused

abbrev name_of_no_component_split : Split
name_of_no_component_split = record { component_end = 25; script_start = 29; script_line = 4 }

name_of_no_component_splits : split_of (codes "component 1\nsignal a = 1\n---\nphase lane set b = 1") ≡ name_of_no_component_split
name_of_no_component_splits = refl

name_of_no_component_part : component_part (codes "component 1\nsignal a = 1\n---\nphase lane set b = 1") name_of_no_component_split ≡ codes "component 1\nsignal a = 1\n"
name_of_no_component_part = refl

name_of_no_component_rest : script_part (codes "component 1\nsignal a = 1\n---\nphase lane set b = 1") name_of_no_component_split ≡ codes "phase lane set b = 1"
name_of_no_component_rest = refl

name_of_no_component_refused : script.refusal_of signal_component.texts signal_names 4 (codes "phase lane set b = 1") ≡ Some (Bad Why.UnknownName (record { line = 4; column = 16 }))
name_of_no_component_refused = refl

pub returns-clause-name_of_no_component : goal.returns-clause-name_of_no_component
returns-clause-name_of_no_component c =
    computed_bad_script (codes "component 1\nsignal a = 1\n---\nphase lane set b = 1") name_of_no_component_split (codes "component 1\nsignal a = 1\n") (codes "phase lane set b = 1") signal_component signal_names (Bad Why.UnknownName (record { line = 4; column = 16 }))
    name_of_no_component_splits name_of_no_component_part name_of_no_component_rest signal_read name_of_no_component_refused

abbrev lanes_split : Split
lanes_split = record { component_end = 12; script_start = 16; script_line = 3 }

lanes_splits : split_of (codes "component 1\n---\nphase lane lane lane lane lane lane lane lane lane lane lane lane lane lane lane lane lane") ≡ lanes_split
lanes_splits = refl

lanes_part : component_part (codes "component 1\n---\nphase lane lane lane lane lane lane lane lane lane lane lane lane lane lane lane lane lane") lanes_split ≡ codes "component 1\n"
lanes_part = refl

lanes_rest : script_part (codes "component 1\n---\nphase lane lane lane lane lane lane lane lane lane lane lane lane lane lane lane lane lane") lanes_split ≡ codes "phase lane lane lane lane lane lane lane lane lane lane lane lane lane lane lane lane lane"
lanes_rest = refl

lanes_refused : script.refusal_of empty_component.texts [] 3 (codes "phase lane lane lane lane lane lane lane lane lane lane lane lane lane lane lane lane lane") ≡ Some (Bad Why.TooManyLanes (record { line = 3; column = 87 }))
lanes_refused = refl

pub returns-clause-lanes : goal.returns-clause-lanes
returns-clause-lanes c =
    computed_bad_script (codes "component 1\n---\nphase lane lane lane lane lane lane lane lane lane lane lane lane lane lane lane lane lane") lanes_split (codes "component 1\n") (codes "phase lane lane lane lane lane lane lane lane lane lane lane lane lane lane lane lane lane") empty_component [] (Bad Why.TooManyLanes (record { line = 3; column = 87 }))
    lanes_splits lanes_part lanes_rest head_line_read lanes_refused
