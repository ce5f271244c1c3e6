use Rattle.std.proofs.Common.{[], ◌∷◌, ◌++◌, refl}
use Rattle.text_grammar.specs.Component as component
use Rattle.text_grammar.specs.ComponentAhead as component_ahead
use Rattle.text_grammar.specs.Script as script
use Rattle.text_grammar.specs.ScriptAhead as script_ahead
use Rattle.text_grammar.specs.Closed.{closed_table}
use Rattle.text_grammar.specs.declared.kind.Kind.TheVariants as kind
use Rattle.text_grammar.specs.Worked as worked
use Rattle.text_grammar.proofs.ComponentRight as component_right
use Rattle.text_grammar.proofs.ScriptRight as script_right
use Rattle.text_grammar.proofs.Runs.{runs_derives, sticks_refuse}
use Rattle.text_grammar.proofs.laws.worked_texts.Goals as goal

pub returns-clause-head : goal.returns-clause-head
returns-clause-head c = runs_derives closed_table component_ahead.lookahead 300 component.text worked.head refl

pub returns-clause-shown_in_element : goal.returns-clause-shown_in_element
returns-clause-shown_in_element c = runs_derives closed_table component_ahead.lookahead 300 component.text worked.shown_in_element refl

pub returns-clause-dashed_and_void_tags : goal.returns-clause-dashed_and_void_tags
returns-clause-dashed_and_void_tags c = runs_derives closed_table component_ahead.lookahead 300 component.text worked.dashed_and_void_tags refl

pub returns-clause-expression : goal.returns-clause-expression
returns-clause-expression c = runs_derives closed_table component_ahead.lookahead 300 component.text worked.expression refl

pub returns-clause-no_dash_apart : goal.returns-clause-no_dash_apart
returns-clause-no_dash_apart c begins = sticks_refuse component.table component_ahead.lookahead component_right.is_right 300 component.text worked.dash_apart begins.0 component_right.fits refl begins.1

pub returns-clause-no_other_version : goal.returns-clause-no_other_version
returns-clause-no_other_version c begins = sticks_refuse component.table component_ahead.lookahead component_right.is_right 300 component.text worked.other_version begins.0 component_right.fits refl begins.1

pub returns-clause-unclosed : goal.returns-clause-unclosed
returns-clause-unclosed c = (worked.apart kind.End ∷ [], runs_derives component.table component_ahead.lookahead 300 component.text (worked.unclosed ++ worked.apart kind.End ∷ []) refl)

pub returns-clause-no_unclosed : goal.returns-clause-no_unclosed
returns-clause-no_unclosed c begins = sticks_refuse closed_table component_ahead.lookahead component_right.closed_is_right 300 component.text worked.unclosed begins.0 component_right.closed_fits refl begins.1

pub returns-clause-set_field : goal.returns-clause-set_field
returns-clause-set_field c = runs_derives script.table script_ahead.lookahead 300 script.text worked.set_field refl

pub returns-clause-edits : goal.returns-clause-edits
returns-clause-edits c = runs_derives script.table script_ahead.lookahead 300 script.text worked.edits refl

pub returns-clause-no_disposed_row : goal.returns-clause-no_disposed_row
returns-clause-no_disposed_row c begins = sticks_refuse script.table script_ahead.lookahead script_right.is_right 300 script.text worked.disposed_row begins.0 script_right.fits refl begins.1
