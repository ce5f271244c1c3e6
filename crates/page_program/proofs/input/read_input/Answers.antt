use Rattle.std.proofs.Common.{arith}
use Rattle.page_program.proofs.Inputs.{handed_on, rest_is, refused_component, refused_script, read_as, Refused}
use Rattle.page_program.proofs.input.read_input.Goals as goal

pub returns-in_err-component-clause-bad : goal.returns-in_err-component-clause-bad
returns-in_err-component-clause-bad c = handed_on c.from_residual.result c.in_err-component.field-0.0 (Refused c.args.bytes.now) c.from_residual.ensures.1
    (refused_component c.args.bytes.now _ c.split_input-split.result c.in_err-component.field-0.0 c.split_input-split.ensures (grind arith) c.in_err-component.ensures.bad)

pub returns-in_err-script-clause-bad : goal.returns-in_err-script-clause-bad
returns-in_err-script-clause-bad c = handed_on c.from_residual-in_err-script.result c.in_err-script.field-0.0 (Refused c.args.bytes.now) c.from_residual-in_err-script.ensures.1
    (refused_script c.args.bytes.now _ _ c.split_input-split.result c.in_err-script.field-0.0 c.in_ok-component.component c.split_input-split.ensures (grind arith) (rest_is c.args.bytes.now c.split_input-split.result.script_start) c.in_ok-component.ensures.ok c.in_err-script.ensures.bad)

pub returns-clause-ok : goal.returns-clause-ok
returns-clause-ok c = read_as c.args.bytes.now _ _ c.split_input-split.result c.in_ok-component.component c.read_script.new.component c.in_ok-script.script c.split_input-split.ensures (grind arith) (rest_is c.args.bytes.now c.split_input-split.result.script_start) c.in_ok-component.ensures.ok c.in_ok-script.ensures.ok c.in_ok-script.ensures.items
