use Rattle.std.proofs.Common.{◌∙◌, sym, ap, arith}
use Rattle.std.specs.Fmt.{decimal}
use Rattle.command_words.proofs.Unique.{number_read, ok_inside, same_texts}
use Rattle.command_words.proofs.words.rounds_in.Goals as goal

pub returns-in-Ok-clause-bad : goal.returns-in-Ok-clause-bad
returns-in-Ok-clause-bad c = λ e n is.
    let number = ok_inside c.in-Ok.rounds n c.parse.result c.in-Ok.is (number_read c.args.text.now c.parse.result c.parse.ensures.value.0 n is) in
    same_texts c.as_str.result.now c.args.text.now c.if-eq.ensures (c.as_str.ensures.value ∙ (c.in_ok-plain-in-Ok.ensures.ok ∙ (ap decimal number ∙ sym is.0)))

pub returns-in_default-clause-bad : goal.returns-in_default-clause-bad
returns-in_default-clause-bad c = λ e n is.
    let number = ok_inside c.in-Ok.rounds n c.parse.result c.in-Ok.is (number_read c.args.text.now c.parse.result c.parse.ensures.value.0 n is) in
    omega (arith, number, is.1, is.2)

pub returns-in_default-2-clause-bad : goal.returns-in_default-2-clause-bad
returns-in_default-2-clause-bad c = λ e n is.
    let number = ok_inside c.in-Ok.rounds n c.parse.result c.in-Ok.is (number_read c.args.text.now c.parse.result c.parse.ensures.value.0 n is) in
    omega (arith, number, is.1, is.2)

pub returns-in_default-3-clause-bad : goal.returns-in_default-3-clause-bad
returns-in_default-3-clause-bad c = λ e n is.
    let bad = sym c.in_default.is ∙ number_read c.args.text.now c.parse.result c.parse.ensures.value.0 n is in
    cc
