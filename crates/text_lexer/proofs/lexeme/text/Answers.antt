use Rattle.std.proofs.Common.{sym, arith}
use Rattle.text_lexer.proofs.Lexemes.{text_start, text_past_plain, text_past_escape, text_token, no_closing, no_text_byte, no_escape, no_escape_at_end}
use Rattle.text_lexer.proofs.lexeme.text.Goals as goal
use Rattle.text_lexer.proofs.lexeme.text.Goals.{then-i-rest-via-then-i-rest, then-i-rest-via-else-i-rest+then-not-is_escape}

pub loop-i-init : goal.loop-i-init
loop-i-init c = (omega arith, text_start c.args.rest.now c.requires.some)

pub returns-then-b-eq34-clause-found : goal.returns-then-b-eq34-clause-found
returns-then-b-eq34-clause-found c =
    text_token c.args.rest.now c.loop-i.i c.loop-i.invariant.1 c.loop-i.invariant.0 (omega arith) c.requires.quoted c.if-b-eq34.true

pub returns-then-i-rest-clause-none : goal.returns-then-i-rest-clause-none
returns-then-i-rest-clause-none c = elim c.then-i-rest.branch [
  | then-i-rest-via-then-i-rest w ↦ no_escape_at_end c.args.rest.now c.loop-i.i c.loop-i.invariant.1 c.requires.quoted (omega arith) (omega (arith, w.if-i-rest.true)) c.if-b-eq92.true
  | then-i-rest-via-else-i-rest+then-not-is_escape w ↦ no_escape c.args.rest.now c.loop-i.i c.loop-i.invariant.1 c.requires.quoted (omega (arith, w.if-i-rest.false)) c.if-b-eq92.true (sym w.if-not-is_escape.ensures)
]

pub loop-i-preserved-then-b-eq92 : goal.loop-i-preserved-then-b-eq92
loop-i-preserved-then-b-eq92 c =
    (omega arith, text_past_escape c.args.rest.now c.loop-i.i c.loop-i.invariant.1 (omega arith) c.if-b-eq92.true (sym c.if-not-is_escape.ensures))

pub loop-i-preserved : goal.loop-i-preserved
loop-i-preserved c =
    (omega arith, text_past_plain c.args.rest.now c.loop-i.i c.loop-i.invariant.1 (omega arith) (sym c.if-is_plain.ensures))

pub returns-else-is_plain-clause-none : goal.returns-else-is_plain-clause-none
returns-else-is_plain-clause-none c =
    no_text_byte c.args.rest.now c.loop-i.i c.loop-i.invariant.1 c.requires.quoted (omega arith) (sym c.if-is_plain.ensures) c.if-b-eq34.false c.if-b-eq92.false

pub returns-clause-none : goal.returns-clause-none
returns-clause-none c =
    no_closing c.args.rest.now c.loop-i.i c.loop-i.invariant.1 c.requires.quoted (omega arith)
