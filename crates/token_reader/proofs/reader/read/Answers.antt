use Rattle.std.proofs.Common.{◌≡◌, ◌<◌, ◌∷◌, true, false, Ok, Err, sym, ◌∙◌, ap, subst, arith}
use Rattle.std.proofs.lemmas.Result.{err_from_is_err_and}
use Rattle.grammar.specs.declared.symbol.Symbol.TheVariants.{Terminal}
use Rattle.text_lexer.specs.Cursor.{start_of}
use Rattle.text_lexer.specs.Tokens.{IsGiven, past}
use Rattle.text_grammar.specs.Kind.{kind_of}
use Rattle.token_reader.specs.Rules.{Accepts, language}
use Rattle.token_reader.specs.Reading.{IsReading, left}
use Rattle.token_reader.specs.Refused.{IsRefusedOr}
use Rattle.token_reader.proofs.Steps.{given_of, past_of, at_start, found, none_found, sees_at, bad_sees, text_of, token_of, room, room_settled, at_terminal, fewer_left, at_end, bad_terminal, bad_end, bad_check}
use Rattle.token_reader.proofs.reader.read.Goals as goal

pub loop-state-init : goal.loop-state-init
loop-state-init g c =
    let rules = g.S.TextState.rules in
    let bytes = c.args.text.now in
    let line = c.args.first_line in
    let x = c.next-token.result in
    let y = c.next-next.result in
    let mid = c.next-token.new.self in
    let now = c.next-next.new.self in
    let e = c.next-token.ensures in
    let f = c.next-next.ensures in
    let begin : c.new-lexer.result ≡ start_of bytes line = c.new-lexer.ensures in
    let led : mid ≡ past (start_of bytes line) x = past_of c.new-lexer.result mid x e.moved e.stays ∙ ap (λ v. past v x) begin in
    let given = subst (λ v. IsGiven v x) begin (given_of c.new-lexer.result x e.token e.bad) in
    let more = subst (λ v. IsGiven v y) led (given_of mid y f.token f.bad) in
    let moved = past_of mid now y f.moved f.stays ∙ ap (λ v. past v y) led in
    let stack : c.new-stack.result ≡ rules.text = c.new-stack.ensures ∙ c.whole_text.ensures in
    subst (λ l. IsReading rules bytes line c.args.first now x y l c.args.first) (sym stack)
    (at_start rules g.met.S.TextState.readable bytes line c.args.first now x y given more moved)

pub returns-in_default-token-clause-bad : goal.returns-in_default-token-clause-bad
returns-in_default-token-clause-bad g c =
    let s = c.loop-state in
    let rules = g.S.TextState.rules in
    let ok = g.met.S.TextState.readable in
    let bytes = c.args.text.now in
    let line = c.args.first_line in
    let first = c.args.first in
    let w = c.in-Some.terminal in
    let out = c.settle.new.stack in
    let a = c.settle.new.state in
    let reading = found rules ok bytes line first s.lexer s.token s.next s.stack out s.state a c.kind_of-seen.result c.in_ok-terminal.field-0 w s.invariant c.kind_of-seen.ensures c.in_ok-terminal.ensures c.in-Some.is in
    let lacks = bad_sees rules ok bytes line first s.lexer s.token c.in_default-token.field-0 w c.in_default-token.is in
    subst (IsRefusedOr (language rules first line) bytes) (sym c.unexpected-in_default-token.ensures)
    (bad_terminal rules ok bytes line first c.utf8.text s.lexer s.token s.next w out a reading lacks)

pub returns-then-not-matches-clause-bad : goal.returns-then-not-matches-clause-bad
returns-then-not-matches-clause-bad g c =
    let s = c.loop-state in
    let rules = g.S.TextState.rules in
    let ok = g.met.S.TextState.readable in
    let bytes = c.args.text.now in
    let line = c.args.first_line in
    let first = c.args.first in
    let w = c.in-Some.terminal in
    let out = c.settle.new.stack in
    let a = c.settle.new.state in
    let reading = found rules ok bytes line first s.lexer s.token s.next s.stack out s.state a c.kind_of-seen.result c.in_ok-terminal.field-0 w s.invariant c.kind_of-seen.ensures c.in_ok-terminal.ensures c.in-Some.is in
    let x = c.in-Ok.taken in
    let sees = sees_at rules ok bytes line first s.lexer s.token s.next (Terminal w ∷ out) a c.kind_of-seen.result w c.matches.result false reading c.kind_of-seen.ensures c.matches.ensures c.if-not-matches.true in
    let at = subst (λ v. IsReading rules bytes line first s.lexer v s.next (Terminal w ∷ out) a) c.in-Ok.is reading in
    let lacks = subst (λ v. rules.table.matches w (kind_of bytes v) ≡ false) c.in-Ok.is sees in
    subst (IsRefusedOr (language rules first line) bytes) (sym c.unexpected-then-not-matches.ensures)
    (bad_terminal rules ok bytes line first c.utf8.text s.lexer (Ok x) s.next w out a at lacks)

pub accept-requires-clause-of_text : goal.accept-requires-clause-of_text
accept-requires-clause-of_text g c =
    let s = c.loop-state in
    let rules = g.S.TextState.rules in
    let ok = g.met.S.TextState.readable in
    let bytes = c.args.text.now in
    let line = c.args.first_line in
    let first = c.args.first in
    let w = c.in-Some.terminal in
    let out = c.settle.new.stack in
    let a = c.settle.new.state in
    let reading = found rules ok bytes line first s.lexer s.token s.next s.stack out s.state a c.kind_of-seen.result c.in_ok-terminal.field-0 w s.invariant c.kind_of-seen.ensures c.in_ok-terminal.ensures c.in-Some.is in
    token_of rules ok bytes line first s.lexer (Ok c.in-Ok.taken) s.next (Terminal w ∷ out) a (subst (λ v. IsReading rules bytes line first s.lexer v s.next (Terminal w ∷ out) a) c.in-Ok.is reading)

pub accept-requires-clause-room : goal.accept-requires-clause-room
accept-requires-clause-room g c =
    let s = c.loop-state in
    let rules = g.S.TextState.rules in
    let ok = g.met.S.TextState.readable in
    let bytes = c.args.text.now in
    let line = c.args.first_line in
    let first = c.args.first in
    let w = c.in-Some.terminal in
    let out = c.settle.new.stack in
    let a = c.settle.new.state in
    let reading = found rules ok bytes line first s.lexer s.token s.next s.stack out s.state a c.kind_of-seen.result c.in_ok-terminal.field-0 w s.invariant c.kind_of-seen.ensures c.in_ok-terminal.ensures c.in-Some.is in
    let few = room rules ok bytes line first s.lexer s.token s.next (Terminal w ∷ out) a reading in
    let limit = c.requires.room in
    omega arith

pub returns-in_err-accept-clause-bad : goal.returns-in_err-accept-clause-bad
returns-in_err-accept-clause-bad g c =
    let s = c.loop-state in
    let rules = g.S.TextState.rules in
    let ok = g.met.S.TextState.readable in
    let bytes = c.args.text.now in
    let line = c.args.first_line in
    let first = c.args.first in
    let w = c.in-Some.terminal in
    let out = c.settle.new.stack in
    let a = c.settle.new.state in
    let reading = found rules ok bytes line first s.lexer s.token s.next s.stack out s.state a c.kind_of-seen.result c.in_ok-terminal.field-0 w s.invariant c.kind_of-seen.ensures c.in_ok-terminal.ensures c.in-Some.is in
    let x = c.in-Ok.taken in
    let sees = sees_at rules ok bytes line first s.lexer s.token s.next (Terminal w ∷ out) a c.kind_of-seen.result w c.matches.result true reading c.kind_of-seen.ensures c.matches.ensures c.if-not-matches.false in
    let at = subst (λ v. IsReading rules bytes line first s.lexer v s.next (Terminal w ∷ out) a) c.in-Ok.is reading in
    let stands = subst (λ v. rules.table.matches w (kind_of bytes v) ≡ true) c.in-Ok.is sees in
    let same = text_of rules ok bytes line first s.lexer s.token s.next (Terminal w ∷ out) a reading in
    let e = c.in_err-accept.field-0.0 in
    let failed = subst (λ l. Accepts ((rules.semantics l).accept w a (record { token = Ok x; next = s.next })) (Err e) c.accept.new.self) same c.in_err-accept.ensures in
    let refused = bad_check rules ok bytes line first c.utf8.text s.lexer (Ok x) s.next w out a c.accept.new.self e at stands failed in
    let p = err_from_is_err_and c.from_residual-in_err-accept.result c.from_residual-in_err-accept.ensures.1 in
    rw (p.1, p.2) refused

pub returns-then-is_end-clause-ok : goal.returns-then-is_end-clause-ok
returns-then-is_end-clause-ok g c =
    let s = c.loop-state in
    let rules = g.S.TextState.rules in
    let ok = g.met.S.TextState.readable in
    let bytes = c.args.text.now in
    let line = c.args.first_line in
    let first = c.args.first in
    let w = c.in-Some.terminal in
    let out = c.settle.new.stack in
    let a = c.settle.new.state in
    let reading = found rules ok bytes line first s.lexer s.token s.next s.stack out s.state a c.kind_of-seen.result c.in_ok-terminal.field-0 w s.invariant c.kind_of-seen.ensures c.in_ok-terminal.ensures c.in-Some.is in
    let x = c.in-Ok.taken in
    let sees = sees_at rules ok bytes line first s.lexer s.token s.next (Terminal w ∷ out) a c.kind_of-seen.result w c.matches.result true reading c.kind_of-seen.ensures c.matches.ensures c.if-not-matches.false in
    let at = subst (λ v. IsReading rules bytes line first s.lexer v s.next (Terminal w ∷ out) a) c.in-Ok.is reading in
    let stands = subst (λ v. rules.table.matches w (kind_of bytes v) ≡ true) c.in-Ok.is sees in
    let same = text_of rules ok bytes line first s.lexer s.token s.next (Terminal w ∷ out) a reading in
    let took = subst (λ l. (rules.semantics l).accept w a (record { token = Ok x; next = s.next }) ≡ Ok c.accept.new.self) same c.in_ok-accept.ensures in
    let last = sym c.is_end.ensures ∙ c.if-is_end.true in
    at_end rules ok bytes line first c.utf8.text s.lexer (Ok x) s.next w out a c.accept.new.self at stands took last

pub loop-state-preserved : goal.loop-state-preserved
loop-state-preserved g c =
    let s = c.loop-state in
    let rules = g.S.TextState.rules in
    let ok = g.met.S.TextState.readable in
    let bytes = c.args.text.now in
    let line = c.args.first_line in
    let first = c.args.first in
    let w = c.in-Some.terminal in
    let out = c.settle.new.stack in
    let a = c.settle.new.state in
    let reading = found rules ok bytes line first s.lexer s.token s.next s.stack out s.state a c.kind_of-seen.result c.in_ok-terminal.field-0 w s.invariant c.kind_of-seen.ensures c.in_ok-terminal.ensures c.in-Some.is in
    let x = c.in-Ok.taken in
    let sees = sees_at rules ok bytes line first s.lexer s.token s.next (Terminal w ∷ out) a c.kind_of-seen.result w c.matches.result true reading c.kind_of-seen.ensures c.matches.ensures c.if-not-matches.false in
    let at = subst (λ v. IsReading rules bytes line first s.lexer v s.next (Terminal w ∷ out) a) c.in-Ok.is reading in
    let stands = subst (λ v. rules.table.matches w (kind_of bytes v) ≡ true) c.in-Ok.is sees in
    let same = text_of rules ok bytes line first s.lexer s.token s.next (Terminal w ∷ out) a reading in
    let took = subst (λ l. (rules.semantics l).accept w a (record { token = Ok x; next = s.next }) ≡ Ok c.accept.new.self) same c.in_ok-accept.ensures in
    let more = sym c.is_end.ensures ∙ c.if-is_end.false in
    let now = c.next-next-in-loop-state.new.self in
    let z = c.next-next-in-loop-state.result in
    let e = c.next-next-in-loop-state.ensures in
    let given = given_of s.lexer z e.token e.bad in
    let moved = past_of s.lexer now z e.moved e.stays in
    at_terminal rules ok bytes line first s.lexer now (Ok x) s.next z w out a c.accept.new.self at stands took more given moved

pub returns-in_default-clause-bad : goal.returns-in_default-clause-bad
returns-in_default-clause-bad g c =
    let s = c.loop-state in
    let rules = g.S.TextState.rules in
    let ok = g.met.S.TextState.readable in
    let bytes = c.args.text.now in
    let line = c.args.first_line in
    let first = c.args.first in
    let a = c.settle.new.state in
    let reading = none_found rules ok bytes line first s.lexer s.token s.next s.stack c.settle.new.stack s.state a c.kind_of-seen.result c.in_ok-terminal.field-0 s.invariant c.kind_of-seen.ensures c.in_ok-terminal.ensures c.in_default.is in
    subst (IsRefusedOr (language rules first line) bytes) (sym c.unexpected.ensures)
    (bad_end rules ok bytes line first c.utf8.text s.lexer s.token s.next a reading)

pub loop-state-smaller : goal.loop-state-smaller
loop-state-smaller g c =
    let s = c.loop-state in
    let rules = g.S.TextState.rules in
    let ok = g.met.S.TextState.readable in
    let bytes = c.args.text.now in
    let line = c.args.first_line in
    let first = c.args.first in
    let w = c.in-Some.terminal in
    let out = c.settle.new.stack in
    let a = c.settle.new.state in
    let reading = found rules ok bytes line first s.lexer s.token s.next s.stack out s.state a c.kind_of-seen.result c.in_ok-terminal.field-0 w s.invariant c.kind_of-seen.ensures c.in_ok-terminal.ensures c.in-Some.is in
    let x = c.in-Ok.taken in
    let sees = sees_at rules ok bytes line first s.lexer s.token s.next (Terminal w ∷ out) a c.kind_of-seen.result w c.matches.result true reading c.kind_of-seen.ensures c.matches.ensures c.if-not-matches.false in
    let at = subst (λ v. IsReading rules bytes line first s.lexer v s.next (Terminal w ∷ out) a) c.in-Ok.is reading in
    let stands = subst (λ v. rules.table.matches w (kind_of bytes v) ≡ true) c.in-Ok.is sees in
    let more = sym c.is_end.ensures ∙ c.if-is_end.false in
    let now = c.next-next-in-loop-state.new.self in
    let z = c.next-next-in-loop-state.result in
    let e = c.next-next-in-loop-state.ensures in
    let given = given_of s.lexer z e.token e.bad in
    let moved = past_of s.lexer now z e.moved e.stays in
    subst (λ v. left now s.next z < left s.lexer v s.next) (sym c.in-Ok.is)
    (fewer_left rules ok bytes line first s.lexer now (Ok x) s.next z (Terminal w ∷ out) a at more given moved)

pub settle-requires-clause-room : goal.settle-requires-clause-room
settle-requires-clause-room g c =
    let s = c.loop-state in
    λ loans within out b go.
    let few = room_settled g.S.TextState.rules g.met.S.TextState.readable c.args.text.now c.args.first_line c.args.first s.lexer s.token s.next s.stack s.state c.kind_of-seen.result s.invariant c.kind_of-seen.ensures out b go in
    let limit = c.requires.room in
    omega arith
