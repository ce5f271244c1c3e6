use Rattle.std.proofs.Common.{refl, sym, ◌∙◌, ap, ◌++◌, arith}
use Rattle.std.proofs.lemmas.Str.{IsCharBoundary-after_ascii}
use Rattle.std.proofs.lemmas.Str.Pattern.{split_parts}
use Rattle.std.specs.String.{string_bytes}
use Rattle.text_lexer.specs.Token.{unescaped}
use Rattle.text_lexer.proofs.Contents.{escape_behind, escape_ascii, utf8_behind, unescaped_none, unescaped_more}
use Rattle.text_lexer.proofs.meaning.unescape.Goals as goal

pub escaped-requires : goal.escaped-requires
escaped-requires c =
    let parts = rw c.in-Some.is at (split_parts 92 c.loop-plain.rest.now c.split_once.result c.split_once.ensures.cases (omega arith)) in
    let first = escape_behind c.loop-plain.rest.now c.in-Some.plain.now c.in-Some.escape.now parts.0 parts.1 c.loop-plain.invariant.1 in
    record { some = first.some; escape = first.escaped }

pub range_from-rest-requires : goal.range_from-rest-requires
range_from-rest-requires c =
    let parts = rw c.in-Some.is at (split_parts 92 c.loop-plain.rest.now c.split_once.result c.split_once.ensures.cases (omega arith)) in
    let first = escape_behind c.loop-plain.rest.now c.in-Some.plain.now c.in-Some.escape.now parts.0 parts.1 c.loop-plain.invariant.1 in
    let utf8 = utf8_behind c.loop-plain.rest.now c.in-Some.plain.now c.in-Some.escape.now c.loop-plain.invariant.0 parts.0 in
    λ _. IsCharBoundary-after_ascii c.in-Some.escape.now 0 utf8 first.some (escape_ascii _ first.escaped)

pub loop-plain-preserved : goal.loop-plain-preserved
loop-plain-preserved c =
    let parts = rw c.in-Some.is at (split_parts 92 c.loop-plain.rest.now c.split_once.result c.split_once.ensures.cases (omega arith)) in
    let first = escape_behind c.loop-plain.rest.now c.in-Some.plain.now c.in-Some.escape.now parts.0 parts.1 c.loop-plain.invariant.1 in
    let one = c.push.ensures.ascii c.escaped.ensures.ascii in
    (c.range_from-rest.utf8, rw c.range_from-rest.ensures.value first.rest, unescaped_more (string_bytes c.loop-plain.content) (string_bytes c.push.new.self) c.loop-plain.rest.now c.in-Some.plain.now c.in-Some.escape.now c.range_from-rest.result.now (unescaped c.args.written.now) c.escaped.result parts.0 parts.1 first.some c.range_from-rest.ensures.value c.escaped.ensures.value (c.in_ok-push.ensures.bytes ∙ rw (c.in_ok-push_str.ensures.bytes, one) refl) c.loop-plain.invariant.2)

pub returns : goal.returns
returns c =
    let parts = rw c.in_default.is at (split_parts 92 c.loop-plain.rest.now c.split_once.result c.split_once.ensures.cases (omega arith)) in
    c.in_ok-push_str-2.ensures.bytes ∙ (ap (λ v. string_bytes c.loop-plain.content ++ v) (sym (unescaped_none c.loop-plain.rest.now parts)) ∙ c.loop-plain.invariant.2)
