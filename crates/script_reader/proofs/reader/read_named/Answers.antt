use Rattle.std.proofs.Common.{◌≡◌, ◌++◌, length, map, drop, ap, ◌∙◌, sym, subst, arith}
use Rattle.std.specs.String.{string_bytes}
use Rattle.values.specs.Texts.{IsTable}
use Rattle.script_meaning.specs.Names.{names_of}
use Rattle.script_meaning.specs.Script.{IsScript}
use Rattle.script_meaning.specs.State.{start_for}
use Rattle.script_reader.specs.declared.reader.Read.{Read}
use Rattle.script_reader.proofs.Reading.{longer, whole, is_script_of, both_ok}
use Rattle.script_reader.proofs.reader.read_named.Goals as goal

pub parts_of-requires : goal.parts_of-requires
parts_of-requires c =
    let begins : start_for c.texts.result.now c.args.names.now ≡ start_for c.args.component.now.texts (names_of c.args.component.now.items) =
    ap (λ texts. start_for texts c.args.names.now) c.texts.ensures ∙ ap (start_for c.args.component.now.texts) c.requires.names
    in
    omega (arith, longer c.args.component.now c.args.first_line c.args.bytes.now _ begins c.in_ok-last.last c.in_ok-last.ensures.ok, c.len.ensures.count, ap length c.texts-2.ensures)

pub returns-clause-ok : goal.returns-clause-ok
returns-clause-ok c =
    let begins : start_for c.texts.result.now c.args.names.now ≡ start_for c.args.component.now.texts (names_of c.args.component.now.items) =
    ap (λ texts. start_for texts c.args.names.now) c.texts.ensures ∙ ap (start_for c.args.component.now.texts) c.requires.names
    in
    let count : c.len.result ≡ length c.args.component.now.texts = c.len.ensures.count ∙ ap length c.texts-2.ensures in
    both_ok
    (λ (read : Read). read.script ≡ c.in_ok-last.last.phases)
    (λ (read : Read). map string_bytes read.texts.items ≡ drop c.len.result c.in_ok-last.last.texts)
    (λ (read : Read). IsScript c.args.component.now c.args.first_line c.args.bytes.now read.script (c.args.component.now.texts ++ map string_bytes read.texts.items))
    c.parts_of.result
    (λ read phases behind. is_script_of c.args.component.now c.args.first_line c.args.bytes.now _ begins c.in_ok-last.last c.in_ok-last.ensures.ok read.script (map string_bytes read.texts.items) phases (behind ∙ ap (λ n. drop n c.in_ok-last.last.texts) count))
    c.parts_of.ensures.script
    c.parts_of.ensures.texts

pub returns-clause-table : goal.returns-clause-table
returns-clause-table c =
    let begins : start_for c.texts.result.now c.args.names.now ≡ start_for c.args.component.now.texts (names_of c.args.component.now.items) =
    ap (λ texts. start_for texts c.args.names.now) c.texts.ensures ∙ ap (start_for c.args.component.now.texts) c.requires.names
    in
    let count : c.len.result ≡ length c.args.component.now.texts = c.len.ensures.count ∙ ap length c.texts-2.ensures in
    let all = whole c.args.component.now c.args.first_line c.args.bytes.now _ begins c.in_ok-last.last c.in_ok-last.ensures.ok in
    both_ok
    (λ (read : Read). IsTable c.in_ok-last.last.texts)
    (λ (read : Read). map string_bytes read.texts.items ≡ drop c.len.result c.in_ok-last.last.texts)
    (λ (read : Read). IsTable (c.args.component.now.texts ++ map string_bytes read.texts.items))
    c.parts_of.result
    (λ read table behind. subst IsTable (sym (ap (λ texts. c.args.component.now.texts ++ texts) (behind ∙ ap (λ n. drop n c.in_ok-last.last.texts) count) ∙ all)) table)
    c.parts_of.ensures.table
    c.parts_of.ensures.texts
