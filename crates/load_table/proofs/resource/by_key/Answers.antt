use Rattle.std.proofs.Common.{rules, ◌≡◌, ◌+◌, ◌<◌, ◌++◌, ◌∷◌, [], min, length, length-append, drop, get_or, sym, ◌∙◌}
use Rattle.std.specs.List.{zip}
use Rattle.std.proofs.lemmas.Slice.Zip.{zip_turn, zip_end}
use Rattle.values.specs.declared.code.Code.{Code}
use Rattle.load_table.specs.Table.{pairs_put}
use Rattle.load_table.proofs.Puts.{pair_more, pairs_done}
use Rattle.load_table.proofs.resource.by_key.Goals as goal

pub loop-key-preserved : goal.loop-key-preserved
loop-key-preserved c =
    let keys = c.args.keys.now in
    let codes = c.args.codes.now in
    let done = c.loop-key.yielded in
    let turn : (length done < length keys) × (length done < length codes) × ((d : Code) → c.in-Some.key.now ≡ get_or keys (length done) d) × ((d : Code) → c.in-Some.code.now ≡ get_or codes (length done) d) = zip_turn keys codes done c.into_iter-key-iterator.result c.loop-key.key-iterator c.next.new.self c.next.result (search rules) (search rules) c.loop-key.yielded_by (c.in-Some.key, c.in-Some.code) (search rules) (search rules) in
    let more : length (done ++ (c.in-Some.key, c.in-Some.code) ∷ []) ≡ length done + 1 = length-append done ((c.in-Some.key, c.in-Some.code) ∷ []) in
    (λ i. pairs_put (c.in_ok-insert.ensures.entries i) (drop (more i) (zip keys codes)))
    ∙ pair_more c.loop-key.map.entries keys codes (length done) c.in-Some.key.now c.in-Some.code.now turn.0 turn.1 turn.2 turn.3
    ∙ c.loop-key.invariant

pub returns : goal.returns
returns c =
    let keys = c.args.keys.now in
    let codes = c.args.codes.now in
    let done = c.loop-key.yielded in
    let all : length done ≡ min (length keys) (length codes) = zip_end keys codes done c.into_iter-key-iterator.result c.loop-key.key-iterator c.next.new.self c.next.result (search rules) (search rules) c.loop-key.yielded_by (search rules) (search rules) in
    sym (pairs_done c.loop-key.map.entries keys codes (length done) all) ∙ c.loop-key.invariant
