use Rattle.std.proofs.Common.{◌≡◌, ◌/◌, length, get_or, sym, ap, ◌∙◌, arith}
use Rattle.std.proofs.lemmas.List.{get_or_read}
use Rattle.sources.proofs.BitLemmas.{length-set_of, within_words, HoldsSet-add, set_of-add, word_bits, is_new_bit}
use Rattle.sources.specs.Bits.{set_of}
use Rattle.sources.proofs.bit_row.BitRow.insert.Goals as goal

pub index-word-requires : goal.index-word-requires
index-word-requires c =
    let row = c.self.inside in
    let bits : row.bits ≡ length c.args.self.now = sym (length-set_of row.words.items row.bits) ∙ ap length c.self.view_is in
    let within = within_words row.words.items row.bits c.args.bit c.self.invariant (omega arith) in
    omega (arith, row.words.ok.0)

pub index_mut-requires : goal.index_mut-requires
index_mut-requires c =
    let row = c.self.inside in
    let bits : row.bits ≡ length c.args.self.now = sym (length-set_of row.words.items row.bits) ∙ ap length c.self.view_is in
    let within = within_words row.words.items row.bits c.args.bit c.self.invariant (omega arith) in
    omega (arith, row.words.ok.0)

pub invariant_of-self : goal.invariant_of-self
invariant_of-self c =
    let row = c.self.inside in
    let bits : row.bits ≡ length c.args.self.now = sym (length-set_of row.words.items row.bits) ∙ ap length c.self.view_is in
    let within = within_words row.words.items row.bits c.args.bit c.self.invariant (omega arith) in
    let word = get_or_read row.words.items (c.args.bit / 64) c.index-word.result.now within c.index-word.ensures 0 in
    rw word (HoldsSet-add row.words.items row.bits c.args.bit c.self.invariant (omega arith) within)

pub returns-clause-added : goal.returns-clause-added
returns-clause-added c =
    let row = c.self.inside in
    let bits : row.bits ≡ length c.args.self.now = sym (length-set_of row.words.items row.bits) ∙ ap length c.self.view_is in
    let within = within_words row.words.items row.bits c.args.bit c.self.invariant (omega arith) in
    let word = get_or_read row.words.items (c.args.bit / 64) c.index-word.result.now within c.index-word.ensures 0 in
    rw (word, ← c.self.view_is) (set_of-add row.words.items row.bits c.args.bit (omega arith) within)

pub returns-clause-is_new : goal.returns-clause-is_new
returns-clause-is_new c =
    let row = c.self.inside in
    let bits : row.bits ≡ length c.args.self.now = sym (length-set_of row.words.items row.bits) ∙ ap length c.self.view_is in
    let within = within_words row.words.items row.bits c.args.bit c.self.invariant (omega arith) in
    let word = get_or_read row.words.items (c.args.bit / 64) c.index-word.result.now within c.index-word.ensures 0 in
    rw (word, ← c.self.view_is) (is_new_bit (set_of row.words.items row.bits) (get_or row.words.items (c.args.bit / 64) 0) c.args.bit (word_bits row.words.items row.bits (c.args.bit / 64) c.self.invariant))
