use Rattle.std.proofs.Common.{◌≡◌, ℕ, ◌<◌, length, sym, ap, ◌∙◌, arith}
use Rattle.std.proofs.lemmas.List.{get_or_read}
use Rattle.sources.specs.Bits.{word_count, IsInWord}
use Rattle.sources.proofs.BitLemmas.{length-set_of, HoldsSet-with_ones, members-with_ones}
use Rattle.sources.proofs.bit_row.BitRow.add_word.Goals as goal

pub index-held-requires : goal.index-held-requires
index-held-requires c =
    let row = c.self.inside in
    let bits : row.bits ≡ length c.args.self.now = sym (length-set_of row.words.items row.bits) ∙ ap length c.self.view_is in
    omega (arith, row.words.ok.0, c.self.invariant.long ∙ ap word_count bits, c.requires.within)

pub index_mut-requires : goal.index_mut-requires
index_mut-requires c =
    let row = c.self.inside in
    let bits : row.bits ≡ length c.args.self.now = sym (length-set_of row.words.items row.bits) ∙ ap length c.self.view_is in
    omega (arith, row.words.ok.0, c.self.invariant.long ∙ ap word_count bits, c.requires.within)

pub invariant_of-self : goal.invariant_of-self
invariant_of-self c =
    let row = c.self.inside in
    let bits : row.bits ≡ length c.args.self.now = sym (length-set_of row.words.items row.bits) ∙ ap length c.self.view_is in
    let within : c.args.index < length row.words.items = omega (arith, c.self.invariant.long ∙ ap word_count bits, c.requires.within) in
    let word = get_or_read row.words.items c.args.index c.index-held.result.now within c.index-held.ensures 0 in
    let below : (number : ℕ) → IsInWord c.args.index c.args.word number → number < row.bits = (λ number put. omega (arith, c.requires.below number put)) in
    rw word (HoldsSet-with_ones row.words.items row.bits c.args.index c.args.word c.self.invariant within below)

pub returns-clause-members : goal.returns-clause-members
returns-clause-members c =
    let row = c.self.inside in
    let bits : row.bits ≡ length c.args.self.now = sym (length-set_of row.words.items row.bits) ∙ ap length c.self.view_is in
    let within : c.args.index < length row.words.items = omega (arith, c.self.invariant.long ∙ ap word_count bits, c.requires.within) in
    let word = get_or_read row.words.items c.args.index c.index-held.result.now within c.index-held.ensures 0 in
    let below : (number : ℕ) → IsInWord c.args.index c.args.word number → number < row.bits = (λ number put. omega (arith, c.requires.below number put)) in
    λ number. rw (word, ← c.self.view_is) (members-with_ones row.words.items row.bits c.args.index c.args.word c.self.invariant within below number)

pub returns-clause-bits : goal.returns-clause-bits
returns-clause-bits c =
    let row = c.self.inside in
    length-set_of _ row.bits ∙ (sym (length-set_of row.words.items row.bits) ∙ ap length c.self.view_is)
