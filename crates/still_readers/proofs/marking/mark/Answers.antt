use Rattle.std.proofs.Common.{◌≡◌, ℕ, false, None, subst, get_or, arith}
use Rattle.still_readers.specs.declared.readers.Reader.{Reader}
use Rattle.still_readers.specs.Readers.{IsLast}
use Rattle.still_readers.proofs.MarkingLemmas.{reader_at, narrow, fewer_unread}
use Rattle.still_readers.proofs.marking.mark.Goals as goal

pub returns-then-not-reader-clause-spreading : goal.returns-then-not-reader-clause-spreading
returns-then-not-reader-clause-spreading c =
    let u : Reader = get_or c.as_slice.result.now c.args.place record { node = 0; row = 0; before = None; enrolled = false } in
    let at = reader_at c.args.readers.now.list c.as_slice.result.now c.args.place record { node = 0; row = 0; before = None; enrolled = false } c.as_slice.ensures c.requires.within in
    let unread : u.enrolled ≡ false = (let t = c.if-not-reader.true in grind (arith, t)) in
    narrow _ _ c.args.readers.now _ _ c.args.now _ c.args.place (λ i n s h. fewer_unread c.args.readers.now c.args.place u at unread i n h) c.requires.spreading

pub darken-requires-clause-reader : goal.darken-requires-clause-reader
darken-requires-clause-reader c = reader_at c.args.readers.now.list c.as_slice.result.now c.args.place record { node = 0; row = 0; before = None; enrolled = false } c.as_slice.ensures c.requires.within

pub darken-requires-clause-of_row : goal.darken-requires-clause-of_row
darken-requires-clause-of_row c = c.requires.place.1 _ (reader_at c.args.readers.now.list c.as_slice.result.now c.args.place record { node = 0; row = 0; before = None; enrolled = false } c.as_slice.ensures c.requires.within)

pub returns-clause-last : goal.returns-clause-last
returns-clause-last c =
    let u : Reader = get_or c.as_slice.result.now c.args.place record { node = 0; row = 0; before = None; enrolled = false } in
    let at = reader_at c.args.readers.now.list c.as_slice.result.now c.args.place record { node = 0; row = 0; before = None; enrolled = false } c.as_slice.ensures c.requires.within in
    subst (λ (row : ℕ). IsLast c.args.readers.now.list row c.args.place u.before) (c.requires.place.1 u at) (c.requires.spreading.of_plan.chained.before c.args.place u at)
