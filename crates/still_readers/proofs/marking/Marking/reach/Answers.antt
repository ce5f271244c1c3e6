use Rattle.std.proofs.Common.{IsTrue, arith}
use Rattle.still_readers.proofs.MarkingLemmas.{some_room, reaching_new, reaching_again}
use Rattle.still_readers.proofs.marking.Marking.reach.Goals as goal

pub returns-then-not-insert : goal.returns-then-not-insert
returns-then-not-insert c = reaching_again c.args.row c.args.self.now _ c.requires.within (λ out. let new : IsTrue c.insert.result = c.insert.ensures.is_new.1 out in absurd (grind (arith, new, c.if-not-insert.true))) c.insert.ensures.added

pub push-requires : goal.push-requires
push-requires c = some_room c.args.self.now c.args.row c.requires.within (c.insert.ensures.is_new.0 (grind (arith, c.if-not-insert.false))) c.requires.room

pub returns : goal.returns
returns c = reaching_new c.args.row c.args.self.now _ c.requires.within (c.insert.ensures.is_new.0 (grind (arith, c.if-not-insert.false))) c.insert.ensures.added c.push.ensures.list c.push.ensures.spare
