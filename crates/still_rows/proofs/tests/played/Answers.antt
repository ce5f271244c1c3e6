use Rattle.still_rows.proofs.FreshLemmas.{fresh_still}
use Rattle.still_rows.proofs.tests.played.Goals as goal

pub play-requires-clause-still : goal.play-requires-clause-still
play-requires-clause-still c = rw c.deref_mut.ensures.value (fresh_still _ _ _ _ (c.is_lawful.ensures.lawful c.if-not-is_lawful.false) c.in_ok-rows.ensures.fresh c.in_ok-readers.ensures.of_plan c.in_ok-clock.ensures)
