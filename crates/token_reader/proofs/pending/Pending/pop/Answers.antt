use Rattle.token_reader.proofs.Parts.{last_in_front}
use Rattle.token_reader.proofs.pending.Pending.pop.Goals as goal

pub loop-self-preserved : goal.loop-self-preserved
loop-self-preserved g c =
    let was = c.loop-self.self-inside in
    last_in_front was.front.now was.behind.items c.pop.new.self.items c.in-Some.next c.args.self.now c.in_default.len_below c.in-Some.ensures.items c.loop-self.invariant
