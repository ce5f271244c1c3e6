use Rattle.held_state.specs.declared.holding.Holding.TheVariants.{Arrived}
use Rattle.held_state.proofs.Seen.{seen-set}
use Rattle.held_state.proofs.held.Held.arrive.Goals as goal

pub returns : goal.returns
returns c = rw (← c.self.view_is) (seen-set c.self.inside.holdings.items c.self.inside.live.items c.self.inside.goings.items c.args.load (Arrived c.args.key))
