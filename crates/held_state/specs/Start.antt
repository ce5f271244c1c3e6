-- What the code has put together so far.
use Rattle.held_state.specs.declared.first.Start.{Start}
use Rattle.held_state.specs.Built.{Built}
use Rattle.held_state.specs.Seen.{built_seen}

abbrev pub built : Start → Built
built start = built_seen start.holdings.items start.goings.items
