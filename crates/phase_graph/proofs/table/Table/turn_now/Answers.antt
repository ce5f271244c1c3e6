use Rattle.std.proofs.Common.{refl}
use Rattle.phase_graph.proofs.Turns.{room_for, turned_table}
use Rattle.phase_graph.proofs.table.Table.turn_now.Goals as goal

pub dispose-requires-clause-room : goal.dispose-requires-clause-room
dispose-requires-clause-room c = room_for c.args.self.now c.args.owner c.requires.table c.requires.open c.requires.live

pub returns-clause-table : goal.returns-clause-table
returns-clause-table c = turned_table c.args.self.now _ c.args.owner c.requires.table refl refl refl refl refl c.requires.live refl c.dispose.ensures.noted c.dispose.ensures.clock c.requires.open
