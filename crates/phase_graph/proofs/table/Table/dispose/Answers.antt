use Rattle.std.proofs.Common.{sym, subst}
use Rattle.phase_graph.specs.Table.{AreOwners}
use Rattle.phase_graph.proofs.Areas.{lawful_owners}
use Rattle.phase_graph.proofs.table.Table.dispose.Goals as goal

pub mark_area-requires-clause-owners : goal.mark_area-requires-clause-owners
mark_area-requires-clause-owners c = subst AreOwners (sym c.as_slice.ensures) (lawful_owners c.args.self.now.plan c.requires.table.lawful)
