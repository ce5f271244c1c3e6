use Rattle.std.proofs.Common.{refl, sym, ◌∙◌}
use Rattle.std.proofs.lemmas.List.{with_items_is}
use Rattle.phase_graph.proofs.Effects.{came_of, came_kept}
use Rattle.phase_graph.proofs.Tables.{still_parts}
use Rattle.phase_graph.proofs.table.Table.try_effect.Goals as goal

pub run_effect-requires-clause-still : goal.run_effect-requires-clause-still
run_effect-requires-clause-still c = still_parts c.args.self.now c.requires.table c.requires.open c.as_slice.result.now c.as_slice.ensures c.as_mut_slice.result.now c.as_mut_slice.ensures.value

pub returns-clause-came : goal.returns-clause-came
returns-clause-came c = came_of c.args.self.now _ c.args.row c.run_effect.result c.as_slice.result.now c.as_mut_slice.result.now c.run_effect.new.rows c.as_slice.ensures c.as_mut_slice.ensures.value
    (sym (with_items_is c.args.self.now.rows c.run_effect.new.rows (c.run_effect.ensures.still.good.paired ∙ sym (still_parts c.args.self.now c.requires.table c.requires.open c.as_slice.result.now c.as_slice.ensures c.as_mut_slice.result.now c.as_mut_slice.ensures.value).good.paired ∙ c.as_mut_slice.ensures.len))) refl refl refl
    record { still = c.run_effect.ensures.still; fits = c.run_effect.ensures.work; base = c.run_effect.ensures.base; in_phase = c.run_effect.ensures.phase; ended = c.run_effect.ensures.ended; stopped = c.run_effect.ensures.stopped; clean = c.run_effect.ensures.clean; unclean = c.run_effect.ensures.unclean; others = c.run_effect.ensures.effects; spent = c.run_effect.ensures.spent; full = c.run_effect.ensures.full }

pub returns-clause-kept : goal.returns-clause-kept
returns-clause-kept c = came_kept c.args.self.now _ c.args.row c.run_effect.result c.requires.table c.requires.open (returns-clause-came c)
