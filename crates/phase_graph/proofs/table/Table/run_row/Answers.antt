use Rattle.std.proofs.Common.{refl, sym, ◌∙◌}
use Rattle.phase_graph.proofs.Rows.{is_effect_at, is_other_at}
use Rattle.phase_graph.proofs.table.Table.run_row.Goals as goal

pub returns-then-not-is_effect-clause-turned : goal.returns-then-not-is_effect-clause-turned
returns-then-not-is_effect-clause-turned c = (is_other_at c.args.self.now c.as_slice.result.now c.args.row c.index-as_slice-row.result c.as_slice.ensures c.requires.row (sym c.is_effect.ensures ∙ c.if-not-is_effect.true), refl)

pub run_owned-requires-clause-effect : goal.run_owned-requires-clause-effect
run_owned-requires-clause-effect c = is_effect_at c.args.self.now.plan.nodes c.as_slice.result.now c.args.row c.index-as_slice-row.result c.as_slice.ensures c.requires.row (sym c.is_effect.ensures ∙ c.if-not-is_effect.false)
