use Rattle.std.proofs.Common.{◌≡◌, ◌∙◌, set, ap, refl, arith}
use Rattle.std.proofs.lemmas.Option.{get_or_from_slice_get}
use Rattle.sources.specs.declared.opening.Opened.{Opened}
use Rattle.still_readers.proofs.Lists.{within_at}
use Rattle.phase_graph.proofs.Soiled.{soiled, soiled_table}
use Rattle.phase_graph.proofs.table.Table.soil.Goals as goal

pub returns-clause-dirtied : goal.returns-clause-dirtied
returns-clause-dirtied c =
    let paired = c.requires.table.good.paired in let within = c.requires.row in
    let there = within_at c.args.self.now.rows.items c.args.row (omega arith) in
    let same : c.index_mut.result.now ≡ there.0 = c.index_mut.ensures.value ∙ get_or_from_slice_get c.args.self.now.rows.items c.args.row there.0 _ there.1 in
    record { opened = there.0; at = there.1; rest = refl; rows = ap (λ (z : Opened). set c.args.self.now.rows.items c.args.row (soiled z)) same }

pub returns-clause-table : goal.returns-clause-table
returns-clause-table c =
    let d = returns-clause-dirtied c in
    soiled_table c.args.self.now _ c.args.row d (c.requires.unclean d.opened d.at) c.requires.table
