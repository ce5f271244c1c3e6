use Rattle.std.proofs.Common.{arith, ◌∙◌, ap, sym, ℕ}
use Rattle.values.specs.declared.code.Code.{Code}
use Rattle.sources.proofs.RowLemmas.{clean_at}
use Rattle.still_rows.proofs.FramesLemmas.{reads_back, are_packed}
use Rattle.still_rows.proofs.calls.get.Goals as goal

pub value_of-requires : goal.value_of-requires
value_of-requires c = (are_packed c.args.nodes.now c.refresh.new.rows c.refresh.ensures.stepped.still.good).each c.args.node c.row_at-row.result.now c.row_at-row.ensures

pub returns-clause-value : goal.returns-clause-value
returns-clause-value c =
    let s = c.refresh.ensures.stepped in
    let clean = c.in_ok-refresh.ensures.clean c.row_at-row.result.now c.row_at-row.ensures in
    c.value_of.ensures ∙ sym (clean_at _ _ (reads_back c.args.nodes.now c.requires.still.lawful) s.still.good c.args.node c.row_at-row.result.now c.row_at-row.ensures clean) ∙ ap (λ (f : ℕ → Code). f c.args.node) s.values

pub number_of-requires : goal.number_of-requires
number_of-requires c =
    let s = c.refresh.ensures.stepped.still in
    let d = s.dated.held c.args.node c.row_at-row.result.now c.row_at-row.ensures in let f = s.ticks.few in omega arith
