use Rattle.std.proofs.Common.{◌∷◌, map, ap, ◌∙◌}
use Rattle.plain_evaluation.specs.Keyed.{is_keyed}
use Rattle.plain_evaluation.specs.Written.{written}
use Rattle.plan_meaning.specs.Owners.{item_owning, owners_inside, top_owner}
use Rattle.plan_lines.specs.Flags.{flag_at}
use Rattle.plan_lines.specs.Lines.{placed_in}
use Rattle.node_plan.proofs.RowsLemmas.{rows_by, names_by, nodes_by, few_rows, rows_apart}
use Rattle.node_plan.proofs.layout.lay_out_lines.Goals as goal

pub names_of-requires-clause-few : goal.names_of-requires-clause-few
names_of-requires-clause-few c =
    let ws = written c.args.component.now c.args.held.now.held in
    let same = ap (map placed_in) c.as_slice.ensures.value ∙ rows_by (map placed_in c.args.lines.now) (map placed_in c.in_ok-rows.rows.items) ws c.in_ok-rows.ensures c.requires.lines in
    few_rows c.args.component.now c.args.held.now.held c.items.ensures.kept c.requires.fits.fits c.as_slice.result.now same

pub names_of-requires-clause-apart : goal.names_of-requires-clause-apart
names_of-requires-clause-apart c =
    let ws = written c.args.component.now c.args.held.now.held in
    let same = ap (map placed_in) c.as_slice.ensures.value ∙ rows_by (map placed_in c.args.lines.now) (map placed_in c.in_ok-rows.rows.items) ws c.in_ok-rows.ensures c.requires.lines in
    rows_apart c.args.component.now c.args.held.now.held c.items.ensures.kept c.requires.fits.fits (map placed_in c.as_slice.result.now) same

pub returns-clause-names : goal.returns-clause-names
returns-clause-names c =
    let ws = written c.args.component.now c.args.held.now.held in
    let same = ap (map placed_in) c.as_slice.ensures.value ∙ rows_by (map placed_in c.args.lines.now) (map placed_in c.in_ok-rows.rows.items) ws c.in_ok-rows.ensures c.requires.lines in
    c.in_ok-names.ensures ∙ names_by (map placed_in c.as_slice.result.now) ws same

pub returns-clause-plan : goal.returns-clause-plan
returns-clause-plan c =
    let component = c.args.component.now in
    let ws = written component c.args.held.now.held in
    let rows = rows_by (map placed_in c.args.lines.now) (map placed_in c.in_ok-rows.rows.items) ws c.in_ok-rows.ensures c.requires.lines in
    let names = c.in_ok-names.ensures ∙ names_by (map placed_in c.as_slice.result.now) ws (ap (map placed_in) c.as_slice.ensures.value ∙ rows) in
    let nodes = c.in_ok-nodes.ensures ∙ nodes_by (is_keyed component) (flag_at c.as_slice-3.result.now) c.in_ok-names.names (map placed_in c.as_slice-2.result.now) ws (ap flag_at c.as_slice-3.ensures.value ∙ c.in_ok-keyed.ensures) names (ap (map placed_in) c.as_slice-2.ensures.value ∙ rows) in
    let owners = c.in_ok-owners.ensures ∙ ap (λ items. top_owner ∷ owners_inside (map item_owning items) 0) c.items.ensures.items in
    λ i. record { nodes = nodes i; owners = owners i }
