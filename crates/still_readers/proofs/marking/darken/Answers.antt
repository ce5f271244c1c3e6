use Rattle.std.proofs.Common.{◌==◌, refl, sym, subst, List, arith}
use Rattle.sources.specs.declared.opening.Opened.{Opened}
use Rattle.still_readers.specs.Marking.{IsSpreading, IsDarkened, LeavesOthers}
use Rattle.still_readers.proofs.Lists.{within_at}
use Rattle.still_readers.proofs.MarkingLemmas.{visit, darkened_one, reached_reader, met_more, leaves_one}
use Rattle.still_readers.proofs.marking.darken.Goals as goal

pub returns-clause-spreading : goal.returns-clause-spreading
returns-clause-spreading c =
    let is = c.requires.spreading in
    let w = (is.of_plan.each c.args._place c.args.reader c.requires.reader).within in
    let p = is.paired in
    let y = within_at c.args.rows.now c.args.reader.node (omega arith) in
    subst (λ (rows : List Opened). IsSpreading c.args._nodes.now rows c.args._readers.now c.reach.new.self c.args.signal c.args.now c.args._place) (sym (c.recolour.ensures y.0 y.1))
    (visit c.args._nodes.now c.args.rows.now c.args._readers.now c.args.marking.now c.reach.new.self c.args.signal c.args.now c.args._place c.args.reader y.0 (c.args.now == c.args.signal) is c.requires.reader c.requires.enrolled c.reach.ensures y.1 refl)

pub returns-clause-darkened : goal.returns-clause-darkened
returns-clause-darkened c =
    let is = c.requires.spreading in
    let w = (is.of_plan.each c.args._place c.args.reader c.requires.reader).within in
    let p = is.paired in
    let y = within_at c.args.rows.now c.args.reader.node (omega arith) in
    subst (λ (rows : List Opened). IsDarkened c.args.rows.now rows) (sym (c.recolour.ensures y.0 y.1)) (darkened_one c.args.rows.now c.args.reader.node y.0 (c.args.now == c.args.signal) y.1)

pub returns-clause-met : goal.returns-clause-met
returns-clause-met c =
    let reached = reached_reader c.args._readers.now c.args.signal c.args.now c.args._place c.args.reader c.requires.reader c.requires.of_row c.requires.enrolled c.requires.now in
    met_more c.args._readers.now c.args.signal c.args.reader.node c.args.marking.now c.reach.new.self reached c.reach.ensures c.requires.met

pub returns-clause-others : goal.returns-clause-others
returns-clause-others c =
    let is = c.requires.spreading in
    let w = (is.of_plan.each c.args._place c.args.reader c.requires.reader).within in
    let p = is.paired in
    let y = within_at c.args.rows.now c.args.reader.node (omega arith) in
    let reached = reached_reader c.args._readers.now c.args.signal c.args.now c.args._place c.args.reader c.requires.reader c.requires.of_row c.requires.enrolled c.requires.now in
    subst (λ (rows : List Opened). LeavesOthers c.args._readers.now c.args.signal c.args.rows.now rows) (sym (c.recolour.ensures y.0 y.1)) (leaves_one c.args._readers.now c.args.signal c.args.reader.node c.args.rows.now _ reached)
