use Rattle.std.proofs.Common.{◌∙◌, ℕ, sym, ap, arith}
use Rattle.std.proofs.lemmas.Option.{slice_get-get_or, get_or_from_slice_get}
use Rattle.still_readers.proofs.Lists.{within_at}
use Rattle.phase_graph.specs.Table.{is_within}
use Rattle.phase_graph.proofs.Areas.{below_of, within_own, within_none, within_other, within_below}
use Rattle.phase_graph.proofs.disposal.is_in_area.Goals as goal

pub returns-then-at-area : goal.returns-then-at-area
returns-then-at-area c = sym (ap (λ (a : ℕ). is_within c.args.owners.now a c.args.at) (sym c.if-at-area.true) ∙ within_own c.args.owners.now c.args.at (below_of c.args.owners.now c.requires.owners) c.requires.at)

pub returns-then-parent-area : goal.returns-then-parent-area
returns-then-parent-area c =
    let at = slice_get-get_or c.args.owners.now c.args.at _ c.requires.at in
    let less = c.requires.owners.each c.args.at c.in-Some.parent _ at c.in-Some.is in
    let l = c.requires.at in
    let p = within_at c.args.owners.now c.in-Some.parent (omega arith) in
    let b = below_of c.args.owners.now c.requires.owners in
    sym (within_other c.args.owners.now c.args.area c.args.at c.in-Some.parent _ b at c.in-Some.is (λ e. c.if-at-area.false (sym e)) ∙ within_below c.args.owners.now c.args.area c.in-Some.parent p.0 b c.if-parent-area.true p.1)

pub bounds-inside-parent : goal.bounds-inside-parent
bounds-inside-parent c =
    let less = c.requires.owners.each c.args.at c.in-Some.parent _ (slice_get-get_or c.args.owners.now c.args.at _ c.requires.at) c.in-Some.is in
    let l = c.requires.at in let i = c.requires.inside in omega arith

pub returns-in-None : goal.returns-in-None
returns-in-None c = sym (within_none c.args.owners.now c.args.area c.args.at _ (below_of c.args.owners.now c.requires.owners) (slice_get-get_or c.args.owners.now c.args.at _ c.requires.at) c.in-None.is (λ e. c.if-at-area.false (sym e)))

pub returns-else-parent-area : goal.returns-else-parent-area
returns-else-parent-area c =
    let at = slice_get-get_or c.args.owners.now c.args.at _ c.requires.at in
    let less = c.requires.owners.each c.args.at c.in-Some.parent _ at c.in-Some.is in
    get_or_from_slice_get c.args.inside.now c.in-Some.parent _ _ (c.requires.marked.each c.in-Some.parent c.if-parent-area.false less)
    ∙ sym (within_other c.args.owners.now c.args.area c.args.at c.in-Some.parent _ (below_of c.args.owners.now c.requires.owners) at c.in-Some.is (λ e. c.if-at-area.false (sym e)))
