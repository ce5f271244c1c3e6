use Rattle.std.proofs.Common.{◌∙◌, List, length, sym, subst}
use Rattle.std.proofs.lemmas.List.{with_items_is}
use Rattle.sources.specs.declared.opening.Opened.{Opened}
use Rattle.phase_graph.specs.Table.{AreFirstRows, AreGiven}
use Rattle.phase_graph.proofs.First.{first_rows}
use Rattle.phase_graph.proofs.making.Parts.new.Goals as goal

pub returns : goal.returns
returns c =
    let r = c.in_ok-rows.ensures in
    let given = subst (λ (q : List Opened). AreGiven c.args.nodes.now c.args.codes.now (length c.args.nodes.now) q c.give_all.new.rows) c.as_mut_slice.ensures.value c.give_all.ensures in
    let first = first_rows c.args.nodes.now c.args.codes.now c.in_ok-rows.rows.items c.give_all.new.rows c.in_ok-new.field-0 c.requires.paired r.good r.dated r.roomy r.fresh given c.in_ok-new.ensures.of_plan in
    record {
      made = record {
        rows = subst (λ (q : List Opened). AreFirstRows c.args.nodes.now c.args.codes.now q c.in_ok-new.field-0) (sym (with_items_is c.in_ok-rows.rows c.give_all.new.rows (c.give_all.ensures.paired ∙ c.as_mut_slice.ensures.len))) first;
        fits = c.in_ok-new-2.ensures;
      };
    }
