use Rattle.std.proofs.Common.{ℕ, ◌+◌, List, length, slice_get, sym, ap, subst, ◌∙◌}
use Rattle.std.proofs.lemmas.List.{with_items_is}
use Rattle.std.specs.Vec.{with_items}
use Rattle.sources.specs.declared.opening.Opened.{Opened}
use Rattle.sources.specs.Rows.{IsGood}
use Rattle.still_readers.specs.Readers.{IsEnrolled}
use Rattle.phase_graph.specs.Relaying.{HaveMoved}
use Rattle.phase_graph.proofs.table.Table.take_over.Goals as goal

pub returns : goal.returns
returns c =
    let items = with_items_is c.args.self.now.rows c.carry_over.new.rows (c.carry_over.ensures.long ∙ c.as_mut_slice.ensures.len) in
    record {
      same = ap (λ (n : ℕ). record c.args.self.now { rows = with_items c.args.self.now.rows c.carry_over.new.rows; readers = c.renew.new.self; clock = record c.args.self.now.clock { base = c.args.old.clock.base + n } }) c.from.ensures;
      filled = ap (λ (q : List Opened). length q) items ∙ c.carry_over.ensures.long ∙ ap (λ (q : List Opened). length q) c.as_mut_slice.ensures.value;
      moved = subst (λ (q : List Opened). HaveMoved c.args.to.now c.args.old.rows.items q) (sym items) c.carry_over.ensures.kept;
      stayed = (λ later none. ap (λ (q : List Opened). slice_get q later) items ∙ c.carry_over.ensures.fresh later none ∙ ap (λ (q : List Opened). slice_get q later) c.as_mut_slice.ensures.value);
      of_plan = c.renew.ensures.of_plan;
      enrolled = (λ nodes readers good. subst (λ (q : List Opened). IsEnrolled nodes q c.renew.new.self) c.as_slice.ensures.value (c.renew.ensures.enrolled nodes readers (subst (IsGood nodes) (sym c.as_slice.ensures.value) good)));
    }
