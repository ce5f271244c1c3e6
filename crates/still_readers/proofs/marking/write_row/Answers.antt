use Rattle.std.proofs.Common.{◌≡◌, ◌∙◌, ℕ, List, length, replicate, slice_get, false, sym, ap, subst, arith}
use Rattle.std.proofs.lemmas.List.{length-replicate}
use Rattle.sources.specs.declared.opening.Opened.{Opened}
use Rattle.still_readers.specs.Marking.{IsSpreading}
use Rattle.still_readers.proofs.Lists.{within_at, at_within, set_other}
use Rattle.still_readers.proofs.MarkingLemmas.{write_spreads, met_first}
use Rattle.still_readers.proofs.marking.write_row.Goals as goal

pub spread-requires : goal.spread-requires
spread-requires c =
    let s = c.requires.signal in
    let l = at_within c.args.nodes.now c.args.signal s.node s.at in let p = c.requires.good.paired in
    let y = within_at c.args.rows.now c.args.signal (omega arith) in
    record {
      spreading =
          subst (λ (rows : List Opened). IsSpreading c.args.nodes.now rows c.args.readers.now c.begin.new.self c.args.signal 0 0) (sym (c.write.ensures y.0 y.1))
          (write_spreads c.args.nodes.now c.args.rows.now c.args.readers.now c.begin.new.self c.args.signal y.0 c.pack.result c.args.version c.requires.good c.requires.of_plan c.requires.enrolled s y.1 (c.requires.newer y.0 y.1) c.pack.ensures.is_packed
          (ap length seen ∙ length-replicate (length c.args.nodes.now) false) seen (let a = c.requires.marking.room in let b = c.begin.ensures.room in omega arith) c.begin.ensures.todo);
      met = met_first c.args.readers.now c.args.signal _ c.begin.ensures.todo;
    }
  where
    seen : c.begin.new.self.seen ≡ replicate (length c.args.nodes.now) false
    seen = c.begin.ensures.seen ∙ ap (λ (n : ℕ). replicate n false) c.requires.marking.seen

pub returns-clause-others : goal.returns-clause-others
returns-clause-others c = λ m apart none.
    let s = c.requires.signal in
    let l = at_within c.args.nodes.now c.args.signal s.node s.at in let p = c.requires.good.paired in
    let y = within_at c.args.rows.now c.args.signal (omega arith) in
    c.spread.ensures.others m none ∙ ap (λ (rows : List Opened). slice_get rows m) (c.write.ensures y.0 y.1) ∙ set_other c.args.rows.now c.args.signal m _ apart
