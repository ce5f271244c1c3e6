use Rattle.std.proofs.Common.{arith}
use Rattle.still_readers.proofs.Lists.{within_at, on_ok}
use Rattle.still_readers.proofs.BuildingLemmas.{grown_none, linked_grows, linked_all, standing_all, outside_all}
use Rattle.still_readers.specs.Building.{IsOne}
use Rattle.still_readers.proofs.readers.Readers.add_reader.Goals as goal

pub returns-then-row-len-clause-grown : goal.returns-then-row-len-clause-grown
returns-then-row-len-clause-grown c = grown_none c.args.node (IsOne c.args.row) c.args.self.now

pub returns-then-row-len-clause-all : goal.returns-then-row-len-clause-all
returns-then-row-len-clause-all c = outside_all c.args.row c.args.from c.args.self.now (omega arith)

pub returns-in-Some-clause-grown : goal.returns-in-Some-clause-grown
returns-in-Some-clause-grown c = grown_none c.args.node (IsOne c.args.row) c.args.self.now

pub returns-in-Some-clause-all : goal.returns-in-Some-clause-all
returns-in-Some-clause-all c = let s = c.in-Some.ensures.some in standing_all c.args.row c.args.from c.in-Some.field-0 c.args.self.now s.0 s.2 s.3

pub returns-in-None-clause-grown : goal.returns-in-None-clause-grown
returns-in-None-clause-grown c =
    let b = within_at c.args.self.now.last c.args.row (let a = c.if-row-len.false in omega arith) in
    on_ok c.link.result (λ h. linked_grows c.args.node c.args.row b.0 c.args.self.now c.link.new.self b.1 (h b.0 b.1)) c.link.ensures

pub returns-in-None-clause-all : goal.returns-in-None-clause-all
returns-in-None-clause-all c =
    let b = within_at c.args.self.now.last c.args.row (let a = c.if-row-len.false in omega arith) in
    on_ok c.link.result (λ h. linked_all c.args.node c.args.row b.0 c.args.self.now c.link.new.self c.args.from c.requires (h b.0 b.1)) c.link.ensures
