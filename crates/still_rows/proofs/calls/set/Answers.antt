use Rattle.std.proofs.Common.{◌≡◌, ℕ, sym, subst, arith, set}
use Rattle.values.specs.Packing.{packed}
use Rattle.still_readers.specs.Marking.{IsDarkened, written_row}
use Rattle.still_readers.proofs.Lists.{at_within, within_at}
use Rattle.still_rows.specs.declared.clock.Clock.{Clock}
use Rattle.still_rows.specs.Clock.{now_of}
use Rattle.still_rows.specs.Works.{IsStill}
use Rattle.still_rows.proofs.SetLemmas.{dated_darkened, roomy_darkened}
use Rattle.still_rows.proofs.calls.set.Goals as goal

pub write_row-requires-clause-newer : goal.write_row-requires-clause-newer
write_row-requires-clause-newer c = λ row at. let d = c.requires.still.dated.held c.args.signal row at in let v = c.in_ok-version.ensures.version in omega arith

pub returns-clause-still : goal.returns-clause-still
returns-clause-still c =
    let s = c.requires.signal in
    let still = c.requires.still in
    let l = at_within c.args.nodes.now c.args.signal s.node s.at in let p = still.good.paired in
    let y = within_at c.args.rows.now c.args.signal (omega arith) in
    let re = c.write_row.ensures.written y.0 y.1 in
    let t = c.in_ok-version.ensures.ticked in
    let a = t.base in let b = t.drawn in let v = c.in_ok-version.ensures.version in
    record {
      lawful = still.lawful;
      good = c.write_row.ensures.good;
      dated = dated_darkened c.args.rows.now c.write_row.new.rows c.args.signal (packed c.args.code) c.in_ok-version.version (now_of c.args.clock.now) (now_of c.tick.new.self) y.0 y.1 still.dated (omega arith) (omega arith) re;
      roomy = roomy_darkened c.args.nodes.now c.args.rows.now c.write_row.new.rows c.args.signal (packed c.args.code) c.in_ok-version.version y.0 y.1 still.roomy re;
      of_plan = still.of_plan;
      enrolled = c.write_row.ensures.enrolled;
      ticks = c.tick.ensures.clock;
    }

pub returns-clause-written : goal.returns-clause-written
returns-clause-written c = λ row at.
    let t = c.in_ok-version.ensures.ticked in
    let a = t.base in let b = t.drawn in let v = c.in_ok-version.ensures.version in
    let same : c.in_ok-version.version ≡ now_of c.tick.new.self = omega arith in
    subst (λ (q : ℕ). IsDarkened (set c.args.rows.now c.args.signal (written_row row (packed c.args.code) q)) c.write_row.new.rows) same (c.write_row.ensures.written row at)

pub returns-in_err-version-clause-still : goal.returns-in_err-version-clause-still
returns-in_err-version-clause-still c = subst (λ (q : Clock). IsStill c.args.nodes.now c.args.rows.now c.args.readers.now q) (sym c.in_err-version.ensures.unchanged) c.requires.still
