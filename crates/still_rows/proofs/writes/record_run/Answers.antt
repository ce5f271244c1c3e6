use Rattle.std.proofs.Common.{◌∙◌, ℕ, List, length, sym, ap, subst}
use Rattle.values.specs.Packing.{unpacked, IsPacked}
use Rattle.sources.specs.declared.body.Read.{Read}
use Rattle.sources.specs.declared.opening.Opened.{Opened}
use Rattle.still_readers.proofs.Lists.{one_at}
use Rattle.still_rows.specs.Ends.{IsPut, IsEnrolledFor, IsRunRecorded}
use Rattle.still_rows.proofs.writes.record_run.Goals as goal

pub returns : goal.returns
returns c = λ row at.
    let row0 = c.row_at.result.now in
    let node = c.args.frame.node in
    let cause = c.cause_of-cause.result in
    let version = c.args.version in
    let put0 = c.put.ensures row0 c.row_at.ensures in
    let put1 = subst (λ (l : List Read). IsPut c.args.rows.now c.put.new.rows node row0 cause c.pack.result version l) c.as_slice-2.ensures put0 in
    subst (λ (q : Opened). IsRunRecorded c.args.rows.now c.put.new.rows c.args.readers.now c.enrol_all.new.readers c.args.frame c.args.code version c.args.reads.now.list q) (one_at row0 row c.row_at.ensures at) record {
      cause = cause;
      caused = c.cause_of-cause.ensures;
      packs = subst (λ (w : ℕ). IsPacked w) c.pack.ensures.word c.pack.ensures.is_packed;
      undone = ap unpacked (sym c.pack.ensures.word) ∙ c.pack.ensures.value;
      put = subst (λ (w : ℕ). IsPut c.args.rows.now c.put.new.rows node row0 cause w version c.args.reads.now.list) c.pack.ensures.word put1;
      enrolled = subst (λ (l : List Read). IsEnrolledFor node l (length l) c.args.readers.now c.enrol_all.new.readers) c.as_slice.ensures c.enrol_all.ensures;
    }
