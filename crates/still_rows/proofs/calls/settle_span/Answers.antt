use Rattle.std.proofs.Common.{◌≡◌, ◌∙◌, ℕ, true, Some, slice_get, refl, sym, ap, subst, arith}
use Rattle.values.specs.declared.code.Code.{Code}
use Rattle.sources.specs.Colours.{is_clean}
use Rattle.sources.proofs.RowLemmas.{clean_at}
use Rattle.still_readers.proofs.Lists.{either}
use Rattle.still_rows.proofs.FramesLemmas.{reads_back}
use Rattle.still_rows.proofs.SinceLemmas.{clean_stays}
use Rattle.still_rows.proofs.WorksLemmas.{stepped_same, stepped_more, span_below, span_drawn}
use Rattle.still_rows.proofs.calls.settle_span.Goals as goal

pub loop-at-init : goal.loop-at-init
loop-at-init c = record { fits = c.requires.work; stepped = stepped_same _ _ _ _ c.requires.still; past = (λ i l. refl); clean = (λ i node row l n r k. c.requires.behind i node row l n r k) }

pub loop-at-preserved : goal.loop-at-preserved
loop-at-preserved c =
    let e = c.in_ok-refresh_memo.ensures in
    let old = c.loop-at.invariant in
    record {
      fits = e.work;
      stepped = stepped_more _ _ c.loop-at.rows _ _ c.loop-at.readers _ _ c.loop-at.clock _ old.stepped e.stepped;
      past = (λ i l. e.past i (omega arith) ∙ old.past i (omega arith));
      clean = (λ i node row l n r memo.
          let here : (i ≡ c.loop-at.at) → is_clean row.colour ≡ true = (λ same.
          e.clean node row (subst (λ (j : ℕ). slice_get c.args.nodes.now j ≡ Some node) same n) (subst (λ (j : ℕ). slice_get c.refresh_memo.new.rows j ≡ Some row) same r) memo) in
          let there : (i ≡ c.loop-at.at → ⊥) → is_clean row.colour ≡ true = (λ other. clean_stays c.loop-at.rows _ _ _ e.stepped.since i row r (λ y at. old.clean i node y (omega arith) n at memo)) in
          either i c.loop-at.at _ here there);
    }

pub returns-clause-settled : goal.returns-clause-settled
returns-clause-settled c = λ i node row l n r memo.
    let s = c.loop-at.invariant.stepped in
    let clean = c.loop-at.invariant.clean i node row (let e = c.loop-at-test.false in omega arith) n r memo in
    (clean, sym (clean_at _ _ (reads_back c.args.nodes.now c.requires.still.lawful) s.still.good i row r clean) ∙ ap (λ (f : ℕ → Code). f i) s.values)

pub returns-in_err-refresh_memo-clause-stepped : goal.returns-in_err-refresh_memo-clause-stepped
returns-in_err-refresh_memo-clause-stepped c = stepped_more _ _ c.loop-at.rows _ _ c.loop-at.readers _ _ c.loop-at.clock _ c.loop-at.invariant.stepped c.in_err-refresh_memo.ensures.stepped

pub returns-in_err-refresh_memo-clause-below : goal.returns-in_err-refresh_memo-clause-below
returns-in_err-refresh_memo-clause-below c =
    let l = c.loop-at-test.true in
    let e = c.in_err-refresh_memo.ensures in
    let old = c.loop-at.invariant in
    span_below c.args.nodes.now c.args.rows.now c.refresh_memo.new.rows c.args.readers.now c.refresh_memo.new.readers c.args.clock.now c.refresh_memo.new.clock c.args.from c.args.to c.requires.still.good
    (stepped_more _ _ c.loop-at.rows _ _ c.loop-at.readers _ _ c.loop-at.clock _ old.stepped e.stepped) c.requires.span c.requires.within c.requires.behind (λ i m. c.refresh_memo.ensures.past i (omega arith) ∙ old.past i (omega arith))

pub returns-in_err-refresh_memo-clause-drawn : goal.returns-in_err-refresh_memo-clause-drawn
returns-in_err-refresh_memo-clause-drawn c =
    let l = c.loop-at-test.true in
    let e = c.in_err-refresh_memo.ensures in
    let old = c.loop-at.invariant in
    span_drawn c.args.nodes.now c.args.rows.now c.refresh_memo.new.rows c.args.readers.now c.refresh_memo.new.readers c.args.clock.now c.refresh_memo.new.clock c.args.from c.args.to c.requires.still.good
    (stepped_more _ _ c.loop-at.rows _ _ c.loop-at.readers _ _ c.loop-at.clock _ old.stepped e.stepped) c.requires.span c.requires.within c.requires.behind (λ i m. c.refresh_memo.ensures.past i (omega arith) ∙ old.past i (omega arith))

pub returns-clause-below : goal.returns-clause-below
returns-clause-below c =
    let l = c.loop-at.auto.at-end in
    let old = c.loop-at.invariant in
    span_below c.args.nodes.now c.args.rows.now c.loop-at.rows c.args.readers.now c.loop-at.readers c.args.clock.now c.loop-at.clock c.args.from c.args.to c.requires.still.good old.stepped c.requires.span c.requires.within c.requires.behind (λ i m. old.past i (omega arith))

pub returns-clause-drawn : goal.returns-clause-drawn
returns-clause-drawn c =
    let l = c.loop-at.auto.at-end in
    let old = c.loop-at.invariant in
    span_drawn c.args.nodes.now c.args.rows.now c.loop-at.rows c.args.readers.now c.loop-at.readers c.args.clock.now c.loop-at.clock c.args.from c.args.to c.requires.still.good old.stepped c.requires.span c.requires.within c.requires.behind (λ i m. old.past i (omega arith))
