use Rattle.std.proofs.Common.{◌≡◌, ℕ, ◌<◌, ◌∷◌, List, slice_get, refl, sym, subst, ap, arith}
use Rattle.work_order.specs.declared.frame.Frame.{Frame}
use Rattle.sources.specs.declared.opening.Opened.{Opened}
use Rattle.still_rows.specs.declared.bring.Ended.{Ended}
use Rattle.still_rows.specs.declared.clock.Clock.{Clock}
use Rattle.work_order.specs.Order.{first_frame}
use Rattle.still_rows.specs.Frames.{IsMemo}
use Rattle.still_rows.specs.Works.{IsStepped, IsOnward, StayPast, EndsAs, unclean_count, HasUncleanMemo}
use Rattle.still_rows.proofs.WorksLemmas.{row_of, node_of, stepped_same, some_unclean, below_steps, keep_steps, finish_steps, few_under, run_runs, gone_stack, gone_less, frame_low, past_written, popped}
use Rattle.still_rows.proofs.FreshLemmas.{any_err}
use Rattle.still_rows.proofs.bring.turn.Goals as goal

pub row_at-requires : goal.row_at-requires
row_at-requires c =
    let g = c.go_on-gone.result.frame in
    let e = c.go_on-gone.ensures in
    let stack = gone_stack c.args.nodes.now c.args.rows.now c.args._root c.args.frame g c.args.frames.now c.requires.stack e.frame e.node in
    let node = node_of c.args.nodes.now c.args.rows.now g e.frame in
    let row = row_of c.args.nodes.now c.args.rows.now g c.requires.still.good e.frame in
    let m = subst (λ (q : Ended). EndsAs c.args.nodes.now c.args.rows.now node.0 row.0 g c.go_on-gone.new.reads.list q) c.in-Below.is (e.ended node.0 row.0 node.1 row.1) in
    let b = m.0 in let f = e.frame.below in let p = c.requires.still.good.paired in omega arith

pub push-requires : goal.push-requires
push-requires c =
    let u = few_under _ _ _ _ c.args.frames.now c.requires.stack.2 in let w = c.requires.within in let f = c.requires.still.lawful.few in omega arith

pub keep-requires : goal.keep-requires
keep-requires c = let e = c.go_on-gone.ensures in let f = e.frame.below in let p = c.requires.still.good.paired in omega arith

pub finish-requires-clause-row : goal.finish-requires-clause-row
finish-requires-clause-row c = λ row' r'.
    let g = c.go_on-gone.result.frame in
    let e = c.go_on-gone.ensures in
    let node = node_of c.args.nodes.now c.args.rows.now g e.frame in
    let m = subst (λ (q : Ended). EndsAs c.args.nodes.now c.args.rows.now node.0 row' g c.go_on-gone.new.reads.list q) c.in-Finish.is (e.ended node.0 row' node.1 r') in
    run_runs c.args.nodes.now c.args.rows.now node.0 row' g c.in-Finish.code c.go_on-gone.new.reads.list c.requires.still.good c.requires.still.roomy e.frame node.1 r' m

pub finish-requires-clause-due : goal.finish-requires-clause-due
finish-requires-clause-due c =
    let g = c.go_on-gone.result.frame in
    let e = c.go_on-gone.ensures in
    let node = node_of c.args.nodes.now c.args.rows.now g e.frame in
    let row = row_of c.args.nodes.now c.args.rows.now g c.requires.still.good e.frame in
    let m = subst (λ (q : Ended). EndsAs c.args.nodes.now c.args.rows.now node.0 row.0 g c.go_on-gone.new.reads.list q) c.in-Finish.is (e.ended node.0 row.0 node.1 row.1) in
    m.due

pub finish-requires-clause-node : goal.finish-requires-clause-node
finish-requires-clause-node c = let e = c.go_on-gone.ensures in let f = e.frame.below in let p = c.requires.still.good.paired in omega arith

pub returns-in_err-finish-in-Finish-clause-stepped : goal.returns-in_err-finish-in-Finish-clause-stepped
returns-in_err-finish-in-Finish-clause-stepped c =
    let e = c.in_err-finish-in-Finish.ensures in
    rw (e.rows, e.readers, e.unchanged) (stepped_same _ _ _ _ c.requires.still)

pub returns-in-Below-clause-stepped :
    goal.returns-in-Below-clause-stepped
returns-in-Below-clause-stepped c = stepped_same _ _ _ _ c.requires.still

pub returns-in-Below-clause-onward :
    goal.returns-in-Below-clause-onward
returns-in-Below-clause-onward c =
    let g = c.go_on-gone.result.frame in
    let e = c.go_on-gone.ensures in
    let stack = gone_stack c.args.nodes.now c.args.rows.now c.args._root c.args.frame g c.args.frames.now c.requires.stack e.frame e.node in
    let node = node_of c.args.nodes.now c.args.rows.now g e.frame in
    let row = row_of c.args.nodes.now c.args.rows.now g c.requires.still.good e.frame in
    let m = subst (λ (q : Ended). EndsAs c.args.nodes.now c.args.rows.now node.0 row.0 g c.go_on-gone.new.reads.list q) c.in-Below.is (e.ended node.0 row.0 node.1 row.1) in
    let y = c.row_at.result.now in
    let first : c.new-first.result ≡ first_frame c.in-Below.source y.body.cause = c.new-first.ensures in
    let pushed : c.new-first.result ∷ c.push.new.self ≡ first_frame c.in-Below.source y.body.cause ∷ g ∷ c.args.frames.now = λ i. first i ∷ c.push.ensures i in
    subst (λ (l : List Frame). IsOnward c.args.nodes.now c.args.rows.now c.args.rows.now c.args._root (c.args.frame ∷ c.args.frames.now) l) (sym pushed)
    (gone_less _ _ _ _ c.args.frame g c.args.frames.now _ e.node e.less
    (below_steps _ _ _ c.in-Below.source g c.args.frames.now node.0 y c.requires.still.lawful c.requires.still.good stack node.1 m c.row_at.ensures))

pub returns-in-Keep-clause-stepped : goal.returns-in-Keep-clause-stepped
returns-in-Keep-clause-stepped c =
    let g = c.go_on-gone.result.frame in
    let e = c.go_on-gone.ensures in
    let stack = gone_stack c.args.nodes.now c.args.rows.now c.args._root c.args.frame g c.args.frames.now c.requires.stack e.frame e.node in
    let node = node_of c.args.nodes.now c.args.rows.now g e.frame in
    let row = row_of c.args.nodes.now c.args.rows.now g c.requires.still.good e.frame in
    let m = subst (λ (q : Ended). EndsAs c.args.nodes.now c.args.rows.now node.0 row.0 g c.go_on-gone.new.reads.list q) c.in-Keep.is (e.ended node.0 row.0 node.1 row.1) in
    subst (λ (r : List Opened). IsStepped c.args.nodes.now c.args.rows.now r c.args.readers.now c.args.readers.now c.args.clock.now c.args.clock.now) (sym (c.keep.ensures row.0 row.1))
    (keep_steps _ _ _ c.args.readers.now c.args.clock.now g c.args.frames.now node.0 row.0 c.requires.still stack node.1 row.1 m).0

pub returns-in-Keep-clause-onward : goal.returns-in-Keep-clause-onward
returns-in-Keep-clause-onward c =
    let g = c.go_on-gone.result.frame in
    let e = c.go_on-gone.ensures in
    let stack = gone_stack c.args.nodes.now c.args.rows.now c.args._root c.args.frame g c.args.frames.now c.requires.stack e.frame e.node in
    let node = node_of c.args.nodes.now c.args.rows.now g e.frame in
    let row = row_of c.args.nodes.now c.args.rows.now g c.requires.still.good e.frame in
    let m = subst (λ (q : Ended). EndsAs c.args.nodes.now c.args.rows.now node.0 row.0 g c.go_on-gone.new.reads.list q) c.in-Keep.is (e.ended node.0 row.0 node.1 row.1) in
    subst (λ (l : List Frame). IsOnward c.args.nodes.now c.args.rows.now c.keep.new.rows c.args._root (c.args.frame ∷ c.args.frames.now) l) (sym (popped c.pop.result c.args.frames.now c.pop.new.self c.pop.ensures))
    (subst (λ (r : List Opened). IsOnward c.args.nodes.now c.args.rows.now r c.args._root (c.args.frame ∷ c.args.frames.now) c.args.frames.now) (sym (c.keep.ensures row.0 row.1))
    (gone_less _ _ _ _ c.args.frame g c.args.frames.now _ e.node e.less
    (keep_steps _ _ _ c.args.readers.now c.args.clock.now g c.args.frames.now node.0 row.0 c.requires.still stack node.1 row.1 m).1))

pub returns-in_ok-finish-in-Finish-clause-stepped : goal.returns-in_ok-finish-in-Finish-clause-stepped
returns-in_ok-finish-in-Finish-clause-stepped c =
    let g = c.go_on-gone.result.frame in
    let e = c.go_on-gone.ensures in
    let stack = gone_stack c.args.nodes.now c.args.rows.now c.args._root c.args.frame g c.args.frames.now c.requires.stack e.frame e.node in
    let node = node_of c.args.nodes.now c.args.rows.now g e.frame in
    let row = row_of c.args.nodes.now c.args.rows.now g c.requires.still.good e.frame in
    let m = subst (λ (q : Ended). EndsAs c.args.nodes.now c.args.rows.now node.0 row.0 g c.go_on-gone.new.reads.list q) c.in-Finish.is (e.ended node.0 row.0 node.1 row.1) in
    let w = c.in_ok-finish-in-Finish.ensures in
    (finish_steps _ _ _ _ _ _ _ _ g c.args.frames.now node.0 row.0 c.in-Finish.code c.go_on-gone.new.reads.list c.requires.still stack node.1 row.1 m w.clock (w.finished row.0 row.1)).0

pub returns-in_ok-finish-in-Finish-clause-onward : goal.returns-in_ok-finish-in-Finish-clause-onward
returns-in_ok-finish-in-Finish-clause-onward c =
    let g = c.go_on-gone.result.frame in
    let e = c.go_on-gone.ensures in
    let stack = gone_stack c.args.nodes.now c.args.rows.now c.args._root c.args.frame g c.args.frames.now c.requires.stack e.frame e.node in
    let node = node_of c.args.nodes.now c.args.rows.now g e.frame in
    let row = row_of c.args.nodes.now c.args.rows.now g c.requires.still.good e.frame in
    let m = subst (λ (q : Ended). EndsAs c.args.nodes.now c.args.rows.now node.0 row.0 g c.go_on-gone.new.reads.list q) c.in-Finish.is (e.ended node.0 row.0 node.1 row.1) in
    let w = c.in_ok-finish-in-Finish.ensures in
    subst (λ (l : List Frame). IsOnward c.args.nodes.now c.args.rows.now c.finish.new.rows c.args._root (c.args.frame ∷ c.args.frames.now) l) (sym (popped c.pop-in-Finish.result c.args.frames.now c.pop-in-Finish.new.self c.pop-in-Finish.ensures))
    (gone_less _ _ _ _ c.args.frame g c.args.frames.now _ e.node e.less
    (finish_steps _ _ _ _ _ _ _ _ g c.args.frames.now node.0 row.0 c.in-Finish.code c.go_on-gone.new.reads.list c.requires.still stack node.1 row.1 m w.clock (w.finished row.0 row.1)).1)

pub returns-in_err-finish-in-Finish-clause-full : goal.returns-in_err-finish-in-Finish-clause-full
returns-in_err-finish-in-Finish-clause-full c =
    let e = c.in_err-finish-in-Finish.ensures in
    any_err c.from_residual.result (let a = e.full in let b = ap (λ (q : Clock). q.drawn) e.unchanged in omega arith)

pub returns-in_err-finish-in-Finish-clause-left : goal.returns-in_err-finish-in-Finish-clause-left
returns-in_err-finish-in-Finish-clause-left c =
    let g = c.go_on-gone.result.frame in
    let e = c.go_on-gone.ensures in
    let node = node_of c.args.nodes.now c.args.rows.now g e.frame in
    let row = row_of c.args.nodes.now c.args.rows.now g c.requires.still.good e.frame in
    any_err c.from_residual.result (subst (λ (q : List Opened). 0 < unclean_count q) (sym c.in_err-finish-in-Finish.ensures.rows)
    (some_unclean c.args.rows.now g.node row.0 row.1 (e.frame.each node.0 row.0 node.1 row.1).unclean))

pub returns-in_err-finish-in-Finish-clause-memo_left : goal.returns-in_err-finish-in-Finish-clause-memo_left
returns-in_err-finish-in-Finish-clause-memo_left c =
    let g = c.go_on-gone.result.frame in
    let e = c.go_on-gone.ensures in
    let node = node_of c.args.nodes.now c.args.rows.now g e.frame in
    let row = row_of c.args.nodes.now c.args.rows.now g c.requires.still.good e.frame in
    any_err c.from_residual.result (subst (λ (q : List Opened). HasUncleanMemo c.args.nodes.now q) (sym c.in_err-finish-in-Finish.ensures.rows)
    record { row = g.node; memo = subst (λ (i : ℕ). IsMemo c.args.nodes.now i) (sym e.node) c.requires.stack.1; opened = row.0; at = row.1; unclean = (e.frame.each node.0 row.0 node.1 row.1).unclean })

pub returns-in-Keep-clause-past : goal.returns-in-Keep-clause-past
returns-in-Keep-clause-past c =
    let e = c.go_on-gone.ensures in
    let row = row_of c.args.nodes.now c.args.rows.now c.go_on-gone.result.frame c.requires.still.good e.frame in
    let low = frame_low c.args.nodes.now c.args.rows.now c.args._root c.args.frame c.args.frames.now c.requires.stack in
    subst (λ (r : List Opened). StayPast c.args._root c.args.rows.now r) (sym (c.keep.ensures row.0 row.1))
    (past_written c.args.rows.now c.args._root c.go_on-gone.result.frame.node _ (let n = e.node in omega arith))

pub returns-in_ok-finish-in-Finish-clause-past : goal.returns-in_ok-finish-in-Finish-clause-past
returns-in_ok-finish-in-Finish-clause-past c =
    let e = c.go_on-gone.ensures in
    let row = row_of c.args.nodes.now c.args.rows.now c.go_on-gone.result.frame c.requires.still.good e.frame in
    let low = frame_low c.args.nodes.now c.args.rows.now c.args._root c.args.frame c.args.frames.now c.requires.stack in
    subst (λ (r : List Opened). StayPast c.args._root c.args.rows.now r) (sym (c.in_ok-finish-in-Finish.ensures.finished row.0 row.1).run.put.is)
    (past_written c.args.rows.now c.args._root c.go_on-gone.result.frame.node _ (let n = e.node in omega arith))

pub returns-in_err-finish-in-Finish-clause-past : goal.returns-in_err-finish-in-Finish-clause-past
returns-in_err-finish-in-Finish-clause-past c = λ i l. ap (λ (r : List Opened). slice_get r i) c.in_err-finish-in-Finish.ensures.rows

pub returns-in-Below-clause-past : goal.returns-in-Below-clause-past
returns-in-Below-clause-past c = λ i l. refl
