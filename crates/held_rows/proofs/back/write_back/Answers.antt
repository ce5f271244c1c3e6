use Rattle.std.proofs.lemmas.Option.{slice_get-get_or}
use Rattle.std.proofs.Common.{◌≡◌, ◌+◌, ◌<◌, ℕ, suc, List, Option, length, get_or, set, sym, ap, subst, ◌∙◌, arith}
use Rattle.store_fields.specs.Edits.{KeyedRows}
use Rattle.sources.specs.Rows.{value_in}
use Rattle.plain_evaluation.specs.Changed.{store_in, store_of, with_holding}
use Rattle.plain_evaluation.specs.Held.{Holding, nothing, holding_of}
use Rattle.held_state.specs.State.{HeldState, IsOf, with_held}
use Rattle.held_rows.specs.Shown.{holding_shown, held_shown}
use Rattle.held_rows.specs.Writing.{HasIds}
use Rattle.held_rows.proofs.AtStart.{few_holdings, field_ids}
use Rattle.held_rows.proofs.Shown.{all_shown, shown_is_of}
use Rattle.held_rows.proofs.Upto.{upto, upto_next, upto_more}
use Rattle.held_rows.proofs.back.write_back.Goals as goal
use Rattle.held_rows.proofs.back.write_back.Goals.{In-loop-id, After-loop-id}

all_there : (c : After-loop-id) → c.loop-id.held ≡ with_held c.args.held.now (held_shown c.args.names.now (value_in c.args.rows.now) c.args.held.now.held)
all_there c =
    let change : ℕ → Holding → Holding = holding_shown c.args.names.now (value_in c.args.rows.now) in
    let holdings : List Holding = c.args.held.now.held.holdings in
    let count = c.count-id-end.ensures in
    let le = c.loop-id-test.false in
    let end = c.loop-id.auto.id-end in
    let all : c.loop-id.id ≡ length c.args.held.now.held.holdings = omega arith in
    c.loop-id.invariant
    ∙ ap (λ (n : ℕ). with_held c.args.held.now (record c.args.held.now.held { holdings = upto change 0 n holdings })) all
    ∙ ap (with_held c.args.held.now) (all_shown c.args.names.now (value_in c.args.rows.now) c.args.held.now.held)

pub overflow_cast-id : goal.overflow_cast-id
overflow_cast-id c =
    let few = few_holdings c.args.component.now c.items-items.ensures.kept c.args.held.now c.requires.fits in
    let count = c.count-id-end.ensures in
    let lt = c.loop-id-test.true in
    omega arith

pub write_holding-requires-clause-ids : goal.write_holding-requires-clause-ids
write_holding-requires-clause-ids c =
    let change : ℕ → Holding → Holding = holding_shown c.args.names.now (value_in c.args.rows.now) in
    let same : store_of c.loop-id.held.held c.loop-id.id ≡ store_of c.args.held.now.held c.loop-id.id = ap (λ (s : HeldState). store_of s.held c.loop-id.id) c.loop-id.invariant ∙ ap store_in (upto_next change 0 c.loop-id.id c.args.held.now.held.holdings nothing) in
    subst (λ (o : Option KeyedRows). HasIds c.loop-id.id o) (sym same) (field_ids c.args.component.now c.items-items.ensures.kept c.args.held.now c.requires.fits c.loop-id.id)

pub loop-id-preserved : goal.loop-id-preserved
loop-id-preserved c =
    let change : ℕ → Holding → Holding = holding_shown c.args.names.now (value_in c.args.rows.now) in
    let holdings : List Holding = c.args.held.now.held.holdings in
    let count = c.count-id-end.ensures in
    let lt = c.loop-id-test.true in
    let below : c.loop-id.id < length c.args.held.now.held.holdings = omega arith in
    let here : c.loop-id.id ≡ 0 + c.loop-id.id = omega arith in
    let next : suc c.loop-id.id ≡ c.loop-id.id + 1 = omega arith in
    c.write_holding.ensures
    ∙ ap (λ (s : HeldState). with_held s (with_holding s.held c.loop-id.id (change c.loop-id.id (holding_of s.held c.loop-id.id)))) c.loop-id.invariant
    ∙ (λ i. with_held c.args.held.now (record c.args.held.now.held { holdings = set (upto change 0 c.loop-id.id holdings) c.loop-id.id (change (here i) (upto_next change 0 c.loop-id.id holdings nothing i)) }))
    ∙ ap (λ (hs : List Holding). with_held c.args.held.now (record c.args.held.now.held { holdings = hs })) (upto_more change 0 c.loop-id.id holdings (get_or holdings c.loop-id.id nothing) (slice_get-get_or holdings c.loop-id.id nothing below))
    ∙ ap (λ (n : ℕ). with_held c.args.held.now (record c.args.held.now.held { holdings = upto change 0 n holdings })) next

pub returns-clause-shown : goal.returns-clause-shown
returns-clause-shown c = all_there c

pub returns-clause-fits_still : goal.returns-clause-fits_still
returns-clause-fits_still c = subst (IsOf c.args.component.now) (sym (all_there c)) (shown_is_of c.args.names.now (value_in c.args.rows.now) c.args.component.now c.args.held.now c.requires.fits)
