use Rattle.std.proofs.Common.{◌≡◌, set, get_or, ◌∙◌, sym, ap, arith}
use Rattle.std.proofs.lemmas.Grind.{common_steps}
use Rattle.std.proofs.Math.ListN.{get_or-map}
use Rattle.std.specs.Option.{ghost_name_of}
use borrow.Follows.Closed.{read_of}
use Rattle.store_fields.specs.Edits.{KeyedRows}
use Rattle.plain_evaluation.specs.Changed.{with_store, store_in, store_of}
use Rattle.held_state.specs.declared.holding.Holding.TheVariants.{Nothing, Stored}
use Rattle.held_state.specs.Seen.{state_seen, holding_seen}
use Rattle.held_state.specs.State.{with_held}
use Rattle.held_state.proofs.Seen.{seen-set}
use Rattle.held_state.proofs.held.Held.store.Goals as goal

pub returns : goal.returns
returns c =
    let first : (w : KeyedRows) → state_seen (set c.self.inside.holdings.items c.args.id (Stored w)) c.self.inside.live.items c.self.inside.goings.items ≡ with_held c.args.self.now (with_store c.args.self.now.held c.args.id w) = λ w. rw (← c.self.view_is) (seen-set c.self.inside.holdings.items c.self.inside.live.items c.self.inside.goings.items c.args.id (Stored w)) in
    let same : set c.self.inside.holdings.items c.args.id c.in_ok-self-inside.field-0.now ≡ c.self.inside.holdings.items = grind (arith, common_steps) in
    let second : state_seen (set c.self.inside.holdings.items c.args.id c.in_ok-self-inside.field-0.now) c.self.inside.live.items c.self.inside.goings.items ≡ c.args.self.now = ap (λ holdings. state_seen holdings c.self.inside.live.items c.self.inside.goings.items) same ∙ c.self.view_is in
    let at : c.in_ok-self-inside.field-0.now ≡ get_or c.self.inside.holdings.items c.args.id Nothing = grind (arith, common_steps) in
    let found : store_in (holding_seen c.in_ok-self-inside.field-0.now) ≡ store_of (state_seen c.self.inside.holdings.items c.self.inside.live.items c.self.inside.goings.items).held c.args.id = ap (λ holding. store_in (holding_seen holding)) at ∙ ap store_in (sym (get_or-map holding_seen c.self.inside.holdings.items c.args.id Nothing)) in
    ((λ i. read_of (ghost_name_of c.rows_mut.result) (λ w. first w i) (second i)), record { writes_back = tt; value = c.rows_mut.ensures.value ∙ found ∙ ap (λ state. store_of state.held c.args.id) c.self.view_is })
