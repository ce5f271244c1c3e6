use Rattle.std.proofs.Common.{◌≡◌, ℕ, suc, ◌+◌, ◌<◌, ◌^◌, List, get_or, set, slice_get, true, false, Some, IsSome, sym, ap, subst, ◌∙◌, arith}
use Rattle.std.specs.Prelude.{IsSomeAnd}
use Rattle.std.proofs.lemmas.Bool.{OnTrue_at}
use Rattle.std.proofs.lemmas.Option.{slice_get-get_or}
use Rattle.values.specs.declared.plan.Plan.{Plan}
use Rattle.values.specs.PlanValues.{is_derived}
use Rattle.async_derived.specs.Loads.{first_load, answer_of, keyed, prompt_poll}
use Rattle.plain_evaluation.specs.Changed.{load_of, with_arrived}
use Rattle.plain_evaluation.specs.Place.{outside, position_of}
use Rattle.plan_meaning.specs.Layout.{row_of}
use Rattle.held_state.specs.State.{with_held}
use Rattle.load_table.specs.declared.load.Load.{Load}
use Rattle.load_table.specs.Loads.{LoadOf}
use Rattle.load_table.specs.Table.{pairs_at}
use Rattle.load_meaning.specs.Polls.{late_as}
use Rattle.phase_graph.specs.Graph.{GraphState}
use Rattle.load_polls.specs.Shown.{load_code}
use Rattle.load_polls.specs.Stands.{sweep_of, IsTaken}
use Rattle.load_polls.proofs.Steps.{IsSpanned, IsPut}
use Rattle.load_polls.proofs.Turns.{has_row, has_key, id_fits, can_note, key_within, key_few, is_source, key_value, moved, turn_ready, turn_taken, pairs_there}
use Rattle.load_polls.proofs.polling.poll_live.Goals as goal

pub load_rows-rows-requires-clause-few : goal.load_rows-rows-requires-clause-few
load_rows-rows-requires-clause-few g c =
    let component = c.args.sides.now.component.now in
    let kept = c.items-items.ensures.kept in
    let x = sweep_of c.args.held.now c.args.loadings.now c.args.graph.now in
    let names = c.args.sides.now.names.now in
    let one = c.requires.load.0 in
    let at = c.requires.load.1 in
    let alone = c.requires.load.2 in
    let live = c.requires.load.3 in
    subst (λ (l : Load). l.id + 1 < 2 ^ 32) alone (id_fits component kept names c.args.place c.args.from x c.requires.ready one at live)

pub load_rows-rows-requires-clause-load : goal.load_rows-rows-requires-clause-load
load_rows-rows-requires-clause-load g c =
    let component = c.args.sides.now.component.now in
    let kept = c.items-items.ensures.kept in
    let x = sweep_of c.args.held.now c.args.loadings.now c.args.graph.now in
    let names = c.args.sides.now.names.now in
    let one = c.requires.load.0 in
    let at = c.requires.load.1 in
    let alone = c.requires.load.2 in
    let live = c.requires.load.3 in
    subst (λ (l : Load). IsSome (position_of names (outside l.id))) alone (has_row component kept names c.args.place c.args.from x c.requires.ready one at live)

pub load_rows-rows-requires-clause-key : goal.load_rows-rows-requires-clause-key
load_rows-rows-requires-clause-key g c =
    let component = c.args.sides.now.component.now in
    let kept = c.items-items.ensures.kept in
    let x = sweep_of c.args.held.now c.args.loadings.now c.args.graph.now in
    let names = c.args.sides.now.names.now in
    let one = c.requires.load.0 in
    let at = c.requires.load.1 in
    let alone = c.requires.load.2 in
    let live = c.requires.load.3 in
    subst (λ (l : Load). IsSome (position_of names (outside (suc l.id)))) alone (has_key component kept names c.args.place c.args.from x c.requires.ready one at live)

pub overflow_add-rows : goal.overflow_add-rows
overflow_add-rows g c =
    let component = c.args.sides.now.component.now in
    let kept = c.items-items.ensures.kept in
    let x = sweep_of c.args.held.now c.args.loadings.now c.args.graph.now in
    let names = c.args.sides.now.names.now in
    let one = c.requires.load.0 in
    let at = c.requires.load.1 in
    let alone = c.requires.load.2 in
    let live = c.requires.load.3 in
    let id_is : one.id ≡ c.args.load.id = ap (λ (l : Load). l.id) alone in
    let row_is : row_of names (outside one.id) ≡ Some c.load_rows-rows.result.load = ap (λ (n : ℕ). row_of names (outside n)) id_is ∙ c.load_rows-rows.ensures.load in
    let key_is : row_of names (outside (suc one.id)) ≡ Some c.load_rows-rows.result.key = ap (λ (n : ℕ). row_of names (outside (suc n))) id_is ∙ c.load_rows-rows.ensures.key in
    let few = key_few component kept names c.args.place c.args.from x c.requires.ready one at live c.load_rows-rows.result.load c.load_rows-rows.result.key row_is key_is in
    omega (arith, few)

pub settle_span-requires-clause-within : goal.settle_span-requires-clause-within
settle_span-requires-clause-within g c =
    let component = c.args.sides.now.component.now in
    let kept = c.items-items.ensures.kept in
    let x = sweep_of c.args.held.now c.args.loadings.now c.args.graph.now in
    let names = c.args.sides.now.names.now in
    let one = c.requires.load.0 in
    let at = c.requires.load.1 in
    let alone = c.requires.load.2 in
    let live = c.requires.load.3 in
    let id_is : one.id ≡ c.args.load.id = ap (λ (l : Load). l.id) alone in
    let row_is : row_of names (outside one.id) ≡ Some c.load_rows-rows.result.load = ap (λ (n : ℕ). row_of names (outside n)) id_is ∙ c.load_rows-rows.ensures.load in
    let key_is : row_of names (outside (suc one.id)) ≡ Some c.load_rows-rows.result.key = ap (λ (n : ℕ). row_of names (outside (suc n))) id_is ∙ c.load_rows-rows.ensures.key in
    let lt = key_within component kept names c.args.place c.args.from x c.requires.ready one at live c.load_rows-rows.result.load c.load_rows-rows.result.key row_is key_is in
    omega (arith, lt)

pub arrive-requires : goal.arrive-requires
arrive-requires g c =
    let component = c.args.sides.now.component.now in
    let kept = c.items-items.ensures.kept in
    let x = sweep_of c.args.held.now c.args.loadings.now c.args.graph.now in
    let names = c.args.sides.now.names.now in
    let one = c.requires.load.0 in
    let at = c.requires.load.1 in
    let alone = c.requires.load.2 in
    let live = c.requires.load.3 in
    subst (λ (l : Load). IsSome (load_of c.args.held.now.held l.id)) alone (can_note component kept names c.args.place c.args.from x c.requires.ready one at live)

pub put-requires-clause-row : goal.put-requires-clause-row
put-requires-clause-row g c =
    let component = c.args.sides.now.component.now in
    let kept = c.items-items.ensures.kept in
    let x = sweep_of c.args.held.now c.args.loadings.now c.args.graph.now in
    let names = c.args.sides.now.names.now in
    let one = c.requires.load.0 in
    let at = c.requires.load.1 in
    let alone = c.requires.load.2 in
    let live = c.requires.load.3 in
    let id_is : one.id ≡ c.args.load.id = ap (λ (l : Load). l.id) alone in
    let row_is : row_of names (outside one.id) ≡ Some c.load_rows-rows.result.load = ap (λ (n : ℕ). row_of names (outside n)) id_is ∙ c.load_rows-rows.ensures.load in
    let key_is : row_of names (outside (suc one.id)) ≡ Some c.load_rows-rows.result.key = ap (λ (n : ℕ). row_of names (outside (suc n))) id_is ∙ c.load_rows-rows.ensures.key in
    subst (λ (p : Plan). IsSomeAnd (slice_get p.nodes c.load_rows-rows.result.load) (λ node. is_derived node.kind ≡ false)) (sym (ap (λ (g : GraphState). g.plan) c.settle_span.ensures.rest)) (is_source component kept names c.args.place c.args.from x c.requires.ready one at live c.load_rows-rows.result.load c.load_rows-rows.result.key row_is key_is)

pub put-requires-clause-few : goal.put-requires-clause-few
put-requires-clause-few g c =
    let component = c.args.sides.now.component.now in
    let kept = c.items-items.ensures.kept in
    let x = sweep_of c.args.held.now c.args.loadings.now c.args.graph.now in
    let names = c.args.sides.now.names.now in
    let one = c.requires.load.0 in
    let at = c.requires.load.1 in
    let alone = c.requires.load.2 in
    let live = c.requires.load.3 in
    let id_is : one.id ≡ c.args.load.id = ap (λ (l : Load). l.id) alone in
    let row_is : row_of names (outside one.id) ≡ Some c.load_rows-rows.result.load = ap (λ (n : ℕ). row_of names (outside n)) id_is ∙ c.load_rows-rows.ensures.load in
    let key_is : row_of names (outside (suc one.id)) ≡ Some c.load_rows-rows.result.key = ap (λ (n : ℕ). row_of names (outside (suc n))) id_is ∙ c.load_rows-rows.ensures.key in
    let few = key_few component kept names c.args.place c.args.from x c.requires.ready one at live c.load_rows-rows.result.load c.load_rows-rows.result.key row_is key_is in
    let drawn = c.requires.few in
    let more = c.settle_span.ensures.ticks.1 in
    omega (arith, few, drawn, more)

pub overflow_add-result : goal.overflow_add-result
overflow_add-result g c =
    let component = c.args.sides.now.component.now in
    let kept = c.items-items.ensures.kept in
    let x = sweep_of c.args.held.now c.args.loadings.now c.args.graph.now in
    let names = c.args.sides.now.names.now in
    let one = c.requires.load.0 in
    let at = c.requires.load.1 in
    let alone = c.requires.load.2 in
    let live = c.requires.load.3 in
    let id_is : one.id ≡ c.args.load.id = ap (λ (l : Load). l.id) alone in
    let row_is : row_of names (outside one.id) ≡ Some c.load_rows-rows.result.load = ap (λ (n : ℕ). row_of names (outside n)) id_is ∙ c.load_rows-rows.ensures.load in
    let key_is : row_of names (outside (suc one.id)) ≡ Some c.load_rows-rows.result.key = ap (λ (n : ℕ). row_of names (outside (suc n))) id_is ∙ c.load_rows-rows.ensures.key in
    let few = key_few component kept names c.args.place c.args.from x c.requires.ready one at live c.load_rows-rows.result.load c.load_rows-rows.result.key row_is key_is in
    omega (arith, few)

pub returns-clause-ready : goal.returns-clause-ready
returns-clause-ready g c =
    let component = c.args.sides.now.component.now in
    let kept = c.items-items.ensures.kept in
    let x = sweep_of c.args.held.now c.args.loadings.now c.args.graph.now in
    let names = c.args.sides.now.names.now in
    let one = c.requires.load.0 in
    let at = c.requires.load.1 in
    let alone = c.requires.load.2 in
    let live = c.requires.load.3 in
    let id_is : one.id ≡ c.args.load.id = ap (λ (l : Load). l.id) alone in
    let row_is : row_of names (outside one.id) ≡ Some c.load_rows-rows.result.load = ap (λ (n : ℕ). row_of names (outside n)) id_is ∙ c.load_rows-rows.ensures.load in
    let key_is : row_of names (outside (suc one.id)) ≡ Some c.load_rows-rows.result.key = ap (λ (n : ℕ). row_of names (outside (suc n))) id_is ∙ c.load_rows-rows.ensures.key in
    let span : IsSpanned c.args.graph.now c.settle_span.new.self c.args.from (c.load_rows-rows.result.key + 1) = record {
      rest = c.settle_span.ensures.rest;
      raised = c.settle_span.ensures.ticks.0;
      few = c.settle_span.ensures.ticks.1;
      long = c.settle_span.ensures.long;
      memos = c.settle_span.ensures.memos;
      sources = c.settle_span.ensures.sources;
      effects = c.settle_span.ensures.effects;
    } in
    let put : IsPut c.settle_span.new.self c.put.new.self c.load_rows-rows.result.load c.load_code.result = record {
      rest = c.put.ensures.rest;
      raised = c.put.ensures.ticks.0;
      few = c.put.ensures.ticks.1;
      long = c.put.ensures.long;
      value = c.put.ensures.value;
      others = c.put.ensures.others;
      settled = c.put.ensures.settled;
    } in
    let was = get_or c.args.loadings.now c.args.place first_load in
    let at_was : slice_get c.args.loadings.now c.args.place ≡ Some was = slice_get-get_or c.args.loadings.now c.args.place first_load c.requires.within in
    let held_is : c.arrive.new.self ≡ with_held c.args.held.now (with_arrived c.args.held.now.held one.id c.poll-came.new.self.arrived) = c.arrive.ensures ∙ ap (λ (n : ℕ). with_held c.args.held.now (with_arrived c.args.held.now.held n c.poll-came.new.self.arrived)) (sym id_is) in
    let code_is : c.load_code.result ≡ load_code one.pairs c.poll-came.new.self.arrived = c.load_code.ensures ∙ ap (λ (loads : List LoadOf). load_code (pairs_at loads c.args.place) c.poll-came.new.self.arrived) c.requires.loads ∙ ap (λ pairs. load_code pairs c.poll-came.new.self.arrived) (pairs_there _ c.args.place one at) in
    turn_ready component kept names c.args.place c.args.from x c.requires.ready one at live c.load_rows-rows.result.load c.load_rows-rows.result.key row_is key_is c.settle_span.new.self c.put.new.self c.load_code.result span put was c.poll-came.new.self c.poll-came.result c.row_code-key.result at_was c.row_code-key.ensures c.poll-came.ensures.state code_is c.arrive.new.self held_is

pub returns-clause-taken : goal.returns-clause-taken
returns-clause-taken g c =
    let component = c.args.sides.now.component.now in
    let kept = c.items-items.ensures.kept in
    let x = sweep_of c.args.held.now c.args.loadings.now c.args.graph.now in
    let names = c.args.sides.now.names.now in
    let one = c.requires.load.0 in
    let at = c.requires.load.1 in
    let alone = c.requires.load.2 in
    let live = c.requires.load.3 in
    let id_is : one.id ≡ c.args.load.id = ap (λ (l : Load). l.id) alone in
    let row_is : row_of names (outside one.id) ≡ Some c.load_rows-rows.result.load = ap (λ (n : ℕ). row_of names (outside n)) id_is ∙ c.load_rows-rows.ensures.load in
    let key_is : row_of names (outside (suc one.id)) ≡ Some c.load_rows-rows.result.key = ap (λ (n : ℕ). row_of names (outside (suc n))) id_is ∙ c.load_rows-rows.ensures.key in
    let span : IsSpanned c.args.graph.now c.settle_span.new.self c.args.from (c.load_rows-rows.result.key + 1) = record {
      rest = c.settle_span.ensures.rest;
      raised = c.settle_span.ensures.ticks.0;
      few = c.settle_span.ensures.ticks.1;
      long = c.settle_span.ensures.long;
      memos = c.settle_span.ensures.memos;
      sources = c.settle_span.ensures.sources;
      effects = c.settle_span.ensures.effects;
    } in
    let was = get_or c.args.loadings.now c.args.place first_load in
    let at_was : slice_get c.args.loadings.now c.args.place ≡ Some was = slice_get-get_or c.args.loadings.now c.args.place first_load c.requires.within in
    let held_is : c.arrive.new.self ≡ with_held c.args.held.now (with_arrived c.args.held.now.held one.id c.poll-came.new.self.arrived) = c.arrive.ensures ∙ ap (λ (n : ℕ). with_held c.args.held.now (with_arrived c.args.held.now.held n c.poll-came.new.self.arrived)) (sym id_is) in
    let read_is = c.row_code-key.ensures ∙ key_value component kept names c.args.place c.args.from x c.requires.ready one at live c.load_rows-rows.result.load c.load_rows-rows.result.key row_is key_is c.settle_span.new.self span in
    let asked = subst (λ (l : Load). ¬ (was.arrived ≡ Some c.row_code-key.result) → g.L.Loader.answers c.args.loader.now (record { resource = l.resource; key = c.row_code-key.result; after = l.after; asked = (keyed was c.row_code-key.result).asked }) (answer_of c.poll-came.result) c.poll-came.new.loader) (sym alone) c.poll-came.ensures.asked in
    let prompt : g.L.Loader.is_prompt ≡ true → c.poll-came.result ≡ prompt_poll was c.row_code-key.result one.after = λ e. subst (λ (l : Load). c.poll-came.result ≡ prompt_poll was c.row_code-key.result l.after) (sym alone) (OnTrue_at e c.poll-came.ensures.prompt) in (
      late_as c.args.load.id c.poll-came.result,
      c.note.ensures.list,
      λ other at_other. (
          let both : Some one ≡ Some other = sym at ∙ at_other in
          let same : one ≡ other = cc in
          subst (λ (l : LoadOf). IsTaken g.L.Loader.answers g.L.Loader.is_prompt component c.args.place l x (sweep_of c.arrive.new.self (set c.args.loadings.now c.args.place c.poll-came.new.self) c.put.new.self) (late_as c.args.load.id c.poll-came.result) c.args.loader.now c.poll-came.new.loader) same
          (subst (λ (n : ℕ). IsTaken g.L.Loader.answers g.L.Loader.is_prompt component c.args.place one x (sweep_of c.arrive.new.self (set c.args.loadings.now c.args.place c.poll-came.new.self) c.put.new.self) (late_as n c.poll-came.result) c.args.loader.now c.poll-came.new.loader) id_is
          (turn_taken g.L.Loader.answers g.L.Loader.is_prompt component c.args.place x one live was c.poll-came.new.self c.poll-came.result c.row_code-key.result c.args.loader.now c.poll-came.new.loader at_was read_is c.poll-came.ensures.state c.poll-came.ensures.arrived c.poll-came.ensures.unasked asked prompt c.arrive.new.self c.put.new.self held_is))),
    )

pub returns-clause-moved : goal.returns-clause-moved
returns-clause-moved g c =
    let component = c.args.sides.now.component.now in
    let kept = c.items-items.ensures.kept in
    let x = sweep_of c.args.held.now c.args.loadings.now c.args.graph.now in
    let names = c.args.sides.now.names.now in
    let one = c.requires.load.0 in
    let at = c.requires.load.1 in
    let alone = c.requires.load.2 in
    let live = c.requires.load.3 in
    let id_is : one.id ≡ c.args.load.id = ap (λ (l : Load). l.id) alone in
    let row_is : row_of names (outside one.id) ≡ Some c.load_rows-rows.result.load = ap (λ (n : ℕ). row_of names (outside n)) id_is ∙ c.load_rows-rows.ensures.load in
    let key_is : row_of names (outside (suc one.id)) ≡ Some c.load_rows-rows.result.key = ap (λ (n : ℕ). row_of names (outside (suc n))) id_is ∙ c.load_rows-rows.ensures.key in
    let span : IsSpanned c.args.graph.now c.settle_span.new.self c.args.from (c.load_rows-rows.result.key + 1) = record {
      rest = c.settle_span.ensures.rest;
      raised = c.settle_span.ensures.ticks.0;
      few = c.settle_span.ensures.ticks.1;
      long = c.settle_span.ensures.long;
      memos = c.settle_span.ensures.memos;
      sources = c.settle_span.ensures.sources;
      effects = c.settle_span.ensures.effects;
    } in
    let put : IsPut c.settle_span.new.self c.put.new.self c.load_rows-rows.result.load c.load_code.result = record {
      rest = c.put.ensures.rest;
      raised = c.put.ensures.ticks.0;
      few = c.put.ensures.ticks.1;
      long = c.put.ensures.long;
      value = c.put.ensures.value;
      others = c.put.ensures.others;
      settled = c.put.ensures.settled;
    } in
    moved component kept names c.args.place c.args.from x c.requires.ready one at live c.load_rows-rows.result.load c.load_rows-rows.result.key row_is key_is c.settle_span.new.self span c.put.new.self c.load_code.result put
