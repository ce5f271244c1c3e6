use Rattle.std.proofs.Common.{ℕ, ◌+◌, ◌*◌, ◌-◌, ◌<◌, List, get_or, length, refl, sym, ap, subst, ◌∙◌, arith}
use Rattle.std.proofs.lemmas.Option.{slice_get-get_or}
use Rattle.outside.specs.Counts.{RoseBy}
use Rattle.async_derived.specs.Loads.{first_load}
use Rattle.held_state.specs.State.{HeldState, with_held}
use Rattle.load_table.specs.Loads.{loads_in}
use Rattle.load_meaning.specs.declared.late.Late.{Late}
use Rattle.load_meaning.proofs.Polls.{some_at}
use Rattle.load_polls.specs.Loads.{progress_of, not_yet_count, failed_count}
use Rattle.load_polls.specs.Stands.{sweep_of, ArePolledTo}
use Rattle.load_polls.proofs.Sweeps.{not_yets_more, failed_more, rose_more, moved_none, moved_on, turn_on, polled_none, from_few}
use Rattle.load_polls.proofs.polling.poll_all.Goals as goal

pub loop-place-init : goal.loop-place-init
loop-place-init g c =
    let component = c.args.sides.now.component.now in
    let x = sweep_of c.args.held.now c.args.loadings.now c.args.graph.now in
    record {
      ready = c.requires.ready;
      polled = subst (λ (late : List (ℕ × Late)). ArePolledTo g.L.Loader.answers g.L.Loader.is_prompt component 0 (progress_of c.args.held.now c.args.loadings.now) x late c.args.loader.now c.args.loader.now) (sym c.requires.empty) (polled_none g.L.Loader.answers g.L.Loader.is_prompt component x c.args.loader.now);
      held = refl;
      moved = moved_none c.args.graph.now;
      few = omega arith;
      long = refl;
      room = (let room = c.requires.room in omega (arith, room));
      not_yets = subst (λ (late : List (ℕ × Late)). RoseBy (not_yet_count late) (g.L.Loader.not_yets c.args.loader.now) (g.L.Loader.not_yets c.args.loader.now)) (sym c.requires.empty) (omega arith);
      faults = subst (λ (late : List (ℕ × Late)). RoseBy (failed_count late) (g.L.Loader.faults c.args.loader.now) (g.L.Loader.faults c.args.loader.now)) (sym c.requires.empty) (omega arith);
    }

pub loop-place-preserved : goal.loop-place-preserved
loop-place-preserved g c =
    let component = c.args.sides.now.component.now in
    let kept = c.items-items.ensures.kept in
    let inv = c.loop-place.invariant in
    let e = c.poll_at-from.ensures in
    let x = sweep_of c.loop-place.held c.loop-place.loadings c.loop-place.graph in
    let y = sweep_of c.poll_at-from.new.held c.poll_at-from.new.loadings c.poll_at-from.new.graph in
    let first = progress_of c.args.held.now c.args.loadings.now in
    let inside : c.loop-place.place < length c.loop-place.loadings = (let lt = c.loop-place-test.true in let long = inv.long in omega (arith, lt, long)) in
    let paired = inv.ready.in_step.paired in
    let load = some_at (loads_in component) c.loop-place.place (omega (arith, inside, paired)) in
    let turned = e.turned in
    let counted = e.counted in
    record {
      ready = e.ready;
      polled = subst (λ (late : List (ℕ × Late)). ArePolledTo g.L.Loader.answers g.L.Loader.is_prompt component (c.loop-place.place + 1) first y late c.args.loader.now c.poll_at-from.new.loader) (sym turned.1)
          (turn_on g.L.Loader.answers g.L.Loader.is_prompt component c.loop-place.place first x y c.loop-place.late.list turned.0 c.args.loader.now c.loop-place.loader c.poll_at-from.new.loader inv.polled load.0 load.1 (get_or c.loop-place.loadings c.loop-place.place first_load) (slice_get-get_or c.loop-place.loadings c.loop-place.place first_load inside) turned.2);
      held = e.held ∙ ap (λ (h : HeldState). with_held h c.poll_at-from.new.held.held) inv.held;
      moved = (let on = e.on in moved_on c.args.graph.now c.loop-place.graph c.poll_at-from.new.graph (c.loop-place.from * 2) ((c.poll_at-from.result - c.loop-place.from) * 2) (c.poll_at-from.result * 2) (omega (arith, on)) inv.moved e.moved);
      few = from_few component c.args.sides.now.names.now (c.loop-place.place + 1) c.poll_at-from.result y kept e.ready;
      long = e.long ∙ inv.long;
      room = (let room = inv.room in let spare = e.spare in let long = e.long in omega (arith, room, spare, long));
      not_yets = rose_more (not_yet_count c.loop-place.late.list) (not_yet_count counted.0) (not_yet_count c.poll_at-from.new.late.list) _ _ _ (ap not_yet_count counted.1 ∙ not_yets_more c.loop-place.late.list counted.0) inv.not_yets counted.2;
      faults = rose_more (failed_count c.loop-place.late.list) (failed_count counted.0) (failed_count c.poll_at-from.new.late.list) _ _ _ (ap failed_count counted.1 ∙ failed_more c.loop-place.late.list counted.0) inv.faults counted.3;
    }
