use Rattle.std.proofs.Common.{◌≡◌, List, length, sym, ap, ◌∙◌}
use Rattle.std.proofs.lemmas.Bool.{OnTrue_from}
use Rattle.std.proofs.lemmas.List.{with_items_is}
use Rattle.async_derived.specs.declared.loading.Loading.{Loading}
use Rattle.load_table.specs.Loads.{loads_in}
use Rattle.load_meaning.specs.Polls.{all_promptly}
use Rattle.load_polls.specs.Loads.{LoadsState, progress_of}
use Rattle.load_polls.specs.Stands.{sweep_of}
use Rattle.load_polls.proofs.Sweeps.{evaluated, promptly_all}
use Rattle.load_polls.proofs.loads.Loads.poll.Goals as goal

pub returns-clause-evaluated : goal.returns-clause-evaluated
returns-clause-evaluated g c =
    let component = c.args.component.now in
    let loadings : c.as_mut_slice.result.now ≡ c.args.self.now.loadings = c.as_mut_slice.ensures.value ∙ ap (λ (s : LoadsState). s.loadings) c.self.view_is in
    let long : length c.as_mut_slice.result.now ≡ length (loads_in component) = ap (λ (ls : List Loading). length ls) loadings ∙ c.requires.in_step.paired in
    let ready = c.poll_all.ensures.ready in
    evaluated component c.args.names.now (length c.as_mut_slice.result.now) ready.0 (sweep_of c.poll_all.new.held c.poll_all.new.loadings c.poll_all.new.graph) c.items-items.ensures.kept ready.1 long

pub returns-clause-prompt : goal.returns-clause-prompt
returns-clause-prompt g c =
    let component = c.args.component.now in
    let loadings : c.as_mut_slice.result.now ≡ c.args.self.now.loadings = c.as_mut_slice.ensures.value ∙ ap (λ (s : LoadsState). s.loadings) c.self.view_is in
    let long : length c.as_mut_slice.result.now ≡ length (loads_in component) = ap (λ (ls : List Loading). length ls) loadings ∙ c.requires.in_step.paired in
    let polled = c.poll_all.ensures.polled in
    OnTrue_from _ _ (λ e.
    ap (λ (ls : List Loading). progress_of c.poll_all.new.held ls) (with_items_is c.self.inside.loadings c.poll_all.new.loadings (polled.long ∙ c.as_mut_slice.ensures.len))
    ∙ promptly_all g.L.Loader.answers g.L.Loader.is_prompt component (length c.as_mut_slice.result.now) (progress_of c.args.held.now c.as_mut_slice.result.now) (sweep_of c.poll_all.new.held c.poll_all.new.loadings c.poll_all.new.graph) c.poll_all.new.late.list c.args.loader.now c.poll_all.new.loader long (sym polled.long) polled e
    ∙ ap (λ (ls : List Loading). all_promptly component (progress_of c.args.held.now ls)) loadings)
