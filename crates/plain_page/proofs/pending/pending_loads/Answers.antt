use Rattle.std.proofs.Common.{if◌then◌else◌, Bool, List, [], ◌++◌, ℕ, ap, ◌∙◌}
use Rattle.plain_evaluation.specs.Scratch.{scratch}
use Rattle.plain_evaluation.specs.Written.{state_of}
use Rattle.plain_page.specs.Waiting.{items_waiting}
use Rattle.plain_page.proofs.WaitingLemmas.{same_pending}
use Rattle.plain_page.proofs.pending.pending_loads.Goals as goal
use Rattle.plain_page.proofs.pending.pending_loads.Goals.{then-is_live+in_ok-items, else-is_live}

pub returns : goal.returns
returns c =
    let whole : List ℕ = items_waiting (state_of c.args.held.now.held) (scratch c.args.component.now c.args.held.now.held) c.args.component.now.items in
    elim c.if-is_live.branch [
      | then-is_live+in_ok-items w ↦
          ap (λ loads. loads.items) w.loads-is ∙ w.in_ok-items.ensures
          ∙ (λ i. c.new-loads.ensures.items i ++ items_waiting (state_of c.args.held.now.held) (c.in_ok-values.ensures i) (w.items.ensures.items i))
          ∙ ap (λ (live : Bool). if live then whole else []) w.if-is_live.ensures
          ∙ same_pending c.args.component.now c.args.held.now.held
      | else-is_live w ↦
          ap (λ loads. loads.items) w.loads-is ∙ c.new-loads.ensures.items
          ∙ ap (λ (live : Bool). if live then whole else []) w.if-is_live.ensures
          ∙ same_pending c.args.component.now c.args.held.now.held
    ]
