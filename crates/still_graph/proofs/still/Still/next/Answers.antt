use Rattle.std.proofs.Common.{◌≡◌, ◌++◌, ◌∷◌, [], List, subst}
use Rattle.std.specs.Prelude.{IfOk}
use Rattle.std.proofs.lemmas.Result.{IfOk-weaker}
use Rattle.values.specs.declared.plan.Noted.{Noted}
use Rattle.run_items.specs.Journal.{JournalPhase}
use Rattle.next_layout.specs.Next.{IsFolded, IsNext}
use Rattle.still_graph.specs.Still.{StillState}
use Rattle.still_graph.proofs.still.Still.next.Goals as goal

pub new-requires : goal.new-requires
new-requires c = c.self.invariant.0.fits

pub returns-clause-folded : goal.returns-clause-folded
returns-clause-folded c =
    subst (λ (y : StillState). IfOk c.new.result (λ next. (earlier : List JournalPhase) (phase : JournalPhase) → y.journal ≡ earlier ++ phase ∷ [] → IsFolded y.component y.state y.places y.graph phase.entries next.state next.verdicts)) c.self.view_is
    (IfOk-weaker c.new.result _ _ (λ next is earlier phase journal. subst (λ (es : List Noted). IsFolded c.self.inside.component c.self.inside.held c.self.inside.names c.self.inside.graph es next.state next.verdicts) (c.last_entries.ensures earlier phase journal) is) c.new.ensures.folded)

pub returns-clause-is_next : goal.returns-clause-is_next
returns-clause-is_next c = subst (λ (y : StillState). IfOk c.new.result (IsNext y.component y.state y.places y.graph)) c.self.view_is c.new.ensures.is_next
