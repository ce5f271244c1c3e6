-- Settlings one after another.
use Rattle.std.proofs.Common.{◌≡◌, ℕ, suc, List, [], ◌∷◌, ◌++◌, Option, refl, sym, ap, subst, ◌∙◌}
use Rattle.values.specs.declared.code.Code.{Code}
use Rattle.store_fields.specs.declared.edit.Verdict.{Verdict}
use Rattle.plain_evaluation.specs.Held.{Holding, nothing, value, stored, arrived, Held}
use Rattle.run_meaning.specs.Edits.{held_written, held_edited, edits_of}
use Rattle.run_meaning.specs.Entries.{disposed_in}
use Rattle.run_meaning.specs.Phase.{Phase}
use Rattle.run_meaning.specs.Run.{holdings_arrived, held_arrived, held_disposed, after}
use Rattle.phase_edits.specs.Told.{AreTold}
use Rattle.still_graph.specs.declared.still.Stage.TheVariants.{Made, Settled}
use Rattle.still_graph.specs.Still.{StillState, IsSettledAfter, HasEnded}
use Rattle.settling_rounds.specs.Settlings.{Settles}

-- the keys that arrived last are held
holdings_again : (later keys : ℕ → Option Code) (id : ℕ) (hs : List Holding) → holdings_arrived later id (holdings_arrived keys id hs) ≡ holdings_arrived later id hs
holdings_again later keys id [] = refl
holdings_again later keys id (nothing ∷ hs) = ap (λ (t : List Holding). nothing ∷ t) (holdings_again later keys (suc id) hs)
holdings_again later keys id (value code ∷ hs) = ap (λ (t : List Holding). value code ∷ t) (holdings_again later keys (suc id) hs)
holdings_again later keys id (stored store ∷ hs) = ap (λ (t : List Holding). stored store ∷ t) (holdings_again later keys (suc id) hs)
holdings_again later keys id (arrived key ∷ hs) = ap (λ (t : List Holding). arrived (later id) ∷ t) (holdings_again later keys (suc id) hs)

arrived_again : (later keys : ℕ → Option Code) (held : Held) → held_arrived later (held_arrived keys held) ≡ held_arrived later held
arrived_again later keys held = ap (λ (hs : List Holding). record held { holdings = hs }) (holdings_again later keys 0 held.holdings)

pub settles_more : (x y z : StillState) → Settles x y → Settles y z → Settles x z
settles_more x y z first second =
    let again = second.settled first.stage in record {
      component = second.component ∙ first.component;
      stage = second.stage;
      made = λ e. let m = first.made e in (again.0, again.1 ∙ ap (held_arrived again.0) m.1 ∙ arrived_again again.0 m.0 x.state.held, again.2 [] m.2);
      ended = λ past p e. let m = first.ended past p e in
          (again.0, again.1 ∙ ap (held_arrived again.0) m.1 ∙ arrived_again again.0 m.0 (held_disposed x.component (disposed_in p.entries) (held_edited (edits_of p.lanes p.entries) (held_written p.opened p.entries))), again.2 (past ++ p ∷ []) m.2, subst (λ (vs : List (List Verdict)). AreTold p vs) (sym again.3) m.3);
      settled = λ e. let m = first.settled e in (again.0, again.1 ∙ ap (held_arrived again.0) m.1 ∙ arrived_again again.0 m.0 x.state.held, λ past s. again.2 past (m.2 past s), again.3 ∙ m.3);
    }

-- one settling, as the graph says it
pub settles_once : (x y : StillState) → y.component ≡ x.component → y.stage ≡ Settled
    → (x.stage ≡ Made → (keys : ℕ → Option Code) × (y.state.held ≡ held_arrived keys x.state.held) × IsSettledAfter [] y)
    → ((past : List Phase) (p : Phase) → HasEnded past p x → (keys : ℕ → Option Code) × (y.state.held ≡ after x.component p keys) × IsSettledAfter (past ++ p ∷ []) y)
    → ((past : List Phase) (p : Phase) → HasEnded past p x → AreTold p y.verdicts)
    → (x.stage ≡ Settled → (keys : ℕ → Option Code) × (y.state.held ≡ held_arrived keys x.state.held) × ((past : List Phase) → IsSettledAfter past x → IsSettledAfter past y))
    → (x.stage ≡ Settled → y.verdicts ≡ x.verdicts) → Settles x y
settles_once x y component stage first ended told again stay = record {
  component = component;
  stage = stage;
  made = first;
  ended = λ past p e. let a = ended past p e in (a.0, a.1, a.2, told past p e);
  settled = λ s. let a = again s in (a.0, a.1, a.2, stay s);
}
