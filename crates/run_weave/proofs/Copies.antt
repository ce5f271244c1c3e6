-- The worked row of a signal, a memo and an effect, call by call.
use Rattle.std.proofs.Common.{◌≡◌, ◌⊎◌, ℕ, zero, suc, ◌+◌, ◌<◌, List, [], ◌∷◌, ◌++◌, sym, refl, ap, ◌∙◌, subst, inl, inr, ⊎_elim, arith, Some, Ok}
use Rattle.std.specs.Prelude.{slice_get, count_by}
use Rattle.std.proofs.lemmas.Bool.{true≢false}
use Rattle.values.specs.declared.code.Code.{Code}
use Rattle.values.specs.declared.code.Code.TheVariants.{Empty}
use Rattle.values.specs.declared.expr.Expr.TheVariants.{Lit, Read}
use Rattle.values.specs.declared.plan.Fact.TheVariants as fact
use Rattle.values.specs.declared.plan.Kind.TheVariants as kind
use Rattle.values.specs.declared.plan.Noted.{Noted}
use Rattle.values.specs.declared.plan.PlanNode.{PlanNode}
use Rattle.values.specs.Evaluation.{is_same}
use Rattle.values.specs.PlanValues.{ReadsBack}
use Rattle.values.proofs.Evaluation.{value_of-Read}
use Rattle.values.proofs.PlanValuesLemmas.{plan_value-source, plan_value-derived, lawful_back}
use Rattle.run_meaning.specs.Words.{In}
use Rattle.run_meaning.specs.Opened.{IsKind}
use Rattle.run_meaning.specs.Entries.{disposed_in}
use Rattle.run_meaning.specs.Causes.{is_gone}
use Rattle.run_history.specs.Going.{Start, start_of, opened_at, just_opened, note, latest_code, plain_code, last_value, IsOwnedBy, IsLiveRow}
use Rattle.run_history.specs.Calls.{StandsNow, set, get, pump, Makes, CallsLead, calls_by}
use Rattle.run_weave.specs.Lanes.{LaneSpeaks, ended, speaks, LanesSpeak, lane_of, TargetsFit}
use Rattle.run_weave.specs.Worked.{number, node, made, going, copy_places, copy_opened, pumped, copy_calls, copy_entries, copy_end, copy_lanes}
use Rattle.run_history.proofs.Steps.{nothing_goes}
use Rattle.run_weave.proofs.Whole.{lanes_speak}
use Rattle.run_weave.proofs.Laid.{copy_fits}
use Rattle.plain_evaluation.specs.Place.{Place, place_at}
use Rattle.plan_meaning.specs.Layout.{row_of}
use Rattle.plan_meaning.proofs.Rows.{row_got}
use Rattle.run_weave.proofs.Opens.{row_at}
use Rattle.run_weave.proofs.Rows.{one_goes}

abbrev pub copy_start : Start
copy_start = start_of [] copy_opened

abbrev nodes : List PlanNode
nodes = copy_opened.plan.nodes

back : ReadsBack nodes
back = lawful_back copy_opened.plan copy_fits.lawful

-- ---- values: all are that of the signal

pub signal_is : (es : List Noted) → plain_code copy_start es 0 ≡ latest_code copy_start es 0
signal_is es = plan_value-source nodes (latest_code copy_start es) back 0 (node kind.Signal (Lit Empty) 0) refl refl

pub memo_is : (es : List Noted) → plain_code copy_start es 1 ≡ latest_code copy_start es 0
memo_is es = plan_value-derived nodes (latest_code copy_start es) back 1 (node kind.Memo (Read 0) 0) refl refl ∙ (value_of-Read 0 (plain_code copy_start es) ∙ signal_is es)

pub effect_is : (es : List Noted) → plain_code copy_start es 2 ≡ latest_code copy_start es 0
effect_is es = plan_value-derived nodes (latest_code copy_start es) back 2 (node kind.Effect (Read 1) 0) refl refl ∙ (value_of-Read 1 (plain_code copy_start es) ∙ memo_is es)

-- ---- what there is

live_row : (es : List Noted) (row : ℕ) (n : PlanNode) → slice_get nodes row ≡ Some n → n.owner ≡ 0 → disposed_in es ≡ [] → IsLiveRow copy_start es row
live_row es row n at owner none = (0, (n, at, owner), λ d. ⊎_elim (λ (z : ⊥). z) (λ (i : In 0 (disposed_in es)). subst (λ (t : List ℕ). In 0 t) none i) d)

-- the last row is the one effect
only_effect : (P : ℕ → Type 0) → P 2 → (n : ℕ) → IsKind (opened_at copy_start) n kind.Effect → P n
only_effect P two zero is = absurd (let a = is.1 in let b = is.2 in cc)
only_effect P two (suc zero) is = absurd (let a = is.1 in let b = is.2 in cc)
only_effect P two (suc (suc zero)) is = two
only_effect P two (suc (suc (suc n))) is = absurd (let a = is.1 in cc)

pub other_number : number 1 ≡ number 2 → ⊥
other_number e = true≢false (ap (is_same (number 1)) e)

-- ---- the calls

-- a pump that runs the effect
runs : (es : List Noted) (drawn : ℕ) (code : Code) → drawn < 65536 → disposed_in es ≡ [] → code ≡ latest_code copy_start (es ++ note (drawn + 1) (fact.Ran 2 code) ∷ []) 0 → last_value copy_start (es ++ note (drawn + 1) (fact.Ran 2 code) ∷ []) 2 ≡ Some code
    → Makes copy_start (going es drawn) (made 1 (pump (pumped 1 0))) (going (es ++ note (drawn + 1) (fact.Ran 2 code) ∷ []) (drawn + 1))
runs es drawn code room none is last =
    let now : List Noted = es ++ note (drawn + 1) (fact.Ran 2 code) ∷ [] in
    let plain : code ≡ plain_code copy_start now 2 = is ∙ sym (effect_is now) in (
      note (drawn + 1) (fact.Ran 2 code) ∷ [],
      (
        one_goes copy_start es drawn (fact.Ran 2 code) room (node kind.Effect (Read 1) 0, refl, refl) tt (plain, live_row es 2 (node kind.Effect (Read 1) 0) refl refl none),
        record {
          of_pump = refl;
          draws = omega arith;
          counts = refl;
          ran = refl;
          void = omega arith;
          gone = ap (λ (t : List ℕ). count_by (is_gone t) nodes) (sym none);
          first = refl;
          stand = ([], omega arith, λ n is. only_effect (λ m. In m [] ⊎ StandsNow copy_start now m) (inr (inr (last ∙ ap (λ (c : Code). Some c) plain))) n is);
        },
      ),
    )

abbrev first : List Noted
first = note 1 (fact.Ran 2 (number 1)) ∷ []

abbrev second : List Noted
second = note 1 (fact.Ran 2 (number 1)) ∷ note 2 (fact.Write 0 (number 2)) ∷ []

abbrev third : List Noted
third = note 1 (fact.Ran 2 (number 1)) ∷ note 2 (fact.Write 0 (number 2)) ∷ note 3 (fact.Change 1 (number 2)) ∷ []

sets : Makes copy_start (going first 1) (made 1 (set 0 (number 2) (Ok 2))) (going second 2)
sets = (note 2 (fact.Write 0 (number 2)) ∷ [], (one_goes copy_start first 1 (fact.Write 0 (number 2)) (omega arith) (inl (node kind.Signal (Lit Empty) 0, refl, refl)) tt tt, (live_row first 0 (node kind.Signal (Lit Empty) 0) refl refl refl, record { number = refl; drawn = refl; block_is = refl })))

gets : Makes copy_start (going second 2) (made 1 (get 1 (Ok (number 2, 3)))) (going third 3)
gets = (
  note 3 (fact.Change 1 (number 2)) ∷ [],
  (
    one_goes copy_start second 2 (fact.Change 1 (number 2)) (omega arith) (node kind.Memo (Read 0) 0, refl, refl) ((node kind.Memo (Read 0) 0, refl, refl), other_number) (sym (memo_is third)),
    record { live = live_row second 1 (node kind.Memo (Read 0) 0) refl refl refl; changes = refl; draws = omega arith; plain = sym (memo_is third); current = inr (inr refl); number = refl },
  ),
)

same : Makes copy_start copy_end (made 1 (pump (pumped 0 1))) copy_end
same = (
  [],
  (
    nothing_goes copy_start copy_end,
    record {
      of_pump = refl;
      draws = omega arith;
      counts = refl;
      ran = refl;
      void = omega arith;
      gone = refl;
      first = refl;
      stand = ([], omega arith, λ n is. only_effect (λ m. In m [] ⊎ StandsNow copy_start copy_entries m) (inr (inr (ap (λ (c : Code). Some c) (sym (effect_is copy_entries))))) n is);
    },
  ),
)

pub copy_lead : CallsLead copy_start just_opened copy_calls copy_end
copy_lead = (
  going first 1,
  runs [] 0 (number 1) (omega arith) refl refl refl,
  (going second 2, sets, (going third 3, gets, (copy_end, runs third 3 (number 2) (omega arith) refl refl refl, (copy_end, same, refl)))),
)

pub copy_speak : LanesSpeak copy_opened copy_calls copy_lanes
copy_speak = lanes_speak copy_opened copy_calls copy_lanes ((omega arith, omega arith), ((omega arith, omega arith), ((omega arith, omega arith), ((omega arith, omega arith), ((omega arith, omega arith), tt))))) each
  where
    each : (i : ℕ) → i < 1 → LaneSpeaks copy_opened (calls_by (suc i) copy_calls) (lane_of copy_lanes (suc i))
    each zero l = speaks (pump (pumped 1 0)) _ (refl, refl) (speaks (set 0 (number 2) (Ok 2)) _ (refl, refl, refl) (speaks (get 1 (Ok (number 2, 3))) _ (refl, refl) (speaks (pump (pumped 1 0)) _ (refl, refl) (speaks (pump (pumped 0 1)) _ (refl, refl) ended))))
    each (suc i) l = absurd (omega arith)

-- each id stands for its row, or for none
pub copy_targets : TargetsFit copy_opened
copy_targets = record { owned = λ past id key row e. there row (row_got copy_places (place_at id key) row (row_at (row_of copy_places (place_at id key)) row e)) }
  where
    there : {p : Place} (row : ℕ) → slice_get copy_places row ≡ Some p → IsOwnedBy copy_start row 0
    there zero e = (node kind.Signal (Lit Empty) 0, refl, refl)
    there (suc zero) e = (node kind.Memo (Read 0) 0, refl, refl)
    there (suc (suc zero)) e = (node kind.Effect (Read 1) 0, refl, refl)
    there (suc (suc (suc row))) e = absurd cc
