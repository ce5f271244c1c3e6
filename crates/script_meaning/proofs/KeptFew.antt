-- A script has few phases, and each of them few lanes.
use Rattle.std.proofs.Common.{◌≡◌, ℕ, ◌<◌, ◌≤◌, List, [], ◌∷◌, ◌++◌, length, Some, None, refl, sym, subst, arith, lit≤, Option, length-append, leb-false}
use Rattle.std.specs.List.{AllByRecursion as Each}
use Rattle.std.proofs.lemmas.List.Elements.{All-from_recursion}
use Rattle.values.specs.declared.limits.TheConstants.{MOST_PHASES, MOST_LANES}
use Rattle.grammar.specs.Keeping.{Keeps}
use Rattle.grammar.proofs.Keeping.{kept}
use Rattle.text_lexer.specs.declared.token.Token.{Token}
use Rattle.text_lexer.specs.Tokens.{Lexed}
use Rattle.text_grammar.specs.Script.{table}
use Rattle.text_grammar.specs.declared.script.Action.{Action}
use Rattle.text_grammar.specs.declared.script.Action.TheVariants as action
use Rattle.text_grammar.specs.declared.script.Terminal.{Terminal}
use Rattle.text_grammar.specs.declared.script.Terminal.TheVariants as terminal
use Rattle.component_items.specs.declared.component.Component.{Component}
use Rattle.script_items.specs.declared.operation.ScriptOp.{ScriptOp}
use Rattle.script_items.specs.Script.{at_last, with_phase, with_lane, with_op, IsScript as IsShort}
use Rattle.script_meaning.specs.Names.{Named}
use Rattle.script_meaning.specs.State.{State}
use Rattle.script_meaning.specs.Checks.{failed, fails, order, last_lanes, found_as, field_of, too_many_lanes, too_many_phases}
use Rattle.script_meaning.specs.Effects.{effect, with_found, with_row_field, with_given, perform}
use Rattle.script_meaning.specs.Meaning.{semantics}
use Rattle.script_meaning.specs.Script.{IsScript}
use Rattle.script_meaning.proofs.Walk.{none_before}
use Rattle.script_meaning.proofs.KeptOps.{accepted, each_append, each_last, length_last}

abbrev Lanes : List (List ScriptOp) → Type 0
Lanes lanes = length lanes ≤ MOST_LANES

record AreFew (phases : List (List (List ScriptOp))) : Type 0 where
  few_phases : length phases ≤ MOST_PHASES
  few_lanes : Each Lanes phases

abbrev Few : State → Type 0
Few a = AreFew a.phases

phase_few : (phases : List (List (List ScriptOp))) → length phases < MOST_PHASES → AreFew phases → AreFew (with_phase phases)
phase_few phases room h =
    let more = length-append phases ([] ∷ []) in
    record { few_phases = omega (arith, h.few_phases); few_lanes = each_append Lanes phases ([] ∷ []) h.few_lanes (lit≤ tt, tt) }

-- only the last phase has a lane more
lanes_few : (phases : List (List (List ScriptOp))) → length (last_lanes phases) < MOST_LANES → Each Lanes phases → Each Lanes (with_lane phases)
lanes_few [] room h = tt
lanes_few (p ∷ []) room h = let more = length-append p ([] ∷ []) in (omega arith, tt)
lanes_few (p ∷ q ∷ phases) room h = (h.0, lanes_few (q ∷ phases) room h.1)

lane_few : (phases : List (List (List ScriptOp))) → length (last_lanes phases) < MOST_LANES → AreFew phases → AreFew (with_lane phases)
lane_few phases room h = let same = length_last (λ (lanes : List (List ScriptOp)). lanes ++ [] ∷ []) phases in record { few_phases = omega (arith, h.few_phases); few_lanes = lanes_few phases room h.few_lanes }

op_few : (o : ScriptOp) (phases : List (List (List ScriptOp))) → AreFew phases → AreFew (with_op o phases)
op_few o phases h =
    let same = length_last (λ (lanes : List (List ScriptOp)). at_last (λ ops. ops ++ o ∷ []) lanes) phases in
    record {
      few_phases = omega (arith, h.few_phases);
      few_lanes = each_last Lanes (λ lanes. at_last (λ ops. ops ++ o ∷ []) lanes) (λ lanes g. let e = length_last (λ (ops : List ScriptOp). ops ++ o ∷ []) lanes in omega arith) phases h.few_lanes;
    }

found_few : (o : Option Named) (a : State) → Few a → Few (with_found o a)
found_few None a h = h
found_few (Some found) a h = h

field_few : (o : Option ℕ) (a : State) → Few a → Few (with_row_field o a)
field_few None a h = h
field_few (Some i) a h = h

given_few : (o : Option ℕ) (a : State) → Few a → Few (with_given o a)
given_few None a h = h
given_few (Some i) a h = h

effect_few : (bytes : List ℕ) (t : Terminal) (a : State) (x : Token) (next : Lexed) → failed bytes t a x next ≡ None → Few a → Few (effect bytes t a x)
effect_few bytes terminal.Phase a x next passed h =
    phase_few a.phases (leb-false MOST_PHASES (length a.phases) (none_before (λ c. fails c bytes terminal.Phase a x next) order 6 too_many_phases passed refl)) h
effect_few bytes terminal.Lane a x next passed h =
    lane_few a.phases (leb-false MOST_LANES (length (last_lanes a.phases)) (none_before (λ c. fails c bytes terminal.Lane a x next) order 0 too_many_lanes passed refl)) h
effect_few bytes terminal.SetName a x next passed h = found_few (found_as bytes a x) a h
effect_few bytes terminal.GetName a x next passed h = found_few (found_as bytes a x) a h
effect_few bytes terminal.AreaName a x next passed h = found_few (found_as bytes a x) a h
effect_few bytes terminal.StoreName a x next passed h = found_few (found_as bytes a x) a h
effect_few bytes terminal.RowField a x next passed h = field_few (field_of bytes a x) a h
effect_few bytes terminal.InsertedField a x next passed h = given_few (field_of bytes a x) a h
effect_few bytes _ a x next passed h = h

perform_few : (d : Action) (a : State) → Few a → Few (perform d a)
perform_few action.BeginPath a h = h
perform_few action.BeginEntries a h = h
perform_few action.AddValue a h = h
perform_few action.MakeSet a h = op_few _ a.phases h
perform_few action.MakeGet a h = op_few _ a.phases h
perform_few action.MakePump a h = op_few _ a.phases h
perform_few action.MakeDispose a h = op_few _ a.phases h
perform_few action.MakeInsert a h = op_few _ a.phases h
perform_few action.MakeRemove a h = op_few _ a.phases h
perform_few action.MakeMove a h = op_few _ a.phases h

keeps : (bytes : List ℕ) → Keeps table (semantics bytes) Few
keeps bytes = record {
  terminal = λ w a b x stands took h.
      let is = accepted bytes w a x.token x.next b took in
      subst Few (sym is.after) (effect_few bytes w a is.token x.next is.passes h);
  action = perform_few;
}

pub scripts_are_short : (component : Component) (first_line : ℕ) (bytes : List ℕ) (script : List (List (List ScriptOp))) (texts : List (List ℕ)) → IsScript component first_line bytes script texts → IsShort script
scripts_are_short component first_line bytes script texts is =
    let few = kept table (semantics bytes) Few (keeps bytes) is.read.means (record { few_phases = lit≤ tt; few_lanes = tt }) in
    rw is.phases (record { phases = few.few_phases; lanes = All-from_recursion Lanes is.last.phases few.few_lanes })
