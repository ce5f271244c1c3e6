use Rattle.std.proofs.Common.{◌≡◌, suc, ◌+◌, ◌++◌, List, [], length, length-append, sym, ap, subst, ◌∙◌, arith}
use Rattle.std.specs.List.{All}
use Rattle.component_items.specs.declared.component.Component.{Component}
use Rattle.script_items.specs.declared.operation.ScriptOp.{ScriptOp}
use Rattle.script_items.specs.KeptFor.{NamesMembers}
use Rattle.script_items.specs.Members.{members_of}
use Rattle.store_fields.specs.declared.edit.Verdict.{Verdict}
use Rattle.plan_meaning.specs.Owners.{plan_owners}
use Rattle.run_meaning.specs.Opened.{Opened}
use Rattle.run_meaning.specs.Phase.{Phase}
use Rattle.run_items.specs.declared.answer.Answer.{Answer}
use Rattle.run_meaning.specs.Run.{phases_of, answers_of_lanes}
use Rattle.run_weave.specs.Lanes.{told}
use Rattle.script_run.specs.declared.run.Ran.{Ran}
use Rattle.lane_run.specs.Lanes.{lanes_at}
use Rattle.phase_run.specs.Told.{first_verdicts, answers_told}
use Rattle.lane_run.specs.Today.{LanesRun}
use Rattle.lane_run.proofs.Asked.{lanes_behind}
use Rattle.phase_run.proofs.Made.{run_held, run_owners, past_fits}
use Rattle.script_run.proofs.Runs.{as_many, lines_if, same_lines, what_came, runs_on}
use Rattle.lane_run.proofs.Steps.{not_open}
use Rattle.phase_run.proofs.ToldAnswers.{answers_are_told, told_behind, few_answers}
use Rattle.script_run.proofs.phase.run_phase.Goals as goal

pub make_phase-requires-clause-fits : goal.make_phase-requires-clause-fits
make_phase-requires-clause-fits g c κs within =
    let to = c.requires.so_far.1.to in
    (run_held c.args.ran.now.still.component c.requires.kept to.keys to.steps c.args.ran.now.still.state.held to.runs).fits

pub make_phase-requires-clause-owners : goal.make_phase-requires-clause-owners
make_phase-requires-clause-owners g c κs within =
    let to = c.requires.so_far.1.to in
    (run_owners c.args.ran.now.still.component c.requires.kept to.keys to.steps c.args.ran.now.still.state.held to.runs).long

pub make_phase-requires-clause-named : goal.make_phase-requires-clause-named
make_phase-requires-clause-named g c κs within =
    subst (λ (lanes : List (List ScriptOp)). All (All (NamesMembers (members_of c.args.ran.now.still.component.items))) lanes) (sym (lanes_behind c.args.script.now c.args.before)) (c.requires.named c.args.before [] c.requires.within)

pub make_phase-requires-clause-today : goal.make_phase-requires-clause-today
make_phase-requires-clause-today g c κs within =
    subst LanesRun (sym (lanes_behind c.args.script.now c.args.before)) (c.requires.today.phases c.args.before [] c.requires.within)

pub tell_edits-requires-clause-within : goal.tell_edits-requires-clause-within
tell_edits-requires-clause-within g c =
    let to = c.requires.so_far.1.to in
    let fits = past_fits c.args.ran.now.still.component c.requires.kept to.keys to.steps c.args.ran.now.still.state.held to.runs in
    let made = c.in_ok-make_phase.ensures.made (phases_of to.steps) c.requires.so_far.1.settled fits in
    let long = ap length made.2 ∙ length-append c.args.ran.now.answers (answers_of_lanes (c.args.before + 1) 1 made.0.lanes) in
    omega (arith, long, c.len-first.ensures)

pub tell_edits-requires-clause-few : goal.tell_edits-requires-clause-few
tell_edits-requires-clause-few g c =
    let to = c.requires.so_far.1.to in
    let fits = past_fits c.args.ran.now.still.component c.requires.kept to.keys to.steps c.args.ran.now.still.state.held to.runs in
    let made = c.in_ok-make_phase.ensures.made (phases_of to.steps) c.requires.so_far.1.settled fits in
    let long = ap length made.2 ∙ length-append c.args.ran.now.answers (answers_of_lanes (c.args.before + 1) 1 made.0.lanes) in
    let run : LanesRun (lanes_at c.args.script.now (c.args.before + 1)) = subst LanesRun (sym (lanes_behind c.args.script.now c.args.before)) (c.requires.today.phases c.args.before [] c.requires.within) in
    let few = few_answers (c.args.before + 1) made.0.lanes (lanes_at c.args.script.now (c.args.before + 1)) made.1.ops_are run in
    omega (arith, long, few, c.len-first.ensures)

pub answers_behind-answers-requires : goal.answers_behind-answers-requires
answers_behind-answers-requires g c =
    let to = c.requires.so_far.1.to in
    let fits = past_fits c.args.ran.now.still.component c.requires.kept to.keys to.steps c.args.ran.now.still.state.held to.runs in
    let made = c.in_ok-make_phase.ensures.made (phases_of to.steps) c.requires.so_far.1.settled fits in
    let came : List Answer = answers_of_lanes (c.args.before + 1) 1 made.0.lanes in
    let vs : List Verdict = first_verdicts c.settle_rounds.new.still.verdicts in
    let told_now = told_behind c.args.ran.now.answers c.make_phase.new.answers came c.tell_edits.new.answers vs c.len-first.result c.len-first.ensures made.2 c.tell_edits.ensures in
    let long = ap length told_now ∙ length-append c.args.ran.now.answers (answers_told vs 0 came) in
    omega (arith, long, c.len-first.ensures)

pub settle_rounds-requires-clause-closed : goal.settle_rounds-requires-clause-closed
settle_rounds-requires-clause-closed g c =
    let to = c.requires.so_far.1.to in
    let fits = past_fits c.args.ran.now.still.component c.requires.kept to.keys to.steps c.args.ran.now.still.state.held to.runs in
    let made = c.in_ok-make_phase.ensures.made (phases_of to.steps) c.requires.so_far.1.settled fits in
    not_open c.make_phase.new.still.stage made.1.ended.stage

pub returns-clause-goes_on : goal.returns-clause-goes_on
returns-clause-goes_on g c = λ faults not_yets so_far.
    let component : Component = c.args.ran.now.still.component in
    let script : List (List (List ScriptOp)) = c.args.script.now in
    let old : Ran = c.args.ran.now in
    let new : Ran = record { still = c.settle_rounds.new.still; answers = c.tell_edits.new.answers; report = c.put_lines.new.out; pending = c.in_ok-ran.field-0 } in
    let to = so_far.to in
    let past : List Phase = phases_of to.steps in
    let fits = past_fits component c.requires.kept to.keys to.steps old.still.state.held to.runs in
    let made = c.in_ok-make_phase.ensures.made past so_far.settled fits in
    let p : Phase = made.0 in
    let many : length past ≡ c.args.before = as_many past script c.args.before c.requires.within to.script_is in
    let same : c.make_phase.new.still.component ≡ component = c.in_ok-make_phase.ensures.component in
    let settles = c.in_ok-ran.ensures.settles in
    let settled = settles.ended past (told p) made.1.ended in
    let came : List Answer = answers_of_lanes (c.args.before + 1) 1 p.lanes in
    let vs : List Verdict = first_verdicts c.settle_rounds.new.still.verdicts in
    let told_came : answers_told vs 0 came ≡ answers_of_lanes (c.args.before + 1) 1 (told p).lanes = answers_are_told (c.args.before + 1) p c.settle_rounds.new.still.verdicts made.1.one made.1.numbers settled.3 in
    let told_now : new.answers ≡ old.answers ++ answers_of_lanes (c.args.before + 1) 1 (told p).lanes =
    told_behind old.answers c.make_phase.new.answers came c.tell_edits.new.answers vs c.len-first.result c.len-first.ensures made.2 c.tell_edits.ensures ∙ ap (λ (t : List Answer). old.answers ++ t) told_came in
    let behind : c.answers_behind-answers.result.now ≡ answers_of_lanes (c.args.before + 1) 1 (told p).lanes = what_came old.answers c.tell_edits.new.answers (answers_of_lanes (c.args.before + 1) 1 (told p).lanes) c.len-first.result c.answers_behind-answers.result.now c.answers_behind-answers.ensures c.len-first.ensures told_now in
    let here : c.args.before + 1 ≡ suc (length past) = omega arith in
    let is_component : c.settle_rounds.new.still.component ≡ component = settles.component ∙ same in
    let owners : p.opened.plan.owners ≡ plan_owners c.settle_rounds.new.still.component = ap (λ (o : Opened). o.plan.owners) made.1.opened ∙ ap plan_owners (sym is_component) in
    let lines : new.report.items ≡ old.report.items ++ lines_if c.args.asked component.texts (c.args.before + 1) (told p) =
    same_lines c.args.asked c.settle_rounds.new.still.component component (c.args.before + 1) (told p) old.report.items new.report.items (c.in_ok-put_lines.ensures past (told p) settled.2 owners here behind) is_component in
    runs_on component script c.args.asked c.args.rounds c.args.before old new c.make_phase.new.still p faults (g.L.Loader.faults c.args.loader.now) (g.L.Loader.faults c.settle_rounds.new.loader) not_yets (g.L.Loader.not_yets c.args.loader.now) (g.L.Loader.not_yets c.settle_rounds.new.loader)
    c.requires.within so_far made.1 same settles told_now lines c.in_ok-ran.ensures.pending c.in_ok-ran.ensures.counted
