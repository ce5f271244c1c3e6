use Rattle.std.proofs.Common.{rules, ap}
use Rattle.page_program.specs.Ending.{bytes_of, text_of, ending_account}
use Rattle.page_program.specs.Run.{Means}
use Rattle.script_run.specs.Today.{RunsToday}
use Rattle.page_program.proofs.Due.{polling_of, gives_end, unbuilt_due, unbuilt_at, run_of_read}
use Rattle.page_program.proofs.answer.answer_to.Goals as goal

pub returns-then-not-runs_today : goal.returns-then-not-runs_today
returns-then-not-runs_today g c = λ words reading bytes stand gave few read.
    let script = c.args.input.script in
    let lacks : RunsToday script → ⊥ = search rules in
    let given = gives_end (λ b. Means b read.0) reading bytes gave few read.1 in
    let faults = g.L.Loader.faults c.args.loader.now in
    let not_yets = g.L.Loader.not_yets c.args.loader.now in
    let end = c.not_run.result in
    unbuilt_due words reading (polling_of g.L.Loader.is_prompt faults faults not_yets not_yets) read.0 end.outcome (ending_account end) (text_of end) (c.args.settings, stand) given (unbuilt_at script read.0 read.3 lacks)
    c.not_run.ensures.outcome (ap bytes_of c.not_run.ensures.text) c.not_run.ensures.account

pub returns-in-Ok : goal.returns-in-Ok
returns-in-Ok g c = λ words reading bytes stand gave few read.
    let component = c.args.input.component in
    let script = c.args.input.script in
    let runs : RunsToday script = search rules in
    let before = c.args.loader.now in
    let after = c.run_script.new.loader in
    let polling = polling_of g.L.Loader.is_prompt (g.L.Loader.faults before) (g.L.Loader.faults after) (g.L.Loader.not_yets before) (g.L.Loader.not_yets after) in
    let end = c.ended.result in
    run_of_read words reading polling c.args.settings bytes component script c.in-Ok.ran end.outcome (ending_account end) (text_of end) stand gave few read runs c.in-Ok.ensures.run c.in-Ok.ensures.prompt c.ended.ensures
