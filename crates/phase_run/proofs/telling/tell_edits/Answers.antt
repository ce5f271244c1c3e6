use Rattle.std.proofs.Common.{◌≤◌, ℕ, ◌+◌, List, length, take, drop, sym, subst, arith}
use Rattle.store_fields.specs.declared.edit.Verdict.{Verdict}
use Rattle.phase_run.specs.Told.{first_verdicts}
use Rattle.phase_run.proofs.ToldAnswers.{AreToldTo, none_told, one_told, all_told, told_within}
use Rattle.phase_run.proofs.telling.tell_edits.Goals as goal

pub loop-place-init : goal.loop-place-init
loop-place-init c = none_told (first_verdicts c.args.still.now.verdicts) c.args.answers.now c.args.first c.requires.within

pub tell-index-requires-clause-within : goal.tell-index-requires-clause-within
tell-index-requires-clause-within c =
    let t = told_within (first_verdicts c.args.still.now.verdicts) c.args.answers.now c.args.first c.loop-place.index c.loop-place.place c.loop-place.answers c.requires.within c.loop-place.invariant in
    omega (arith, t.0, t.1)

pub tell-index-requires-clause-few : goal.tell-index-requires-clause-few
tell-index-requires-clause-few c =
    let t = told_within (first_verdicts c.args.still.now.verdicts) c.args.answers.now c.args.first c.loop-place.index c.loop-place.place c.loop-place.answers c.requires.within c.loop-place.invariant in
    let few = c.requires.few in
    omega (arith, t.0, t.1)

pub loop-place-preserved : goal.loop-place-preserved
loop-place-preserved c =
    let first : ℕ = c.args.first in
    let verdicts : List Verdict = first_verdicts c.args.still.now.verdicts in
    let one = c.tell-index.ensures in
    let t = one_told verdicts (take first c.args.answers.now) (drop first c.args.answers.now) c.loop-place.answers c.tell-index.new.answers c.loop-place.index c.loop-place.place one.0 c.loop-place.invariant one.1 one.2 in
    subst (λ (n : ℕ). AreToldTo verdicts (take first c.args.answers.now) (drop first c.args.answers.now) n (c.loop-place.place + 1) c.tell-index.new.answers) (sym one.3) t

pub returns : goal.returns
returns c =
    all_told (first_verdicts c.args.still.now.verdicts) c.args.answers.now c.args.first c.loop-place.index c.loop-place.place c.loop-place.answers c.requires.within c.loop-place.invariant (let l : length c.args.answers.now ≤ c.loop-place.place = omega arith in l)
