use Rattle.std.proofs.Common.{Result, Ok, Err}
use Rattle.std.specs.Prelude.{OnOk}
use Rattle.std.proofs.lemmas.Bool.{OnTrue_from}
use Rattle.settling_rounds.proofs.Rounds.{named_counted, promptly_once}
use Rattle.settling_rounds.proofs.Settlings.{settles_once}
use Rattle.settling_rounds.proofs.settling.settle_once.Goals as goal

on_ok : {A E : Type 0} (r : Result A E) (P : Type 0) → P → OnOk r P
on_ok (Ok a) P p = p
on_ok (Err e) P p = tt

pub returns-clause-settles : goal.returns-clause-settles
returns-clause-settles g c =
    let told = c.in_ok-settled.ensures in
    on_ok c.named_in.result _ (settles_once c.args.still.now c.settle.new.self told.component told.stage told.first told.after told.told told.again told.stay)

pub returns-clause-counted : goal.returns-clause-counted
returns-clause-counted g c = named_counted c.named_in.result c.in_ok-settled.settled _ _ _ _ c.named_in.ensures c.in_ok-settled.ensures.counted

pub returns-clause-prompt : goal.returns-clause-prompt
returns-clause-prompt g c =
    let told = c.in_ok-settled.ensures.polled in
    OnTrue_from g.L.Loader.is_prompt _ (λ e. on_ok c.named_in.result _ (promptly_once c.args.still.now c.settle.new.self told.middle told.is_middle (told.prompt e)))
