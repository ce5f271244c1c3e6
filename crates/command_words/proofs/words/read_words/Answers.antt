use Rattle.std.proofs.Common.{subst}
use Rattle.std.specs.Prelude.{IfOk}
use Rattle.command_words.specs.Words.{StandFor, texts_of}
use Rattle.command_words.proofs.Unique.{taken_by, refused_by}
use Rattle.command_words.proofs.words.read_words.Goals as goal

pub returns-clause-taken : goal.returns-clause-taken
returns-clause-taken c =
    let words = texts_of c.args.words.now in
    taken_by words c.settings_of.result (λ settings e. subst (λ r. IfOk r (StandFor words)) e c.settings_of.ensures.settings) c.settings_of.ensures.bad

pub returns-clause-refused : goal.returns-clause-refused
returns-clause-refused c =
    let words = texts_of c.args.words.now in
    refused_by words c.settings_of.result (λ settings e. subst (λ r. IfOk r (StandFor words)) e c.settings_of.ensures.settings)
