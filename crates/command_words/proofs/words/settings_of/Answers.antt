use Rattle.std.proofs.Common.{◌≡◌, ◌∙◌, sym, false, true}
use Rattle.std.specs.String.{string_bytes}
use Rattle.clap.proofs.WalkLemmas.{list_any-map}
use Rattle.command_words.specs.Clap.{is_other_flag}
use Rattle.command_words.specs.Words.{texts_of}
use Rattle.command_words.proofs.Unique.{no_other_flag, stands_not, value_of_rounds, error_inside}
use Rattle.command_words.proofs.words.settings_of.Goals as goal

pub returns-then-has_other_flag-clause-bad : goal.returns-then-has_other_flag-clause-bad
returns-then-has_other_flag-clause-bad c = λ e settings stand.
    let fine = no_other_flag stand.1 (value_of_rounds stand.0 settings.rounds stand.2) in
    let has = c.if-has_other_flag.ensures ∙ list_any-map is_other_flag string_bytes c.args.words.now in
    let bad : true ≡ false = has ∙ fine in
    cc

pub matches_of-requires : goal.matches_of-requires
matches_of-requires c = sym (list_any-map is_other_flag string_bytes c.args.words.now) ∙ sym c.if-has_other_flag.ensures

pub returns-in_err-matches-clause-bad : goal.returns-in_err-matches-clause-bad
returns-in_err-matches-clause-bad c = λ e settings stand.
    c.in_err-matches.ensures.bad (error_inside c.from_residual.result c.in_err-matches.field-0.0 c.from_residual.ensures.1 e) settings.answers stand.0 stand.1 (value_of_rounds stand.0 settings.rounds stand.2)

pub returns-in_err-rounds-clause-bad : goal.returns-in_err-rounds-clause-bad
returns-in_err-rounds-clause-bad c = λ e settings stand.
    stands_not (texts_of c.args.words.now) c.in_ok-matches.matches c.in_ok-matches.ensures.only
    (c.in_err-rounds.ensures.bad (error_inside c.from_residual-in_err-rounds.result c.in_err-rounds.field-0.0 c.from_residual-in_err-rounds.ensures.1 e)) settings stand
