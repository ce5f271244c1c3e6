use Rattle.std.proofs.Common.{◌≡◌, ◌∙◌, true, [], subst}
use Rattle.clap.specs.Words.{HasKind, HasMatchesOf, fault_of, is_simple_and_free}
use Rattle.command_words.specs.Words.{texts_of}
use Rattle.command_words.proofs.Walks.{is_free, taken_gives, gives_found, gives_taken, fails_not}
use Rattle.command_words.proofs.matches.matches_of.Goals as goal

pub returns-in-Ok-clause-found : goal.returns-in-Ok-clause-found
returns-in-Ok-clause-found c =
    let app = c.in_ok-command.ensures in
    let words = texts_of c.args.words.now in
    taken_gives words c.in-Ok.matches c.requires
    (subst (λ a. HasMatchesOf a words c.in-Ok.matches) app c.in-Ok.ensures.matches)
    (subst (λ a. is_simple_and_free a ≡ true → fault_of a words ≡ []) app c.in-Ok.ensures.kinds is_free)

pub returns-in-Ok-clause-only : goal.returns-in-Ok-clause-only
returns-in-Ok-clause-only c = λ with_answers text give values.
    let words = texts_of c.args.words.now in
    gives_found words c.in-Ok.matches with_answers text give values (subst (λ a. HasMatchesOf a words c.in-Ok.matches) c.in_ok-command.ensures c.in-Ok.ensures.matches)

pub returns : goal.returns
returns c = record {
  found = tt;
  only = tt;
  bad = λ e with_answers text give values.
      let app = c.in_ok-command.ensures in
      let words = texts_of c.args.words.now in
      fails_not words c.in-Err.error (subst (λ a. is_simple_and_free a ≡ true → HasKind (fault_of a words) c.in-Err.error) app c.in-Err.ensures.kinds is_free)
      (λ none. c.in_default.not-OutOfMemory (c.kind.ensures ∙ none)) (gives_taken words with_answers text give values);
}
