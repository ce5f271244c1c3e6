use Rattle.std.proofs.Common.{sym, ◌∙◌}
use Rattle.std.proofs.lemmas.Bool.{false≢true}
use Rattle.text_lexer.proofs.Places.{place_more}
use Rattle.text_lexer.proofs.Skipping.{skips_more}
use Rattle.text_lexer.proofs.lexer.Lexer.skip.Goals as goal
use Rattle.text_lexer.proofs.lexer.Lexer.skip.Goals.{else-not-in_comment-via-then-not-in_comment+else-begins_token, else-not-in_comment-via-else-not-in_comment}

pub loop-place-preserved : goal.loop-place-preserved
loop-place-preserved c =
    let bytes = c.as_bytes-bytes.result.now in
    let place = c.loop-place.place in
    let was = c.loop-place.invariant in
    let past = c.past-place.ensures in
    let goes_on = c.comment_goes_on-in_comment.ensures in (
      rw past.offset (skips_more bytes c.args.self.now.at place.offset c.loop-place.in_comment c.comment_goes_on-in_comment.result was.0 c.loop-place-test.true (elim c.else-not-in_comment.branch [
        | else-not-in_comment-via-then-not-in_comment+else-begins_token w ↦ λ _ no_blank no_hash. false≢true (sym w.if-begins_token.false ∙ w.begins_token.ensures.1 (no_blank, no_hash))
        | else-not-in_comment-via-else-not-in_comment w ↦ λ outside _ _. false≢true (sym outside ∙ w.if-not-in_comment.false)
      ]) goes_on.0 goes_on.1),
      rw (past.offset, past.line, past.column) (place_more c.args.self.now.first_line bytes place.offset place.line place.column was.1 c.loop-place-test.true),
    )
