use Rattle.std.proofs.Common.{◌≡◌, ◌∙◌, ℕ, sym, subst, slice_get, Some}
use Rattle.sources.specs.declared.body.Read.{Read}
use Rattle.still_readers.proofs.Lists.{one_at, at_within}
use Rattle.still_rows.specs.Moves.{IsBelow}
use Rattle.still_rows.proofs.MovesLemmas.{recorded_within, check_below}
use Rattle.still_rows.proofs.moves.check.Goals as goal

pub row_at-source-requires : goal.row_at-source-requires
row_at-source-requires c = let s = c.requires.says.2 in
    let w = (recorded_within _ _ _ _ c.args.frame c.args.frame.at s.0 c.requires.good (c.requires.frame, c.requires.node, c.requires.row) s.1).1 in
    rw (← s.2) w

pub returns-then-not-is_clean : goal.returns-then-not-is_clean
returns-then-not-is_clean c = let s = c.requires.says.2 in
    subst (λ (r : ℕ). IsBelow c.args.rows.now c.args.node.now c.args.frame r) s.2
    (check_below c.args.nodes.now c.args.rows.now c.args.node.now c.args.row.now c.args.frame c.args.frame.at s.0 c.row_at-source.result.now c.requires.good (c.requires.frame, c.requires.node, c.requires.row) c.requires.says.1 s.1 (rw s.2 c.row_at-source.ensures) (sym c.is_clean.ensures ∙ c.if-not-is_clean.true))

pub look-requires-clause-look : goal.look-requires-clause-look
look-requires-clause-look c = let s = c.requires.says.2 in (
  c.requires.says.1,
  at_within c.args.row.now.body.reads.list c.args.frame.at s.0 s.1,
  (λ k. sym c.is_clean.ensures ∙ c.if-not-is_clean.false),
  (λ x e. let same : s.0 ≡ x = one_at s.0 x s.1 e in subst (λ (q : Read). slice_get c.args.rows.now q.row ≡ Some c.row_at-source.result.now) same (rw s.2 c.row_at-source.ensures)),
)
