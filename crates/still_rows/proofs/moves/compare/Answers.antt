use Rattle.std.proofs.Common.{◌≡◌, subst, slice_get, Some}
use Rattle.sources.specs.declared.body.Read.{Read}
use Rattle.still_readers.proofs.Lists.{one_at, not_both}
use Rattle.still_rows.proofs.MovesLemmas.{recorded_within}
use Rattle.still_rows.proofs.moves.compare.Goals as goal

pub row_at-source-requires : goal.row_at-source-requires
row_at-source-requires c =
    (recorded_within _ _ _ _ c.args.frame c.args.at c.read_at-read.result c.requires.good (c.requires.frame, c.requires.node, c.requires.row) (rw c.as_slice.ensures at c.read_at-read.ensures)).1

pub look-requires-clause-look : goal.look-requires-clause-look
look-requires-clause-look c = let s = c.requires.says in
    let at = rw c.as_slice.ensures at c.read_at-read.ensures in (
      s.1,
      rw (← s.2) s.3,
      (λ k. absurd (not_both c.args.frame.cleared k s.0)),
      (λ x e.
          let same : c.read_at-read.result ≡ x = one_at c.read_at-read.result x at (rw s.2 e) in
          subst (λ (q : Read). slice_get c.args.rows.now q.row ≡ Some c.row_at-source.result.now) same c.row_at-source.ensures),
    )
