use Rattle.std.proofs.Common.{◌≡◌, ◌∙◌, ◌++◌, ◌∷◌, [], Bool, List, sym, ap, subst, refl, if◌then◌else◌, ℕ}
use Rattle.sources.specs.declared.body.Read.{Read}
use Rattle.sources.specs.Bodies.{rows_read}
use Rattle.still_readers.specs.Readers.{stands_in}
use Rattle.still_rows.specs.Shown.{added, IsFresh}
use Rattle.still_rows.proofs.EvaluatingLemmas.{fresh_more, rows_read-snoc}
use Rattle.still_rows.proofs.evaluating.note_row.Goals as goal

stands : (row : ℕ) (list : List ℕ) (b : Bool) → stands_in row list ≡ b → (if b then list else list ++ row ∷ []) ≡ added list row
stands row list b e = ap (λ (k : Bool). if k then list else list ++ row ∷ []) (sym e)

pub returns-then-is_recorded-clause-rows : goal.returns-then-is_recorded-clause-rows
returns-then-is_recorded-clause-rows c = let e = rw c.as_slice.ensures at c.is_recorded.ensures in stands _ _ _ (sym e ∙ c.if-is_recorded.true)

pub returns-clause-fresh : goal.returns-clause-fresh
returns-clause-fresh c = subst (λ (l : List Read). IsFresh c.args._rows.now l) (sym c.push.ensures.list) (fresh_more c.args._rows.now c.args.reads.now.list _ c.args.source.now c.requires.fresh c.requires.source c.requires.clean (c.requires.are_packed.each c.args.row c.args.source.now c.requires.source) refl refl)

pub returns-clause-rows : goal.returns-clause-rows
returns-clause-rows c = let e = rw c.as_slice.ensures at c.is_recorded.ensures in ap rows_read c.push.ensures.list ∙ rows_read-snoc c.args.reads.now.list _ ∙ stands _ _ _ (sym e ∙ c.if-is_recorded.false)
