use Rattle.std.proofs.Common.{◌≡◌}
use Rattle.store_fields.specs.Edits.{with_rows}
use Rattle.sources.specs.Rows.{value_in}
use Rattle.held_rows.specs.Shown.{row_shown}
use Rattle.held_rows.proofs.Upto.{upto}
use Rattle.held_rows.proofs.back.write_store.Given as goal

abbrev pub invariant-loop-place : goal.invariant-loop-place
invariant-loop-place l = l.store ≡ with_rows l.initial.store (upto (λ n row. row_shown l.names (value_in l.rows) l.id row) 0 l.place l.initial.store.rows)
