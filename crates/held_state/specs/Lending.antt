-- What becomes of the state, once rows that were lent are given back.
use Rattle.std.specs.Prelude.{ℕ, Option}
use Rattle.std.specs.Borrow.{Fml, MutBor, LendsIf}
use Rattle.store_fields.specs.Edits.{KeyedRows}
use Rattle.store_fields.specs.contracts.rows.Rows as rows
use Rattle.plain_evaluation.specs.Changed.{with_store}
use Rattle.held_state.specs.declared.holding.Holding.{Holding}
use Rattle.held_state.specs.declared.holding.Holding.TheVariants.{Stored}
use Rattle.held_state.specs.contracts.holding.Holding as holding
use Rattle.held_state.specs.contracts.held.Held as held
use Rattle.held_state.specs.State.{HeldState, with_held}

-- the holding ends with the last rows
abbrev pub LendsRows : MutBor Holding → Option (MutBor KeyedRows) → Fml
LendsRows lender r = LendsIf holding.the_row rows.the_row lender r Stored lender.now

-- the store with the id ends with the last rows, and all else stays
abbrev pub LendsStore : MutBor HeldState → ℕ → Option (MutBor KeyedRows) → Fml
LendsStore lender id r = LendsIf held.the_row rows.the_row lender r (λ store. with_held lender.now (with_store lender.now.held id store)) lender.now
