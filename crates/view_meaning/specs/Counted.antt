-- What holds of the rows of each view that was ever made.
use Rattle.std.specs.Prelude.{◌≡◌, ◌≤◌, ◌<◌, ℕ, Some}
use Rattle.values.specs.declared.code.Code.{Code}
use Rattle.outside.specs.Counts.{last_count}
use Rattle.view_meaning.specs.Serials.{Rows, serial_among}

-- Until the count stands at its last value: each serial is below the next one, and no two keys have one serial.
pub record AreCounted (mounted : Rows) : Type 0 where
  pub counted : mounted.next ≤ last_count
  pub below : mounted.next < last_count → (key : Code) (serial : ℕ) → serial_among mounted.rows key ≡ Some serial → serial < mounted.next
  pub differ : mounted.next < last_count → (key other : Code) (serial : ℕ) → serial_among mounted.rows key ≡ Some serial → serial_among mounted.rows other ≡ Some serial → key ≡ other
