-- A list beside the room that it has.
use Rattle.std.specs.Prelude.{ℕ, ◌+◌, List, length, refl}
use Rattle.std.specs.Coded.{Coded, code_by, coded×, coded_ℕ, coded_list}

-- the items, and how many more are taken with no memory
pub record Reserve (T : Type 0) : Type 0 where
  pub list : List T
  pub spare : ℕ

abbrev pub reserve_code : {T : Type 0} → Coded T → Coded (Reserve T)
reserve_code {T} code =
    code_by (List T × ℕ) (coded× (coded_list code) coded_ℕ) (λ r. (r.list, r.spare)) (λ p. record { list = p.0; spare = p.1 }) (λ _. refl)

-- how many items it has room for in all
abbrev pub room_of : {T : Type 0} → Reserve T → ℕ
room_of r = length r.list + r.spare
