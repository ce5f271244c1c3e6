-- Where a value belongs in a component.
use Rattle.std.specs.Prelude.{ℕ, suc, ◌==◌, ◌&&◌, if◌then◌else◌, Bool, true, false, List, [], ◌∷◌, Option, Some, None}
use Rattle.std.specs.Option.{option_map}
use Rattle.values.specs.declared.code.Code.{Code}
use Rattle.values.specs.Evaluation.{is_same}

-- an id, with the key of the store's row where it is a field or stands inside an `each`
pub record Place : Type 0 where
  pub id : ℕ
  pub key : Option Code

abbrev pub place_at : ℕ → Option Code → Place
place_at id key = record { id = id; key = key }

abbrev pub outside : ℕ → Place
outside id = place_at id None

abbrev pub of_row : ℕ → Code → Place
of_row id key = place_at id (Some key)

abbrev pub same_key : Option Code → Option Code → Bool
same_key None None = true
same_key None (Some b) = false
same_key (Some a) None = false
same_key (Some a) (Some b) = is_same a b

abbrev pub same_place : Place → Place → Bool
same_place p q = (p.id == q.id) && same_key p.key q.key

-- the first position of a place in a list
abbrev pub position_of : List Place → Place → Option ℕ
position_of [] p = None
position_of (q ∷ places) p = if same_place q p then Some 0 else option_map suc (position_of places p)
