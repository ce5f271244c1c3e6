use Rattle.std.proofs.Common.{◌≡◌, List, ℕ, zero, suc, [], ◌∷◌, get_or, slice_get, unwrap_or, refl, ap, ◌∙◌}
use Rattle.id_owners.proofs.Alike.{owner_at}
use Rattle.id_owners.proofs.table.IdOwners.owner.Goals as goal

read : (owners : List ℕ) (i : ℕ) → unwrap_or (slice_get owners i) 0 ≡ get_or owners i 0
read [] i = refl
read (owner ∷ owners) zero = refl
read (owner ∷ owners) (suc i) = read owners i

pub returns : goal.returns
returns c = λ component kept is.
    c.unwrap_or.ensures
    ∙ ap (λ found. unwrap_or found 0) (c.copied.ensures ∙ c.at.ensures.item)
    ∙ read c.self.inside.owners c.args.id
    ∙ ap (λ (owners : List ℕ). get_or owners c.args.id 0) (c.self.view_is ∙ is)
    ∙ owner_at component kept c.args.id
