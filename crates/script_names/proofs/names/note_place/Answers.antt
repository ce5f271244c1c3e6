use Rattle.std.proofs.Common.{◌≡◌, ◌==◌, ◌&&◌, None, nat_eq, ◌∙◌, subst, arith}
use Rattle.std.proofs.lemmas.Grind.{common_steps}
use Rattle.std.specs.HashMap.{get}
use Rattle.script_names.proofs.Places.{placed_once, same_numbers}
use Rattle.script_names.proofs.names.note_place.Goals as goal

pub returns-in_ok-insert-clause-noted : goal.returns-in_ok-insert-clause-noted
returns-in_ok-insert-clause-noted c = λ o n.
    let none : get (λ a b. nat_eq a.0 b.0 && nat_eq a.1 b.1) c.args.places.now (c.args.owner, c.args.name) ≡ None = grind (arith, common_steps) in
    c.in_ok-insert.ensures.updates.0 (o, n)
    ∙ placed_once (c.args.owner == o && c.args.name == n) (get (λ a b. nat_eq a.0 b.0 && nat_eq a.1 b.1) c.args.places.now (o, n)) c.args.place
    (λ same.
    let both = same_numbers c.args.owner c.args.name o n same in
    subst (λ x. get (λ a b. nat_eq a.0 b.0 && nat_eq a.1 b.1) c.args.places.now (x, n) ≡ None) both.0
    (subst (λ y. get (λ a b. nat_eq a.0 b.0 && nat_eq a.1 b.1) c.args.places.now (c.args.owner, y) ≡ None) both.1 none))
