use Rattle.std.proofs.Common.{◌∙◌, ap, sym}
use Rattle.std.specs.Option.{option_copied}
use Rattle.plain_evaluation.specs.Place.{position_of}
use Rattle.node_names.proofs.PlaceLemmas.{found_there}
use Rattle.node_names.proofs.names.Names.has_at.Goals as goal

pub returns-in-Some : goal.returns-in-Some
returns-in-Some c = λ yes.
    ap (λ places. position_of places c.args.place) (sym c.self.view_is)
    ∙ found_there c.self.inside.places.keys c.args.row c.args.place c.in-Some.there.now c.len-count.ensures.unique (sym c.get_index.ensures.key ∙ ap option_copied c.in-Some.is) (sym c.eq.ensures ∙ yes)
