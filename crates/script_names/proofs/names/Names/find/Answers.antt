use Rattle.std.proofs.Common.{slice_get, sym, ap, ◌∙◌, arith}
use Rattle.std.specs.Option.{option_map}
use Rattle.std.proofs.lemmas.Grind.{common_steps}
use Rattle.script_meaning.specs.Names.{Declaration}
use Rattle.script_names.specs.Named.{named_as, declaration_of}
use Rattle.script_names.proofs.Places.{none_named, one_named, shown_at}
use Rattle.script_names.proofs.names.Names.find.Goals as goal

pub returns-in_err-place : goal.returns-in_err-place
returns-in_err-place c = grind (arith, common_steps, c.self.invariant c.args.owner c.args.name, none_named c.args.owner c.args.name c.self.inside.declared.items c.args.self.now c.self.view_is)

pub returns : goal.returns
returns c =
    let there = one_named c.args.owner c.args.name c.in_ok-place.field-0.now c.self.inside.declared.items c.args.self.now c.self.view_is (sym (c.self.invariant c.args.owner c.args.name) ∙ sym c.in_ok-place.ensures.value) in
    ap (option_map named_as) c.what_at.ensures
    ∙ shown_at c.as_slice.result.now c.in_ok-place.field-0.now
    ∙ ap (λ ds. option_map (λ (d : Declaration). d.what) (option_map declaration_of (slice_get ds c.in_ok-place.field-0.now))) c.as_slice.ensures.value
    ∙ sym there
