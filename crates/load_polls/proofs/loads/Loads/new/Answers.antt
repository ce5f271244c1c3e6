use Rattle.std.proofs.Common.{replicate, length, ap, ◌∙◌}
use Rattle.async_derived.specs.Loads.{first_load}
use Rattle.load_table.specs.Loads.{loads_in}
use Rattle.load_polls.proofs.Lists.{all_first}
use Rattle.load_polls.proofs.loads.Loads.new.Goals as goal

pub returns-clause-loadings : goal.returns-clause-loadings
returns-clause-loadings c =
    c.in_ok-loadings.ensures.items_if_clones_equal (λ y is. is)
    ∙ (λ i. replicate (c.len.ensures i) (record { key = c.new-2.ensures.key i; arrived = c.new-2.ensures.arrived i; asked = c.new-2.ensures.asked i }))
    ∙ ap (λ loads. replicate (length loads) first_load) c.in_ok-table.ensures
    ∙ all_first first_load (loads_in c.args.component.now)
