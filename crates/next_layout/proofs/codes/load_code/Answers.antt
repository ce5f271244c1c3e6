use Rattle.std.proofs.Common.{ℕ, Option, sym, ap, ◌∙◌}
use Rattle.std.specs.Prelude.{unwrap_or}
use Rattle.std.specs.Option.{option_map_or}
use Rattle.values.specs.declared.code.Code.{Code}
use Rattle.values.specs.declared.code.Code.TheVariants.{Empty}
use Rattle.sources.specs.Rows.{value_in}
use Rattle.next_layout.proofs.Rows.{value_got}
use Rattle.next_layout.proofs.codes.load_code.Goals as goal

pub returns-in-Some : goal.returns-in-Some
returns-in-Some c =
    c.unwrap_or.ensures
    ∙ ap (λ (o : Option Code). unwrap_or o Empty) c.value.ensures
    ∙ value_got c.args.graph.now.rows c.in-Some.row
    ∙ sym (ap (λ (o : Option ℕ). option_map_or (value_in c.args.graph.now.rows) o Empty) (sym c.find.ensures ∙ c.in-Some.is))
