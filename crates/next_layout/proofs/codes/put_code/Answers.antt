use Rattle.std.proofs.Common.{◌++◌, sym, ap, ◌∙◌}
use Rattle.std.specs.Option.{option_map}
use Rattle.plan_lines.specs.Lines.{placed_in}
use Rattle.next_layout.specs.Sources.{load_shown}
use Rattle.next_layout.proofs.SourceCodes.{of_source}
use Rattle.next_layout.proofs.codes.put_code.Goals as goal

pub returns-in_ok-push-in-None : goal.returns-in_ok-push-in-None
returns-in_ok-push-in-None c = c.in_ok-push-in-None.ensures.items ∙ ap (λ more. c.args.codes.now.items ++ more) (sym (of_source (load_shown c.args.names.now c.args.graph.now) c.args.held.now.held (placed_in c.args.line.now) c.source_code.result (ap (option_map (λ e. e.now)) c.in-None.is) c.source_code.ensures))
