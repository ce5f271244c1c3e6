use Rattle.std.proofs.Common.{map, ap, ◌∙◌}
use Rattle.std.specs.List.{flat_map}
use Rattle.plain_evaluation.specs.Written.{state_of, written}
use Rattle.plan_lines.specs.Lines.{placed_in}
use Rattle.next_layout.specs.Sources.{load_shown, codes_held}
use Rattle.next_layout.proofs.SourceCodes.{lines_held}
use Rattle.next_layout.proofs.HeldLines.{all_held}
use Rattle.next_layout.proofs.codes.laid_with_codes.Goals as goal

pub lay_out_lines-requires-clause-lines : goal.lay_out_lines-requires-clause-lines
lay_out_lines-requires-clause-lines c = ap (map placed_in) c.as_slice.ensures.value ∙ c.in_ok-lines.ensures

pub returns-clause-codes : goal.returns-clause-codes
returns-clause-codes c =
    let held = c.args.held.now.held in
    let component = c.args.component.now in
    let loads = load_shown c.args.names.now c.args.graph.now in
    c.in_ok-codes.ensures ∙ ap (λ lines. flat_map (codes_held loads held) (map placed_in lines)) c.as_slice-2.ensures.value ∙ ap (flat_map (codes_held loads held)) c.in_ok-lines.ensures ∙ lines_held loads held c.requires.fits.keys (written component held) (all_held component (state_of held))
