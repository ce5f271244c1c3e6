-- The lines of lanes and of phases, and names joined by dots.
use Rattle.std.proofs.Common.{◌≡◌, ℕ, suc, ◌+◌, List, [], ◌∷◌, ◌++◌, length, map, refl, sym, ap, ◌∙◌, append_assoc, add-zero, arith}
use Rattle.std.specs.List.{flat_map, join_with_byte}
use Rattle.std.proofs.lemmas.List.{append-nil}
use Rattle.std.proofs.lemmas.List.Concat.{flat_map-append}
use Rattle.html_out.specs.Shown.{text_at}
use Rattle.run_meaning.specs.Lane.{Done}
use Rattle.run_meaning.specs.Phase.{Phase}
use Rattle.run_meaning.specs.Report.{answer_line, lane_lines, answer_lines, journal_lines, report_from}
use Rattle.run_meaning.specs.Run.{answers_of_lane, answers_of_lanes}
use Rattle.report_text.specs.Lines.{line_of, dotted}

lines_of_lane : (texts : List (List ℕ)) (phase lane n : ℕ) (done : List Done) → flat_map (line_of texts) (answers_of_lane phase lane n done) ≡ lane_lines texts phase lane n done
lines_of_lane texts phase lane n [] = refl
lines_of_lane texts phase lane n (d ∷ done) = ap (λ l. answer_line texts phase lane n d.reply ++ l) (lines_of_lane texts phase lane (suc n) done)

pub lines_of_lanes : (texts : List (List ℕ)) (phase lane : ℕ) (lanes : List (List Done)) → flat_map (line_of texts) (answers_of_lanes phase lane lanes) ≡ answer_lines texts phase lane lanes
lines_of_lanes texts phase lane [] = refl
lines_of_lanes texts phase lane (l ∷ lanes) =
    flat_map-append (line_of texts) (answers_of_lane phase lane 1 l) (answers_of_lanes phase (suc lane) lanes)
    ∙ (λ k. lines_of_lane texts phase lane 1 l k ++ lines_of_lanes texts phase (suc lane) lanes k)

-- one phase more
pub report_from-push : (texts : List (List ℕ)) (n m : ℕ) (phases : List Phase) (p : Phase) → m ≡ n + length phases → report_from texts n (phases ++ p ∷ []) ≡ report_from texts n phases ++ (answer_lines texts m 1 p.lanes ++ journal_lines texts p.opened.plan.owners m p.entries)
report_from-push texts n m [] p is =
    append-nil _ ∙ ap (λ k. answer_lines texts k 1 p.lanes ++ journal_lines texts p.opened.plan.owners k p.entries) (sym (is ∙ add-zero n))
report_from-push texts n m (q ∷ phases) p is =
    let here = answer_lines texts n 1 q.lanes ++ journal_lines texts q.opened.plan.owners n q.entries in
    let more = answer_lines texts m 1 p.lanes ++ journal_lines texts p.opened.plan.owners m p.entries in
    ap (λ l. here ++ l) (report_from-push texts (suc n) m phases p (omega (arith, is)))
    ∙ sym (append_assoc here (report_from texts (suc n) phases) more)

-- the first name, and then the others, each with a dot before it
pub join_names : (texts : List (List ℕ)) (first : ℕ) (inner : List ℕ) → join_with_byte 46 (map (text_at texts) (first ∷ inner)) ≡ text_at texts first ++ flat_map (dotted texts) inner
join_names texts first [] = sym (append-nil (text_at texts first))
join_names texts first (next ∷ inner) = ap (λ l. text_at texts first ++ 46 ∷ l) (join_names texts next inner)
