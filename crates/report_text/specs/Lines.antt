-- The line of an answer by its place, and that of a load by its path.
use Rattle.std.specs.Prelude.{ℕ, List, ◌∷◌, ◌++◌, codes, map}
use Rattle.std.specs.List.{join_with_byte}
use Rattle.html_out.specs.Shown.{text_at}
use Rattle.run_items.specs.declared.answer.Answer.{Answer}
use Rattle.run_meaning.specs.Report.{answer_line}

abbrev pub line_of : List (List ℕ) → Answer → List ℕ
line_of texts a = answer_line texts a.phase a.lane a.op a.reply

abbrev pub line_of_path : List (List ℕ) → List ℕ → List ℕ
line_of_path texts path = codes "waiting " ++ join_with_byte 46 (map (text_at texts) path) ++ codes "\n"

-- a name that does not begin its path, with the dot before it
abbrev pub dotted : List (List ℕ) → ℕ → List ℕ
dotted texts name = 46 ∷ text_at texts name
