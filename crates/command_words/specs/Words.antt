-- Which words behind the program's name stand for which settings.
use Rattle.std.specs.Prelude.{◌≡◌, ℕ, ◌≤◌, Bool, true, false, codes, map, List, [], ◌∷◌, ◌++◌, Option, Some, None}
use Rattle.std.specs.Fmt.{decimal}
use Rattle.std.specs.Prelude.{String}
use Rattle.std.specs.String.{string_bytes}
use Rattle.command_words.specs.declared.settings.Settings.{Settings}

-- The words give the answers, and this text as the number of rounds. Each of the two options comes once at the
-- most, and they come in any order. Behind them `--` may stand, which ends the options.
pub data Give : List (List ℕ) → Bool → Option (List ℕ) → Type 0 where
  nothing : Give [] false None
  end_of_options : Give (codes "--" ∷ []) false None
  answers : {words : List (List ℕ)} {rounds : Option (List ℕ)} → Give words false rounds → Give (codes "-a" ∷ words) true rounds
  rounds : {words : List (List ℕ)} {answers : Bool} (text : List ℕ) → Give words answers None → Give (codes "--rounds" ∷ text ∷ words) answers (Some text)
  joined_rounds : {words : List (List ℕ)} {answers : Bool} (text : List ℕ) → Give words answers None → Give ((codes "--rounds=" ++ text) ∷ words) answers (Some text)

-- The text is the number of rounds in plain decimal, with no sign and no zero in front. One round is meant where
-- no number is given.
abbrev pub IsRounds : Option (List ℕ) → ℕ → Type 0
IsRounds None n = n ≡ 1
IsRounds (Some text) n = (text ≡ decimal n) × (1 ≤ n) × (n ≤ 1000)

-- the words stand for the settings
abbrev pub StandFor : List (List ℕ) → Settings → Type 0
StandFor words settings = (text : Option (List ℕ)) × Give words settings.answers text × IsRounds text settings.rounds

-- the texts of words
abbrev pub texts_of : {Z : Type 0} → List (String Z) → List (List ℕ)
texts_of words = map string_bytes words
