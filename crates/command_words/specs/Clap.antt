-- The command that `clap` reads, as its clauses see it.
use Rattle.std.specs.Prelude.{◌≡◌, ℕ, ◌&&◌, not, is_some, Bool, true, false, codes, List, Option, Some, None}
use Rattle.std.specs.Str.{bytes_eq}
use Rattle.clap.specs.Lexer.{long_of, short_of}
use Rattle.clap.specs.Words.{App, Rule, first_value, found_of, new_app, new_rule, one_text, with_rule}
use Rattle.clap.specs.declared.parser.matches.ArgMatches.{ArgMatches}
use Rattle.clap.specs.Simple.{on_top}
use Rattle.clap.specs.declared.builder.ArgAction.TheVariants.{Set, SetTrue}

-- `-a`
abbrev pub answers_rule : Rule
answers_rule = record (new_rule (codes "answers")) { short = Some 97; action = Some SetTrue }

-- `--rounds N`
abbrev pub rounds_rule : Rule
rounds_rule = record (new_rule (codes "rounds")) { long = Some (codes "rounds"); action = Some Set }

-- no program's name, and no flags for help and the version
abbrev pub bare : App
bare = on_top (λ s. record s { no_binary_name = true; disable_help_flag = true; disable_version_flag = true }) (new_app (codes "page"))

abbrev pub page_command : App
page_command = with_rule (with_rule bare answers_rule) rounds_rule

-- a word of short flags, other than `-a`
abbrev pub is_other_flag : List ℕ → Bool
is_other_flag word = is_some (short_of word) && not (bytes_eq word (codes "-a"))

-- what `get_flag` reads
abbrev pub answers_text : Bool → List ℕ
answers_text true = codes "true"
answers_text false = codes "false"

-- what the matches say of the two options
pub record Found (m : ArgMatches) (with_answers : Bool) (text : Option (List ℕ)) : Type 0 where
  pub answers_are : one_text (found_of m) (codes "answers") ≡ Some (answers_text with_answers)
  pub rounds_are : first_value (found_of m) (codes "rounds") ≡ text

-- the word may stand behind `--rounds`, since it is no option itself
pub record IsValue (word : List ℕ) : Type 0 where
  pub long : long_of word ≡ None
  pub short : short_of word ≡ None
  pub some : bytes_eq word (codes "--") ≡ false

abbrev pub IsValueText : Option (List ℕ) → Type 0
IsValueText text = (v : List ℕ) → text ≡ Some v → IsValue v
