-- The checks of a token of a script at its place, and their order.
use Rattle.std.specs.Prelude.{ℕ, nat_lt, nat_le, ◌&&◌, ◌||◌, not, Bool, true, false, is_none, List, [], ◌∷◌, length, find, slice_get, unwrap_or, Option, Some, None}
use Rattle.values.specs.declared.limits.TheConstants.{MOST_PHASES, MOST_LANES}
use Rattle.text_lexer.specs.declared.token.Mark.TheVariants as mark
use Rattle.text_lexer.specs.declared.token.Token.{Token}
use Rattle.text_lexer.specs.Tokens.{Lexed}
use Rattle.text_grammar.specs.declared.script.Terminal.{Terminal}
use Rattle.text_grammar.specs.declared.script.Terminal.TheVariants as terminal
use Rattle.text_grammar.specs.Class.{is_in, only_mark}
use Rattle.text_grammar.specs.Kind.{kind_of}
use Rattle.component_items.specs.declared.refusal.Why.{Why}
use Rattle.component_items.specs.declared.refusal.Why.TheVariants as why
use Rattle.component_items.specs.declared.refusal.Count.TheVariants as count
use Rattle.component_meaning.specs.Names.{bytes_of, value_in, content_in, greatest, greatest_negated, field_at, is_full}
use Rattle.script_items.specs.declared.operation.ScriptOp.{ScriptOp}
use Rattle.script_meaning.specs.Names.{Named, a_signal, a_memo, a_load, a_store, an_area, named_by}
use Rattle.script_meaning.specs.State.{State}

pub data Check : Type 0 where
  too_many_lanes : Check
  number_range : Check
  unknown_name : Check
  wrong_place : Check
  name_taken : Check
  too_many_texts : Check
  too_many_phases : Check

-- Where a token fails several, the first of these is the reason.
abbrev pub order : List Check
order = too_many_lanes ∷ number_range ∷ unknown_name ∷ wrong_place ∷ name_taken ∷ too_many_texts ∷ too_many_phases ∷ []

abbrev pub why_of : Check → Why
why_of too_many_lanes = why.TooManyLanes
why_of number_range = why.NumberRange
why_of unknown_name = why.UnknownName
why_of wrong_place = why.WrongPlace
why_of name_taken = why.NameTaken
why_of too_many_texts = why.TooLarge count.Texts
why_of too_many_phases = why.TooLarge count.Phases

-- ---- TooManyLanes, and TooLarge by phases

-- the lanes of the last phase
abbrev pub last_lanes : List (List (List ScriptOp)) → List (List ScriptOp)
last_lanes [] = []
last_lanes (p ∷ []) = p
last_lanes (p ∷ q ∷ phases) = last_lanes (q ∷ phases)

abbrev pub fails_lanes : Terminal → State → Bool
fails_lanes terminal.Lane a = nat_le MOST_LANES (length (last_lanes a.phases))
fails_lanes _ a = false

abbrev pub fails_phases : Terminal → State → Bool
fails_phases terminal.Phase a = nat_le MOST_PHASES (length a.phases)
fails_phases _ a = false

-- ---- NumberRange

abbrev pub fails_range : List ℕ → Terminal → Token → Bool
fails_range text terminal.NumberKey x = nat_lt greatest (value_in text x)
fails_range text terminal.PlaceNumber x = nat_lt greatest (value_in text x)
fails_range text terminal.NumberLiteral x = nat_lt greatest (value_in text x)
fails_range text terminal.NegatedKey x = nat_lt greatest_negated (value_in text x)
fails_range text terminal.NegatedLiteral x = nat_lt greatest_negated (value_in text x)
fails_range text _ x = false

-- ---- names of a path

-- the last name of a path, by what the path is for
abbrev pub is_signal : Named → Bool
is_signal (a_signal id) = true
is_signal _ = false

abbrev pub has_value : Named → Bool
has_value (a_signal id) = true
has_value (a_memo id) = true
has_value (a_load id) = true
has_value _ = false

abbrev pub is_store : Named → Bool
is_store (a_store id fields starts) = true
is_store _ = false

abbrev pub is_area : Named → Bool
is_area (an_area owner) = true
is_area _ = false

abbrev pub is_wanted : Terminal → Named → Bool
is_wanted terminal.SetName what = is_signal what
is_wanted terminal.GetName what = has_value what
is_wanted terminal.AreaName what = is_area what
is_wanted terminal.StoreName what = is_store what
is_wanted _ what = true

-- a `.` or a `[` comes next
abbrev pub is_dot : List ℕ → Lexed → Bool
is_dot text next = is_in (only_mark mark.Dot) (kind_of text next)

abbrev pub is_bracket : List ℕ → Lexed → Bool
is_bracket text next = is_in (only_mark mark.OpenBracket) (kind_of text next)

abbrev pub is_area_name : Terminal → Bool
is_area_name terminal.AreaName = true
is_area_name _ = false

-- Directly before a `.` stands the name of an area, directly before a `[` that of a store, and last what the path is for.
abbrev pub stands_before : Bool → Bool → Terminal → Named → Bool
stands_before true bracket t what = is_area what
stands_before false true t what = is_store what && not (is_area_name t)
stands_before false false t what = is_wanted t what

abbrev pub may_stand : List ℕ → Terminal → Named → Lexed → Bool
may_stand text t what next = stands_before (is_dot text next) (is_bracket text next) t what

abbrev pub is_path_name : Terminal → Bool
is_path_name terminal.SetName = true
is_path_name terminal.GetName = true
is_path_name terminal.AreaName = true
is_path_name terminal.StoreName = true
is_path_name _ = false

-- the owner of an area; where no area is named that is the top
abbrev pub owner_of : Named → ℕ
owner_of (an_area owner) = owner
owner_of _ = 0

-- what the name stands for in the area that the path names so far
abbrev pub found_as : List ℕ → State → Token → Option Named
found_as text a x = named_by (bytes_of text x) a.texts (owner_of a.named) a.names

-- the place of a field in the store that the path names
abbrev pub fields_of : Named → List ℕ
fields_of (a_store id fields starts) = fields
fields_of _ = []

abbrev pub field_of : List ℕ → State → Token → Option ℕ
field_of text a x = field_at (bytes_of text x) (fields_of a.named) a.texts

abbrev pub fails_unknown : List ℕ → Terminal → State → Token → Bool
fails_unknown text terminal.RowField a x = is_none (field_of text a x)
fails_unknown text terminal.InsertedField a x = is_none (field_of text a x)
fails_unknown text t a x = is_path_name t && is_none (found_as text a x)

abbrev pub stands_wrong : List ℕ → Terminal → Option Named → Lexed → Bool
stands_wrong text t None next = false
stands_wrong text t (Some what) next = not (may_stand text t what next)

abbrev pub fails_place : List ℕ → Terminal → State → Token → Lexed → Bool
fails_place text terminal.RowField a x next = is_dot text next || is_bracket text next
fails_place text t a x next = is_path_name t && stands_wrong text t (found_as text a x) next

-- ---- NameTaken

abbrev pub is_given : Option ℕ → State → Bool
is_given None a = false
is_given (Some i) a = unwrap_or (slice_get a.given i) false

abbrev pub fails_taken : List ℕ → Terminal → State → Token → Bool
fails_taken text terminal.InsertedField a x = is_given (field_of text a x) a
fails_taken text _ a x = false

-- ---- TooLarge by texts

abbrev pub fails_texts : List ℕ → Terminal → State → Token → Bool
fails_texts text terminal.TextKey a x = is_full (content_in text x) a.texts
fails_texts text terminal.TextLiteral a x = is_full (content_in text x) a.texts
fails_texts text _ a x = false

-- ---- all of them

abbrev pub fails : Check → List ℕ → Terminal → State → Token → Lexed → Bool
fails too_many_lanes text t a x next = fails_lanes t a
fails number_range text t a x next = fails_range text t x
fails unknown_name text t a x next = fails_unknown text t a x
fails wrong_place text t a x next = fails_place text t a x next
fails name_taken text t a x next = fails_taken text t a x
fails too_many_texts text t a x next = fails_texts text t a x
fails too_many_phases text t a x next = fails_phases t a

-- the first check that the token fails
abbrev pub failed : List ℕ → Terminal → State → Token → Lexed → Option Check
failed text t a x next = find (λ check. fails check text t a x next) order
