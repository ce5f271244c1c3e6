-- A table of texts: the bytes of each, in order of number.
use Rattle.std.specs.Prelude.{◌≡◌, ℕ, suc, ◌≤◌, Option, Some, None, is_some, if◌then◌else◌, List, [], ◌∷◌, ◌++◌, length, slice_get}
use Rattle.std.specs.Option.{option_map}
use Rattle.std.specs.Str.{IsUtf8, bytes_eq}

-- the first place of a text
abbrev pub index_of : List ℕ → List (List ℕ) → Option ℕ
index_of text [] = None
index_of text (t ∷ ts) = if bytes_eq text t then Some 0 else option_map suc (index_of text ts)

-- the table with the text in it: as it was where it holds the text, else with the text at the end
abbrev pub with_text : List ℕ → List (List ℕ) → List (List ℕ)
with_text text texts = if is_some (index_of text texts) then texts else texts ++ text ∷ []

-- what holds of each table
pub record IsTable (texts : List (List ℕ)) : Type 0 where
  -- text 0 is the empty text
  pub empty_first : slice_get texts 0 ≡ Some []
  -- no text stands twice, since each is found where it stands
  pub distinct : (i : ℕ) (text : List ℕ) → slice_get texts i ≡ Some text → index_of text texts ≡ Some i
  pub utf8 : (i : ℕ) (text : List ℕ) → slice_get texts i ≡ Some text → IsUtf8 text
  pub bounded : length texts ≤ 65536
