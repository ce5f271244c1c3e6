-- Each operation of a script names what there is.
use Rattle.std.proofs.Common.{◌≡◌, ℕ, zero, suc, ◌+◌, ◌<◌, ◌==◌, ◌||◌, not, Bool, true, false, List, [], ◌∷◌, length, slice_set, is_none, Some, None, Option, Ok, ◌⊎◌, inl, inr, Contains, refl, sym, ap, subst, ◌∙◌}
use Rattle.std.specs.List.{AllByRecursion as Each, position}
use Rattle.std.specs.Option.{option_and_then}
use Rattle.std.proofs.lemmas.Bool.{and_parts, eqb-true, false≢true}
use Rattle.std.proofs.lemmas.List.Quantifiers.{position-Some}
use Rattle.values.specs.declared.code.Code.{Code}
use Rattle.values.specs.Texts.{index_of}
use Rattle.grammar.specs.Table.{production_at}
use Rattle.text_lexer.specs.declared.token.Mark.TheVariants as mark
use Rattle.text_lexer.specs.declared.token.Reserved.TheVariants as word
use Rattle.text_lexer.specs.declared.token.Token.{Token}
use Rattle.text_lexer.specs.Tokens.{Lexed}
use Rattle.text_grammar.specs.declared.kind.Kind.{Kind}
use Rattle.text_grammar.specs.declared.kind.Kind.TheVariants as kind
use Rattle.text_grammar.specs.Class.{is_number, is_same, number_of}
use Rattle.text_grammar.specs.Kind.{kind_of}
use Rattle.text_grammar.specs.Script.{matches, table}
use Rattle.text_grammar.specs.declared.script.Action.{Action}
use Rattle.text_grammar.specs.declared.script.Action.TheVariants as action
use Rattle.text_grammar.specs.declared.script.Rule.{Rule}
use Rattle.text_grammar.specs.declared.script.Rule.TheVariants as rule
use Rattle.text_grammar.specs.declared.script.Terminal.{Terminal}
use Rattle.text_grammar.specs.declared.script.Terminal.TheVariants as terminal
use Rattle.store_fields.specs.declared.edit.EditOp.TheVariants.{Insert, Remove, Move}
use Rattle.component_items.specs.declared.component.Component.{Component}
use Rattle.component_items.specs.Kept.{IsKept}
use Rattle.script_items.specs.declared.operation.ScriptOp.{ScriptOp}
use Rattle.script_items.specs.declared.operation.ScriptOp.TheVariants as op
use Rattle.script_items.specs.KeptFor.{AllOps, NamesMembers, IsField, MaySet, MayGet}
use Rattle.script_items.specs.Members.{Member, a_signal as signal_member, a_memo as memo_member, a_load as load_member, a_store as store_member, an_area as area_member, members_of}
use Rattle.script_meaning.specs.Names.{Named, nothing, a_signal, a_memo, a_load, a_store, an_area, another}
use Rattle.script_meaning.specs.State.{State}
use Rattle.script_meaning.specs.Checks.{failed, fails, order, unknown_name, wrong_place, is_dot, is_bracket, is_signal, has_value, is_store, is_area, is_wanted, may_stand, stands_wrong, owner_of, found_as, fields_of, field_of}
use Rattle.script_meaning.specs.Effects.{id_of, with_found, with_row_field, with_given, effect, starts_of, key_of, perform}
use Rattle.script_meaning.specs.Meaning.{semantics}
use Rattle.script_meaning.specs.Script.{IsScript}
use Rattle.script_meaning.proofs.Walk.{none_before, IsNext, keeps_promises, promised, IsWalk, walked_to_the_end}
use Rattle.script_meaning.proofs.KeptOps.{accepted, EachOp, phase_more, lane_more, op_more, all_ops}
use Rattle.script_meaning.proofs.KeptNamed.{IsStore, IsNamed, Declares, names_are_named, IsFound, found}
use Rattle.script_meaning.proofs.KeptWords.{Fine, keeps, first}

-- ---- what is known at each place

-- what a path is for
data Way : Type 0 where
  to_set : Way
  to_get : Way
  to_area : Way
  to_store : Way

data Fact : Type 0 where
  -- no operation is being read
  idle : Fact
  -- the same, where a path that ends here does not go on
  pending : Fact
  -- a path to what may be set was read
  settable : Fact
  -- the fields of an insert
  entries : Fact
  -- the word of an operation was read, then its path begins, then a name of it was read
  at_op : Way → Fact
  begun : Way → Fact
  path : Way → Fact
  -- a store was named, and then a key
  opened : Way → Fact
  keyed : Way → Fact

abbrev name_of : Way → Terminal
name_of to_set = terminal.SetName
name_of to_get = terminal.GetName
name_of to_area = terminal.AreaName
name_of to_store = terminal.StoreName

abbrev term : Terminal → Fact → Option Fact
term terminal.Phase pending = Some pending
term terminal.Phase _ = None
term terminal.Lane pending = Some pending
term terminal.Lane _ = None
term terminal.Set pending = Some (at_op to_set)
term terminal.Set _ = None
term terminal.Get pending = Some (at_op to_get)
term terminal.Get _ = None
term terminal.Pump pending = Some idle
term terminal.Pump _ = None
term terminal.Dispose pending = Some (at_op to_area)
term terminal.Dispose _ = None
term terminal.Insert pending = Some (at_op to_store)
term terminal.Insert _ = None
term terminal.Remove pending = Some (at_op to_store)
term terminal.Remove _ = None
term terminal.Move pending = Some (at_op to_store)
term terminal.Move _ = None
term terminal.SetName (begun to_set) = Some (path to_set)
term terminal.SetName _ = None
term terminal.GetName (begun to_get) = Some (path to_get)
term terminal.GetName _ = None
term terminal.AreaName (begun to_area) = Some (path to_area)
term terminal.AreaName _ = None
term terminal.StoreName (begun to_store) = Some (path to_store)
term terminal.StoreName _ = None
term terminal.Dot (path w) = Some (begun w)
term terminal.Dot (keyed w) = Some (keyed w)
term terminal.Dot _ = None
term terminal.OpenBracket (path to_set) = Some (opened to_set)
term terminal.OpenBracket (path to_get) = Some (opened to_get)
term terminal.OpenBracket _ = None
term terminal.CloseBracket (keyed w) = Some (keyed w)
term terminal.CloseBracket _ = None
term terminal.RowField (keyed to_set) = Some (path to_set)
term terminal.RowField (keyed to_get) = Some (path to_get)
term terminal.RowField _ = None
term terminal.TextKey (opened w) = Some (keyed w)
term terminal.TextKey (path to_store) = Some (keyed to_store)
term terminal.TextKey _ = None
term terminal.NumberKey (opened w) = Some (keyed w)
term terminal.NumberKey (path to_store) = Some (keyed to_store)
term terminal.NumberKey _ = None
term terminal.KeyMinus (opened w) = Some (opened w)
term terminal.KeyMinus (path to_store) = Some (opened to_store)
term terminal.KeyMinus _ = None
term terminal.NegatedKey (opened w) = Some (keyed w)
term terminal.NegatedKey _ = None
term terminal.Assign (path to_set) = Some settable
term terminal.Assign entries = Some entries
term terminal.Assign _ = None
term terminal.OpenBrace (keyed to_store) = Some (keyed to_store)
term terminal.OpenBrace _ = None
term terminal.CloseBrace entries = Some entries
term terminal.CloseBrace _ = None
term terminal.InsertedField entries = Some entries
term terminal.InsertedField _ = None
term terminal.At entries = Some entries
term terminal.At _ = None
term terminal.To (keyed to_store) = Some (keyed to_store)
term terminal.To _ = None
term terminal.PlaceNumber entries = Some entries
term terminal.PlaceNumber (keyed to_store) = Some (keyed to_store)
term terminal.PlaceNumber _ = None
term terminal.EmptyLiteral settable = Some settable
term terminal.EmptyLiteral entries = Some entries
term terminal.EmptyLiteral _ = None
term terminal.TextLiteral settable = Some settable
term terminal.TextLiteral entries = Some entries
term terminal.TextLiteral _ = None
term terminal.NumberLiteral settable = Some settable
term terminal.NumberLiteral entries = Some entries
term terminal.NumberLiteral _ = None
term terminal.LiteralMinus settable = Some settable
term terminal.LiteralMinus entries = Some entries
term terminal.LiteralMinus _ = None
term terminal.NegatedLiteral settable = Some settable
term terminal.NegatedLiteral entries = Some entries
term terminal.NegatedLiteral _ = None
term terminal.End pending = Some idle
term terminal.End _ = None

abbrev act : Action → Fact → Option Fact
act action.BeginPath (at_op w) = Some (begun w)
act action.BeginPath _ = None
act action.BeginEntries (keyed to_store) = Some entries
act action.BeginEntries _ = None
act action.AddValue entries = Some entries
act action.AddValue _ = None
act action.MakeSet settable = Some pending
act action.MakeSet _ = None
act action.MakeGet (path to_get) = Some pending
act action.MakeGet _ = None
act action.MakePump idle = Some pending
act action.MakePump _ = None
act action.MakeDispose (path to_area) = Some pending
act action.MakeDispose _ = None
act action.MakeInsert entries = Some pending
act action.MakeInsert _ = None
act action.MakeRemove (keyed to_store) = Some pending
act action.MakeRemove _ = None
act action.MakeMove (keyed to_store) = Some pending
act action.MakeMove _ = None

abbrev through : Rule → Fact → Option Fact
through rule.Script pending = Some pending
through rule.Script _ = None
through rule.Phases pending = Some pending
through rule.Phases _ = None
through rule.Lanes pending = Some pending
through rule.Lanes _ = None
through rule.Operations pending = Some pending
through rule.Operations _ = None
through rule.SetPath (begun to_set) = Some (path to_set)
through rule.SetPath _ = None
through rule.SetPathMore (path to_set) = Some (path to_set)
through rule.SetPathMore _ = None
through rule.GetPath (begun to_get) = Some (path to_get)
through rule.GetPath _ = None
through rule.GetPathMore (path to_get) = Some (path to_get)
through rule.GetPathMore _ = None
through rule.AreaPath (begun to_area) = Some (path to_area)
through rule.AreaPath _ = None
through rule.AreaPathMore (path to_area) = Some (path to_area)
through rule.AreaPathMore _ = None
through rule.StorePath (begun to_store) = Some (path to_store)
through rule.StorePath _ = None
through rule.StorePathMore (path to_store) = Some (path to_store)
through rule.StorePathMore _ = None
through rule.Key (opened w) = Some (keyed w)
through rule.Key (path to_store) = Some (keyed to_store)
through rule.Key _ = None
through rule.Fields entries = Some entries
through rule.Fields _ = None
through rule.InsertPlace entries = Some entries
through rule.InsertPlace _ = None
through rule.Literal settable = Some settable
through rule.Literal entries = Some entries
through rule.Literal _ = None

abbrev way : Way → ℕ
way to_set = 0
way to_get = 1
way to_area = 2
way to_store = 3

abbrev code : Fact → ℕ
code idle = 0
code pending = 1
code settable = 2
code entries = 3
code (at_op w) = 4 + way w
code (begun w) = 8 + way w
code (path w) = 12 + way w
code (opened w) = 16 + way w
code (keyed w) = 20 + way w

all : List Fact
all = idle ∷ pending ∷ settable ∷ entries ∷ at_op to_set ∷ at_op to_get ∷ at_op to_area ∷ at_op to_store ∷ begun to_set ∷ begun to_get ∷ begun to_area ∷ begun to_store ∷ path to_set ∷ path to_get ∷ path to_area ∷ path to_store ∷ opened to_set ∷ opened to_get ∷ opened to_area ∷ opened to_store ∷ keyed to_set ∷ keyed to_get ∷ keyed to_area ∷ keyed to_store ∷ []

listed : (f : Fact) → production_at all (code f) ≡ Some f
unfolding all
listed idle = refl
listed pending = refl
listed settable = refl
listed entries = refl
listed (at_op to_set) = refl
listed (at_op to_get) = refl
listed (at_op to_area) = refl
listed (at_op to_store) = refl
listed (begun to_set) = refl
listed (begun to_get) = refl
listed (begun to_area) = refl
listed (begun to_store) = refl
listed (path to_set) = refl
listed (path to_get) = refl
listed (path to_area) = refl
listed (path to_store) = refl
listed (opened to_set) = refl
listed (opened to_get) = refl
listed (opened to_area) = refl
listed (opened to_store) = refl
listed (keyed to_set) = refl
listed (keyed to_get) = refl
listed (keyed to_area) = refl
listed (keyed to_store) = refl

tests : (r : Rule) → keeps_promises table (semantics []) term act through code all r ≡ true
unfolding all
tests rule.Script = refl
tests _ = refl

-- ---- tokens that end a path

-- a token of another kind is no `.` and no `[`
apart : (i j n : ℕ) → (i == j) ≡ false → (j == n) ≡ true → (i == n) ≡ false
apart i j n differ same = subst (λ m. (i == m) ≡ false) (eqb-true j n same) differ

number_apart : (k : Kind) → is_number k ≡ true → (is_same (kind.Mark mark.Dot) k ≡ false) × (is_same (kind.Mark mark.OpenBracket) k ≡ false)
number_apart kind.One h = (refl, refl)
number_apart kind.Number h = (refl, refl)
number_apart _ h = absurd (false≢true h)

abbrev Ends : List ℕ → Lexed → Type 0
Ends bytes y = (is_dot bytes y ≡ false) × (is_bracket bytes y ≡ false)

stands_store : (bytes : List ℕ) (t : Terminal) (what : Named) (y : Lexed) → is_dot bytes y ≡ false → is_bracket bytes y ≡ true → may_stand bytes t what y ≡ true → is_store what ≡ true
stands_store bytes t what y dot bracket h = let g = rw (dot, bracket) at h in (and_parts (is_store what) _ g).0

stands_wanted : (bytes : List ℕ) (t : Terminal) (what : Named) (y : Lexed) → is_dot bytes y ≡ false → is_bracket bytes y ≡ false → may_stand bytes t what y ≡ true → is_wanted t what ≡ true
stands_wanted bytes t what y dot bracket h = rw (dot, bracket) at h

field_below : (fields : List ℕ) (o : Option ℕ) (i : ℕ) → option_and_then (λ n. position (λ f. f == n) fields) o ≡ Some i → i < length fields
field_below fields None i is = absurd cc
field_below fields (Some n) i is = (position-Some (λ f. f == n) fields i 0 is).0

set_length : (values : List Code) (i : ℕ) (v : Code) → length (slice_set values i v) ≡ length values
set_length [] i v = refl
set_length (x ∷ values) zero v = refl
set_length (x ∷ values) (suc i) v = ap suc (set_length values i v)

-- ---- what the facts mean

module _ (component : Component) (is_kept : IsKept component) (bytes : List ℕ) where
  abbrev members : List Member
  members = members_of component.items

  abbrev count : ℕ
  count = length component.texts

  abbrev Names : State → Type 0
  Names a = EachOp (NamesMembers members) a.phases

  abbrev GoesOn : Option Lexed → Type 0
  GoesOn None = ⊥
  GoesOn (Some y) = (is_dot bytes y ≡ true) ⊎ (is_bracket bytes y ≡ true)

  record StoreNamed (a : State) : Type 0 where
    id : ℕ
    fields : List ℕ
    starts : List Code
    is : a.named ≡ a_store id fields starts
    store : IsStore members count id fields starts

  record NameEnds (w : Way) (a : State) (y : Lexed) : Type 0 where
    no_key : a.key ≡ None
    named : IsNamed members count a.named
    stands : may_stand bytes (name_of w) a.named y ≡ true

  record FieldEnds (a : State) (y : Lexed) : Type 0 where
    key : Code
    has_key : a.key ≡ Some key
    field : IsField members (id_of a.named)
    ends : Ends bytes y

  abbrev MayHaveField : Way → Type 0
  MayHaveField to_set = Unit {0}
  MayHaveField to_get = Unit {0}
  MayHaveField to_area = ⊥
  MayHaveField to_store = ⊥

  abbrev PathEnds : Way → State → Option Lexed → Type 0
  PathEnds w a None = ⊥
  PathEnds w a (Some y) = NameEnds w a y ⊎ (MayHaveField w × FieldEnds a y)

  abbrev HasKey : State → Type 0
  HasKey a = (key : Code) × (a.key ≡ Some key)

  abbrev Holds : Fact → State → Option Lexed → Type 0
  Holds idle a known = Names a
  Holds pending a known = GoesOn known ⊎ Names a
  Holds settable a known = Names a × MaySet members (id_of a.named) a.key
  Holds entries a known = Names a × Contains members (store_member (id_of a.named) (length a.values))
  Holds (at_op w) a known = Names a
  Holds (begun w) a known = Names a × (a.key ≡ None)
  Holds (path w) a known = Names a × PathEnds w a known
  Holds (opened w) a known = Names a × StoreNamed a
  Holds (keyed w) a known = Names a × (StoreNamed a × HasKey a)

  moved : (now after : Fact) (a : State) (known : Option Lexed) → Some now ≡ Some after → Holds now a known → Holds after a known
  moved now after a known goes h = let same : now ≡ after = cc in subst (λ f. Holds f a known) same h

  -- ---- the next token

  resolved : (a : State) (known : Option Lexed) (x : Lexed) → Ends bytes x → IsNext known x → GoesOn known ⊎ Names a → Names a
  resolved a known x ends turn (inr h) = h
  resolved a None x ends turn (inl on) = absurd on
  resolved a (Some y) x ends turn (inl (inl dot)) = absurd (false≢true (sym (subst (λ l. is_dot bytes l ≡ false) turn ends.0) ∙ dot))
  resolved a (Some y) x ends turn (inl (inr bracket)) = absurd (false≢true (sym (subst (λ l. is_bracket bytes l ≡ false) turn ends.1) ∙ bracket))

  -- a token of this kind ends a path
  ends_at : (k : Kind) (x : Lexed) → (49 == number_of k) ≡ false → (47 == number_of k) ≡ false → is_same k (kind_of bytes x).kind ≡ true → Ends bytes x
  ends_at k x dot bracket is = (apart 49 (number_of k) (number_of (kind_of bytes x).kind) dot is, apart 47 (number_of k) (number_of (kind_of bytes x).kind) bracket is)

  -- ---- names

  name_found : (w : Way) (a : State) (x : Token) (next : Lexed) → is_none (found_as bytes a x) ≡ false → stands_wrong bytes (name_of w) (found_as bytes a x) next ≡ false
      → Fine component is_kept a → Names a × (a.key ≡ None) → Holds (path w) (with_found (found_as bytes a x) a) (Some next)
  name_found w a x next known right fine h =
      at (found_as bytes a x) known right
      (found members count _ a.texts (owner_of a.named) a.names (subst (Each (Declares members count)) (sym fine.names) (names_are_named count 0 component.items is_kept.texts is_kept.shaped)))
    where
      stood : (b : Bool) → not b ≡ false → b ≡ true
      stood true e = refl
      stood false e = absurd cc

      at : (o : Option Named) → is_none o ≡ false → stands_wrong bytes (name_of w) o next ≡ false → IsFound members count o → Holds (path w) (with_found o a) (Some next)
      at None known right is = absurd cc
      at (Some what) known right is = (h.0, inl (record { no_key = h.1; named = is; stands = stood (may_stand bytes (name_of w) what next) right }))

  dot_begins : (w : Way) (a : State) (known : Option Lexed) (x : Lexed) → is_dot bytes x ≡ true → IsNext known x → Names a × PathEnds w a known → Names a × (a.key ≡ None)
  dot_begins w a None x dot turn h = absurd h.1
  dot_begins w a (Some y) x dot turn h = (h.0, at h.1)
    where
      at : NameEnds w a y ⊎ (MayHaveField w × FieldEnds a y) → a.key ≡ None
      at (inl ends) = ends.no_key
      at (inr field) = absurd (false≢true (sym field.1.ends.0 ∙ subst (λ l. is_dot bytes l ≡ true) turn dot))

  named_store : (a : State) (what : Named) → a.named ≡ what → IsNamed members count what → is_store what ≡ true → StoreNamed a
  named_store a (a_store id fields starts) same is store = record { id = id; fields = fields; starts = starts; is = same; store = is }
  named_store a nothing same is store = absurd (false≢true store)
  named_store a (a_signal id) same is store = absurd (false≢true store)
  named_store a (a_memo id) same is store = absurd (false≢true store)
  named_store a (a_load id) same is store = absurd (false≢true store)
  named_store a (an_area owner) same is store = absurd (false≢true store)
  named_store a another same is store = absurd (false≢true store)

  bracket_opens : (w : Way) (a : State) (known : Option Lexed) (x : Lexed) → is_dot bytes x ≡ false → is_bracket bytes x ≡ true → IsNext known x → Names a × PathEnds w a known → Names a × StoreNamed a
  bracket_opens w a None x dot bracket turn h = absurd h.1
  bracket_opens w a (Some y) x dot bracket turn h = (h.0, at h.1)
    where
      at : NameEnds w a y ⊎ (MayHaveField w × FieldEnds a y) → StoreNamed a
      at (inl ends) =
          named_store a a.named refl ends.named
          (stands_store bytes (name_of w) a.named y (subst (λ l. is_dot bytes l ≡ false) turn dot) (subst (λ l. is_bracket bytes l ≡ true) turn bracket) ends.stands)
      at (inr field) = absurd (false≢true (sym field.1.ends.1 ∙ subst (λ l. is_bracket bytes l ≡ true) turn bracket))

  -- the path to a store ends before a key
  store_ends : (a : State) (known : Option Lexed) (x : Lexed) → Ends bytes x → IsNext known x → Names a × PathEnds to_store a known → Names a × StoreNamed a
  store_ends a None x ends turn h = absurd h.1
  store_ends a (Some y) x stops turn h = (h.0, at h.1)
    where
      at : NameEnds to_store a y ⊎ (MayHaveField to_store × FieldEnds a y) → StoreNamed a
      at (inl ends) =
          named_store a a.named refl ends.named
          (stands_wanted bytes terminal.StoreName a.named y (subst (λ l. is_dot bytes l ≡ false) turn stops.0) (subst (λ l. is_bracket bytes l ≡ false) turn stops.1) ends.stands)
      at (inr field) = absurd field.0

  -- ---- what a path ends in

  signal_set : (a : State) (what : Named) → a.named ≡ what → a.key ≡ None → IsNamed members count what → is_signal what ≡ true → MaySet members (id_of a.named) a.key
  signal_set a (a_signal id) same none is signal = subst (λ k. MaySet members (id_of a.named) k) (sym none) (subst (λ n. Contains members (signal_member (id_of n))) (sym same) is)
  signal_set a nothing same none is signal = absurd (false≢true signal)
  signal_set a (a_memo id) same none is signal = absurd (false≢true signal)
  signal_set a (a_load id) same none is signal = absurd (false≢true signal)
  signal_set a (a_store id fields starts) same none is signal = absurd (false≢true signal)
  signal_set a (an_area owner) same none is signal = absurd (false≢true signal)
  signal_set a another same none is signal = absurd (false≢true signal)

  set_ends : (a : State) (known : Option Lexed) (x : Lexed) → Ends bytes x → IsNext known x → Names a × PathEnds to_set a known → Names a × MaySet members (id_of a.named) a.key
  set_ends a None x stops turn h = absurd h.1
  set_ends a (Some y) x stops turn h = (h.0, at h.1)
    where
      at : NameEnds to_set a y ⊎ (MayHaveField to_set × FieldEnds a y) → MaySet members (id_of a.named) a.key
      at (inl ends) =
          signal_set a a.named refl ends.no_key ends.named
          (stands_wanted bytes terminal.SetName a.named y (subst (λ l. is_dot bytes l ≡ false) turn stops.0) (subst (λ l. is_bracket bytes l ≡ false) turn stops.1) ends.stands)
      at (inr field) = subst (λ k. MaySet members (id_of a.named) k) (sym field.1.has_key) field.1.field

  value_got : (a : State) (what : Named) → a.named ≡ what → a.key ≡ None → IsNamed members count what → has_value what ≡ true → MayGet members (id_of a.named) a.key
  value_got a (a_signal id) same none is value = subst (λ k. MayGet members (id_of a.named) k) (sym none) (inl (subst (λ n. Contains members (signal_member (id_of n))) (sym same) is))
  value_got a (a_memo id) same none is value = subst (λ k. MayGet members (id_of a.named) k) (sym none) (inr (inl (subst (λ n. Contains members (memo_member (id_of n))) (sym same) is)))
  value_got a (a_load id) same none is value = subst (λ k. MayGet members (id_of a.named) k) (sym none) (inr (inr (subst (λ n. Contains members (load_member (id_of n))) (sym same) is)))
  value_got a nothing same none is value = absurd (false≢true value)
  value_got a (a_store id fields starts) same none is value = absurd (false≢true value)
  value_got a (an_area owner) same none is value = absurd (false≢true value)
  value_got a another same none is value = absurd (false≢true value)

  area_disposed : (a : State) (what : Named) → a.named ≡ what → IsNamed members count what → is_area what ≡ true → Contains members (area_member (owner_of a.named))
  area_disposed a (an_area owner) same is area = subst (λ n. Contains members (area_member (owner_of n))) (sym same) is
  area_disposed a nothing same is area = absurd (false≢true area)
  area_disposed a (a_signal id) same is area = absurd (false≢true area)
  area_disposed a (a_memo id) same is area = absurd (false≢true area)
  area_disposed a (a_load id) same is area = absurd (false≢true area)
  area_disposed a (a_store id fields starts) same is area = absurd (false≢true area)
  area_disposed a another same is area = absurd (false≢true area)

  -- an operation at the end of a path, which goes on or ends there
  at_the_end : (Q : Type 0) (y : Lexed) → (Ends bytes y → Q) → GoesOn (Some y) ⊎ Q
  at_the_end Q y q = at (is_dot bytes y) (is_bracket bytes y) refl refl
    where
      at : (dot bracket : Bool) → is_dot bytes y ≡ dot → is_bracket bytes y ≡ bracket → GoesOn (Some y) ⊎ Q
      at true bracket d b = inl (inl d)
      at false true d b = inl (inr b)
      at false false d b = inr (q (d, b))

  got : (a : State) (known : Option Lexed) → Names a × PathEnds to_get a known → GoesOn known ⊎ Names (perform action.MakeGet a)
  got a None h = absurd h.1
  got a (Some y) h = at_the_end (Names (perform action.MakeGet a)) y (λ ends. op_more (NamesMembers members) (op.Get (id_of a.named) a.key) a.phases (at ends h.1) h.0)
    where
      at : Ends bytes y → NameEnds to_get a y ⊎ (MayHaveField to_get × FieldEnds a y) → MayGet members (id_of a.named) a.key
      at stops (inl ends) = value_got a a.named refl ends.no_key ends.named (stands_wanted bytes terminal.GetName a.named y stops.0 stops.1 ends.stands)
      at stops (inr field) = subst (λ k. MayGet members (id_of a.named) k) (sym field.1.has_key) field.1.field

  disposed : (a : State) (known : Option Lexed) → Names a × PathEnds to_area a known → GoesOn known ⊎ Names (perform action.MakeDispose a)
  disposed a None h = absurd h.1
  disposed a (Some y) h = at_the_end (Names (perform action.MakeDispose a)) y (λ ends. op_more (NamesMembers members) (op.Dispose (owner_of a.named)) a.phases (at ends h.1) h.0)
    where
      at : Ends bytes y → NameEnds to_area a y ⊎ (MayHaveField to_area × FieldEnds a y) → Contains members (area_member (owner_of a.named))
      at stops (inl ends) = area_disposed a a.named refl ends.named (stands_wanted bytes terminal.AreaName a.named y stops.0 stops.1 ends.stands)
      at stops (inr field) = absurd field.0

  -- ---- rows

  field_found : (w : Way) (a : State) (next : Lexed) (o : Option ℕ) → MayHaveField w → is_none o ≡ false → (is_dot bytes next || is_bracket bytes next) ≡ false
      → ((i : ℕ) → o ≡ Some i → i < length (fields_of a.named)) → Names a × (StoreNamed a × HasKey a) → Holds (path w) (with_row_field o a) (Some next)
  field_found w a next None may known stops within h = absurd cc
  field_found w a next (Some i) may known stops within h = (h.0, inr (may, record { key = h.1.1.0; has_key = h.1.1.1; field = field; ends = neither (is_dot bytes next) (is_bracket bytes next) stops }))
    where
      neither : (b c : Bool) → (b || c) ≡ false → (b ≡ false) × (c ≡ false)
      neither false false e = (refl, refl)
      neither true c e = absurd cc
      neither false true e = absurd cc

      field : IsField members (id_of a.named + 2 + i)
      field = record {
        store = id_of a.named;
        fields = length (fields_of a.named);
        field = i;
        declared = subst (λ n. Contains members (store_member (id_of n) (length (fields_of n)))) (sym h.1.0.is) h.1.0.store.declared;
        within = within i refl;
        is = refl;
      }

  fields_within : (a : State) (x : Token) (i : ℕ) → field_of bytes a x ≡ Some i → i < length (fields_of a.named)
  fields_within a x i is = field_below (fields_of a.named) (index_of _ a.texts) i is

  given_names : (o : Option ℕ) (a : State) (known next : Option Lexed) → Holds entries a known → Holds entries (with_given o a) next
  given_names None a known next h = h
  given_names (Some i) a known next h = h

  -- ---- tokens

  terminals : (w : Terminal) (now after : Fact) (a : State) (x : Token) (next : Lexed) (known : Option Lexed) → term w now ≡ Some after → matches w (kind_of bytes (Ok x)) ≡ true
      → failed bytes w a x next ≡ None → IsNext known (Ok x) → Fine component is_kept a → Holds now a known → Holds after (effect bytes w a x) (Some next)
  terminals terminal.Phase pending after a x next known goes has passed turn fine h = moved pending after (effect bytes terminal.Phase a x) (Some next) goes (inr (phase_more (NamesMembers members) a.phases (resolved a known (Ok x) (ends_at (kind.Reserved word.Phase) (Ok x) refl refl has) turn h)))
  terminals terminal.Phase _ after a x next known goes has passed turn fine h = absurd cc
  terminals terminal.Lane pending after a x next known goes has passed turn fine h = moved pending after (effect bytes terminal.Lane a x) (Some next) goes (inr (lane_more (NamesMembers members) a.phases (resolved a known (Ok x) (ends_at (kind.Reserved word.Lane) (Ok x) refl refl has) turn h)))
  terminals terminal.Lane _ after a x next known goes has passed turn fine h = absurd cc
  terminals terminal.Set pending after a x next known goes has passed turn fine h = moved (at_op to_set) after (effect bytes terminal.Set a x) (Some next) goes (resolved a known (Ok x) (ends_at (kind.Reserved word.Set) (Ok x) refl refl has) turn h)
  terminals terminal.Set _ after a x next known goes has passed turn fine h = absurd cc
  terminals terminal.Get pending after a x next known goes has passed turn fine h = moved (at_op to_get) after (effect bytes terminal.Get a x) (Some next) goes (resolved a known (Ok x) (ends_at (kind.Reserved word.Get) (Ok x) refl refl has) turn h)
  terminals terminal.Get _ after a x next known goes has passed turn fine h = absurd cc
  terminals terminal.Pump pending after a x next known goes has passed turn fine h = moved idle after (effect bytes terminal.Pump a x) (Some next) goes (resolved a known (Ok x) (ends_at (kind.Reserved word.Pump) (Ok x) refl refl has) turn h)
  terminals terminal.Pump _ after a x next known goes has passed turn fine h = absurd cc
  terminals terminal.Dispose pending after a x next known goes has passed turn fine h = moved (at_op to_area) after (effect bytes terminal.Dispose a x) (Some next) goes (resolved a known (Ok x) (ends_at (kind.Reserved word.Dispose) (Ok x) refl refl has) turn h)
  terminals terminal.Dispose _ after a x next known goes has passed turn fine h = absurd cc
  terminals terminal.Insert pending after a x next known goes has passed turn fine h = moved (at_op to_store) after (effect bytes terminal.Insert a x) (Some next) goes (resolved a known (Ok x) (ends_at (kind.Reserved word.Insert) (Ok x) refl refl has) turn h)
  terminals terminal.Insert _ after a x next known goes has passed turn fine h = absurd cc
  terminals terminal.Remove pending after a x next known goes has passed turn fine h = moved (at_op to_store) after (effect bytes terminal.Remove a x) (Some next) goes (resolved a known (Ok x) (ends_at (kind.Reserved word.Remove) (Ok x) refl refl has) turn h)
  terminals terminal.Remove _ after a x next known goes has passed turn fine h = absurd cc
  terminals terminal.Move pending after a x next known goes has passed turn fine h = moved (at_op to_store) after (effect bytes terminal.Move a x) (Some next) goes (resolved a known (Ok x) (ends_at (kind.Reserved word.Move) (Ok x) refl refl has) turn h)
  terminals terminal.Move _ after a x next known goes has passed turn fine h = absurd cc
  terminals terminal.SetName (begun to_set) after a x next known goes has passed turn fine h = moved (path to_set) after (effect bytes terminal.SetName a x) (Some next) goes (name_found to_set a x next (none_before (λ c. fails c bytes terminal.SetName a x next) order 2 unknown_name passed refl) (none_before (λ c. fails c bytes terminal.SetName a x next) order 3 wrong_place passed refl) fine h)
  terminals terminal.SetName _ after a x next known goes has passed turn fine h = absurd cc
  terminals terminal.GetName (begun to_get) after a x next known goes has passed turn fine h = moved (path to_get) after (effect bytes terminal.GetName a x) (Some next) goes (name_found to_get a x next (none_before (λ c. fails c bytes terminal.GetName a x next) order 2 unknown_name passed refl) (none_before (λ c. fails c bytes terminal.GetName a x next) order 3 wrong_place passed refl) fine h)
  terminals terminal.GetName _ after a x next known goes has passed turn fine h = absurd cc
  terminals terminal.AreaName (begun to_area) after a x next known goes has passed turn fine h = moved (path to_area) after (effect bytes terminal.AreaName a x) (Some next) goes (name_found to_area a x next (none_before (λ c. fails c bytes terminal.AreaName a x next) order 2 unknown_name passed refl) (none_before (λ c. fails c bytes terminal.AreaName a x next) order 3 wrong_place passed refl) fine h)
  terminals terminal.AreaName _ after a x next known goes has passed turn fine h = absurd cc
  terminals terminal.StoreName (begun to_store) after a x next known goes has passed turn fine h = moved (path to_store) after (effect bytes terminal.StoreName a x) (Some next) goes (name_found to_store a x next (none_before (λ c. fails c bytes terminal.StoreName a x next) order 2 unknown_name passed refl) (none_before (λ c. fails c bytes terminal.StoreName a x next) order 3 wrong_place passed refl) fine h)
  terminals terminal.StoreName _ after a x next known goes has passed turn fine h = absurd cc
  terminals terminal.Dot (path w) after a x next known goes has passed turn fine h = moved (begun w) after (effect bytes terminal.Dot a x) (Some next) goes (dot_begins w a known (Ok x) has turn h)
  terminals terminal.Dot (keyed w) after a x next known goes has passed turn fine h = moved (keyed w) after (effect bytes terminal.Dot a x) (Some next) goes h
  terminals terminal.Dot _ after a x next known goes has passed turn fine h = absurd cc
  terminals terminal.OpenBracket (path to_set) after a x next known goes has passed turn fine h = moved (opened to_set) after (effect bytes terminal.OpenBracket a x) (Some next) goes (bracket_opens to_set a known (Ok x) (apart 49 47 (number_of (kind_of bytes (Ok x)).kind) refl has) has turn h)
  terminals terminal.OpenBracket (path to_get) after a x next known goes has passed turn fine h = moved (opened to_get) after (effect bytes terminal.OpenBracket a x) (Some next) goes (bracket_opens to_get a known (Ok x) (apart 49 47 (number_of (kind_of bytes (Ok x)).kind) refl has) has turn h)
  terminals terminal.OpenBracket _ after a x next known goes has passed turn fine h = absurd cc
  terminals terminal.CloseBracket (keyed w) after a x next known goes has passed turn fine h = moved (keyed w) after (effect bytes terminal.CloseBracket a x) (Some next) goes h
  terminals terminal.CloseBracket _ after a x next known goes has passed turn fine h = absurd cc
  terminals terminal.RowField (keyed to_set) after a x next known goes has passed turn fine h = moved (path to_set) after (effect bytes terminal.RowField a x) (Some next) goes (field_found to_set a next (field_of bytes a x) tt (none_before (λ c. fails c bytes terminal.RowField a x next) order 2 unknown_name passed refl) (none_before (λ c. fails c bytes terminal.RowField a x next) order 3 wrong_place passed refl) (fields_within a x) h)
  terminals terminal.RowField (keyed to_get) after a x next known goes has passed turn fine h = moved (path to_get) after (effect bytes terminal.RowField a x) (Some next) goes (field_found to_get a next (field_of bytes a x) tt (none_before (λ c. fails c bytes terminal.RowField a x next) order 2 unknown_name passed refl) (none_before (λ c. fails c bytes terminal.RowField a x next) order 3 wrong_place passed refl) (fields_within a x) h)
  terminals terminal.RowField _ after a x next known goes has passed turn fine h = absurd cc
  terminals terminal.TextKey (opened w) after a x next known goes has passed turn fine h = moved (keyed w) after (effect bytes terminal.TextKey a x) (Some next) goes (h.0, (record { id = h.1.id; fields = h.1.fields; starts = h.1.starts; is = h.1.is; store = h.1.store }, (_, refl)))
  terminals terminal.TextKey (path to_store) after a x next known goes has passed turn fine h = moved (keyed to_store) after (effect bytes terminal.TextKey a x) (Some next) goes (let s = store_ends a known (Ok x) (ends_at kind.Text (Ok x) refl refl has) turn h in (s.0, (record { id = s.1.id; fields = s.1.fields; starts = s.1.starts; is = s.1.is; store = s.1.store }, (_, refl))))
  terminals terminal.TextKey _ after a x next known goes has passed turn fine h = absurd cc
  terminals terminal.NumberKey (opened w) after a x next known goes has passed turn fine h = moved (keyed w) after (effect bytes terminal.NumberKey a x) (Some next) goes (h.0, (record { id = h.1.id; fields = h.1.fields; starts = h.1.starts; is = h.1.is; store = h.1.store }, (_, refl)))
  terminals terminal.NumberKey (path to_store) after a x next known goes has passed turn fine h = moved (keyed to_store) after (effect bytes terminal.NumberKey a x) (Some next) goes (let s = store_ends a known (Ok x) (number_apart (kind_of bytes (Ok x)).kind has) turn h in (s.0, (record { id = s.1.id; fields = s.1.fields; starts = s.1.starts; is = s.1.is; store = s.1.store }, (_, refl))))
  terminals terminal.NumberKey _ after a x next known goes has passed turn fine h = absurd cc
  terminals terminal.KeyMinus (opened w) after a x next known goes has passed turn fine h = moved (opened w) after (effect bytes terminal.KeyMinus a x) (Some next) goes h
  terminals terminal.KeyMinus (path to_store) after a x next known goes has passed turn fine h = moved (opened to_store) after (effect bytes terminal.KeyMinus a x) (Some next) goes (store_ends a known (Ok x) (ends_at (kind.Mark mark.Minus) (Ok x) refl refl has) turn h)
  terminals terminal.KeyMinus _ after a x next known goes has passed turn fine h = absurd cc
  terminals terminal.NegatedKey (opened w) after a x next known goes has passed turn fine h = moved (keyed w) after (effect bytes terminal.NegatedKey a x) (Some next) goes (h.0, (record { id = h.1.id; fields = h.1.fields; starts = h.1.starts; is = h.1.is; store = h.1.store }, (_, refl)))
  terminals terminal.NegatedKey _ after a x next known goes has passed turn fine h = absurd cc
  terminals terminal.Assign (path to_set) after a x next known goes has passed turn fine h = moved settable after (effect bytes terminal.Assign a x) (Some next) goes (set_ends a known (Ok x) (ends_at (kind.Mark mark.Assign) (Ok x) refl refl has) turn h)
  terminals terminal.Assign entries after a x next known goes has passed turn fine h = moved entries after (effect bytes terminal.Assign a x) (Some next) goes h
  terminals terminal.Assign _ after a x next known goes has passed turn fine h = absurd cc
  terminals terminal.OpenBrace (keyed to_store) after a x next known goes has passed turn fine h = moved (keyed to_store) after (effect bytes terminal.OpenBrace a x) (Some next) goes h
  terminals terminal.OpenBrace _ after a x next known goes has passed turn fine h = absurd cc
  terminals terminal.CloseBrace entries after a x next known goes has passed turn fine h = moved entries after (effect bytes terminal.CloseBrace a x) (Some next) goes h
  terminals terminal.CloseBrace _ after a x next known goes has passed turn fine h = absurd cc
  terminals terminal.InsertedField entries after a x next known goes has passed turn fine h = moved entries after (effect bytes terminal.InsertedField a x) (Some next) goes (given_names (field_of bytes a x) a known (Some next) h)
  terminals terminal.InsertedField _ after a x next known goes has passed turn fine h = absurd cc
  terminals terminal.At entries after a x next known goes has passed turn fine h = moved entries after (effect bytes terminal.At a x) (Some next) goes h
  terminals terminal.At _ after a x next known goes has passed turn fine h = absurd cc
  terminals terminal.To (keyed to_store) after a x next known goes has passed turn fine h = moved (keyed to_store) after (effect bytes terminal.To a x) (Some next) goes h
  terminals terminal.To _ after a x next known goes has passed turn fine h = absurd cc
  terminals terminal.PlaceNumber entries after a x next known goes has passed turn fine h = moved entries after (effect bytes terminal.PlaceNumber a x) (Some next) goes h
  terminals terminal.PlaceNumber (keyed to_store) after a x next known goes has passed turn fine h = moved (keyed to_store) after (effect bytes terminal.PlaceNumber a x) (Some next) goes (h.0, (record { id = h.1.0.id; fields = h.1.0.fields; starts = h.1.0.starts; is = h.1.0.is; store = h.1.0.store }, h.1.1))
  terminals terminal.PlaceNumber _ after a x next known goes has passed turn fine h = absurd cc
  terminals terminal.EmptyLiteral settable after a x next known goes has passed turn fine h = moved settable after (effect bytes terminal.EmptyLiteral a x) (Some next) goes h
  terminals terminal.EmptyLiteral entries after a x next known goes has passed turn fine h = moved entries after (effect bytes terminal.EmptyLiteral a x) (Some next) goes h
  terminals terminal.EmptyLiteral _ after a x next known goes has passed turn fine h = absurd cc
  terminals terminal.TextLiteral settable after a x next known goes has passed turn fine h = moved settable after (effect bytes terminal.TextLiteral a x) (Some next) goes h
  terminals terminal.TextLiteral entries after a x next known goes has passed turn fine h = moved entries after (effect bytes terminal.TextLiteral a x) (Some next) goes h
  terminals terminal.TextLiteral _ after a x next known goes has passed turn fine h = absurd cc
  terminals terminal.NumberLiteral settable after a x next known goes has passed turn fine h = moved settable after (effect bytes terminal.NumberLiteral a x) (Some next) goes h
  terminals terminal.NumberLiteral entries after a x next known goes has passed turn fine h = moved entries after (effect bytes terminal.NumberLiteral a x) (Some next) goes h
  terminals terminal.NumberLiteral _ after a x next known goes has passed turn fine h = absurd cc
  terminals terminal.LiteralMinus settable after a x next known goes has passed turn fine h = moved settable after (effect bytes terminal.LiteralMinus a x) (Some next) goes h
  terminals terminal.LiteralMinus entries after a x next known goes has passed turn fine h = moved entries after (effect bytes terminal.LiteralMinus a x) (Some next) goes h
  terminals terminal.LiteralMinus _ after a x next known goes has passed turn fine h = absurd cc
  terminals terminal.NegatedLiteral settable after a x next known goes has passed turn fine h = moved settable after (effect bytes terminal.NegatedLiteral a x) (Some next) goes h
  terminals terminal.NegatedLiteral entries after a x next known goes has passed turn fine h = moved entries after (effect bytes terminal.NegatedLiteral a x) (Some next) goes h
  terminals terminal.NegatedLiteral _ after a x next known goes has passed turn fine h = absurd cc
  terminals terminal.End pending after a x next known goes has passed turn fine h = moved idle after (effect bytes terminal.End a x) (Some next) goes (resolved a known (Ok x) (ends_at kind.End (Ok x) refl refl has) turn h)
  terminals terminal.End _ after a x next known goes has passed turn fine h = absurd cc

  -- ---- actions

  started : (a : State) → StoreNamed a → Contains members (store_member (id_of a.named) (length (starts_of a.named)))
  started a s =
      subst (λ n. Contains members (store_member (id_of n) (length (starts_of n)))) (sym s.is)
      (subst (λ n. Contains members (store_member s.id n)) s.store.even s.store.declared)

  edits : (a : State) → StoreNamed a → (fields : ℕ) × Contains members (store_member (id_of a.named) fields)
  edits a s = (length s.fields, subst (λ n. Contains members (store_member (id_of n) (length s.fields))) (sym s.is) s.store.declared)

  actions : (d : Action) (now after : Fact) (a : State) (known : Option Lexed) → act d now ≡ Some after → Fine component is_kept a → Holds now a known → Holds after (perform d a) known
  actions action.BeginPath (at_op w) after a known goes fine h = moved (begun w) after (perform action.BeginPath a) known goes (h, refl)
  actions action.BeginPath _ after a known goes fine h = absurd cc
  actions action.BeginEntries (keyed to_store) after a known goes fine h = moved entries after (perform action.BeginEntries a) known goes (h.0, started a h.1.0)
  actions action.BeginEntries _ after a known goes fine h = absurd cc
  actions action.AddValue entries after a known goes fine h = moved entries after (perform action.AddValue a) known goes (h.0, subst (λ n. Contains members (store_member (id_of a.named) n)) (sym (set_length a.values a.field a.literal)) h.1)
  actions action.AddValue _ after a known goes fine h = absurd cc
  actions action.MakeSet settable after a known goes fine h = moved pending after (perform action.MakeSet a) known goes (inr (op_more (NamesMembers members) (op.Set (id_of a.named) a.key a.literal) a.phases h.1 h.0))
  actions action.MakeSet _ after a known goes fine h = absurd cc
  actions action.MakeGet (path to_get) after a known goes fine h = moved pending after (perform action.MakeGet a) known goes (got a known h)
  actions action.MakeGet _ after a known goes fine h = absurd cc
  actions action.MakePump idle after a known goes fine h = moved pending after (perform action.MakePump a) known goes (inr (op_more (NamesMembers members) op.Pump a.phases tt h))
  actions action.MakePump _ after a known goes fine h = absurd cc
  actions action.MakeDispose (path to_area) after a known goes fine h = moved pending after (perform action.MakeDispose a) known goes (disposed a known h)
  actions action.MakeDispose _ after a known goes fine h = absurd cc
  actions action.MakeInsert entries after a known goes fine h = moved pending after (perform action.MakeInsert a) known goes (inr (op_more (NamesMembers members) (op.Change (record { store = id_of a.named; op = Insert (key_of a) a.values a.place })) a.phases h.1 h.0))
  actions action.MakeInsert _ after a known goes fine h = absurd cc
  actions action.MakeRemove (keyed to_store) after a known goes fine h = moved pending after (perform action.MakeRemove a) known goes (inr (op_more (NamesMembers members) (op.Change (record { store = id_of a.named; op = Remove (key_of a) })) a.phases (edits a h.1.0) h.0))
  actions action.MakeRemove _ after a known goes fine h = absurd cc
  actions action.MakeMove (keyed to_store) after a known goes fine h = moved pending after (perform action.MakeMove a) known goes (inr (op_more (NamesMembers members) (op.Change (record { store = id_of a.named; op = Move (key_of a) a.place })) a.phases (edits a h.1.0) h.0))
  actions action.MakeMove _ after a known goes fine h = absurd cc

  -- ---- whole texts

  is_walk : IsWalk table (semantics bytes) term act through (Fine component is_kept) Holds
  is_walk = record {
    rules = promised table (semantics bytes) term act through code all listed tests;
    terminals = λ w now after a b x known goes has takes turn fine h.
        let taken = accepted bytes w a x.token x.next b takes in
        let in_turn = subst (λ l. IsNext known l) taken.is turn in
        let matched = subst (λ l. matches w (kind_of bytes l) ≡ true) taken.is has in
        subst (λ c. Holds after c (Some x.next)) (sym taken.after) (terminals w now after a taken.token x.next known goes matched taken.passes in_turn fine h);
    actions = actions;
  }

pub names_are_members : (component : Component) (first_line : ℕ) (bytes : List ℕ) (script : List (List (List ScriptOp))) (texts : List (List ℕ)) → IsKept component → IsScript component first_line bytes script texts
    → AllOps (NamesMembers (members_of component.items)) script
names_are_members component first_line bytes script texts is_kept is =
    let end =
    walked_to_the_end table (semantics bytes) term act through (Fine component is_kept) (keeps component is_kept bytes) (Holds component is_kept bytes) (is_walk component is_kept bytes)
    is.read.tokens is.read.means (first component is_kept) pending idle refl (inr tt)
    in
    rw is.phases (all_ops (NamesMembers (members_of component.items)) is.last.phases end.1)
