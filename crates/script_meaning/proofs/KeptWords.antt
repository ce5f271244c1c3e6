-- The texts of a script are in its table.
use Rattle.std.proofs.Common.{◌≡◌, ℕ, zero, suc, ◌≤◌, Bool, true, false, if◌then◌else◌, List, [], ◌∷◌, length, slice_set, unwrap_or, Some, None, Option, refl, sym, subst, arith}
use Rattle.std.specs.List.{AllByRecursion as Each, list_all}
use Rattle.std.specs.Option.{option_map}
use Rattle.std.specs.Str.{bytes_eq}
use Rattle.std.proofs.lemmas.Bool.{and_parts, and_from}
use Rattle.values.specs.declared.code.Code.{Code}
use Rattle.values.specs.declared.code.Code.TheVariants.{Empty, Word}
use Rattle.values.specs.Texts.{with_text}
use Rattle.grammar.specs.Keeping.{Keeps}
use Rattle.grammar.proofs.Keeping.{kept}
use Rattle.text_lexer.specs.declared.token.Token.{Token}
use Rattle.text_grammar.specs.Script.{table}
use Rattle.text_grammar.specs.declared.script.Action.{Action}
use Rattle.text_grammar.specs.declared.script.Action.TheVariants as action
use Rattle.text_grammar.specs.declared.script.Terminal.{Terminal}
use Rattle.text_grammar.specs.declared.script.Terminal.TheVariants as terminal
use Rattle.store_fields.specs.declared.edit.EditOp.{EditOp}
use Rattle.store_fields.specs.declared.edit.EditOp.TheVariants.{Insert, Remove, Move}
use Rattle.component_items.specs.declared.component.Component.{Component}
use Rattle.component_items.specs.Kept.{IsKept, is_text_of, code_has_text}
use Rattle.component_items.proofs.Longer.{all_more, code_more, table_grows}
use Rattle.component_meaning.specs.Names.{content_in, number_with}
use Rattle.component_meaning.proofs.KeptMore.{number_below}
use Rattle.script_items.specs.declared.operation.ScriptOp.{ScriptOp}
use Rattle.script_items.specs.declared.operation.ScriptOp.TheVariants as op
use Rattle.script_items.specs.KeptFor.{KeyHasText, EditHasTexts, HasTexts, AllOps}
use Rattle.script_items.specs.Members.{members_of}
use Rattle.script_meaning.specs.Names.{Named, nothing, a_signal, a_memo, a_load, a_store, an_area, another, names_of}
use Rattle.script_meaning.specs.State.{State, start_for}
use Rattle.script_meaning.specs.Checks.{owner_of, found_as, field_of}
use Rattle.script_meaning.specs.Effects.{id_of, with_found, with_row_field, with_given, effect, starts_of, done, key_of, perform}
use Rattle.script_meaning.specs.Meaning.{semantics}
use Rattle.script_meaning.specs.Script.{IsScript}
use Rattle.script_meaning.proofs.KeptOps.{accepted, EachOp, ops_more, phase_more, lane_more, op_more, all_ops}
use Rattle.script_meaning.proofs.KeptNamed.{IsNamed, Declares, names_are_named, IsFound, found}

-- ---- in a longer table

abbrev pub StartsHaveTexts : ℕ → Named → Type 0
StartsHaveTexts n (a_store id fields starts) = list_all (code_has_text n) starts ≡ true
StartsHaveTexts n _ = Unit {0}

module _ (n m : ℕ) (within : n ≤ m) where
  codes_longer : (codes : List Code) → list_all (code_has_text n) codes ≡ true → list_all (code_has_text m) codes ≡ true
  codes_longer codes h = all_more (code_has_text n) (code_has_text m) (code_more n m within) codes h

  key_longer : (key : Option Code) → KeyHasText n key → KeyHasText m key
  key_longer None h = tt
  key_longer (Some key) h = code_more n m within key h

  edit_longer : (e : EditOp) → EditHasTexts n e → EditHasTexts m e
  edit_longer (Insert key values place) h = (code_more n m within key h.0, codes_longer values h.1)
  edit_longer (Remove key) h = code_more n m within key h
  edit_longer (Move key place) h = code_more n m within key h

  op_longer : (o : ScriptOp) → HasTexts n o → HasTexts m o
  op_longer (op.Set id key code) h = (key_longer key h.0, code_more n m within code h.1)
  op_longer (op.Get id key) h = key_longer key h
  op_longer op.Pump h = tt
  op_longer (op.Dispose owner) h = tt
  op_longer (op.Change edit) h = edit_longer edit.op h

  starts_longer : (what : Named) → StartsHaveTexts n what → StartsHaveTexts m what
  starts_longer (a_store id fields starts) h = codes_longer starts h
  starts_longer nothing h = tt
  starts_longer (a_signal id) h = tt
  starts_longer (a_memo id) h = tt
  starts_longer (a_load id) h = tt
  starts_longer (an_area owner) h = tt
  starts_longer another h = tt

-- a text has its number below the length of the table with it
number_in_table : (text : List ℕ) (texts : List (List ℕ)) → is_text_of (length (with_text text texts)) (number_with text texts) ≡ true
number_in_table text (t ∷ texts) = number_below text (t ∷ texts) (omega arith)
number_in_table text [] = at (bytes_eq text text)
  where
    at : (same : Bool) → is_text_of 1 (unwrap_or (if same then Some 0 else option_map suc None) 0) ≡ true
    at true = refl
    at false = refl

-- a value in place of another
set_has : (p : Code → Bool) (values : List Code) (i : ℕ) (v : Code) → list_all p values ≡ true → p v ≡ true → list_all p (slice_set values i v) ≡ true
set_has p [] i v all has = refl
set_has p (x ∷ values) zero v all has = let both = and_parts (p x) (list_all p values) all in and_from _ _ has both.1
set_has p (x ∷ values) (suc i) v all has = let both = and_parts (p x) (list_all p values) all in and_from _ _ both.0 (set_has p values i v both.1 has)

-- ---- the state

pub record Have (n : ℕ) (phases : List (List (List ScriptOp))) (named : Named) (key : Option Code) (values : List Code) (literal : Code) : Type 0 where
  pub ops : EachOp (HasTexts n) phases
  pub starts : StartsHaveTexts n named
  pub key_has : KeyHasText n key
  pub values_have : list_all (code_has_text n) values ≡ true
  pub literal_has : code_has_text n literal ≡ true

have_longer : (n m : ℕ) (phases : List (List (List ScriptOp))) (named : Named) (key : Option Code) (values : List Code) (literal : Code) → n ≤ m → Have n phases named key values literal → Have m phases named key values literal
have_longer n m phases named key values literal within h = record {
  ops = ops_more (HasTexts n) (HasTexts m) (op_longer n m within) phases h.ops;
  starts = starts_longer n m within named h.starts;
  key_has = key_longer n m within key h.key_has;
  values_have = codes_longer n m within values h.values_have;
  literal_has = code_more n m within literal h.literal_has;
}

module _ (component : Component) (is_kept : IsKept component) where
  pub record Fine (a : State) : Type 0 where
    pub names : a.names ≡ names_of component.items
    pub longer : length component.texts ≤ length a.texts
    pub have : Have (length a.texts) a.phases a.named a.key a.values a.literal

  starts_have : (n : ℕ) (what : Named) → length component.texts ≤ n → IsNamed (members_of component.items) (length component.texts) what → StartsHaveTexts n what
  starts_have n (a_store id fields starts) within h = codes_longer (length component.texts) n within starts h.words
  starts_have n nothing within h = tt
  starts_have n (a_signal id) within h = tt
  starts_have n (a_memo id) within h = tt
  starts_have n (a_load id) within h = tt
  starts_have n (an_area owner) within h = tt
  starts_have n another within h = tt

  -- ---- tokens

  found_fine : (bytes : List ℕ) (a : State) (x : Token) → Fine a → Fine (with_found (found_as bytes a x) a)
  found_fine bytes a x h =
      at (found_as bytes a x)
      (found (members_of component.items) (length component.texts) _ a.texts (owner_of a.named) a.names
      (subst (Each (Declares (members_of component.items) (length component.texts))) (sym h.names) (names_are_named (length component.texts) 0 component.items is_kept.texts is_kept.shaped)))
    where
      at : (o : Option Named) → IsFound (members_of component.items) (length component.texts) o → Fine (with_found o a)
      at None is = h
      at (Some what) is = record {
        names = h.names;
        longer = h.longer;
        have = record { ops = h.have.ops; starts = starts_have (length a.texts) what h.longer is; key_has = h.have.key_has; values_have = h.have.values_have; literal_has = h.have.literal_has };
      }

  field_fine : (o : Option ℕ) (a : State) → Fine a → Fine (with_row_field o a)
  field_fine None a h = h
  field_fine (Some i) a h = record {
    names = h.names;
    longer = h.longer;
    have = record { ops = h.have.ops; starts = tt; key_has = h.have.key_has; values_have = h.have.values_have; literal_has = h.have.literal_has };
  }

  given_fine : (o : Option ℕ) (a : State) → Fine a → Fine (with_given o a)
  given_fine None a h = h
  given_fine (Some i) a h = record { names = h.names; longer = h.longer; have = h.have }

  key_fine : (key : Code) (a : State) → code_has_text (length a.texts) key ≡ true → Fine a → Fine (record a { key = Some key })
  key_fine key a has h = record {
    names = h.names;
    longer = h.longer;
    have = record { ops = h.have.ops; starts = h.have.starts; key_has = has; values_have = h.have.values_have; literal_has = h.have.literal_has };
  }

  literal_fine : (code : Code) (a : State) → code_has_text (length a.texts) code ≡ true → Fine a → Fine (record a { literal = code })
  literal_fine code a has h = record {
    names = h.names;
    longer = h.longer;
    have = record { ops = h.have.ops; starts = h.have.starts; key_has = h.have.key_has; values_have = h.have.values_have; literal_has = has };
  }

  table_fine : (text : List ℕ) (a : State) → Fine a → Fine (record a { texts = with_text text a.texts })
  table_fine text a h =
      let grown = table_grows text a.texts in
      record { names = h.names; longer = omega (arith, h.longer); have = have_longer _ _ _ _ _ _ _ grown h.have }

  phases_fine : (phases : List (List (List ScriptOp))) (a : State) → EachOp (HasTexts (length a.texts)) phases → Fine a → Fine (record a { phases = phases })
  phases_fine phases a ops h = record {
    names = h.names;
    longer = h.longer;
    have = record { ops = ops; starts = h.have.starts; key_has = h.have.key_has; values_have = h.have.values_have; literal_has = h.have.literal_has };
  }

  effect_fine : (bytes : List ℕ) (t : Terminal) (a : State) (x : Token) → Fine a → Fine (effect bytes t a x)
  effect_fine bytes terminal.Phase a x h = phases_fine _ a (phase_more (HasTexts (length a.texts)) a.phases h.have.ops) h
  effect_fine bytes terminal.Lane a x h = phases_fine _ a (lane_more (HasTexts (length a.texts)) a.phases h.have.ops) h
  effect_fine bytes terminal.SetName a x h = found_fine bytes a x h
  effect_fine bytes terminal.GetName a x h = found_fine bytes a x h
  effect_fine bytes terminal.AreaName a x h = found_fine bytes a x h
  effect_fine bytes terminal.StoreName a x h = found_fine bytes a x h
  effect_fine bytes terminal.RowField a x h = field_fine (field_of bytes a x) a h
  effect_fine bytes terminal.TextKey a x h =
      key_fine (Word (number_with (content_in bytes x) a.texts)) (record a { texts = with_text (content_in bytes x) a.texts }) (number_in_table (content_in bytes x) a.texts) (table_fine (content_in bytes x) a h)
  effect_fine bytes terminal.NumberKey a x h = key_fine _ a refl h
  effect_fine bytes terminal.NegatedKey a x h = key_fine _ a refl h
  effect_fine bytes terminal.InsertedField a x h = given_fine (field_of bytes a x) a h
  effect_fine bytes terminal.PlaceNumber a x h = record { names = h.names; longer = h.longer; have = h.have }
  effect_fine bytes terminal.EmptyLiteral a x h = literal_fine _ a refl h
  effect_fine bytes terminal.TextLiteral a x h =
      literal_fine (Word (number_with (content_in bytes x) a.texts)) (record a { texts = with_text (content_in bytes x) a.texts }) (number_in_table (content_in bytes x) a.texts) (table_fine (content_in bytes x) a h)
  effect_fine bytes terminal.NumberLiteral a x h = literal_fine _ a refl h
  effect_fine bytes terminal.NegatedLiteral a x h = literal_fine _ a refl h
  effect_fine bytes _ a x h = h

  -- ---- actions

  started : (n : ℕ) (what : Named) → StartsHaveTexts n what → list_all (code_has_text n) (starts_of what) ≡ true
  started n (a_store id fields starts) h = h
  started n nothing h = refl
  started n (a_signal id) h = refl
  started n (a_memo id) h = refl
  started n (a_load id) h = refl
  started n (an_area owner) h = refl
  started n another h = refl

  keyed : (n : ℕ) (key : Option Code) → KeyHasText n key → code_has_text n (unwrap_or key Empty) ≡ true
  keyed n None h = refl
  keyed n (Some key) h = h

  values_fine : (values : List Code) (a : State) → list_all (code_has_text (length a.texts)) values ≡ true → Fine a → Fine (record a { values = values })
  values_fine values a has h = record {
    names = h.names;
    longer = h.longer;
    have = record { ops = h.have.ops; starts = h.have.starts; key_has = h.have.key_has; values_have = has; literal_has = h.have.literal_has };
  }

  op_fine : (o : ScriptOp) (a : State) → HasTexts (length a.texts) o → Fine a → Fine (done o a)
  op_fine o a has h = phases_fine _ a (op_more (HasTexts (length a.texts)) o a.phases has h.have.ops) h

  perform_fine : (d : Action) (a : State) → Fine a → Fine (perform d a)
  perform_fine action.BeginPath a h = record {
    names = h.names;
    longer = h.longer;
    have = record { ops = h.have.ops; starts = tt; key_has = tt; values_have = h.have.values_have; literal_has = h.have.literal_has };
  }
  perform_fine action.BeginEntries a h =
      let fine = values_fine (starts_of a.named) a (started (length a.texts) a.named h.have.starts) h in
      record { names = fine.names; longer = fine.longer; have = fine.have }
  perform_fine action.AddValue a h = values_fine _ a (set_has (code_has_text (length a.texts)) a.values a.field a.literal h.have.values_have h.have.literal_has) h
  perform_fine action.MakeSet a h = op_fine (op.Set (id_of a.named) a.key a.literal) a (h.have.key_has, h.have.literal_has) h
  perform_fine action.MakeGet a h = op_fine (op.Get (id_of a.named) a.key) a h.have.key_has h
  perform_fine action.MakePump a h = op_fine op.Pump a tt h
  perform_fine action.MakeDispose a h = op_fine (op.Dispose (owner_of a.named)) a tt h
  perform_fine action.MakeInsert a h =
      let made = op_fine (op.Change (record { store = id_of a.named; op = Insert (key_of a) a.values a.place })) a (keyed (length a.texts) a.key h.have.key_has, h.have.values_have) h in
      values_fine [] (done (op.Change (record { store = id_of a.named; op = Insert (key_of a) a.values a.place })) a) refl made
  perform_fine action.MakeRemove a h = op_fine (op.Change (record { store = id_of a.named; op = Remove (key_of a) })) a (keyed (length a.texts) a.key h.have.key_has) h
  perform_fine action.MakeMove a h = op_fine (op.Change (record { store = id_of a.named; op = Move (key_of a) a.place })) a (keyed (length a.texts) a.key h.have.key_has) h

  -- ---- whole texts

  pub keeps : (bytes : List ℕ) → Keeps table (semantics bytes) Fine
  keeps bytes = record {
    terminal = λ w a b x stands took h.
        let is = accepted bytes w a x.token x.next b took in
        subst Fine (sym is.after) (effect_fine bytes w a is.token h);
    action = perform_fine;
  }

  pub first : Fine (start_for component.texts (names_of component.items))
  first = record {
    names = refl;
    longer = omega arith;
    have = record { ops = tt; starts = tt; key_has = tt; values_have = refl; literal_has = refl };
  }

pub words_are_in_the_table : (component : Component) (first_line : ℕ) (bytes : List ℕ) (script : List (List (List ScriptOp))) (texts : List (List ℕ)) → IsKept component → IsScript component first_line bytes script texts
    → AllOps (HasTexts (length texts)) script
words_are_in_the_table component first_line bytes script texts is_kept is =
    let fine = kept table (semantics bytes) (Fine component is_kept) (keeps component is_kept bytes) is.read.means (first component is_kept) in
    rw (is.phases, is.all_texts) (all_ops (HasTexts (length is.last.texts)) is.last.phases fine.have.ops)
