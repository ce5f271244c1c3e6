-- Each text that was read is in the table, whatever is read next.
use Rattle.std.proofs.Common.{◌≡◌, ℕ, ◌+◌, ◌<◌, ◌≤◌, Bool, true, false, List, [], ◌∷◌, ◌++◌, length, map, refl, sym, ap, subst, ◌∙◌, arith}
use Rattle.std.specs.List.{list_all}
use Rattle.std.proofs.lemmas.List.Folds.{list_all-append, list_all-map}
use Rattle.grammar.specs.Keeping.{Keeps}
use Rattle.grammar.proofs.Keeping.{kept}
use Rattle.grammar.proofs.Theory.{and_cases, and_both}
use Rattle.values.specs.declared.code.Code.{Code}
use Rattle.values.specs.declared.code.Code.TheVariants.{Empty, Word}
use Rattle.values.specs.declared.code.Op.{Op}
use Rattle.values.specs.declared.expr.Expr.{Expr}
use Rattle.values.specs.declared.expr.Expr.TheOpen as form
use Rattle.values.specs.declared.expr.Expr.TheVariants as expr
use Rattle.values.specs.declared.expr.Expr.TheFolds.{fold-Expr, fold-roll-Expr}
use Rattle.values.specs.Texts.{with_text}
use Rattle.text_lexer.specs.declared.token.Token.{Token}
use Rattle.text_grammar.specs.Component.{table}
use Rattle.text_grammar.specs.declared.component.Action.{Action}
use Rattle.text_grammar.specs.declared.component.Action.TheVariants as action
use Rattle.text_grammar.specs.declared.component.Terminal.{Terminal}
use Rattle.text_grammar.specs.declared.component.Terminal.TheVariants as terminal
use Rattle.component_items.specs.declared.component.Attr.{Attr}
use Rattle.component_items.specs.declared.component.Attr.TheVariants as attr
use Rattle.component_items.specs.declared.component.Component.{Component}
use Rattle.component_items.specs.declared.component.Item.{Item}
use Rattle.component_items.specs.declared.component.Item.TheVariants as item
use Rattle.component_items.specs.Kept.{is_text_of, code_has_text, texts_step, expr_has_texts, attr_has_texts, all_true, has_texts_step, item_has_texts}
use Rattle.component_items.proofs.FoldLemmas as folds
use Rattle.component_meaning.specs.State.{State, start, Declared, Frame, area_frame, if_frame, each_frame, element_frame, Open, signal_name, memo_name, effect_name, resource_name, load_name, store_name, area_name}
use Rattle.component_meaning.specs.Names.{id_of, bytes_of, content_in, number_in, negated_in, number_with, rows_from}
use Rattle.component_meaning.specs.Effects.{effect, with_name, with_written}
use Rattle.component_meaning.specs.Actions.{rest, top_operand, whole, taken, with_item, with_numbered, known_as, item_of, closed, with_attr, with_element, perform}
use Rattle.component_meaning.specs.Meaning.{semantics}
use Rattle.component_meaning.specs.Component.{IsComponent}
use Rattle.component_meaning.proofs.KeptTokens.{accepted}
use Rattle.component_items.proofs.Longer.{all_more, text_more, code_more, expr_more, items_more, table_grows}
use Rattle.component_meaning.proofs.KeptMore.{frame_has_texts, open_has_texts, open_more, number_below}

-- ---- expressions

lit_has : (n : ℕ) (c : Code) → code_has_text n c ≡ true → expr_has_texts n (expr.Lit c) ≡ true
unfolding expr_has_texts
lit_has n c h = ap (fold-Expr Bool (texts_step n)) (sym (expr.rolls-Lit c)) ∙ fold-roll-Expr Bool (texts_step n) (form.Lit c) ∙ h

read_has : (n id : ℕ) → expr_has_texts n (expr.Read id) ≡ true
unfolding expr_has_texts
read_has n id = ap (fold-Expr Bool (texts_step n)) (sym (expr.rolls-Read id)) ∙ fold-roll-Expr Bool (texts_step n) (form.Read id)

binary_has : (n : ℕ) (op : Op) (a b : Expr) → expr_has_texts n a ≡ true → expr_has_texts n b ≡ true → expr_has_texts n (expr.Binary op a b) ≡ true
unfolding expr_has_texts
binary_has n op a b left right = ap (fold-Expr Bool (texts_step n)) (sym (expr.rolls-Binary op a b)) ∙ fold-roll-Expr Bool (texts_step n) (form.Binary op a b) ∙ and_both _ _ left right

if_has : (n : ℕ) (c a b : Expr) → expr_has_texts n c ≡ true → expr_has_texts n a ≡ true → expr_has_texts n b ≡ true → expr_has_texts n (expr.If c a b) ≡ true
unfolding expr_has_texts
if_has n c a b test left right = ap (fold-Expr Bool (texts_step n)) (sym (expr.rolls-If c a b)) ∙ fold-roll-Expr Bool (texts_step n) (form.If c a b) ∙ and_both _ _ (and_both _ _ test left) right

-- the operands
rest_has : (n : ℕ) (operands : List Expr) → list_all (expr_has_texts n) operands ≡ true → list_all (expr_has_texts n) (rest operands) ≡ true
rest_has n [] h = h
rest_has n (e ∷ operands) h = (and_cases (expr_has_texts n e) _ h).1

top_has : (n : ℕ) (operands : List Expr) → list_all (expr_has_texts n) operands ≡ true → expr_has_texts n (top_operand operands) ≡ true
top_has n [] h = lit_has n Empty refl
top_has n (e ∷ operands) h = (and_cases (expr_has_texts n e) _ h).0

-- ---- items

signal_has : (n id name : ℕ) (start : Code) → is_text_of n name ≡ true → code_has_text n start ≡ true → item_has_texts n (item.Signal id name start) ≡ true
unfolding item_has_texts
signal_has n id name start named started = folds.fold-Signal (has_texts_step n) id name start ∙ and_both _ _ named started

memo_has : (n id name : ℕ) (e : Expr) → is_text_of n name ≡ true → expr_has_texts n e ≡ true → item_has_texts n (item.Memo id name e) ≡ true
unfolding item_has_texts
memo_has n id name e named has = folds.fold-Memo (has_texts_step n) id name e ∙ and_both _ _ named has

effect_has : (n id name : ℕ) (e : Expr) → is_text_of n name ≡ true → expr_has_texts n e ≡ true → item_has_texts n (item.Effect id name e) ≡ true
unfolding item_has_texts
effect_has n id name e named has = folds.fold-Effect (has_texts_step n) id name e ∙ and_both _ _ named has

resource_has : (n id name after : ℕ) (keys values : List Code) → is_text_of n name ≡ true → list_all (code_has_text n) keys ≡ true → list_all (code_has_text n) values ≡ true
    → item_has_texts n (item.Resource id name after keys values) ≡ true
unfolding item_has_texts
resource_has n id name after keys values named keyed has = folds.fold-Resource (has_texts_step n) id name after keys values ∙ and_both _ _ (and_both _ _ named keyed) has

load_has : (n id name resource : ℕ) (key : Expr) → is_text_of n name ≡ true → expr_has_texts n key ≡ true → item_has_texts n (item.Load id name resource key) ≡ true
unfolding item_has_texts
load_has n id name resource key named has = folds.fold-Load (has_texts_step n) id name resource key ∙ and_both _ _ named has

store_has : (n id name max : ℕ) (fields : List ℕ) (starts : List Code) → is_text_of n name ≡ true → list_all (is_text_of n) fields ≡ true → list_all (code_has_text n) starts ≡ true
    → item_has_texts n (item.Store id name max fields starts) ≡ true
unfolding item_has_texts
store_has n id name max fields starts named fielded has = folds.fold-Store (has_texts_step n) id name max fields starts ∙ and_both _ _ (and_both _ _ named fielded) has

cleanup_has : (n text : ℕ) → is_text_of n text ≡ true → item_has_texts n (item.Cleanup text) ≡ true
unfolding item_has_texts
cleanup_has n text has = folds.fold-Cleanup (has_texts_step n) text ∙ has

text_has : (n text : ℕ) → is_text_of n text ≡ true → item_has_texts n (item.Text text) ≡ true
unfolding item_has_texts
text_has n text has = folds.fold-Text (has_texts_step n) text ∙ has

shown_has : (n id : ℕ) (e : Expr) → expr_has_texts n e ≡ true → item_has_texts n (item.Shown id e) ≡ true
unfolding item_has_texts
shown_has n id e has = folds.fold-Shown (has_texts_step n) id e ∙ has

inner_has : (n : ℕ) (items : List Item) → list_all (item_has_texts n) items ≡ true → all_true (map (item_has_texts n) items) ≡ true
inner_has n items h = list_all-map (λ b. b) (item_has_texts n) items ∙ h

closed_has : (n : ℕ) (frame : Frame) (items : List Item) → frame_has_texts n frame ≡ true → list_all (item_has_texts n) items ≡ true → item_has_texts n (item_of frame items) ≡ true
unfolding item_has_texts
closed_has n (area_frame id name owner) items framed has = folds.fold-Area (has_texts_step n) id name owner items ∙ and_both _ _ framed (inner_has n items has)
closed_has n (if_frame id cond) items framed has = folds.fold-If (has_texts_step n) id cond items ∙ and_both _ _ framed (inner_has n items has)
closed_has n (each_frame id rows) items framed has = folds.fold-Each (has_texts_step n) id rows.store items ∙ inner_has n items has
closed_has n (element_frame tag has_end attrs) items framed has = folds.fold-Element (has_texts_step n) tag has_end attrs items ∙ and_both _ _ framed (inner_has n items has)

-- ---- the state

-- items, and what is open, have their texts in a table of n texts
pub record HaveTexts (n : ℕ) (items : List Item) (opened : List Open) : Type 0 where
  pub items_have : list_all (item_has_texts n) items ≡ true
  pub opened_have : list_all (open_has_texts n) opened ≡ true

-- and so has what is read
pub record ReadHasTexts (n name written : ℕ) (fields : List ℕ) (keys values : List Code) (literal : Code) (operands : List Expr) : Type 0 where
  pub some : 0 < n
  pub named : is_text_of n name ≡ true
  pub wrote : is_text_of n written ≡ true
  pub fields_have : list_all (is_text_of n) fields ≡ true
  pub keys_have : list_all (code_has_text n) keys ≡ true
  pub values_have : list_all (code_has_text n) values ≡ true
  pub literal_has : code_has_text n literal ≡ true
  pub operands_have : list_all (expr_has_texts n) operands ≡ true

abbrev pub Made : State → Type 0
Made a = HaveTexts (length a.texts) a.items a.opened

abbrev pub Reading : State → Type 0
Reading a = ReadHasTexts (length a.texts) a.name a.written a.fields a.keys a.values a.literal a.operands

pub record AreInTable (a : State) : Type 0 where
  pub made : Made a
  pub reading : Reading a

pub last_has : {A : Type 0} (p : A → Bool) (xs : List A) (x : A) → list_all p xs ≡ true → p x ≡ true → list_all p (xs ++ x ∷ []) ≡ true
last_has p xs x all has = list_all-append p xs (x ∷ []) ∙ and_both _ _ all (and_both _ _ has refl)

-- the same in a longer table
made_more : (n m : ℕ) (items : List Item) (opened : List Open) → n ≤ m → HaveTexts n items opened → HaveTexts m items opened
made_more n m items opened within h = record {
  items_have = items_more n m within items h.items_have;
  opened_have = all_more (open_has_texts n) (open_has_texts m) (open_more n m within) opened h.opened_have;
}

reading_more : (n m name written : ℕ) (fields : List ℕ) (keys values : List Code) (literal : Code) (operands : List Expr) → n ≤ m
    → ReadHasTexts n name written fields keys values literal operands → ReadHasTexts m name written fields keys values literal operands
reading_more n m name written fields keys values literal operands within h = record {
  some = omega (arith, h.some);
  named = text_more n m within name h.named;
  wrote = text_more n m within written h.wrote;
  fields_have = all_more (is_text_of n) (is_text_of m) (text_more n m within) fields h.fields_have;
  keys_have = all_more (code_has_text n) (code_has_text m) (code_more n m within) keys h.keys_have;
  values_have = all_more (code_has_text n) (code_has_text m) (code_more n m within) values h.values_have;
  literal_has = code_more n m within literal h.literal_has;
  operands_have = all_more (expr_has_texts n) (expr_has_texts m) (expr_more n m within) operands h.operands_have;
}

-- a text is added
grown : (bytes : List ℕ) (a : State) → AreInTable a → AreInTable (record a { texts = with_text bytes a.texts })
grown bytes a h = let more = table_grows bytes a.texts in record {
  made = made_more _ _ _ _ more h.made;
  reading = reading_more _ _ _ _ _ _ _ _ _ more h.reading;
}

-- ---- items and what is open

-- where only items and what is open change
item_made : (i : Item) (a : State) (opened : List Open) → list_all (item_has_texts (length a.texts)) a.items ≡ true → list_all (open_has_texts (length a.texts)) opened ≡ true → Reading a
    → item_has_texts (length a.texts) i ≡ true → AreInTable (with_item i (record a { opened = opened }))
item_made i a [] items opened reading has = record {
  made = record { items_have = last_has _ a.items i items has; opened_have = refl };
  reading = reading;
}
item_made i a (o ∷ outer) items opened reading has =
    let both = and_cases (open_has_texts (length a.texts) o) _ opened in
    let inner = and_cases (frame_has_texts (length a.texts) o.frame) _ both.0 in
    record {
      made = record { items_have = items; opened_have = and_both _ _ (and_both _ _ inner.0 (last_has _ o.items i inner.1 has)) both.1 };
      reading = reading;
    }

item_kept : (i : Item) (a : State) → AreInTable a → item_has_texts (length a.texts) i ≡ true → AreInTable (with_item i a)
item_kept i a h has = item_made i a a.opened h.made.items_have h.made.opened_have h.reading has

numbered_kept : (made : ℕ → Item) (count : ℕ) (a : State) → AreInTable a → item_has_texts (length a.texts) (made a.next_id) ≡ true → AreInTable (with_numbered made count a)
numbered_kept made count a h has = item_kept (made a.next_id) (record a { next_id = a.next_id + count }) (record { made = h.made; reading = h.reading }) has

-- what opens
frame_made : (n : ℕ) (frame : Frame) (outside : List Declared) (items : List Item) (opened : List Open) → frame_has_texts n frame ≡ true → HaveTexts n items opened
    → HaveTexts n items (record { frame = frame; outside = outside; items = [] } ∷ opened)
frame_made n frame outside items opened has h = record {
  items_have = h.items_have;
  opened_have = and_both _ _ (and_both _ _ has refl) h.opened_have;
}

-- what closes
closed_kept : (a : State) (opened : List Open) → HaveTexts (length a.texts) a.items opened → Reading a → AreInTable (closed (record a { opened = opened }))
closed_kept a [] made reading = record { made = made; reading = reading }
closed_kept a (o ∷ outer) made reading =
    let both = and_cases (open_has_texts (length a.texts) o) _ made.opened_have in
    let inner = and_cases (frame_has_texts (length a.texts) o.frame) _ both.0 in
    at o.frame o.outside o.items inner.0 inner.1 both.1
  where
    at : (frame : Frame) (outside : List Declared) (items : List Item) → frame_has_texts (length a.texts) frame ≡ true → list_all (item_has_texts (length a.texts)) items ≡ true
        → list_all (open_has_texts (length a.texts)) outer ≡ true
        → AreInTable (closed (record a { opened = record { frame = frame; outside = outside; items = items } ∷ outer }))
    at (area_frame id name owner) outside items framed has out = item_made _ (record a { seen = outside }) outer made.items_have out reading (closed_has _ (area_frame id name owner) items framed has)
    at (if_frame id cond) outside items framed has out = item_made _ (record a { seen = outside }) outer made.items_have out reading (closed_has _ (if_frame id cond) items framed has)
    at (each_frame id rows) outside items framed has out = item_made _ (record a { seen = outside }) outer made.items_have out reading (closed_has _ (each_frame id rows) items framed has)
    at (element_frame tag has_end attrs) outside items framed has out = item_made _ a outer made.items_have out reading (closed_has _ (element_frame tag has_end attrs) items framed has)

-- an attribute
attr_kept : (made : ℕ → Attr) (count : ℕ) (a : State) (opened : List Open) → HaveTexts (length a.texts) a.items opened → Reading a → attr_has_texts (length a.texts) (made a.next_id) ≡ true
    → AreInTable (with_attr made count (record a { opened = opened }))
attr_kept made count a [] h reading has = record { made = h; reading = reading }
attr_kept made count a (o ∷ outer) h reading has = at o.frame o.outside o.items h
  where
    at : (frame : Frame) (outside : List Declared) (items : List Item) → HaveTexts (length a.texts) a.items (record { frame = frame; outside = outside; items = items } ∷ outer)
        → AreInTable (with_attr made count (record a { opened = record { frame = frame; outside = outside; items = items } ∷ outer }))
    at frame outside (i ∷ items) h = record { made = h; reading = reading }
    at (area_frame id name owner) outside [] h = record { made = h; reading = reading }
    at (if_frame id cond) outside [] h = record { made = h; reading = reading }
    at (each_frame id rows) outside [] h = record { made = h; reading = reading }
    at (element_frame tag has_end attrs) outside [] h =
        let both = and_cases (open_has_texts (length a.texts) (record { frame = element_frame tag has_end attrs; outside = outside; items = [] })) _ h.opened_have in
        let inner = and_cases (frame_has_texts (length a.texts) (element_frame tag has_end attrs)) _ both.0 in
        let framed = and_cases (is_text_of (length a.texts) tag) _ inner.0 in
        record {
          made = record {
            items_have = h.items_have;
            opened_have = and_both _ _ (and_both _ _ (and_both _ _ framed.0 (last_has _ attrs (made a.next_id) framed.1 has)) refl) both.1;
          };
          reading = reading;
        }

-- ---- what is read

module _ {n name written : ℕ} {fields : List ℕ} {keys values : List Code} {literal : Code} {operands : List Expr} (h : ReadHasTexts n name written fields keys values literal operands) where
  reads : (name' written' : ℕ) (fields' : List ℕ) (keys' values' : List Code) (literal' : Code) (operands' : List Expr)
      → is_text_of n name' ≡ true → is_text_of n written' ≡ true → list_all (is_text_of n) fields' ≡ true → list_all (code_has_text n) keys' ≡ true → list_all (code_has_text n) values' ≡ true
      → code_has_text n literal' ≡ true → list_all (expr_has_texts n) operands' ≡ true
      → ReadHasTexts n name' written' fields' keys' values' literal' operands'
  reads name' written' fields' keys' values' literal' operands' a b c d e f g = record { some = h.some; named = a; wrote = b; fields_have = c; keys_have = d; values_have = e; literal_has = f; operands_have = g }

  with_name_read : (name' : ℕ) → is_text_of n name' ≡ true → ReadHasTexts n name' written fields keys values literal operands
  with_name_read name' has = reads _ _ _ _ _ _ _ has h.wrote h.fields_have h.keys_have h.values_have h.literal_has h.operands_have

  with_written_read : (written' : ℕ) → is_text_of n written' ≡ true → ReadHasTexts n name written' fields keys values literal operands
  with_written_read written' has = reads _ _ _ _ _ _ _ h.named has h.fields_have h.keys_have h.values_have h.literal_has h.operands_have

  with_field_read : (field : ℕ) → is_text_of n field ≡ true → ReadHasTexts n name written (fields ++ field ∷ []) keys values literal operands
  with_field_read field has = reads _ _ _ _ _ _ _ h.named h.wrote (last_has _ fields field h.fields_have has) h.keys_have h.values_have h.literal_has h.operands_have

  with_key_read : (key : Code) → code_has_text n key ≡ true → ReadHasTexts n name written fields (keys ++ key ∷ []) values literal operands
  with_key_read key has = reads _ _ _ _ _ _ _ h.named h.wrote h.fields_have (last_has _ keys key h.keys_have has) h.values_have h.literal_has h.operands_have

  with_value_read : (value : Code) → code_has_text n value ≡ true → ReadHasTexts n name written fields keys (values ++ value ∷ []) literal operands
  with_value_read value has = reads _ _ _ _ _ _ _ h.named h.wrote h.fields_have h.keys_have (last_has _ values value h.values_have has) h.literal_has h.operands_have

  with_literal_read : (literal' : Code) → code_has_text n literal' ≡ true → ReadHasTexts n name written fields keys values literal' operands
  with_literal_read literal' has = reads _ _ _ _ _ _ _ h.named h.wrote h.fields_have h.keys_have h.values_have has h.operands_have

  with_operands_read : (operands' : List Expr) → list_all (expr_has_texts n) operands' ≡ true → ReadHasTexts n name written fields keys values literal operands'
  with_operands_read operands' has = reads _ _ _ _ _ _ _ h.named h.wrote h.fields_have h.keys_have h.values_have h.literal_has has

-- the last operand is taken
taken_kept : (a : State) → AreInTable a → AreInTable (taken a)
taken_kept a h = record { made = h.made; reading = with_operands_read h.reading (rest a.operands) (rest_has _ a.operands h.reading.operands_have) }

whole_has : (a : State) → AreInTable a → expr_has_texts (length a.texts) (whole a) ≡ true
whole_has a h = top_has _ a.operands h.reading.operands_have

-- ---- actions

element_kept : (has_end : Bool) (a : State) → AreInTable a → AreInTable (with_element has_end a)
element_kept has_end a h =
    let more = grown a.spelling.bytes a h in
    record {
      made = frame_made _ (element_frame (number_with a.spelling.bytes a.texts) has_end []) a.seen a.items a.opened (and_both _ _ (number_below a.spelling.bytes a.texts h.reading.some) refl) more.made;
      reading = more.reading;
    }

perform_kept : (d : Action) (a : State) → AreInTable a → AreInTable (perform d a)
perform_kept action.BeginExpression a h = record { made = h.made; reading = h.reading }
perform_kept action.MakeSignal a h = numbered_kept (λ id. item.Signal id a.name a.literal) 1 (known_as signal_name a) (record { made = h.made; reading = h.reading }) (signal_has _ _ _ _ h.reading.named h.reading.literal_has)
perform_kept action.MakeMemo a h = let t = taken_kept a h in numbered_kept (λ id. item.Memo id a.name (whole a)) 1 (known_as memo_name (taken a)) (record { made = t.made; reading = t.reading }) (memo_has _ _ _ _ h.reading.named (whole_has a h))
perform_kept action.MakeEffect a h = let t = taken_kept a h in numbered_kept (λ id. item.Effect id a.name (whole a)) 1 (known_as effect_name (taken a)) (record { made = t.made; reading = t.reading }) (effect_has _ _ _ _ h.reading.named (whole_has a h))
perform_kept action.BeginEntries a h = record { made = h.made; reading = reads h.reading _ _ _ _ _ _ _ h.reading.named h.reading.wrote refl refl refl h.reading.literal_has h.reading.operands_have }
perform_kept action.AddValue a h = record { made = h.made; reading = with_value_read h.reading a.literal h.reading.literal_has }
perform_kept action.MakeResource a h =
    numbered_kept (λ id. item.Resource id a.name a.number a.keys a.values) 1 (record (known_as resource_name a) { keys = []; values = [] })
    (record { made = h.made; reading = reads h.reading _ _ _ _ _ _ _ h.reading.named h.reading.wrote h.reading.fields_have refl refl h.reading.literal_has h.reading.operands_have })
    (resource_has _ _ _ _ _ _ h.reading.named h.reading.keys_have h.reading.values_have)
perform_kept action.MakeLoad a h =
    let t = taken_kept a h in
    numbered_kept (λ id. item.Load id a.name (id_of a.used) (whole a)) 2 (known_as load_name (taken a)) (record { made = t.made; reading = t.reading })
    (load_has _ _ _ _ _ h.reading.named (whole_has a h))
perform_kept action.MakeStore a h =
    numbered_kept (λ id. item.Store id a.name a.number a.fields a.values) (2 + length a.fields) (record (known_as (store_name a.fields) a) { fields = []; values = [] })
    (record { made = h.made; reading = reads h.reading _ _ _ _ _ _ _ h.reading.named h.reading.wrote refl h.reading.keys_have refl h.reading.literal_has h.reading.operands_have })
    (store_has _ _ _ _ _ _ h.reading.named h.reading.fields_have h.reading.values_have)
perform_kept action.MakeCleanup a h = item_kept (item.Cleanup a.written) a h (cleanup_has _ _ h.reading.wrote)
perform_kept action.MakeText a h = item_kept (item.Text a.written) a h (text_has _ _ h.reading.wrote)
perform_kept action.MakeShown a h = numbered_kept (λ id. item.Shown id (whole a)) 1 (taken a) (taken_kept a h) (shown_has _ _ _ (whole_has a h))
perform_kept action.OpenArea a h = record { made = frame_made _ (area_frame a.next_id a.name a.next_owner) (known_as area_name a).seen a.items a.opened h.reading.named h.made; reading = h.reading }
perform_kept action.OpenIf a h = let t = taken_kept a h in record { made = frame_made _ (if_frame a.next_id (whole a)) a.seen a.items a.opened (whole_has a h) h.made; reading = t.reading }
perform_kept action.OpenEach a h = record { made = frame_made _ (each_frame a.next_id (rows_from a.used)) a.seen a.items a.opened refl h.made; reading = h.reading }
perform_kept action.OpenElement a h = element_kept true a h
perform_kept action.OpenVoid a h = element_kept false a h
perform_kept action.Close a h = closed_kept a a.opened h.made h.reading
perform_kept action.NameAttribute a h = let more = grown a.spelling.bytes a h in record { made = more.made; reading = with_name_read more.reading _ (number_below a.spelling.bytes a.texts h.reading.some) }
perform_kept action.MakeBare a h = attr_kept (λ id. attr.Bare a.name) 0 a a.opened h.made h.reading h.reading.named
perform_kept action.MakeFixed a h = attr_kept (λ id. attr.Fixed a.name a.written) 0 a a.opened h.made h.reading (and_both _ _ h.reading.named h.reading.wrote)
perform_kept action.MakeShownAttribute a h =
    let t = taken_kept a h in
    attr_kept (λ id. attr.Shown a.name id (whole a)) 1 (taken a) a.opened t.made t.reading (and_both _ _ h.reading.named (whole_has a h))
perform_kept action.MakeLiteral a h = record { made = h.made; reading = with_operands_read h.reading _ (and_both _ _ (lit_has _ a.literal h.reading.literal_has) h.reading.operands_have) }
perform_kept (action.MakeBinary op) a h =
    let have = h.reading.operands_have in
    let one = rest_has _ a.operands have in
    let two = rest_has _ (rest a.operands) one in
    record { made = h.made; reading = with_operands_read h.reading _ (and_both _ _ (binary_has _ op _ _ (top_has _ (rest a.operands) one) (top_has _ a.operands have)) two) }
perform_kept action.MakeIf a h =
    let have = h.reading.operands_have in
    let one = rest_has _ a.operands have in
    let two = rest_has _ (rest a.operands) one in
    let three = rest_has _ (rest (rest a.operands)) two in
    record { made = h.made; reading = with_operands_read h.reading _ (and_both _ _ (if_has _ _ _ _ (top_has _ (rest (rest a.operands)) two) (top_has _ (rest a.operands) one) (top_has _ a.operands have)) three) }

-- ---- tokens

written_kept : (bytes : List ℕ) (a : State) → AreInTable a → AreInTable (with_written bytes a)
written_kept bytes a h = let more = grown bytes a h in record { made = more.made; reading = with_written_read more.reading _ (number_below bytes a.texts h.reading.some) }

name_kept : (bytes : List ℕ) (a : State) → AreInTable a → AreInTable (with_name bytes a)
name_kept bytes a h = let more = grown bytes a h in record { made = more.made; reading = with_name_read more.reading _ (number_below bytes a.texts h.reading.some) }

effect_kept : (text : List ℕ) (t : Terminal) (a : State) (x : Token) → AreInTable a → AreInTable (effect text t a x)
effect_kept text terminal.NewName a x h = name_kept (bytes_of text x) a h
effect_kept text terminal.NewArea a x h = name_kept (bytes_of text x) a h
effect_kept text terminal.NewField a x h = let more = grown (bytes_of text x) a h in record { made = more.made; reading = with_field_read more.reading _ (number_below (bytes_of text x) a.texts h.reading.some) }
effect_kept text terminal.TextItem a x h = written_kept (content_in text x) a h
effect_kept text terminal.CleanupText a x h = written_kept (content_in text x) a h
effect_kept text terminal.AttributeText a x h = written_kept (content_in text x) a h
effect_kept text terminal.EmptyKey a x h = record { made = h.made; reading = with_key_read h.reading Empty refl }
effect_kept text terminal.TextKey a x h = let more = grown (content_in text x) a h in record { made = more.made; reading = with_key_read more.reading (Word (number_with (content_in text x) a.texts)) (number_below (content_in text x) a.texts h.reading.some) }
effect_kept text terminal.NumberKey a x h = record { made = h.made; reading = with_key_read h.reading (number_in text x) refl }
effect_kept text terminal.NegatedKey a x h = record { made = h.made; reading = with_key_read h.reading (negated_in text x) refl }
effect_kept text terminal.UsedName a x h = record { made = h.made; reading = with_operands_read h.reading _ (and_both _ _ (read_has _ _) h.reading.operands_have) }
effect_kept text terminal.RowField a x h = record { made = h.made; reading = with_operands_read h.reading _ (and_both _ _ (read_has _ _) h.reading.operands_have) }
effect_kept text terminal.EmptyLiteral a x h = record { made = h.made; reading = with_literal_read h.reading Empty refl }
effect_kept text terminal.TextLiteral a x h = let more = grown (content_in text x) a h in record { made = more.made; reading = with_literal_read more.reading (Word (number_with (content_in text x) a.texts)) (number_below (content_in text x) a.texts h.reading.some) }
effect_kept text terminal.NumberLiteral a x h = record { made = h.made; reading = with_literal_read h.reading (number_in text x) refl }
effect_kept text terminal.NegatedLiteral a x h = record { made = h.made; reading = with_literal_read h.reading (negated_in text x) refl }
effect_kept text _ a x h = record { made = h.made; reading = h.reading }

pub start_kept : AreInTable start
start_kept = record {
  made = record { items_have = refl; opened_have = refl };
  reading = record { some = omega arith; named = refl; wrote = refl; fields_have = refl; keys_have = refl; values_have = refl; literal_has = refl; operands_have = refl };
}

-- ---- whole texts

pub keeps : (bytes : List ℕ) → Keeps table (semantics bytes) AreInTable
keeps bytes = record {
  terminal = λ w a b x has takes h.
      let is = accepted bytes w a x.token x.next b takes in
      subst AreInTable (sym is.after) (effect_kept bytes w a is.token h);
  action = perform_kept;
}

pub texts_are_in_the_table : (bytes : List ℕ) (component : Component) → IsComponent bytes component → list_all (item_has_texts (length component.texts)) component.items ≡ true
texts_are_in_the_table bytes component is =
    let h = kept table (semantics bytes) AreInTable (keeps bytes) is.read.means start_kept in
    rw (is.texts, is.items) h.made.items_have
