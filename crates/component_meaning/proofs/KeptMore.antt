-- What is open has its texts in each longer table.
use Rattle.std.proofs.Common.{◌≡◌, ℕ, suc, ◌<◌, ◌≤◌, ◌&&◌, Bool, true, false, if◌then◌else◌, List, [], ◌∷◌, length, Some, None, Option, unwrap_or, refl, arith, lt-ltb}
use Rattle.std.specs.List.{list_all}
use Rattle.std.specs.Option.{option_map}
use Rattle.std.specs.Str.{bytes_eq}
use Rattle.values.specs.Texts.{index_of, with_text}
use Rattle.component_items.specs.Kept.{is_text_of, expr_has_texts, attr_has_texts, item_has_texts}
use Rattle.component_items.proofs.Longer.{both_more, all_more, text_more, expr_more, attr_more, items_more, table_grows}
use Rattle.component_meaning.specs.State.{Frame, area_frame, if_frame, each_frame, element_frame, Open}
use Rattle.component_meaning.specs.Names.{number_with}

-- ---- what is read so far of what is open

abbrev pub frame_has_texts : ℕ → Frame → Bool
frame_has_texts n (area_frame id name owner) = is_text_of n name
frame_has_texts n (if_frame id cond) = expr_has_texts n cond
frame_has_texts n (each_frame id rows) = true
frame_has_texts n (element_frame tag closed attrs) = is_text_of n tag && list_all (attr_has_texts n) attrs

abbrev pub open_has_texts : ℕ → Open → Bool
open_has_texts n o = frame_has_texts n o.frame && list_all (item_has_texts n) o.items

-- ---- longer tables

module _ (n m : ℕ) (within : n ≤ m) where
  frame_more : (frame : Frame) → frame_has_texts n frame ≡ true → frame_has_texts m frame ≡ true
  frame_more (area_frame id name owner) h = text_more n m within name h
  frame_more (if_frame id cond) h = expr_more n m within cond h
  frame_more (each_frame id rows) h = refl
  frame_more (element_frame tag closed attrs) h = both_more _ _ _ _ (text_more n m within tag) (all_more (attr_has_texts n) (attr_has_texts m) (attr_more n m within) attrs) h

  pub open_more : (o : Open) → open_has_texts n o ≡ true → open_has_texts m o ≡ true
  open_more o h = both_more _ _ _ _ (frame_more o.frame) (items_more n m within o.items) h

-- ---- the number of a text

place_below : (text : List ℕ) (texts : List (List ℕ)) (i : ℕ) → index_of text texts ≡ Some i → i < length texts
place_below text [] i is = absurd cc
place_below text (t ∷ texts) i is = at (bytes_eq text t) (index_of text texts) is (place_below text texts)
  where
    at : (same : Bool) (o : Option ℕ) → (if same then Some 0 else option_map suc o) ≡ Some i → ((j : ℕ) → o ≡ Some j → j < length texts) → i < suc (length texts)
    at true o is below = let e : 0 ≡ i = cc in omega arith
    at false None is below = absurd cc
    at false (Some j) is below = let e : suc j ≡ i = cc in let l = below j refl in omega arith

pub number_below : (text : List ℕ) (texts : List (List ℕ)) → 0 < length texts → is_text_of (length (with_text text texts)) (number_with text texts) ≡ true
number_below text texts some = at (index_of text (with_text text texts)) refl
  where
    at : (o : Option ℕ) → index_of text (with_text text texts) ≡ o → is_text_of (length (with_text text texts)) (unwrap_or o 0) ≡ true
    at None is = let more = table_grows text texts in lt-ltb 0 (length (with_text text texts)) (omega arith)
    at (Some i) is = lt-ltb i (length (with_text text texts)) (place_below text (with_text text texts) i is)
