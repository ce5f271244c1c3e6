-- What is known around each block and element.
use Rattle.std.proofs.Common.{◌≡◌, ℕ, suc, ◌+◌, ◌-◌, ◌≤◌, ◌||◌, Bool, true, false, not, Option, Some, None, is_some, is_none, List, [], ◌∷◌, length, reverse, drop, refl, sym, ap, ◌∙◌, subst, arith}
use Rattle.std.proofs.lemmas.List.{length-reverse, length-drop, drop-drop}
use Rattle.component_items.specs.Kept.{Standing, may_have_each}
use Rattle.component_meaning.specs.State.{Declared, Open, Frame, area_frame, if_frame, each_frame, element_frame, Rows, standing_in, rows_in, inside, rows_of}
use Rattle.component_frames.specs.declared.block.Block.{Block}
use Rattle.component_frames.specs.Blocks.{frame_of, opened_in, KnowsAround, all_blocks, is_branch}
use Rattle.component_scope.specs.Scope.{oldest}

or_false : (b : Bool) → (b || false) ≡ b
or_false true = refl
or_false false = refl

or_true : (b : Bool) → (b || true) ≡ true
or_true true = refl
or_true false = refl

-- an `each` is around where its store is known
repeated_in : (frame : Frame) (s : Standing) (rows : Option Rows) → s.repeated ≡ is_some rows → (inside frame s).repeated ≡ is_some (rows_of frame rows)
repeated_in (area_frame id name owner) s rows h = h
repeated_in (if_frame id cond) s rows h = h
repeated_in (each_frame id rows) s around h = refl
repeated_in (element_frame tag closed attrs) s rows h = h

repeated_by_rows : (opened : List Open) → (standing_in opened).repeated ≡ is_some (rows_in opened)
repeated_by_rows [] = refl
repeated_by_rows (o ∷ outer) = repeated_in o.frame (standing_in outer) (rows_in outer) (repeated_by_rows outer)

none_is_not_some : {A : Type 0} (o : Option A) → is_none o ≡ not (is_some o)
none_is_not_some None = refl
none_is_not_some (Some x) = refl

pub is_none_from : {A : Type 0} (o : Option A) (r : Bool) → is_some o ≡ not r → r ≡ is_none o
is_none_from None true h = refl
is_none_from None false h = cc
is_none_from (Some x) true h = cc
is_none_from (Some x) false h = refl

pub each_by_rows : (seen : List Declared) (innermost : Option Block) (outer : List Block) (b : Block) → innermost ≡ Some b → KnowsAround seen (all_blocks innermost outer)
    → is_none b.rows ≡ may_have_each (standing_in (opened_in seen (all_blocks innermost outer)))
each_by_rows seen None outer b e k = cc
each_by_rows seen (Some x) outer b e k =
    let same : b ≡ x = cc in
    none_is_not_some b.rows ∙ ap (λ (y : Block). not (is_some y.rows)) same ∙ ap (λ o. not (is_some o)) k.2 ∙ ap not (sym (repeated_by_rows (opened_in seen (x ∷ outer))))

length-opened_in : (blocks : List Block) (seen : List Declared) → length (opened_in seen blocks) ≡ length blocks
length-opened_in [] seen = refl
length-opened_in (b ∷ outer) seen = ap suc (length-opened_in outer _)

pub depth_is : (seen : List Declared) (innermost : Option Block) (slice outer : List Block) (b : Block) → innermost ≡ Some b → reverse slice ≡ outer → length slice + 1 ≡ length (opened_in seen (all_blocks innermost outer))
depth_is seen None slice outer b e r = cc
depth_is seen (Some x) slice outer b e r = omega (arith, length-opened_in (x ∷ outer) seen, length-reverse slice, ap length r)

pub branched_inside : (frame : Frame) (s : Standing) → (s.branched || is_branch frame) ≡ (inside frame s).branched
branched_inside (area_frame id name owner) s = or_false s.branched
branched_inside (if_frame id cond) s = or_true s.branched
branched_inside (each_frame id rows) s = or_true s.branched
branched_inside (element_frame tag closed attrs) s = or_false s.branched

-- ---- more is seen, and as much was seen where each block began

pub record Extends (small large : List Declared) : Type 0 where
  pub longer : length small ≤ length large
  pub same : (n : ℕ) → n ≤ length small → oldest n small ≡ oldest n large

pub opened_more : (small large : List Declared) → Extends small large → (blocks : List Block) → KnowsAround small blocks → opened_in large blocks ≡ opened_in small blocks
opened_more small large more [] k = refl
opened_more small large more (b ∷ outer) k = rw (more.same b.outside k.0) refl

pub around_more : (small large : List Declared) → Extends small large → (blocks : List Block) → KnowsAround small blocks → KnowsAround large blocks
around_more small large more [] k = tt
around_more small large more (b ∷ outer) k =
    let same = more.same b.outside k.0 in
    let P : List Declared → Type 0 = λ outside. (b.outside ≤ length large)
    × (b.branched ≡ (inside (frame_of b.frame) (standing_in (opened_in outside outer))).branched)
    × (b.rows ≡ rows_of (frame_of b.frame) (rows_in (opened_in outside outer)))
    × KnowsAround outside outer in
    subst P same (omega (arith, k.0, more.longer), k.1, k.2, k.3)

-- one more declaration
pub declared_more : (d : Declared) (seen : List Declared) → Extends seen (d ∷ seen)
declared_more d seen = record { longer = omega arith; same = λ n h. same n h }
  where
    same : (n : ℕ) → n ≤ length seen → oldest n seen ≡ oldest n (d ∷ seen)
    same n h = let e : length (d ∷ seen) - n ≡ suc (length seen - n) = omega arith in rw e refl

-- as before those that an element has
pub oldest_more : (n : ℕ) (seen : List Declared) → n ≤ length seen → Extends (oldest n seen) seen
oldest_more n seen h = record { longer = omega (arith, length-drop (length seen - n) seen); same = λ k below. same k below }
  where
    same : (k : ℕ) → k ≤ length (oldest n seen) → oldest k (oldest n seen) ≡ oldest k seen
    same k below =
        let l : length (oldest n seen) ≡ n = omega (arith, length-drop (length seen - n) seen) in
        let e : (length seen - n) + (length (oldest n seen) - k) ≡ length seen - k = omega arith in
        drop-drop (length (oldest n seen) - k) (length seen - n) seen ∙ ap (λ i. drop i seen) e

-- ---- a block or element begins

pub all_seen : (seen : List Declared) → oldest (length seen) seen ≡ seen
all_seen seen = let e : length seen - length seen ≡ 0 = omega arith in ap (λ i. drop i seen) e

pub around_opened : (seen : List Declared) (b : Block) (blocks : List Block) → KnowsAround seen blocks → b.outside ≡ length seen
    → b.branched ≡ (inside (frame_of b.frame) (standing_in (opened_in seen blocks))).branched
    → b.rows ≡ rows_of (frame_of b.frame) (rows_in (opened_in seen blocks))
    → KnowsAround seen (b ∷ blocks)
around_opened seen b blocks k at branched rows =
    let same : seen ≡ oldest b.outside seen = sym (ap (λ n. oldest n seen) at ∙ all_seen seen) in
    let P : List Declared → Type 0 = λ outside. (b.outside ≤ length seen)
    × (b.branched ≡ (inside (frame_of b.frame) (standing_in (opened_in outside blocks))).branched)
    × (b.rows ≡ rows_of (frame_of b.frame) (rows_in (opened_in outside blocks)))
    × KnowsAround outside blocks in
    subst P same (omega (arith, at), branched, rows, k)
