-- The lists of edits of the passes.
use Rattle.std.proofs.Common.{◌≡◌, inl, inr, ℕ, zero, suc, ◌-◌, ◌≤◌, ◌<◌, Result, Ok, Err, Some, List, [], ◌∷◌, ◌++◌, slice_get, set, length, refl, sym, ap, subst, ◌∙◌, arith}
use Rattle.std.specs.Prelude.{IsSomeAnd, option_map, unwrap_or}
use Rattle.std.proofs.lemmas.List.{map-set, length-map}
use Rattle.std.proofs.lemmas.Option.{slice_get-map}
use Rattle.values.specs.declared.plan.Noted.{Noted}
use Rattle.values.specs.declared.plan.Stop.{Stop}
use Rattle.values.specs.Reserved.{Reserve, room_of}
use Rattle.script_items.specs.Script.{numbered}
use Rattle.store_fields.specs.declared.edit.Edit.{Edit}
use Rattle.still_readers.proofs.Lists.{at_within, within_at, which}
use Rattle.run_history.specs.Going.{Start, Going}
use Rattle.run_history.specs.Calls.{edit, Calls}
use Rattle.phase_graph.specs.declared.table.Table.{Table}
use Rattle.phase_graph.specs.Graph.{GraphState, edits_with}
use Rattle.phase_graph.specs.Table.{seen, HaveRoom, IsKept, edit_lists, list_with, MakesEdit}
use Rattle.phase_graph.specs.Way.{IsOnWay}
use Rattle.phase_graph.proofs.Steps.{some_and}
use Rattle.phase_graph.proofs.Views.{seen_open}

-- the list of a pass is there
pub record HasList (xs : List (Reserve Edit)) (room pass : ℕ) : Type 0 where
  pub list : Reserve Edit
  pub above : 0 < pass
  pub at : slice_get xs (pass - 1) ≡ Some list
  pub shorter : length list.list < room

pub list_of : (xs : List (Reserve Edit)) (room pass : ℕ) → IsSomeAnd (numbered (edit_lists xs) pass) (λ edits. length edits < room) → HasList xs room pass
list_of xs room zero h = absurd h
list_of xs room (suc pass) h =
    let x = some_and (slice_get (edit_lists xs) pass) (λ edits. length edits < room) h in
    let w = at_within (edit_lists xs) pass x.0 x.1 in
    let l : length (edit_lists xs) ≡ length xs = length-map xs (λ (r : Reserve Edit). r.list) in
    let r = within_at xs pass (omega arith) in
    let same : r.0.list ≡ x.0 = some_of (r.0.list) x.0 (sym (slice_get-map (λ (q : Reserve Edit). q.list) xs pass ∙ ap (option_map (λ (q : Reserve Edit). q.list)) r.1) ∙ x.1) in
    let e : suc pass - 1 ≡ pass = omega arith in
    record { list = r.0; above = omega arith; at = ap (slice_get xs) e ∙ r.1; shorter = (let s = ap length same in let k = x.2 in omega arith) }
  where
    some_of : (a b : List Edit) → Some a ≡ Some b → a ≡ b
    some_of a b q = cc

pub list_there : (x : GraphState) (t : Table) (xs : List (Reserve Edit)) (room pass : ℕ) → seen t (edit_lists xs) room ≡ x → IsSomeAnd (numbered x.edits pass) (λ edits. length edits < x.edit_room) → HasList xs room pass
list_there x t xs room pass view h = list_of xs room pass (subst (λ (q : GraphState). IsSomeAnd (numbered q.edits pass) (λ edits. length edits < q.edit_room)) (sym view) h)

-- an element that is put where it was changes nothing
set_back : {A : Type 0} (xs : List A) (k : ℕ) (x : A) → slice_get xs k ≡ Some x → set xs k x ≡ xs
set_back [] k x e = cc
set_back (y ∷ ys) zero x e = let same : y ≡ x = cc in ap (λ (z : _). z ∷ ys) (sym same)
set_back (y ∷ ys) (suc k) x e = ap (λ (t : List _). y ∷ t) (set_back ys k x e)

-- the list of the pass, as it is seen
pub seen_list : (xs : List (Reserve Edit)) (room pass : ℕ) (h : HasList xs room pass) → numbered (edit_lists xs) pass ≡ Some h.list.list
seen_list xs room zero h = let a = h.above in absurd (omega arith)
seen_list xs room (suc pass) h = let e : pass ≡ suc pass - 1 = omega arith in slice_get-map (λ (q : Reserve Edit). q.list) xs pass ∙ ap (option_map (λ (q : Reserve Edit). q.list)) (ap (slice_get xs) e ∙ h.at)

pub lists_after : (xs : List (Reserve Edit)) (room pass : ℕ) (h : HasList xs room pass) (asked : Edit) (r : Result ℕ Stop) (new : Reserve Edit) → new.list ≡ list_with h.list.list asked r → edit_lists (set xs (pass - 1) new) ≡ edits_with (edit_lists xs) pass asked r
lists_after xs room pass h asked (Ok number) new e = map-set (λ (q : Reserve Edit). q.list) xs (pass - 1) new ∙ ap (set (edit_lists xs) (pass - 1)) (e ∙ ap (λ (o : _). unwrap_or o [] ++ asked ∷ []) (sym (seen_list xs room pass h)))
lists_after xs room pass h asked (Err why) new e =
    map-set (λ (q : Reserve Edit). q.list) xs (pass - 1) new ∙ ap (set (edit_lists xs) (pass - 1)) e
    ∙ set_back (edit_lists xs) (pass - 1) h.list.list (slice_get-map (λ (q : Reserve Edit). q.list) xs (pass - 1) ∙ ap (option_map (λ (q : Reserve Edit). q.list)) h.at)

pub room_after : (xs : List (Reserve Edit)) (room pass : ℕ) (h : HasList xs room pass) (new : Reserve Edit) → HaveRoom xs room → room_of new ≡ room_of h.list → HaveRoom (set xs (pass - 1) new) room
room_after xs room pass h new have same = record {
  each = (λ k list at. elim (which xs (pass - 1) h.list new k list h.at at) [
    | inl p ↦ subst (λ (q : Reserve Edit). room ≤ room_of q) (sym p.1) (let l = have.each (pass - 1) h.list h.at in omega arith)
    | inr p ↦ have.each k list p.1
  ]);
}

pub graph_edits : (x : GraphState) (t t' : Table) (xs : List (Reserve Edit)) (room pass owner : ℕ) (asked : Edit) (r : Result ℕ Stop) (h : HasList xs room pass) (new : Reserve Edit) → seen t (edit_lists xs) room ≡ x → IsKept t t' → MakesEdit t t' pass owner (length h.list.list) asked r → new.list ≡ list_with h.list.list asked r → (s : Start) (g : Going) → IsOnWay s g x → (block : List Noted) × (h' : Going) × Calls s g block h' pass (edit owner asked r) × IsOnWay s h' (seen t' (edit_lists (set xs (pass - 1) new)) room)
graph_edits x t t' xs room pass owner asked r h new view kept makes is s g way =
    let on = subst (IsOnWay s g) (sym view) way in
    let lists = edit_lists xs in
    let q = makes s g lists room (subst (IsOnWay s g) (seen_open t lists room on.is_open) on) h.list.list (seen_list xs room pass h) refl in (
      q.0,
      q.1,
      q.2,
      subst (λ (l : List (List Edit)). IsOnWay s q.1 (seen t' l room)) (sym (lists_after xs room pass h asked r new is))
          (subst (IsOnWay s q.1) (sym (seen_open t' (edits_with lists pass asked r) room (kept.in_phase ∙ on.is_open))) q.3),
    )

pub view_edits : (x : GraphState) (t : Table) (xs : List (Reserve Edit)) (room pass : ℕ) (asked : Edit) (r : Result ℕ Stop) (h : HasList xs room pass) (new : Reserve Edit) → seen t (edit_lists xs) room ≡ x → new.list ≡ list_with h.list.list asked r → edit_lists (set xs (pass - 1) new) ≡ edits_with x.edits pass asked r
view_edits x t xs room pass asked r h new view is = lists_after xs room pass h asked r new is ∙ ap (λ (q : GraphState). edits_with q.edits pass asked r) view
