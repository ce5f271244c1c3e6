-- Room for the edits of a lane.
use Rattle.std.proofs.Common.{◌≡◌, ℕ, zero, suc, ◌+◌, ◌<◌, ◌≤◌, Bool, true, false, cond, List, [], ◌∷◌, length, take, get_or, Some, refl, sym, ap, subst, ◌∙◌, arith}
use Rattle.std.specs.Prelude.{slice_get, count_by, min, IsSomeAnd, Option}
use Rattle.std.proofs.lemmas.List.Sums.{count_by_more_yes, count_by_more_no}
use Rattle.std.proofs.lemmas.Option.{slice_get_within, get_or_from_slice_get}
use Rattle.store_fields.specs.declared.edit.Edit.{Edit}
use Rattle.script_items.specs.declared.operation.ScriptOp.{ScriptOp}
use Rattle.script_items.specs.declared.operation.ScriptOp.TheVariants as op
use Rattle.script_items.specs.Script.{numbered}
use Rattle.run_items.specs.declared.answer.Answer.{Answer}
use Rattle.run_meaning.specs.Lane.{Done, edits_in}
use Rattle.run_meaning.specs.Merge.{is_edit}
use Rattle.still_graph.specs.Still.{StillState}
use Rattle.lane_run.specs.Lanes.{IsAtOp, HasDone, IsFresh, HasRoom, room_for}
use Rattle.lane_run.proofs.Lists.{count_cons}
use Rattle.lane_run.proofs.Noted.{few_edits, accepted_few}
use Rattle.lane_run.proofs.Steps.{started}

count_more : {X : Type 0} (p : X → Bool) (xs : List X) (k : ℕ) (x : X) → slice_get xs k ≡ Some x → count_by p (take (k + 1) xs) ≡ count_by p (take k xs) + cond (p x) 1 0
count_more p xs k x at = by (p x) refl
  where
    within : k < length xs
    within = slice_get_within xs k x at

    is : get_or xs k x ≡ x
    is = get_or_from_slice_get xs k x x at

    by : (b : Bool) → p x ≡ b → count_by p (take (k + 1) xs) ≡ count_by p (take k xs) + cond b 1 0
    by true e = count_by_more_yes p xs k x within (ap p is ∙ e)
    by false e = let same = count_by_more_no p xs k x within (ap p is ∙ e) in omega arith

count_below : {X : Type 0} (p : X → Bool) (xs : List X) (k : ℕ) → count_by p (take k xs) ≤ count_by p xs
count_below p [] zero = omega arith
count_below p [] (suc k) = omega arith
count_below p (x ∷ xs) zero = omega arith
count_below p (x ∷ xs) (suc k) = let l = count_below p xs k in let e = count_cons p x xs in let f = count_cons p x (take k xs) in omega arith

pub room_more : (ops : List ScriptOp) (before : ℕ) (asked : ScriptOp) (room more : ℕ) → slice_get ops before ≡ Some asked → room ≡ room_for (take before ops) → more ≡ cond (is_edit asked) (min (room + 1) 65537) room → more ≡ room_for (take (before + 1) ops)
room_more ops before asked room more at was is = by (is_edit asked) (count_more is_edit ops before asked at) is
  where
    by : (b : Bool) → count_by is_edit (take (before + 1) ops) ≡ count_by is_edit (take before ops) + cond b 1 0 → more ≡ cond b (min (room + 1) 65537) room → more ≡ min (count_by is_edit (take (before + 1) ops)) 65537
    by true count e = omega arith
    by false count e = omega arith

-- the edit of this place may be noted
edit_fits : (x z : StillState) (ops : List ScriptOp) (phase before : ℕ) (asked : Edit) (first behind : List Answer) → IsFresh x ops → HasDone phase (take before ops) x z first behind → slice_get ops before ≡ Some (op.Change asked) → IsSomeAnd (numbered z.graph.edits 1) (λ edits. length edits < z.graph.edit_room)
edit_fits x z ops phase before asked first behind fresh has at =
    let d = has.done fresh.past (started fresh.past x fresh.open_at fresh.edits) in
    let lane : List Done = d.0 in
    let stands : IsAtOp fresh.past z lane = d.1 in
    let list : numbered z.graph.edits 1 ≡ Some (edits_in lane) = ap (λ (lists : List (List Edit)). numbered lists 1) stands.edits in
    let noted = stands.open_at.way.noted_edits 1 (edits_in lane) list in
    let few = few_edits 0 stands.going.entries stands.going.drawn stands.open_at.way.numbered_so in
    let asked_for : length (edits_in lane) ≤ count_by is_edit (take before ops) = subst (λ (os : List ScriptOp). length (edits_in lane) ≤ count_by is_edit os) d.2 (accepted_few lane) in
    let one_more = count_more is_edit ops before (op.Change asked) at in
    let whole = count_below is_edit ops (before + 1) in
    let room : z.graph.edit_room ≡ min (count_by is_edit ops) 65537 = has.same.room ∙ fresh.room in
    let l : length (edits_in lane) < z.graph.edit_room = omega arith in
    subst (λ (o : Option (List Edit)). IsSomeAnd o (λ edits. length edits < z.graph.edit_room)) (sym list) l

pub has_room : (x z : StillState) (ops : List ScriptOp) (phase before : ℕ) (asked : ScriptOp) (first behind : List Answer) → IsFresh x ops → HasDone phase (take before ops) x z first behind → slice_get ops before ≡ Some asked → HasRoom z asked
has_room x z ops phase before (op.Set id key code) first behind fresh has at = tt
has_room x z ops phase before (op.Get id key) first behind fresh has at = tt
has_room x z ops phase before op.Pump first behind fresh has at = tt
has_room x z ops phase before (op.Dispose owner) first behind fresh has at = tt
has_room x z ops phase before (op.Change asked) first behind fresh has at = edit_fits x z ops phase before asked first behind fresh has at
