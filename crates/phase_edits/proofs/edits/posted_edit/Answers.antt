use Rattle.std.proofs.Common.{◌≡◌, ◌≤◌, ◌-◌, ℕ, suc, List, map, Option, Some, slice_get, sym, ap, ◌∙◌, arith}
use Rattle.std.specs.Option.{option_map, option_and_then}
use Rattle.std.proofs.lemmas.Option.{slice_get-map, slice_get-get_or}
use Rattle.store_fields.specs.declared.edit.Edit.{Edit}
use Rattle.script_items.specs.Script.{numbered}
use Rattle.phase_edits.specs.Posts.{posted}
use Rattle.phase_edits.proofs.edits.posted_edit.Goals as goal

there : {A : Type 0} (list : A → List Edit) (posts : List A) (pass place index : ℕ) (post : A) → 1 ≤ pass → place ≡ pass - 1 → slice_get posts place ≡ Some post → slice_get (list post) index ≡ posted (map list posts) pass index
there list posts pass place index post from is at =
    let next : pass ≡ suc place = omega arith in
    let found : numbered (map list posts) pass ≡ Some (list post) = ap (numbered (map list posts)) next ∙ slice_get-map list posts place ∙ ap (option_map list) at in
    ap (λ (o : Option (List Edit)). option_and_then (λ es. slice_get es index) o) (sym found)

pub returns : goal.returns
returns c =
    let posts = c.args.posts.now in
    let place = c.in_ok-place.place in
    let post = c.in_ok-get.field-0.now in
    let at = c.in_ok-get.ensures.lookup.3 in
    c.at.ensures.item
    ∙ there (λ p. p.list) posts c.args.pass place c.args.index post c.in_ok-place.ensures.0 c.in_ok-place.ensures.1 (slice_get-get_or posts place post at.0 ∙ ap (λ p. Some p) (sym (at.1 post)))
