use Rattle.std.proofs.Common.{◌≡◌, ℕ, List, ◌++◌, [], ◌∷◌, ◌+◌, Some, Bor, drop, sym, subst, ◌∙◌, arith}
use Rattle.std.specs.List.{flat_map}
use Rattle.std.proofs.lemmas.Result.{IfOk-weaker}
use Rattle.component_items.specs.Around.{path_of_id, item_listed, items_listed}
use Rattle.component_items.specs.Own.{place}
use Rattle.run_meaning.specs.Ending.{waiting_line}
use Rattle.report_text.specs.Found.{AreFound}
use Rattle.report_text.proofs.FoundLemmas.{found_front, found_rest, area_listed, load_listed, listed_next}
use Rattle.report_text.proofs.waiting.+walk.Goals as goal

pub put_among-loop-item-preserved : goal.put_among-loop-item-preserved
put_among-loop-item-preserved t c =
    let component = c.args.component.now in
    let start = c.args.path.now.items in
    let items = c.args.items.now in
    let i = c.loop-item.item-index in
    let item = c.item-item.result in (
      c.in_ok-others.ensures.path ∙ c.loop-item.invariant.0,
      λ owner found.
          let around = place owner start in
          let turn = c.loop-item.invariant.1 owner found in
          let parts : AreFound component (item_listed item around ++ items_listed (drop (i + 1) items) around) = subst (AreFound component) (listed_next items i item around c.loop-item-test.true c.item-item.is) turn.1 in
          let here : AreFound component (item_listed item (place owner c.loop-item.path.items)) = subst (λ p. AreFound component (item_listed item (place owner p))) (sym c.loop-item.invariant.0) (found_front component (item_listed item around) (items_listed (drop (i + 1) items) around) parts) in
          (c.in_ok-others.ensures.lines owner here ∙ turn.0, found_rest component (item_listed item around) (items_listed (drop (i + 1) items) around) parts),
    )

pub put_within-returns-in-Load-clause-lines : goal.put_within-returns-in-Load-clause-lines
put_within-returns-in-Load-clause-lines t c =
    let component = c.args.component.now in
    let start = c.args.path.now.items in
    let all : Bor (List ℕ) → Type 0 = λ others. c.put_if_next.new.out.items ++ flat_map (waiting_line component) others.now ≡ c.args.out.now.items ++ flat_map (waiting_line component) c.args.loads.now in
    IfOk-weaker c.put_if_next.result
    (λ others. path_of_id component c.in-Load.id ≡ Some (start ++ c.in-Load.name ∷ []) → all others)
    (λ others. (owner : ℕ) → AreFound component (item_listed c.args.item.now (place owner start)) → all others)
    (λ others lines owner found.
    let around = place owner start in
    let load = subst (λ x. AreFound component (item_listed x around)) c.in-Load.is found in
    lines (subst (AreFound component) (load_listed c.in-Load.id c.in-Load.name c.in-Load.resource c.in-Load.key around) load).0)
    c.put_if_next.ensures.lines

pub put_within-returns-in_ok-others-in-Area-clause-lines :
    goal.put_within-returns-in_ok-others-in-Area-clause-lines
put_within-returns-in_ok-others-in-Area-clause-lines t c = λ owner found.
    let component = c.args.component.now in
    let around = place owner c.args.path.now.items in
    let pushed : c.push.new.self.items ≡ c.args.path.now.items ++ c.in-Area.name ∷ [] = grind arith in
    let area = subst (λ x. AreFound component (item_listed x around)) c.in-Area.is found in
    let inner = (subst (AreFound component) (area_listed c.in-Area.id c.in-Area.name c.in-Area.owner c.in-Area.items around) area).1 in
    let items = subst (λ items. AreFound component (items_listed items (place c.in-Area.owner (c.args.path.now.items ++ c.in-Area.name ∷ [])))) (sym c.as_slice.ensures) inner in
    c.in_ok-others-in-Area.ensures.lines c.in-Area.owner (subst (λ p. AreFound component (items_listed c.as_slice.result.now (place c.in-Area.owner p))) (sym pushed) items)
