-- What each step keeps.
use Rattle.std.proofs.Common.{◌≡◌, ℕ, Bool, true, false, Option, Some, None, if◌then◌else◌, Result, Ok, Err, OnOk, OnErr, List, [], ◌∷◌, length, refl, sym, ap, ◌∙◌, subst}
use Rattle.component_meaning.specs.State.{Declared, Open, standing_in, rows_in, inside, rows_of}
use Rattle.component_frames.specs.declared.block.Block.{Block}
use Rattle.component_blocks.specs.declared.blocks.Blocks.TheInside.{Inside}
use Rattle.component_frames.specs.Nest.{Nest, declaring, opening}
use Rattle.component_scope.specs.Scope.{oldest}
use Rattle.component_frames.specs.Blocks.{frame_of, opened_in, KnowsAround, all_blocks}
use Rattle.component_blocks.specs.Whole.{nest, IsWhole}
use Rattle.component_blocks.proofs.Around.{declared_more, opened_more, around_more, around_opened, all_seen}

-- ---- a declaration

whole_seen : (b : Inside) (d : Declared) → IsWhole b → IsWhole (record b { seen = d ∷ b.seen })
whole_seen b d w = record {
  innermost_first = w.innermost_first;
  around = around_more b.seen (d ∷ b.seen) (declared_more d b.seen) (all_blocks b.innermost b.outer) w.around;
}

pub whole_declared : {E : Type 0} (r : Result (Unit {0}) E) (b : Inside) (new : List Declared) (d : Declared) → IsWhole b → OnOk r (new ≡ d ∷ b.seen) → OnErr r (new ≡ b.seen) → IsWhole (record b { seen = new })
whole_declared (Ok x) b new d w ok err = subst (λ s. IsWhole (record b { seen = s })) (sym ok) (whole_seen b d w)
whole_declared (Err e) b new d w ok err = subst (λ s. IsWhole (record b { seen = s })) (sym err) w

nest_seen : (b : Inside) (d : Declared) → IsWhole b → nest (record b { seen = d ∷ b.seen }) ≡ declaring d (nest b)
nest_seen b d w = ap (λ (opened : List Open). record { seen = d ∷ b.seen; items = b.items; opened = opened }) (opened_more b.seen (d ∷ b.seen) (declared_more d b.seen) (all_blocks b.innermost b.outer) w.around)

pub nest_declared : {E : Type 0} (r : Result (Unit {0}) E) (b : Inside) (n : Nest) (new : List Declared) (d : Declared) → IsWhole b → nest b ≡ n → OnOk r (new ≡ d ∷ b.seen) → OnOk r (nest (record b { seen = new }) ≡ declaring d n)
nest_declared (Ok x) b n new d w view ok = ap (λ s. nest (record b { seen = s })) ok ∙ nest_seen b d w ∙ ap (declaring d) view
nest_declared (Err e) b n new d w view ok = tt

-- ---- a block or element begins

-- what is known of it
pub record Begins (b : Inside) (block : Block) : Type 0 where
  pub at : block.outside ≡ length b.seen
  pub empty : block.items ≡ []
  pub branched : block.branched ≡ (inside (frame_of block.frame) (standing_in (nest b).opened)).branched
  pub rows : block.rows ≡ rows_of (frame_of block.frame) (rows_in (nest b).opened)

whole_inside : (b : Inside) (block : Block) → IsWhole b → Begins b block → IsWhole (record b { innermost = Some block; outer = all_blocks b.innermost b.outer })
whole_inside b block w begins = record {
  innermost_first = λ e. cc;
  around = around_opened b.seen block (all_blocks b.innermost b.outer) w.around begins.at begins.branched begins.rows;
}

whole_none : (b : Inside) → IsWhole (record b { innermost = None; outer = [] })
whole_none b = record { innermost_first = λ e. refl; around = tt }

pub whole_opened : {E : Type 0} (r : Result (Unit {0}) E) (b : Inside) (block : Block) (innermost : Option Block) (outer : List Block) → IsWhole b → Begins b block
    → OnOk r ((innermost ≡ Some block) × (outer ≡ all_blocks b.innermost b.outer)) → OnErr r ((innermost ≡ None) × (outer ≡ []))
    → IsWhole (record b { innermost = innermost; outer = outer })
whole_opened (Ok x) b block innermost outer w begins ok err =
    subst (λ i. IsWhole (record b { innermost = i; outer = outer })) (sym ok.0) (subst (λ o. IsWhole (record b { innermost = Some block; outer = o })) (sym ok.1) (whole_inside b block w begins))
whole_opened (Err e) b block innermost outer w begins ok err =
    subst (λ i. IsWhole (record b { innermost = i; outer = outer })) (sym err.0) (subst (λ o. IsWhole (record b { innermost = None; outer = o })) (sym err.1) (whole_none b))

nest_inside : (b : Inside) (block : Block) → Begins b block → nest (record b { innermost = Some block; outer = all_blocks b.innermost b.outer }) ≡ opening (frame_of block.frame) (nest b)
nest_inside b block begins =
    let all : oldest block.outside b.seen ≡ b.seen = ap (λ n. oldest n b.seen) begins.at ∙ all_seen b.seen in
    ap (λ outside. record { seen = b.seen; items = b.items; opened = record { frame = frame_of block.frame; outside = outside; items = block.items } ∷ opened_in outside (all_blocks b.innermost b.outer) }) all
    ∙ ap (λ items. record { seen = b.seen; items = b.items; opened = record { frame = frame_of block.frame; outside = b.seen; items = items } ∷ opened_in b.seen (all_blocks b.innermost b.outer) }) begins.empty

pub nest_opened : {E : Type 0} (r : Result (Unit {0}) E) (b : Inside) (n : Nest) (block : Block) (innermost : Option Block) (outer : List Block) → nest b ≡ n → Begins b block
    → OnOk r ((innermost ≡ Some block) × (outer ≡ all_blocks b.innermost b.outer))
    → OnOk r (nest (record b { innermost = innermost; outer = outer }) ≡ opening (frame_of block.frame) n)
nest_opened (Ok x) b n block innermost outer view begins ok =
    ap (λ i. nest (record b { innermost = i; outer = outer })) ok.0 ∙ ap (λ o. nest (record b { innermost = Some block; outer = o })) ok.1 ∙ nest_inside b block begins ∙ ap (opening (frame_of block.frame)) view
nest_opened (Err e) b n block innermost outer view begins ok = tt
