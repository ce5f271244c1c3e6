-- The laws of whole inputs: an input has one split, and each part one meaning or one refusal.
use Rattle.std.proofs.Common.{◌≡◌, ℕ, List, subst}
use Rattle.input_split.specs.declared.Split.{Split}
use Rattle.input_split.specs.Parts.{IsSplit}
use Rattle.input_split.proofs.Unique.{one_split}
use Rattle.component_items.specs.declared.component.Component.{Component}
use Rattle.component_items.specs.declared.refusal.Refusal.{Refusal}
use Rattle.component_meaning.specs.Component.{IsComponent, IsNoComponent}
use Rattle.component_meaning.proofs.Decided as component
use Rattle.script_items.specs.declared.operation.ScriptOp.{ScriptOp}
use Rattle.script_meaning.specs.Script.{IsScript, IsNoScript}
use Rattle.script_meaning.specs.Input.{component_part, script_part, IsInput, IsBadInput, bad_component, bad_script}
use Rattle.script_meaning.proofs.Decided as script

module _ (bytes : List ℕ) where
  -- ---- what is said at one split is said at the other one

  component_there : (s t : Split) (c : Component) → IsSplit bytes s → IsSplit bytes t → IsComponent (component_part bytes s) c → IsComponent (component_part bytes t) c
  component_there s t c p q = subst (λ (x : Split). IsComponent (component_part bytes x) c) (one_split bytes s t p q)

  no_component_there : (s t : Split) (why : Refusal) → IsSplit bytes s → IsSplit bytes t → IsNoComponent (component_part bytes s) why → IsNoComponent (component_part bytes t) why
  no_component_there s t why p q = subst (λ (x : Split). IsNoComponent (component_part bytes x) why) (one_split bytes s t p q)

  script_there : (s t : Split) (c d : Component) (a : List (List (List ScriptOp))) (texts : List (List ℕ)) → IsSplit bytes s → IsSplit bytes t → c ≡ d
      → IsScript c s.script_line (script_part bytes s) a texts → IsScript d t.script_line (script_part bytes t) a texts
  script_there s t c d a texts p q same reads =
      subst (λ (e : Component). IsScript e t.script_line (script_part bytes t) a texts) same
      (subst (λ (x : Split). IsScript c x.script_line (script_part bytes x) a texts) (one_split bytes s t p q) reads)

  no_script_there : (s t : Split) (c d : Component) (why : Refusal) → IsSplit bytes s → IsSplit bytes t → c ≡ d
      → IsNoScript c s.script_line (script_part bytes s) why → IsNoScript d t.script_line (script_part bytes t) why
  no_script_there s t c d why p q same bad =
      subst (λ (e : Component). IsNoScript e t.script_line (script_part bytes t) why) same
      (subst (λ (x : Split). IsNoScript c x.script_line (script_part bytes x) why) (one_split bytes s t p q) bad)

  one_component_at : (s t : Split) (c d : Component) → IsSplit bytes s → IsSplit bytes t → IsComponent (component_part bytes s) c → IsComponent (component_part bytes t) d → c ≡ d
  one_component_at s t c d p q a b = component.one_component (component_part bytes t) c d (component_there s t c p q a) b

  never_both_at : (s t : Split) (c : Component) (why : Refusal) → IsSplit bytes s → IsSplit bytes t → IsComponent (component_part bytes s) c → IsNoComponent (component_part bytes t) why → ⊥
  never_both_at s t c why p q a bad = component.never_both (component_part bytes t) c why (component_there s t c p q a) bad

  -- ---- the laws

  module _ (c d : Component) (a b : List (List (List ScriptOp))) (texts others : List (List ℕ)) (p : IsInput bytes c a texts) (q : IsInput bytes d b others) where
    pub one_component : c ≡ d
    one_component = one_component_at p.split q.split c d p.is_split q.is_split p.is_component q.is_component

    script_of_other : IsScript d q.split.script_line (script_part bytes q.split) a texts
    script_of_other = script_there p.split q.split c d a texts p.is_split q.is_split one_component p.is_script

    pub one_script : a ≡ b
    one_script = script.one_script d q.split.script_line (script_part bytes q.split) a b texts others script_of_other q.is_script

    pub one_table : texts ≡ others
    one_table = script.one_table d q.split.script_line (script_part bytes q.split) a b texts others script_of_other q.is_script

  pub never_both : (c : Component) (a : List (List (List ScriptOp))) (texts : List (List ℕ)) (why : Refusal) → IsInput bytes c a texts → IsBadInput bytes why → ⊥
  never_both c a texts why p (bad_component {why = e} split is bad) = never_both_at p.split split c e p.is_split is p.is_component bad
  never_both c a texts why p (bad_script {why = e} split is d reads bad) =
      let same = one_component_at p.split split c d p.is_split is p.is_component reads in
      script.never_both d split.script_line (script_part bytes split) a texts e (script_there p.split split c d a texts p.is_split is same p.is_script) bad

  pub one_refusal : (a b : Refusal) → IsBadInput bytes a → IsBadInput bytes b → a ≡ b
  one_refusal a b (bad_component {why = e} s p bad) (bad_component {why = f} t q bad') = component.one_refusal (component_part bytes t) e f (no_component_there s t e p q bad) bad'
  one_refusal a b (bad_component {why = e} s p bad) (bad_script t q d reads bad') = absurd (never_both_at t s d e q p reads bad)
  one_refusal a b (bad_script s p c reads bad) (bad_component {why = f} t q bad') = absurd (never_both_at s t c f p q reads bad')
  one_refusal a b (bad_script {why = e} s p c reads bad) (bad_script {why = f} t q d reads' bad') =
      let same = one_component_at s t c d p q reads reads' in
      script.one_refusal d t.script_line (script_part bytes t) e f (no_script_there s t c d e p q same bad) bad'
