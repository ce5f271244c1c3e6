-- What is computed of a whole input is what the relations say.
use Rattle.std.proofs.Common.{◌≡◌, ◌≤◌, ℕ, List, Some, sym, subst}
use Rattle.input_split.specs.Computed.{split_of}
use Rattle.input_split.specs.declared.Split.{Split}
use Rattle.input_split.specs.Parts.{IsSplit}
use Rattle.input_split.proofs.Computed.{split_computed}
use Rattle.component_items.specs.Counts.{nodes_of}
use Rattle.component_items.specs.declared.component.Component.{Component}
use Rattle.component_items.specs.declared.refusal.Refusal.{Refusal}
use Rattle.component_meaning.specs.Component.{IsComponent, IsNoComponent}
use Rattle.component_meaning.specs.Computed.{read_of, refusal_of}
use Rattle.component_meaning.proofs.Decided as component
use Rattle.script_meaning.specs.Computed as script
use Rattle.script_meaning.specs.Input.{component_part, script_part, IsInput, IsBadInput, bad_component, bad_script}
use Rattle.script_meaning.specs.Names.{Declaration, names_of}
use Rattle.script_meaning.specs.Script.{IsScript, IsNoScript}
use Rattle.script_meaning.proofs.Decided.{computed_script, computed_refusal}

-- the bytes are the text of the component, which has these names
pub record ComponentRead (part : List ℕ) (c : Component) (names : List Declaration) : Type 0 where
  pub read : read_of part ≡ Some c
  pub few_nodes : nodes_of c.items ≤ 4096
  pub named : names_of c.items ≡ names

module _ (bytes : List ℕ) (split : Split) (part : List ℕ) where
  splits : split_of bytes ≡ split → IsSplit bytes split
  splits is = subst (λ (s : Split). IsSplit bytes s) is (split_computed bytes)

  pub computed_bad_component : (why : Refusal) → split_of bytes ≡ split → component_part bytes split ≡ part → refusal_of part ≡ Some why → IsBadInput bytes why
  computed_bad_component why is front refused =
      bad_component split (splits is) (subst (λ p. IsNoComponent p why) (sym front) (component.computed_refusal part why refused))

  module _ (rest : List ℕ) (c : Component) (names : List Declaration) where
    is_component : component_part bytes split ≡ part → ComponentRead part c names → IsComponent (component_part bytes split) c
    is_component front a = subst (λ p. IsComponent p c) (sym front) (component.computed_component part c a.read a.few_nodes)

    pub computed_bad_script : (why : Refusal) → split_of bytes ≡ split → component_part bytes split ≡ part → script_part bytes split ≡ rest → ComponentRead part c names
        → script.refusal_of c.texts names split.script_line rest ≡ Some why → IsBadInput bytes why
    computed_bad_script why is front behind a refused =
        bad_script split (splits is) c (is_component front a)
        (subst (λ p. IsNoScript c split.script_line p why) (sym behind) (computed_refusal c names split.script_line rest why a.named refused))

    pub computed_input : (r : script.Read) → split_of bytes ≡ split → component_part bytes split ≡ part → script_part bytes split ≡ rest → ComponentRead part c names
        → script.read_of c.texts names split.script_line rest ≡ Some r → IsInput bytes c r.phases r.texts
    computed_input r is front behind a reads = record {
      split = split;
      is_split = splits is;
      is_component = is_component front a;
      is_script = subst (λ p. IsScript c split.script_line p r.phases r.texts) (sym behind) (computed_script c names split.script_line rest r a.named reads);
    }
