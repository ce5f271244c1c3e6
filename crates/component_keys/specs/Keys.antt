-- A text as a key of a resource.
use Rattle.std.specs.Prelude.{ℕ, if◌then◌else◌, List, Result, Ok, Err}
use Rattle.values.specs.Texts.{index_of}
use Rattle.component_items.specs.declared.refusal.Count.TheVariants.{Texts}
use Rattle.component_items.specs.declared.refusal.Place.{Place}
use Rattle.component_items.specs.declared.refusal.Refusal.{Refusal}
use Rattle.component_items.specs.declared.refusal.Refusal.TheVariants.{Bad}
use Rattle.component_items.specs.declared.refusal.Why.TheVariants.{NameTaken, TooLarge}
use Rattle.component_meaning.specs.State.{State}
use Rattle.component_meaning.specs.Names.{is_full}
use Rattle.component_meaning.specs.Checks.{has_text_key}
use Rattle.component_meaning.specs.Effects.{with_text_key}

-- the state with this text as its last key, or the first reason for which the text, which stands at this place, is refused
abbrev pub text_key_or_refusal : List ℕ → Place → State → Result State Refusal
text_key_or_refusal bytes place a =
    if has_text_key (index_of bytes a.texts) a then Err (Bad NameTaken place)
    else (if is_full bytes a.texts then Err (Bad (TooLarge Texts) place) else Ok (with_text_key bytes a))
