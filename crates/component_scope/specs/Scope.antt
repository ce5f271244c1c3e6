-- The names that are seen.
use Rattle.std.specs.Prelude.{ℕ, ◌==◌, ◌-◌, if◌then◌else◌, Option, Some, None, List, [], ◌∷◌, length, drop}
use Rattle.component_meaning.specs.State.{What, Declared, signal_name, memo_name, effect_name, resource_name, load_name, store_name, area_name}
use Rattle.component_scope.specs.declared.scope.Kind.{Kind}
use Rattle.component_scope.specs.declared.scope.Kind.TheVariants as kind

-- what a name of this kind is declared as
abbrev pub what_of : Kind → What
what_of kind.Signal = signal_name
what_of kind.Memo = memo_name
what_of kind.Effect = effect_name
what_of kind.Resource = resource_name
what_of kind.Load = load_name
what_of (kind.Store fields) = store_name fields
what_of kind.Area = area_name

-- the first so many of the declarations that are seen
abbrev pub oldest : ℕ → List Declared → List Declared
oldest n seen = drop (length seen - n) seen

-- the place of the last declaration of a name, counted from the first of all declarations
abbrev pub place_of : ℕ → List Declared → Option ℕ
place_of name [] = None
place_of name (d ∷ seen) = if d.name == name then Some (length seen) else place_of name seen
