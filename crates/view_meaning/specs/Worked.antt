-- What is seen, for worked rows. Above each component is its text, with a line for each `|`.
use Rattle.std.specs.Prelude.{ℕ, ◌==◌, if◌then◌else◌, true, codes, map, List, [], ◌∷◌}
use Rattle.values.specs.declared.code.Code.TheVariants.{Word}
use Rattle.values.specs.declared.code.Op.TheVariants as op
use Rattle.values.specs.declared.expr.Expr.TheVariants.{Lit, Read, Binary}
use Rattle.component_items.specs.declared.component.Component.{Component}
use Rattle.component_items.specs.declared.component.Item.TheVariants as item
use Rattle.plain_evaluation.specs.Held.{Held, nothing, value, stored}
use Rattle.plain_evaluation.specs.Page.{view_of}
use Rattle.plain_evaluation.specs.Rows.{number, rows_of, store_row}
use Rattle.view_meaning.specs.Mounted.{Seen, Mounted, nothing_mounted, mounted_after}

-- held state by plain evaluation, where the nodes of each id have this version
abbrev pub seen_of : Component → Held → (ℕ → ℕ) → Seen
seen_of component held version = record { view = view_of component held; version = λ p. version p.id }

-- no node moved yet, or those of one id did
abbrev pub unmoved : ℕ → ℕ
unmoved id = 0

abbrev pub moved : ℕ → ℕ → ℕ
moved own id = if own == id then 1 else 0

-- the view that is made from one after another
abbrev pub mounted_by : Component → List Seen → Mounted
mounted_by component seens = mounted_after component.items seens nothing_mounted

-- component 1|signal a = 1|memo p = a % 2|<p>{a}</p><b>{p}</b>
abbrev pub parity : Component
parity = record {
  texts = [] ∷ codes "a" ∷ codes "p" ∷ codes "b" ∷ [];
  items = item.Signal 0 1 (number 1) ∷ item.Memo 1 2 (Binary op.Rem (Read 0) (Lit (number 2))) ∷ item.Element 2 true [] (item.Shown 2 (Read 0) ∷ []) ∷ item.Element 3 true [] (item.Shown 3 (Read 1) ∷ []) ∷ [];
}

abbrev pub parity_held : ℕ → Held
parity_held a = record { holdings = value (number a) ∷ nothing ∷ nothing ∷ nothing ∷ []; live = true ∷ [] }

-- titles of rows with these keys
abbrev pub titles_with : List ℕ → Held
titles_with keys = record { holdings = stored (rows_of 4 1 (map (λ key. store_row (number key) (Word 0 ∷ [])) keys)) ∷ nothing ∷ nothing ∷ nothing ∷ nothing ∷ []; live = true ∷ [] }
