-- The components of the phases that ran rightly, and what a phase opens with, as data alone.
use Rattle.std.specs.Prelude.{◌≡◌, true, codes, [], ◌∷◌}
use Rattle.values.specs.declared.code.Op.TheVariants.{Add, Mul, Rem}
use Rattle.values.specs.declared.expr.Expr.TheVariants.{Lit, Read, Binary, If}
use Rattle.component_items.specs.declared.component.Component.{Component}
use Rattle.component_items.specs.declared.component.Item.TheVariants as item
use Rattle.run_meaning.specs.Opened.{Opened}
use Rattle.run_rows.specs.Parts.{number}

-- component 1|signal c = 1|signal a = 5|signal b = 7|memo m = if c then a else b|<p>{m}</p>
abbrev pub branch_text : Component
branch_text = record {
  texts = [] ∷ codes "c" ∷ codes "a" ∷ codes "b" ∷ codes "m" ∷ codes "p" ∷ [];
  items = item.Signal 0 1 (number 1) ∷ item.Signal 1 2 (number 5) ∷ item.Signal 2 3 (number 7) ∷ item.Memo 3 4 (If (Read 0) (Read 1) (Read 2)) ∷ item.Element 5 true [] (item.Shown 4 (Read 3) ∷ []) ∷ [];
}

-- component 1|signal a = 1|memo p = a % 2|memo q = p + 10|<p>{q}</p>
abbrev pub remainder_text : Component
remainder_text = record {
  texts = [] ∷ codes "a" ∷ codes "p" ∷ codes "q" ∷ [];
  items = item.Signal 0 1 (number 1) ∷ item.Memo 1 2 (Binary Rem (Read 0) (Lit (number 2))) ∷ item.Memo 2 3 (Binary Add (Read 1) (Lit (number 10))) ∷ item.Element 2 true [] (item.Shown 3 (Read 2) ∷ []) ∷ [];
}

-- component 1|signal a = 1|memo b = a + 1|<p>{b}</p>
abbrev pub equal_text : Component
equal_text = record {
  texts = [] ∷ codes "a" ∷ codes "b" ∷ codes "p" ∷ [];
  items = item.Signal 0 1 (number 1) ∷ item.Memo 1 2 (Binary Add (Read 0) (Lit (number 1))) ∷ item.Element 3 true [] (item.Shown 2 (Read 1) ∷ []) ∷ [];
}

-- component 1|signal a = 1|memo b = a + 1|memo c = a + 2|memo d = b + c|<p>{d}</p>
abbrev pub diamond_text : Component
diamond_text = record {
  texts = [] ∷ codes "a" ∷ codes "b" ∷ codes "c" ∷ codes "d" ∷ codes "p" ∷ [];
  items = item.Signal 0 1 (number 1) ∷ item.Memo 1 2 (Binary Add (Read 0) (Lit (number 1))) ∷ item.Memo 2 3 (Binary Add (Read 0) (Lit (number 2))) ∷ item.Memo 3 4 (Binary Add (Read 1) (Read 2)) ∷ item.Element 5 true [] (item.Shown 4 (Read 3) ∷ []) ∷ [];
}

-- component 1|store s max 1 { t = 0 }|each s {<p>{row.t}</p>}
abbrev pub store_text : Component
store_text = record {
  texts = [] ∷ codes "s" ∷ codes "t" ∷ codes "p" ∷ [];
  items = item.Store 0 1 1 (2 ∷ []) (number 0 ∷ []) ∷ item.Each 3 0 (item.Element 3 true [] (item.Shown 4 (Read 2) ∷ []) ∷ []) ∷ [];
}

-- component 1|signal a = 1|effect log = a * 10
abbrev pub effect_text : Component
effect_text = record {
  texts = [] ∷ codes "a" ∷ codes "log" ∷ [];
  items = item.Signal 0 1 (number 1) ∷ item.Effect 1 2 (Binary Mul (Read 0) (Lit (number 10))) ∷ [];
}

-- component 1|area side { signal x = 1 effect e = x }
abbrev pub gone_text : Component
gone_text = record {
  texts = [] ∷ codes "side" ∷ codes "x" ∷ codes "e" ∷ [];
  items = item.Area 0 1 1 (item.Signal 1 2 (number 1) ∷ item.Effect 2 3 (Read 1) ∷ []) ∷ [];
}

-- the two open with the same state, plan, places and values
pub record OpenAlike (o p : Opened) : Type 0 where
  pub held : o.held ≡ p.held
  pub plan : o.plan ≡ p.plan
  pub places : o.places ≡ p.places
  pub values : o.values ≡ p.values
