-- Components and held states for worked rows. Above each component is its text, with a line for each `|`.
use Rattle.std.specs.Prelude.{ℕ, List, [], ◌∷◌, Option, pos, negsuc, codes, true, false}
use Rattle.values.specs.declared.code.Code.{Code}
use Rattle.values.specs.declared.code.Code.TheVariants.{Number, Word}
use Rattle.values.specs.declared.code.Op.TheVariants as op
use Rattle.values.specs.declared.expr.Expr.TheVariants.{Lit, Read, Binary}
use Rattle.store_fields.specs.declared.row.Row.{Row}
use Rattle.store_fields.specs.Edits.{KeyedRows}
use Rattle.component_items.specs.declared.component.Attr.TheVariants as attr
use Rattle.component_items.specs.declared.component.Component.{Component}
use Rattle.component_items.specs.declared.component.Item.TheVariants as item
use Rattle.plain_evaluation.specs.Held.{Held, nothing, value, stored, arrived}

abbrev pub store_row : Code → List Code → Row
store_row key fields = record { key = key; fields = fields }

-- the most rows, the count of fields, and the rows
abbrev pub rows_of : ℕ → ℕ → List Row → KeyedRows
rows_of max width list = record { rows = list; max = max; width = width }

abbrev pub number : ℕ → Code
number n = Number (pos n)

-- component 1|signal a = 2|memo b = a * 3|<p>{b}</p>
abbrev pub product : Component
product = record {
  texts = [] ∷ codes "a" ∷ codes "b" ∷ codes "p" ∷ [];
  items = item.Signal 0 1 (number 2) ∷ item.Memo 1 2 (Binary op.Mul (Read 0) (Lit (number 3))) ∷ item.Element 3 true [] (item.Shown 2 (Read 1) ∷ []) ∷ [];
}

-- component 1|signal a = 2147483647|<p>{a + 1}{1 / 0}{-2147483648 / -1}</p>
abbrev pub ends : Component
ends = record {
  texts = [] ∷ codes "a" ∷ codes "p" ∷ [];
  items = item.Signal 0 1 (number 2147483647) ∷ item.Element 2 true [] (item.Shown 1 (Binary op.Add (Read 0) (Lit (number 1))) ∷ item.Shown 2 (Binary op.Div (Lit (number 1)) (Lit (number 0))) ∷ item.Shown 3 (Binary op.Div (Lit (Number (negsuc 2147483647))) (Lit (Number (negsuc 0)))) ∷ []) ∷ [];
}

-- component 1|signal t = "<&\""|<p title={t}>{t}"<&\""</p>
abbrev pub escapes : Component
escapes = record {
  texts = [] ∷ codes "t" ∷ codes "<&\"" ∷ codes "p" ∷ codes "title" ∷ [];
  items = item.Signal 0 1 (Word 2) ∷ item.Element 3 true (attr.Shown 4 1 (Read 0) ∷ []) (item.Shown 2 (Read 0) ∷ item.Text 2 ∷ []) ∷ [];
}

-- component 1|<p hidden class="a"><br></p>
abbrev pub marks : Component
marks = record {
  texts = [] ∷ codes "p" ∷ codes "hidden" ∷ codes "class" ∷ codes "a" ∷ codes "br" ∷ [];
  items = item.Element 1 true (attr.Bare 2 ∷ attr.Fixed 3 4 ∷ []) (item.Element 5 false [] [] ∷ []) ∷ [];
}

-- component 1|area side {|signal x = 1|cleanup "bye"|<i>{x}</i>|}|<b>"end"</b>
abbrev pub side : Component
side = record {
  texts = [] ∷ codes "side" ∷ codes "x" ∷ codes "bye" ∷ codes "i" ∷ codes "b" ∷ codes "end" ∷ [];
  items = item.Area 0 1 1 (item.Signal 1 2 (number 1) ∷ item.Cleanup 3 ∷ item.Element 4 true [] (item.Shown 2 (Read 1) ∷ []) ∷ []) ∷ item.Element 5 true [] (item.Text 6 ∷ []) ∷ [];
}

abbrev pub side_dead : Held
side_dead = record { holdings = nothing ∷ nothing ∷ nothing ∷ []; live = true ∷ false ∷ [] }

-- component 1|area outer { signal x = 1 area inner { signal y = 2 <i>{y}</i> } <b>{x}</b> }
abbrev pub inside : Component
inside = record {
  texts = [] ∷ codes "outer" ∷ codes "x" ∷ codes "inner" ∷ codes "y" ∷ codes "i" ∷ codes "b" ∷ [];
  items = item.Area 0 1 1 (item.Signal 1 2 (number 1) ∷ item.Area 2 3 2 (item.Signal 3 4 (number 2) ∷ item.Element 5 true [] (item.Shown 4 (Read 3) ∷ []) ∷ []) ∷ item.Element 6 true [] (item.Shown 5 (Read 1) ∷ []) ∷ []) ∷ [];
}

abbrev pub inner_dead : Held
inner_dead = record { holdings = nothing ∷ value (number 1) ∷ nothing ∷ nothing ∷ nothing ∷ nothing ∷ []; live = true ∷ true ∷ false ∷ [] }

abbrev pub outer_dead : Held
outer_dead = record { holdings = nothing ∷ nothing ∷ nothing ∷ nothing ∷ nothing ∷ nothing ∷ []; live = true ∷ false ∷ false ∷ [] }

abbrev pub all_dead : Held
all_dead = record { holdings = nothing ∷ nothing ∷ nothing ∷ nothing ∷ nothing ∷ nothing ∷ []; live = false ∷ false ∷ false ∷ [] }

-- component 1|store items max 4 { title = "" }|<ul>each items {<li>{row.title}</li>}</ul>
abbrev pub titles : Component
titles = record {
  texts = [] ∷ codes "items" ∷ codes "title" ∷ codes "ul" ∷ codes "li" ∷ codes "c" ∷ codes "b" ∷ [];
  items = item.Store 0 1 4 (2 ∷ []) (Word 0 ∷ []) ∷ item.Element 3 true [] (item.Each 3 0 (item.Element 4 true [] (item.Shown 4 (Read 2) ∷ []) ∷ []) ∷ []) ∷ [];
}

abbrev pub titles_held : Held
titles_held = record { holdings = stored (rows_of 4 1 (store_row (number 3) (Word 5 ∷ []) ∷ store_row (number 2) (Word 6 ∷ []) ∷ [])) ∷ nothing ∷ nothing ∷ nothing ∷ nothing ∷ []; live = true ∷ [] }

-- component 1|area side { signal on = 0 store s max 2 { t = "" } if on { each s { if row.key == 2 { <b>{row.t}</b> } } } }
abbrev pub chosen : Component
chosen = record {
  texts = [] ∷ codes "side" ∷ codes "on" ∷ codes "s" ∷ codes "t" ∷ codes "b" ∷ codes "u" ∷ codes "v" ∷ [];
  items = item.Area 0 1 1 (item.Signal 1 2 (number 0) ∷ item.Store 2 3 2 (4 ∷ []) (Word 0 ∷ []) ∷ item.If 5 (Read 1) (item.Each 6 2 (item.If 7 (Binary op.Equal (Read 3) (Lit (number 2))) (item.Element 5 true [] (item.Shown 8 (Read 4) ∷ []) ∷ []) ∷ []) ∷ []) ∷ []) ∷ [];
}

-- with the signal, and with two rows
abbrev pub chosen_held : ℕ → Held
chosen_held on = record { holdings = nothing ∷ value (number on) ∷ stored (rows_of 2 1 (store_row (number 1) (Word 6 ∷ []) ∷ store_row (number 2) (Word 7 ∷ []) ∷ [])) ∷ nothing ∷ nothing ∷ nothing ∷ nothing ∷ nothing ∷ nothing ∷ []; live = true ∷ true ∷ [] }

abbrev pub chosen_dead : Held
chosen_dead = record { holdings = nothing ∷ nothing ∷ nothing ∷ nothing ∷ nothing ∷ nothing ∷ nothing ∷ nothing ∷ nothing ∷ []; live = true ∷ false ∷ [] }

-- component 1|resource user after 2 { 1 => "Ann" }|signal id = 1|load who = user(id)|<p>{who}</p>
abbrev pub who : Component
who = record {
  texts = [] ∷ codes "user" ∷ codes "Ann" ∷ codes "id" ∷ codes "who" ∷ codes "p" ∷ [];
  items = item.Resource 0 1 2 (number 1 ∷ []) (Word 2 ∷ []) ∷ item.Signal 1 3 (number 1) ∷ item.Load 2 4 0 (Read 1) ∷ item.Element 5 true [] (item.Shown 4 (Read 2) ∷ []) ∷ [];
}

-- with the key that arrived, and the signal
abbrev pub who_held : Option Code → Code → Held
who_held key id = record { holdings = nothing ∷ value id ∷ arrived key ∷ nothing ∷ nothing ∷ []; live = true ∷ [] }

-- component 1|resource user after 0 { 1 => 7 }|resource mail after 0 { 7 => "x@y" }|signal id = 1|load u = user(id)|load m = mail(u)|<p>{m}</p>
abbrev pub mails : Component
mails = record {
  texts = [] ∷ codes "user" ∷ codes "mail" ∷ codes "x@y" ∷ codes "id" ∷ codes "u" ∷ codes "m" ∷ codes "p" ∷ [];
  items = item.Resource 0 1 0 (number 1 ∷ []) (number 7 ∷ []) ∷ item.Resource 1 2 0 (number 7 ∷ []) (Word 3 ∷ []) ∷ item.Signal 2 4 (number 1) ∷ item.Load 3 5 0 (Read 2) ∷ item.Load 5 6 1 (Read 3) ∷ item.Element 7 true [] (item.Shown 7 (Read 5) ∷ []) ∷ [];
}

abbrev pub mails_held : Option Code → Option Code → Held
mails_held u m = record { holdings = nothing ∷ nothing ∷ value (number 1) ∷ arrived u ∷ nothing ∷ arrived m ∷ nothing ∷ nothing ∷ []; live = true ∷ [] }

-- A page as people write it:
-- component 1
-- signal user = "Ann"
-- signal done = 1
-- store todos max 50 { title = "" ok = 0 }
-- memo left = 3 - done
-- <main class="app">
--  <h1>"Todos of " {user}</h1>
--  if left { <p>{left} " left"</p> }
--  <ul>each todos { <li data-id={row.key}>{row.title} if row.ok { " (done)" }</li> }</ul>
--  area help { signal text = "Press & type" <footer>{text}</footer> cleanup "help closed" }
-- </main>
abbrev pub todos : Component
todos = record {
  texts = [] ∷ codes "user" ∷ codes "Ann" ∷ codes "done" ∷ codes "todos" ∷ codes "title" ∷ codes "ok" ∷ codes "left" ∷ codes "main" ∷ codes "class" ∷ codes "app" ∷ codes "h1" ∷ codes "Todos of " ∷ codes "p" ∷ codes " left" ∷ codes "ul" ∷ codes "li" ∷ codes "data-id" ∷ codes " (done)" ∷ codes "help" ∷ codes "text" ∷ codes "Press & type" ∷ codes "footer" ∷ codes "help closed" ∷ codes "Milk" ∷ codes "Bread" ∷ codes "Bob" ∷ [];
  items = item.Signal 0 1 (Word 2) ∷ item.Signal 1 3 (number 1) ∷ item.Store 2 4 50 (5 ∷ 6 ∷ []) (Word 0 ∷ number 0 ∷ []) ∷ item.Memo 6 7 (Binary op.Sub (Lit (number 3)) (Read 1)) ∷ item.Element 8 true (attr.Fixed 9 10 ∷ []) (item.Element 11 true [] (item.Text 12 ∷ item.Shown 7 (Read 0) ∷ []) ∷ item.If 8 (Read 6) (item.Element 13 true [] (item.Shown 9 (Read 6) ∷ item.Text 14 ∷ []) ∷ []) ∷ item.Element 15 true [] (item.Each 10 2 (item.Element 16 true (attr.Shown 17 11 (Read 3) ∷ []) (item.Shown 12 (Read 4) ∷ item.If 13 (Read 5) (item.Text 18 ∷ []) ∷ []) ∷ []) ∷ []) ∷ item.Area 14 19 1 (item.Signal 15 20 (Word 21) ∷ item.Element 22 true [] (item.Shown 16 (Read 15) ∷ []) ∷ item.Cleanup 23 ∷ []) ∷ []) ∷ [];
}

-- after todos 1 "Milk" and 2 "Bread" (done) were inserted, two were done, and the user was Bob
abbrev pub todos_held : Held
todos_held = record {
  holdings = value (Word 26) ∷ value (number 2) ∷ stored (rows_of 50 2 (store_row (number 1) (Word 24 ∷ number 0 ∷ []) ∷ store_row (number 2) (Word 25 ∷ number 1 ∷ []) ∷ [])) ∷ nothing ∷ nothing ∷ nothing ∷ nothing ∷ nothing ∷ nothing ∷ nothing ∷ nothing ∷ nothing ∷ nothing ∷ nothing ∷ nothing ∷ value (Word 21) ∷ nothing ∷ [];
  live = true ∷ true ∷ [];
}
