-- What a path names, and which texts there are.
use Rattle.std.specs.Prelude.{ℕ, drop, List, ◌++◌}
use Rattle.script_meaning.specs.Names as names
use Rattle.script_draft.specs.declared.named.Named.{Named}
use Rattle.script_draft.specs.declared.named.Named.TheVariants as named

abbrev pub named_of : Named → names.Named
named_of named.Nothing = names.nothing
named_of (named.Signal id) = names.a_signal id
named_of (named.Memo id) = names.a_memo id
named_of (named.Load id) = names.a_load id
named_of (named.Store store) = names.a_store store.now.id store.now.fields store.now.starts.now
named_of (named.Area owner) = names.an_area owner
named_of named.Other = names.another

-- the texts of a table, and behind them those of another one but for its first, which is the empty text
abbrev pub both : List (List ℕ) → List (List ℕ) → List (List ℕ)
both base added = base ++ drop 1 added
