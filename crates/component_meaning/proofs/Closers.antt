-- No token passes as a closer.
use Rattle.std.proofs.Common.{◌≡◌, ℕ, List, Ok, Err, refl}
use Rattle.grammar.specs.Ahead.{with_next}
use Rattle.grammar.specs.Ends.{Blocks}
use Rattle.grammar.specs.Meaning.{Means}
use Rattle.text_lexer.specs.Tokens.{Lexed}
use Rattle.text_grammar.specs.declared.component.Terminal.TheVariants as terminal
use Rattle.text_grammar.specs.Closed.{closed_table, is_closer, RefusesClosers}
use Rattle.text_grammar.proofs.Closed.{reads_closed}
use Rattle.component_items.specs.declared.refusal.Refusal.{Refusal}
use Rattle.component_items.specs.declared.refusal.Refusal.TheVariants.{Bad}
use Rattle.component_items.specs.declared.refusal.Why.TheVariants as why
use Rattle.part_meaning.specs.Part.{IsReadTo, unexpected}
use Rattle.component_meaning.specs.Checks.{place_at, unclosed}
use Rattle.component_meaning.specs.Component.{component_text}
use Rattle.component_meaning.specs.Meaning.{semantics, accept_token}
use Rattle.component_meaning.specs.State.{State}

refused : (bytes : List ℕ) (a : State) (x next : Lexed) → (e : Refusal) × (accept_token bytes terminal.Closer a x next ≡ Err e)
refused bytes a (Ok x) next = (Bad why.UnclosedTag (place_at unclosed bytes terminal.Closer a x next), refl)
refused bytes a (Err bad) next = (unexpected (Err bad), refl)

pub never_pass : (bytes : List ℕ) → RefusesClosers (semantics bytes)
never_pass bytes a x = refused bytes a x.token x.next

pub closed : (bytes : List ℕ) (last : State) (read : IsReadTo component_text bytes last) → Means closed_table (semantics bytes) component_text.text component_text.start (with_next read.tokens) last
closed bytes last read = reads_closed (semantics bytes) (never_pass bytes) read.means

pub blocked : (bytes : List ℕ) → Blocks (semantics bytes) is_closer
blocked bytes terminal.Closer a b x is takes = let no = (never_pass bytes a x).1 in cc
blocked bytes w a b x is takes = cc
