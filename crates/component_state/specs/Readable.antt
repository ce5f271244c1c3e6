-- Component texts can be read.
use Rattle.std.proofs.Common.{◌≡◌, ℕ, false, List, Ok, Err, refl}
use Rattle.grammar.specs.Ends.{Blocks}
use Rattle.text_lexer.specs.Tokens.{Lexed}
use Rattle.text_grammar.specs.declared.component.Terminal.{Terminal}
use Rattle.text_grammar.specs.declared.component.Terminal.TheVariants as terminal
use Rattle.text_grammar.specs.Closed.{is_closer}
use Rattle.text_grammar.specs.Kind.{bad_seen}
use Rattle.text_grammar.specs.Component.{matches}
use Rattle.text_grammar.proofs.ComponentRight.{is_right, fits}
use Rattle.text_grammar.proofs.Ends.{component_down, component_last_token}
use Rattle.component_items.specs.declared.refusal.Refusal.{Refusal}
use Rattle.component_items.specs.declared.refusal.Refusal.TheVariants.{Bad}
use Rattle.component_items.specs.declared.refusal.Why.TheVariants as why
use Rattle.part_meaning.specs.Part.{unexpected}
use Rattle.token_reader.specs.Rules.{IsReadable}
use Rattle.component_meaning.specs.Checks.{place_at, unclosed}
use Rattle.component_meaning.specs.Meaning.{semantics, accept_token}
use Rattle.component_meaning.specs.State.{State}
use Rattle.component_meaning.proofs.Bounded.{bounded}
use Rattle.component_state.specs.Rules.{rules}

refused : (bytes : List ℕ) (a : State) (x next : Lexed) → (e : Refusal) × (accept_token bytes terminal.Closer a x next ≡ Err e)
refused bytes a (Ok x) next = (Bad why.UnclosedTag (place_at unclosed bytes terminal.Closer a x next), refl)
refused bytes a (Err bad) next = (unexpected (Err bad), refl)

blocked : (bytes : List ℕ) → Blocks (semantics bytes) is_closer
blocked bytes terminal.Closer a b x is takes = let no = (refused bytes a x.token x.next).1 in cc
blocked bytes w a b x is takes = cc

no_token : (w : Terminal) → matches w bad_seen ≡ false
no_token terminal.Component = refl
no_token _ = refl

pub readable : IsReadable rules
readable = record {
  right = is_right;
  fits = fits;
  down = component_down;
  blocks = blocked;
  last = component_last_token;
  no_token = no_token;
  kinds = λ bytes x. refl;
  not_allowed = λ bytes x. refl;
  bounded = bounded;
}
