-- Script texts can be read.
use Rattle.std.proofs.Common.{◌≡◌, ℕ, false, List, refl, arith}
use Rattle.grammar.specs.Ends.{Blocks}
use Rattle.text_grammar.specs.declared.script.Terminal.{Terminal}
use Rattle.text_grammar.specs.declared.script.Terminal.TheVariants as terminal
use Rattle.text_grammar.specs.Kind.{bad_seen}
use Rattle.text_grammar.specs.Script.{matches}
use Rattle.text_grammar.proofs.ScriptRight.{is_right, fits}
use Rattle.text_grammar.proofs.Ends.{script_down, script_last_token}
use Rattle.token_reader.specs.Rules.{IsReadable}
use Rattle.script_meaning.specs.Meaning.{semantics}
use Rattle.script_state.specs.Rules.{rules}

none_blocked : (bytes : List ℕ) → Blocks (semantics bytes) (λ w. false)
none_blocked bytes w a b x shut took = absurd cc

no_token : (w : Terminal) → matches w bad_seen ≡ false
no_token terminal.Phase = refl
no_token _ = refl

pub readable : IsReadable rules
readable = record {
  right = is_right;
  fits = fits;
  down = script_down;
  blocks = none_blocked;
  last = script_last_token;
  no_token = no_token;
  kinds = λ bytes x. refl;
  not_allowed = λ bytes x. refl;
  bounded = λ bytes first a xs out reads. omega arith;
}
