-- Script texts as the reader takes them.
use Rattle.std.specs.Prelude.{false}
use Rattle.text_grammar.specs.declared.script.Action.{Action}
use Rattle.text_grammar.specs.declared.script.Rule.{Rule}
use Rattle.text_grammar.specs.declared.script.Terminal.{Terminal}
use Rattle.text_grammar.specs.declared.script.Terminal.TheVariants as terminal
use Rattle.text_grammar.specs.Script.{table, text}
use Rattle.text_grammar.specs.ScriptAhead.{lookahead, level}
use Rattle.token_reader.specs.Rules.{Rules}
use Rattle.script_meaning.specs.State.{State}
use Rattle.script_meaning.specs.Meaning.{semantics}

-- no state counts tokens, so that all are of one size
abbrev pub rules : Rules Terminal Rule Action State
rules = record { table = table; lookahead = lookahead; text = text; semantics = semantics; level = level; blocked = λ w. false; end = terminal.End; size = λ a. 0 }
