-- Component texts as the reader takes them.
use Rattle.text_grammar.specs.declared.component.Action.{Action}
use Rattle.text_grammar.specs.declared.component.Rule.{Rule}
use Rattle.text_grammar.specs.declared.component.Terminal.{Terminal}
use Rattle.text_grammar.specs.declared.component.Terminal.TheVariants as terminal
use Rattle.text_grammar.specs.Closed.{is_closer}
use Rattle.text_grammar.specs.Component.{table, text}
use Rattle.text_grammar.specs.ComponentAhead.{lookahead, level}
use Rattle.token_reader.specs.Rules.{Rules}
use Rattle.component_meaning.specs.State.{State}
use Rattle.component_meaning.specs.Meaning.{semantics}
use Rattle.component_meaning.specs.Size.{size}

abbrev pub rules : Rules Terminal Rule Action State
rules = record { table = table; lookahead = lookahead; text = text; semantics = semantics; level = level; blocked = is_closer; end = terminal.End; size = size }
