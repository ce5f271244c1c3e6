-- How large a state is: the ids and owners that were taken, and the fields in hand.
use Rattle.std.specs.Prelude.{ℕ, ◌+◌, length}
use Rattle.text_grammar.specs.declared.component.Action.{Action}
use Rattle.text_grammar.specs.declared.component.Action.TheVariants as action
use Rattle.text_grammar.specs.declared.component.Terminal.{Terminal}
use Rattle.text_grammar.specs.declared.component.Terminal.TheVariants as terminal
use Rattle.component_meaning.specs.State.{State}

abbrev pub size : State → ℕ
size a = a.next_id + (a.next_owner + length a.fields)

abbrev pub rise : Terminal → ℕ
rise terminal.NewField = 1
rise _ = 0

abbrev pub gain : Action → ℕ
gain action.MakeSignal = 1
gain action.MakeMemo = 1
gain action.MakeEffect = 1
gain action.MakeResource = 1
gain action.MakeLoad = 2
gain action.MakeStore = 2
gain action.MakeShown = 1
gain action.OpenArea = 2
gain action.OpenIf = 1
gain action.OpenEach = 1
gain action.MakeShownAttribute = 1
gain _ = 0
