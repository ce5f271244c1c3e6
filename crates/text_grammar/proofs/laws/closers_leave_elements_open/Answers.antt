use Rattle.text_grammar.proofs.ComponentRight.{fits}
use Rattle.text_grammar.proofs.Closed.{refuses_alike, refuses_unclosed, goes_on_alike}
use Rattle.text_grammar.proofs.laws.closers_leave_elements_open.Goals as goal

pub returns-clause-alike : goal.returns-clause-alike
returns-clause-alike g c m refuses a before x e = refuses_alike m refuses a before x e

pub returns-clause-unclosed : goal.returns-clause-unclosed
returns-clause-unclosed g c m a before x e = refuses_unclosed m a before x e

pub returns-clause-goes_on : goal.returns-clause-goes_on
returns-clause-goes_on g c m a before x out b reads begins = goes_on_alike m fits a before x reads begins
