use Rattle.command_words.proofs.Unique.{one}
use Rattle.command_words.proofs.laws.one_settings.Goals as goal

pub returns : goal.returns
returns c = one
