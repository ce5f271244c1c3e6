use Rattle.script_meaning.proofs.Grows as grows
use Rattle.script_meaning.proofs.laws.texts_only_grow.Goals as goal

pub returns : goal.returns
returns c component first_line bytes script texts is = grows.texts_only_grow component first_line bytes script texts is
