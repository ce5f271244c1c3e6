use Rattle.run_history.proofs.Got.{got_explained}
use Rattle.run_history.proofs.laws.values_that_were_got_are_explained.Goals as goal

pub returns : goal.returns
returns c past o base count h k f by fits = got_explained past o base count h k f fits.lawful
