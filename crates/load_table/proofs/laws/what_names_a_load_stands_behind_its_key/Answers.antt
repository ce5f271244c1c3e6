use Rattle.load_table.proofs.Keys.{behind_key}
use Rattle.load_table.proofs.laws.what_names_a_load_stands_behind_its_key.Goals as goal

pub returns : goal.returns
returns c = behind_key
