use Rattle.view_meaning.specs.Mounted.{mounted_again}
use Rattle.view_meaning.specs.Parts.{keys_mounted}
use Rattle.view_meaning.proofs.Serials.{keys_numbered}
use Rattle.view_meaning.proofs.laws.mounted_rows_are_numbered.Goals as goal

pub returns : goal.returns
returns c = λ items seen old id. keys_numbered (old.rows id).rows (keys_mounted (mounted_again items seen old).parts id) (old.rows id).next
