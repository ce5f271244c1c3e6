use Rattle.view_meaning.specs.Mounted.{mounted_again}
use Rattle.view_meaning.specs.Parts.{keys_mounted}
use Rattle.view_meaning.proofs.Serials.{later_rows, fresh_rows}
use Rattle.view_meaning.proofs.laws.serials_keep_the_order_of_mounting.Goals as goal

pub returns-clause-later : goal.returns-clause-later
returns-clause-later c = λ items seen old id key fresh serial more before lt had none is. later_rows (old.rows id) (keys_mounted (mounted_again items seen old).parts id) before lt key fresh serial more had none is

pub returns-clause-order : goal.returns-clause-order
returns-clause-order c = λ items seen old id key other first second serial more before lt there also shorter none nor is too. fresh_rows (old.rows id) (keys_mounted (mounted_again items seen old).parts id) before lt key other first second serial more there also shorter none nor is too
