use Rattle.std.proofs.Common.{ap}
use Rattle.view_meaning.specs.Mounted.{mounted_again}
use Rattle.view_meaning.specs.Parts.{keys_mounted}
use Rattle.view_meaning.specs.Serials.{rows_again}
use Rattle.view_meaning.proofs.Serials.{kept, fresh_serial, absent, behind_is}
use Rattle.view_meaning.proofs.laws.rows_have_their_serials.Goals as goal

pub returns-clause-kept : goal.returns-clause-kept
returns-clause-kept c = λ items seen old id key serial before there had. kept (old.rows id).rows (keys_mounted (mounted_again items seen old).parts id) (old.rows id).next key serial before there had

pub returns-clause-fresh : goal.returns-clause-fresh
returns-clause-fresh c = λ items seen old id key before most there none. fresh_serial (old.rows id).rows (keys_mounted (mounted_again items seen old).parts id) (old.rows id).next key before most there none

pub returns-clause-gone : goal.returns-clause-gone
returns-clause-gone c = λ items seen old id key none. absent (old.rows id).rows (keys_mounted (mounted_again items seen old).parts id) (old.rows id).next key none

pub returns-clause-count : goal.returns-clause-count
returns-clause-count c = λ items seen old id most. behind_is (old.rows id).rows (keys_mounted (mounted_again items seen old).parts id) (old.rows id).next most

pub returns-clause-unmounted : goal.returns-clause-unmounted
returns-clause-unmounted c = λ items seen old id none. ap (rows_again (old.rows id)) none
