use Rattle.script_meaning.proofs.KeptPaths as paths
use Rattle.script_meaning.proofs.laws.names_are_members.Goals as goal

pub returns : goal.returns
returns c = paths.names_are_members
