use Rattle.grammar.proofs.Running as running
use Rattle.grammar.proofs.laws.running_tells.Goals as goal

pub returns-clause-read : goal.returns-clause-read
returns-clause-read g c t h m right start first fits n xs last is = running.read_means t h m right start first n xs last fits is

pub returns-clause-refused : goal.returns-clause-refused
returns-clause-refused g c t h m right start first fits n xs why is = running.refused_is_first_bad t h m right start first n xs why fits is
