use Rattle.grammar.proofs.Theory as theory
use Rattle.grammar.proofs.laws.lookahead_decides.Goals as goal

pub returns-clause-chosen : goal.returns-clause-chosen
returns-clause-chosen g c t h right r i body rest k ks fits at d = theory.choice_is t h right r i body rest k ks fits at d

pub returns-clause-followed : goal.returns-clause-followed
returns-clause-followed g c t h right s k ks fits d = theory.steps t h right d fits

pub returns-clause-never_misled : goal.returns-clause-never_misled
returns-clause-never_misled g c t h right s out k go = theory.begins_from t h right go
