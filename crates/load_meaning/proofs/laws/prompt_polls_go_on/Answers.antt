use Rattle.load_meaning.proofs.Promptly.{one_more_promptly, all_of_them, all_polled}
use Rattle.load_meaning.proofs.laws.prompt_polls_go_on.Goals as goal

pub returns-clause-more : goal.returns-clause-more
returns-clause-more c = one_more_promptly

pub returns-clause-all : goal.returns-clause-all
returns-clause-all c = all_of_them

pub returns-clause-polled : goal.returns-clause-polled
returns-clause-polled c = all_polled
