use Rattle.std.proofs.Common.{[], subst}
use Rattle.grammar.specs.Semantics.{Reads}
use Rattle.grammar.proofs.Once as once
use Rattle.grammar.proofs.laws.never_both.Goals as goal

pub returns : goal.returns
returns g c t h m right start first fits xs a e means bad =
    once.never_both t h m right bad.before bad.after bad.bad e fits (subst (λ l. Reads t m start first l [] a) bad.whole means) bad.refuses
