use Rattle.std.proofs.Common.{◌≡◌, true, false, ◌&&◌, List, refl}
use Rattle.std.specs.List.{list_all}
use Rattle.grammar.specs.declared.symbol.Symbol.{Symbol}
use Rattle.grammar.specs.Table.{Table}
use Rattle.grammar.specs.Lookahead.{ListsAll, implies, follows}
use Rattle.grammar.specs.Descent.{rule_goes_down}
use Rattle.grammar.specs.Ends.{lacks, rule_lacks, is_apart}
use Rattle.grammar.proofs.Theory.{and_cases}
use Rattle.grammar.proofs.Tests.{right_from, listed, passes, implied, fits_alone, is_last_from}
use Rattle.grammar.proofs.laws.tests_suffice.Goals as goal

is_apart_at : {W R D K : Type 0} (t : Table W R D K) (end : W) (inner : List (Symbol W R D)) (rules : List R) (kinds : List K) → ListsAll kinds → is_apart t end inner rules kinds ≡ true
    → (k : K) → t.matches end k ≡ true → (lacks t k inner ≡ true) × (list_all (rule_lacks t k) rules ≡ true)
is_apart_at t end inner rules kinds all_kinds e k has =
    let both = lacks t k inner && list_all (rule_lacks t k) rules in
    let test = passes (λ k. implies (t.matches end k) (lacks t k inner && list_all (rule_lacks t k) rules)) kinds all_kinds e k in
    and_cases (lacks t k inner) (list_all (rule_lacks t k) rules) (implied (t.matches end k) both test has)

pub returns-clause-right : goal.returns-clause-right
returns-clause-right g c t h words rules kinds all_words all_rules all_kinds sampled predictive =
    right_from t h words rules kinds (listed words all_words) (listed rules all_rules) (listed kinds all_kinds) sampled predictive

pub returns-clause-fits : goal.returns-clause-fits
returns-clause-fits g c t h start kinds all_kinds e = fits_alone t h start (passes (λ k. follows t h start k false) kinds all_kinds e)

pub returns-clause-down : goal.returns-clause-down
returns-clause-down g c t h level rules all_rules e = passes (rule_goes_down t h level) rules all_rules e

pub returns-clause-end : goal.returns-clause-end
returns-clause-end g c t end inner rules kinds all_rules all_kinds e = record {
  closes = record { inner = inner; whole = refl };
  before = λ k has. (is_apart_at t end inner rules kinds all_kinds e k has).0;
  inside = λ k has r. passes (rule_lacks t k) rules all_rules (is_apart_at t end inner rules kinds all_kinds e k has).1 r;
}

pub returns-clause-last : goal.returns-clause-last
returns-clause-last g c t blocked end k inner rules all_rules before inside = is_last_from t blocked end k inner rules all_rules before inside
