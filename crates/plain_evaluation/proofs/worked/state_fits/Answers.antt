use Rattle.std.proofs.Common.{◌≡◌, ◌≤◌, ℕ, zero, suc, length, true, refl, arith}
use Rattle.std.specs.List.{list_all}
use Rattle.component_items.specs.Counts.{item_maximum, maximum_in}
use Rattle.plain_evaluation.specs.Held.{rows_held}
use Rattle.plain_evaluation.specs.Fits.{item_fits, store_held, keys_differ}
use Rattle.plain_evaluation.specs.Rows.{titles, titles_held}
use Rattle.plain_evaluation.proofs.Computes.{folds}
use Rattle.plain_evaluation.proofs.worked.state_fits.Goals as goal

most : maximum_in titles.items 0 ≡ 4
unfolding item_maximum
most = simp folds

fit : list_all (item_fits (store_held titles_held)) titles.items ≡ true
unfolding item_fits
fit = simp folds

apart : (id : ℕ) → keys_differ (rows_held titles_held id) ≡ true
apart zero = refl
apart (suc zero) = refl
apart (suc (suc zero)) = refl
apart (suc (suc (suc zero))) = refl
apart (suc (suc (suc (suc zero)))) = refl
apart (suc (suc (suc (suc (suc id))))) = refl

few : (id : ℕ) → length (rows_held titles_held id) ≤ maximum_in titles.items id
few zero = let m = most in omega arith
few (suc zero) = omega arith
few (suc (suc zero)) = omega arith
few (suc (suc (suc zero))) = omega arith
few (suc (suc (suc (suc zero)))) = omega arith
few (suc (suc (suc (suc (suc id))))) = omega arith

pub returns : goal.returns
returns c = record { stores = fit; keys = apart; few = few }
