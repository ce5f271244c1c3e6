-- Rounds of polls of three loads in a chain.
use Rattle.std.proofs.Common.{◌≡◌, ℕ, List, [], ◌∷◌, map, Option, Some, None, true, refl, ap, ◌∙◌}
use Rattle.std.specs.Prelude.{fold}
use Rattle.std.specs.List.{zip}
use Rattle.values.specs.declared.code.Code.{Code}
use Rattle.values.specs.declared.code.Code.TheVariants.{Empty}
use Rattle.values.specs.declared.expr.Expr.TheVariants.{Read}
use Rattle.values.specs.declared.plan.Kind.TheVariants as kind
use Rattle.component_items.specs.Ids.{item_owners}
use Rattle.async_derived.specs.declared.loading.Loading.{Loading}
use Rattle.async_derived.specs.Loads.{after_poll, prompt_poll, first_load}
use Rattle.plain_evaluation.specs.Held.{item_first, is_live, first_held}
use Rattle.plain_evaluation.specs.Keyed.{item_keyed}
use Rattle.plain_evaluation.specs.Lookup.{found_in}
use Rattle.plain_evaluation.specs.Origins.{nothing_told, source, loads, derives, Origin, no_origin, top_around, tell_item, tell_items}
use Rattle.plain_evaluation.specs.Rows.{number}
use Rattle.plain_evaluation.specs.Scratch.{load_value, pending}
use Rattle.plain_evaluation.specs.Written.{write_item, state_of, pairs_among}
use Rattle.plain_evaluation.proofs.Computes.{computes}
use Rattle.load_table.specs.Loads.{LoadOf, item_loads, loads_in, is_live_load}
use Rattle.load_meaning.specs.Polls.{Progress, key_of, first_loadings, promptly_one, all_promptly, enough_rounds}
use Rattle.load_meaning.proofs.Rows.{at_top, one_promptly}
use Rattle.load_rounds.specs.Rows.{chain, chain_held}

abbrev x_pairs : List (Code × Code)
x_pairs = (number 1, number 2) ∷ []

abbrev y_pairs : List (Code × Code)
y_pairs = (number 2, number 3) ∷ []

abbrev z_pairs : List (Code × Code)
z_pairs = (number 3, number 4) ∷ []

abbrev x_load : LoadOf
x_load = record { id = 4; resource = 0; after = 1; pairs = x_pairs }

abbrev y_load : LoadOf
y_load = record { id = 6; resource = 1; after = 0; pairs = y_pairs }

abbrev z_load : LoadOf
z_load = record { id = 8; resource = 2; after = 2; pairs = z_pairs }

chain_loads : loads_in chain ≡ x_load ∷ y_load ∷ z_load ∷ []
unfolding item_loads
chain_loads = simp computes

chain_first : first_held chain ≡ chain_held None None None
unfolding item_first item_owners
chain_first = simp computes

chain_told : tell_items (pairs_among chain.items) chain.items top_around ≡ at_top 0 nothing_told ∷ at_top 1 nothing_told ∷ at_top 2 nothing_told ∷ at_top 3 (source kind.Signal) ∷ at_top 4 (loads x_pairs) ∷ at_top 5 (derives kind.Memo (Read 3)) ∷ at_top 6 (loads y_pairs) ∷ at_top 7 (derives kind.Memo (Read 4)) ∷ at_top 8 (loads z_pairs) ∷ at_top 9 (derives kind.Memo (Read 6)) ∷ at_top 10 (derives kind.Memo (Read 8)) ∷ []
unfolding tell_item
chain_told = simp computes

x_key : (x y z : Option Code) → key_of chain (chain_held x y z) x_load ≡ number 1
unfolding write_item item_keyed
x_key x y z = simp computes

y_key : (x y z : Option Code) → key_of chain (chain_held x y z) y_load ≡ load_value x_pairs x (number 1)
unfolding write_item item_keyed
y_key x y z = simp computes

z_key : (x y z : Option Code) → key_of chain (chain_held x y z) z_load ≡ load_value y_pairs y (load_value x_pairs x (number 1))
unfolding write_item item_keyed
z_key x y z = simp computes

x_lives : (x y z : Option Code) → is_live_load chain (state_of (chain_held x y z)) x_load ≡ true
x_lives x y z = ap (λ (told : List (ℕ × Origin)). is_live (chain_held x y z) (found_in no_origin told 4).around.owner) chain_told

y_lives : (x y z : Option Code) → is_live_load chain (state_of (chain_held x y z)) y_load ≡ true
y_lives x y z = ap (λ (told : List (ℕ × Origin)). is_live (chain_held x y z) (found_in no_origin told 6).around.owner) chain_told

z_lives : (x y z : Option Code) → is_live_load chain (state_of (chain_held x y z)) z_load ≡ true
z_lives x y z = ap (λ (told : List (ℕ × Origin)). is_live (chain_held x y z) (found_in no_origin told 8).around.owner) chain_told

-- a load after one more poll
abbrev next : Loading → Code → ℕ → Loading
next load key after = after_poll load key (prompt_poll load key after)

abbrev chain_at : Loading → Loading → Loading → Progress
chain_at a b c = record { held = chain_held a.arrived b.arrived c.arrived; loadings = a ∷ b ∷ c ∷ [] }

-- one round, where this is how far each load is and then comes to
one_round : (a b c last_a last_b last_c : Loading) → next a (number 1) 1 ≡ last_a → next b (load_value x_pairs last_a.arrived (number 1)) 0 ≡ last_b → next c (load_value y_pairs last_b.arrived (load_value x_pairs last_a.arrived (number 1))) 2 ≡ last_c → all_promptly chain (chain_at a b c) ≡ chain_at last_a last_b last_c
one_round a b c last_a last_b last_c is_a is_b is_c =
    ap (λ (all : List LoadOf). fold (promptly_one chain) (record { held = chain_held a.arrived b.arrived c.arrived; loadings = [] }) (zip all (a ∷ b ∷ c ∷ []))) chain_loads
    ∙ ap (λ (now : Progress). promptly_one chain (promptly_one chain now (y_load, b)) (z_load, c)) first
    ∙ ap (λ (now : Progress). promptly_one chain now (z_load, c)) second
    ∙ third
  where
    first : promptly_one chain (record { held = chain_held a.arrived b.arrived c.arrived; loadings = [] }) (x_load, a) ≡ record { held = chain_held last_a.arrived b.arrived c.arrived; loadings = last_a ∷ [] }
    first = one_promptly chain (chain_held a.arrived b.arrived c.arrived) [] x_load a (number 1) (x_lives a.arrived b.arrived c.arrived) (x_key a.arrived b.arrived c.arrived) ∙ ap (λ (l : Loading). record { held = chain_held l.arrived b.arrived c.arrived; loadings = l ∷ [] }) is_a

    second : promptly_one chain (record { held = chain_held last_a.arrived b.arrived c.arrived; loadings = last_a ∷ [] }) (y_load, b) ≡ record { held = chain_held last_a.arrived last_b.arrived c.arrived; loadings = last_a ∷ last_b ∷ [] }
    second = one_promptly chain (chain_held last_a.arrived b.arrived c.arrived) (last_a ∷ []) y_load b (load_value x_pairs last_a.arrived (number 1)) (y_lives last_a.arrived b.arrived c.arrived) (y_key last_a.arrived b.arrived c.arrived) ∙ ap (λ (l : Loading). record { held = chain_held last_a.arrived l.arrived c.arrived; loadings = last_a ∷ l ∷ [] }) is_b

    third : promptly_one chain (record { held = chain_held last_a.arrived last_b.arrived c.arrived; loadings = last_a ∷ last_b ∷ [] }) (z_load, c) ≡ chain_at last_a last_b last_c
    third = one_promptly chain (chain_held last_a.arrived last_b.arrived c.arrived) (last_a ∷ last_b ∷ []) z_load c (load_value y_pairs last_b.arrived (load_value x_pairs last_a.arrived (number 1))) (z_lives last_a.arrived last_b.arrived c.arrived) (z_key last_a.arrived last_b.arrived c.arrived) ∙ ap (λ (l : Loading). record { held = chain_held last_a.arrived last_b.arrived l.arrived; loadings = last_a ∷ last_b ∷ l ∷ [] }) is_c

abbrev waits : Code → ℕ → Loading
waits key asked = record { key = Some key; arrived = None; asked = asked }

abbrev here : Code → ℕ → Loading
here key asked = record { key = Some key; arrived = Some key; asked = asked }

abbrev pub chain_start : Progress
chain_start = chain_at first_load first_load first_load

pub chain_starts : ◌≡◌ {A = Progress} (record { held = first_held chain; loadings = first_loadings chain }) chain_start
chain_starts = λ i. record { held = chain_first i; loadings = loadings i }
  where
    loadings : first_loadings chain ≡ first_load ∷ first_load ∷ first_load ∷ []
    loadings = ap (map (λ (load : LoadOf). first_load)) chain_loads

-- where the value of its key isn't there yet, the key is empty
after_one : all_promptly chain chain_start ≡ chain_at (waits (number 1) 1) (here Empty 1) (waits Empty 1)
after_one = one_round first_load first_load first_load (waits (number 1) 1) (here Empty 1) (waits Empty 1) refl refl refl

after_two : all_promptly chain (all_promptly chain chain_start) ≡ chain_at (here (number 1) 2) (here (number 2) 1) (waits (number 3) 1)
after_two = ap (all_promptly chain) after_one ∙ one_round (waits (number 1) 1) (here Empty 1) (waits Empty 1) (here (number 1) 2) (here (number 2) 1) (waits (number 3) 1) refl refl refl

pub after_three : all_promptly chain (all_promptly chain (all_promptly chain chain_start)) ≡ chain_at (here (number 1) 2) (here (number 2) 1) (waits (number 3) 2)
after_three = ap (all_promptly chain) after_two ∙ one_round (here (number 1) 2) (here (number 2) 1) (waits (number 3) 1) (here (number 1) 2) (here (number 2) 1) (waits (number 3) 2) refl refl refl

pub after_four : all_promptly chain (all_promptly chain (all_promptly chain (all_promptly chain chain_start))) ≡ chain_at (here (number 1) 2) (here (number 2) 1) (here (number 3) 3)
after_four = ap (all_promptly chain) after_three ∙ one_round (here (number 1) 2) (here (number 2) 1) (waits (number 3) 2) (here (number 1) 2) (here (number 2) 1) (here (number 3) 3) refl refl refl

pub last_pending : pending chain (chain_held (Some (number 1)) (Some (number 2)) None) ≡ 8 ∷ []
unfolding write_item item_keyed
last_pending = simp computes

pub none_pending : pending chain (chain_held (Some (number 1)) (Some (number 2)) (Some (number 3))) ≡ []
unfolding write_item item_keyed
none_pending = simp computes

pub four_enough : enough_rounds chain ≡ 4
unfolding item_loads
four_enough = simp computes
