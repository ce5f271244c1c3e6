-- Polls in worked rows.
use Rattle.std.proofs.Common.{◌≡◌, ℕ, if◌then◌else◌, Bool, List, [], ◌∷◌, ◌++◌, map, Option, Some, None, true, refl, sym, ap, subst, ◌∙◌, arith}
use Rattle.std.specs.Prelude.{fold}
use Rattle.std.specs.List.{zip}
use Rattle.values.specs.declared.code.Code.{Code}
use Rattle.values.specs.declared.code.Code.TheVariants.{Word}
use Rattle.values.specs.declared.expr.Expr.TheVariants.{Read}
use Rattle.values.specs.declared.plan.Kind.TheVariants as kind
use Rattle.component_items.specs.Ids.{item_owners}
use Rattle.component_items.specs.declared.component.Component.{Component}
use Rattle.outside.specs.Asks.{FallibleAnswers}
use Rattle.outside.specs.Fallible.{Fallible}
use Rattle.async_derived.specs.declared.loading.Loading.{Loading}
use Rattle.async_derived.specs.declared.loading.Polled.TheVariants.{Failed as Fault}
use Rattle.async_derived.specs.Loads.{after_poll, prompt_poll, first_load}
use Rattle.plain_evaluation.specs.Changed.{with_arrived}
use Rattle.plain_evaluation.specs.Held.{Held, item_first, is_live, first_held}
use Rattle.plain_evaluation.specs.Keyed.{item_keyed}
use Rattle.plain_evaluation.specs.Lookup.{found_in}
use Rattle.plain_evaluation.specs.Origins.{Told, nothing_told, source, loads, derives, Origin, no_origin, top_around, tell_item, tell_items}
use Rattle.plain_evaluation.specs.Rows.{number, who, who_held, mails, mails_held}
use Rattle.plain_evaluation.specs.Written.{write_item, state_of, pairs_among}
use Rattle.plain_evaluation.proofs.Computes.{computes}
use Rattle.load_table.specs.Loads.{LoadOf, item_loads, loads_in, is_live_load}
use Rattle.load_meaning.specs.declared.late.Late.TheVariants.{Failed}
use Rattle.load_meaning.specs.Polls.{Progress, key_of, first_loadings, IsPolled, ArePolled, none, polled, AllPolled, promptly_one, all_promptly}

abbrev pub at_top : ℕ → Told → ℕ × Origin
at_top id told = (id, record { around = top_around; told = told })

-- one load that is live, polled by a prompt loader
pub one_promptly : (component : Component) (held : Held) (loadings : List Loading) (load : LoadOf) (old : Loading) (key : Code) → is_live_load component (state_of held) load ≡ true → key_of component held load ≡ key → promptly_one component (record { held = held; loadings = loadings }) (load, old) ≡ record { held = with_arrived held load.id (after_poll old key (prompt_poll old key load.after)).arrived; loadings = loadings ++ after_poll old key (prompt_poll old key load.after) ∷ [] }
one_promptly component held loadings load old key lives is =
    ap (λ (b : Bool). if b then polled_with (key_of component held load) else record { held = held; loadings = loadings ++ old ∷ [] }) lives
    ∙ ap polled_with is
  where
    polled_with : Code → Progress
    polled_with k = record { held = with_arrived held load.id (after_poll old k (prompt_poll old k load.after)).arrived; loadings = loadings ++ after_poll old k (prompt_poll old k load.after) ∷ [] }

-- ---- one load

abbrev who_load : LoadOf
who_load = record { id = 2; resource = 0; after = 2; pairs = (number 1, Word 2) ∷ [] }

who_loads : loads_in who ≡ who_load ∷ []
unfolding item_loads
who_loads = simp computes

who_first : first_held who ≡ who_held None (number 1)
unfolding item_first item_owners
who_first = simp computes

who_told : tell_items (pairs_among who.items) who.items top_around ≡ at_top 0 nothing_told ∷ at_top 1 (source kind.Signal) ∷ at_top 2 (loads ((number 1, Word 2) ∷ [])) ∷ at_top 3 (derives kind.Memo (Read 1)) ∷ at_top 4 (derives kind.Memo (Read 2)) ∷ []
unfolding tell_item
who_told = simp computes

who_lives : (key : Option Code) (id : Code) → is_live_load who (state_of (who_held key id)) who_load ≡ true
who_lives key id = ap (λ (told : List (ℕ × Origin)). is_live (who_held key id) (found_in no_origin told 2).around.owner) who_told

who_key : (key : Option Code) (id : Code) → key_of who (who_held key id) who_load ≡ id
unfolding write_item item_keyed
who_key key id = simp computes

pub who_round : (key : Option Code) (id : Code) (old : Loading) → all_promptly who (record { held = who_held key id; loadings = old ∷ [] }) ≡ record { held = who_held (after_poll old id (prompt_poll old id 2)).arrived id; loadings = after_poll old id (prompt_poll old id 2) ∷ [] }
who_round key id old =
    ap (λ (all : List LoadOf). fold (promptly_one who) (record { held = who_held key id; loadings = [] }) (zip all (old ∷ []))) who_loads
    ∙ one_promptly who (who_held key id) [] who_load old id (who_lives key id) (who_key key id)

abbrev pub who_start : Progress
who_start = record { held = who_held None (number 1); loadings = first_load ∷ [] }

pub who_starts : ◌≡◌ {A = Progress} (record { held = first_held who; loadings = first_loadings who }) who_start
who_starts = λ i. record { held = who_first i; loadings = loadings i }
  where
    loadings : first_loadings who ≡ first_load ∷ []
    loadings = ap (map (λ (load : LoadOf). first_load)) who_loads

-- its first call fails
pub who_fails : AllPolled FallibleAnswers who (record { held = first_held who; loadings = first_loadings who }) (record { held = who_held None (number 1); loadings = record { key = Some (number 1); arrived = None; asked = 1 } ∷ [] }) ((2, Failed) ∷ []) (record { fails = 1 ∷ []; calls = 0; not_yets = 0; faults = 0 }) (record { fails = 1 ∷ []; calls = 1; not_yets = 0; faults = 1 })
who_fails =
    subst (λ (first : Progress). AllPolled FallibleAnswers who first now ((2, Failed) ∷ []) before after) (sym who_starts)
    (subst (λ (all : List LoadOf). ArePolled FallibleAnswers who who_start before all now ((2, Failed) ∷ []) after) (sym who_loads)
    (polled who_load first_load asked Fault after none (who_lives None (number 1)) refl (subst (λ (key : Code). IsPolled FallibleAnswers who_load key first_load asked Fault before after) (sym (who_key None (number 1))) one)))
  where
    before : Fallible
    before = record { fails = 1 ∷ []; calls = 0; not_yets = 0; faults = 0 }

    after : Fallible
    after = record { fails = 1 ∷ []; calls = 1; not_yets = 0; faults = 1 }

    asked : Loading
    asked = record { key = Some (number 1); arrived = None; asked = 1 }

    now : Progress
    now = record { held = who_held None (number 1); loadings = asked ∷ [] }

    one : IsPolled FallibleAnswers who_load (number 1) first_load asked Fault before after
    one = record {
      state = refl;
      arrived = ((λ same. cc), (λ same. cc));
      unasked = λ same. cc;
      asked = λ never. (((λ same. (0, omega arith, refl)), (λ fails. refl)), (λ well. absurd (well (0, omega arith, refl))), refl);
    }

-- ---- two loads

abbrev user_load : LoadOf
user_load = record { id = 3; resource = 0; after = 0; pairs = (number 1, number 7) ∷ [] }

abbrev mail_load : LoadOf
mail_load = record { id = 5; resource = 1; after = 0; pairs = (number 7, Word 3) ∷ [] }

mails_loads : loads_in mails ≡ user_load ∷ mail_load ∷ []
unfolding item_loads
mails_loads = simp computes

mails_first : first_held mails ≡ mails_held None None
unfolding item_first item_owners
mails_first = simp computes

mails_told : tell_items (pairs_among mails.items) mails.items top_around ≡ at_top 0 nothing_told ∷ at_top 1 nothing_told ∷ at_top 2 (source kind.Signal) ∷ at_top 3 (loads ((number 1, number 7) ∷ [])) ∷ at_top 4 (derives kind.Memo (Read 2)) ∷ at_top 5 (loads ((number 7, Word 3) ∷ [])) ∷ at_top 6 (derives kind.Memo (Read 3)) ∷ at_top 7 (derives kind.Memo (Read 5)) ∷ []
unfolding tell_item
mails_told = simp computes

mails_live : (user mail : Option Code) (load : LoadOf) → (found_in no_origin (tell_items (pairs_among mails.items) mails.items top_around) load.id).around.owner ≡ 0 → is_live_load mails (state_of (mails_held user mail)) load ≡ true
mails_live user mail load top = ap (is_live (mails_held user mail)) top

user_key : key_of mails (mails_held None None) user_load ≡ number 1
unfolding write_item item_keyed
user_key = simp computes

mail_key : key_of mails (mails_held (Some (number 1)) None) mail_load ≡ number 7
unfolding write_item item_keyed
mail_key = simp computes

pub mails_starts : ◌≡◌ {A = Progress} (record { held = first_held mails; loadings = first_loadings mails }) (record { held = mails_held None None; loadings = first_load ∷ first_load ∷ [] })
mails_starts = λ i. record { held = mails_first i; loadings = loadings i }
  where
    loadings : first_loadings mails ≡ first_load ∷ first_load ∷ []
    loadings = ap (map (λ (load : LoadOf). first_load)) mails_loads

pub mails_round : all_promptly mails (record { held = mails_held None None; loadings = first_load ∷ first_load ∷ [] }) ≡ record { held = mails_held (Some (number 1)) (Some (number 7)); loadings = record { key = Some (number 1); arrived = Some (number 1); asked = 1 } ∷ record { key = Some (number 7); arrived = Some (number 7); asked = 1 } ∷ [] }
mails_round =
    ap (λ (all : List LoadOf). fold (promptly_one mails) (record { held = mails_held None None; loadings = [] }) (zip all (first_load ∷ first_load ∷ []))) mails_loads
    ∙ ap (λ (now : Progress). promptly_one mails now (mail_load, first_load)) (one_promptly mails (mails_held None None) [] user_load first_load (number 1) (mails_live None None user_load (ap (λ (told : List (ℕ × Origin)). (found_in no_origin told 3).around.owner) mails_told)) user_key)
    ∙ one_promptly mails (mails_held (Some (number 1)) None) (record { key = Some (number 1); arrived = Some (number 1); asked = 1 } ∷ []) mail_load first_load (number 7) (mails_live (Some (number 1)) None mail_load (ap (λ (told : List (ℕ × Origin)). (found_in no_origin told 5).around.owner) mails_told)) mail_key
