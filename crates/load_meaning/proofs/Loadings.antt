-- One poll of a load.
use Rattle.std.proofs.Common.{◌≡◌, ◌↔◌, ℕ, ◌⊎◌, inl, inr, not, if◌then◌else◌, Bool, true, false, [], ◌∷◌, map, Option, Some, None, refl, sym, ap, ◌∙◌}
use Rattle.values.specs.declared.code.Code.{Code}
use Rattle.async_derived.specs.declared.loading.Loading.{Loading}
use Rattle.async_derived.specs.declared.loading.Polled.{Polled}
use Rattle.async_derived.specs.declared.loading.Polled.TheVariants.{Arrived, Waiting, Failed as Fault}
use Rattle.async_derived.specs.Loads.{is_key, keyed, after_ask, after_poll}
use Rattle.plain_evaluation.specs.Scratch.{has_arrived}
use Rattle.plain_evaluation.proofs.Places.{same_code, code_itself}
use Rattle.load_meaning.specs.Polls.{late_as}

-- ---- keys

pub key_is : (kept : Option Code) (key : Code) → is_key kept key ≡ true → kept ≡ Some key
key_is None key is = cc
key_is (Some code) key is = ap Some (same_code code key is)

pub is_the_key : (kept : Option Code) (key : Code) → kept ≡ Some key → is_key kept key ≡ true
is_the_key kept key same = ap (λ (k : Option Code). is_key k key) same ∙ code_itself key

pub not_the_key : (kept : Option Code) (key : Code) → is_key kept key ≡ false → kept ≡ Some key → ⊥
not_the_key kept key other same = let right = is_the_key kept key same in cc

pub arrived_key : (kept : Option Code) (key : Code) → has_arrived kept key ≡ is_key kept key
arrived_key None key = refl
arrived_key (Some code) key = refl

-- ---- what a poll leaves

-- what has arrived is the key that was asked for last
abbrev pub Stands : Loading → Type 0
Stands load = (key : Code) → load.arrived ≡ Some key → load.key ≡ Some key

pub keyed_key : (load : Loading) (key : Code) → (keyed load key).key ≡ Some key
keyed_key load key = at (is_key load.key key) refl
  where
    at : (b : Bool) → is_key load.key key ≡ b → (if b then load else record { key = Some key; arrived = None; asked = 0 }).key ≡ Some key
    at true is = key_is load.key key is
    at false is = refl

keyed_arrived : (load : Loading) (key : Code) → Stands load → ((keyed load key).arrived ≡ None) ⊎ ((keyed load key).arrived ≡ Some key)
keyed_arrived load key stands = at (is_key load.key key) refl
  where
    here : (arrived : Option Code) → load.arrived ≡ arrived → load.key ≡ Some key → (load.arrived ≡ None) ⊎ (load.arrived ≡ Some key)
    here None is last = inl is
    here (Some code) is last = let same : load.key ≡ Some code = stands code is in inr (is ∙ sym same ∙ last)

    at : (b : Bool) → is_key load.key key ≡ b → ((if b then load else record { key = Some key; arrived = None; asked = 0 }).arrived ≡ None) ⊎ ((if b then load else record { key = Some key; arrived = None; asked = 0 }).arrived ≡ Some key)
    at true is = here load.arrived refl (key_is load.key key is)
    at false is = inl refl

pub asked_key : (load : Loading) (key : Code) (came : Polled) → (after_ask load key came).key ≡ load.key
asked_key load key Arrived = refl
asked_key load key Waiting = refl
asked_key load key Fault = refl

asked_arrived : (load : Loading) (key : Code) (came : Polled) → (load.arrived ≡ None) ⊎ (load.arrived ≡ Some key) → ((after_ask load key came).arrived ≡ None) ⊎ ((after_ask load key came).arrived ≡ Some key)
asked_arrived load key Arrived before = inr refl
asked_arrived load key Waiting before = before
asked_arrived load key Fault before = before

-- what has arrived behind a poll is the key that it was polled with, if anything has
pub poll_arrived : (load : Loading) (key : Code) (came : Polled) → Stands load → ((after_poll load key came).arrived ≡ None) ⊎ ((after_poll load key came).arrived ≡ Some key)
poll_arrived load key came stands = at (is_key load.arrived key) refl
  where
    at : (b : Bool) → is_key load.arrived key ≡ b → ((if b then load else after_ask (keyed load key) key came).arrived ≡ None) ⊎ ((if b then load else after_ask (keyed load key) key came).arrived ≡ Some key)
    at true is = inr (key_is load.arrived key is)
    at false is = asked_arrived (keyed load key) key came (keyed_arrived load key stands)

pub poll_stands : (load : Loading) (key : Code) (came : Polled) → Stands load → Stands (after_poll load key came)
poll_stands load key came stands = at (is_key load.arrived key) refl
  where
    one : (last : Loading) → last.key ≡ Some key → (last.arrived ≡ None) ⊎ (last.arrived ≡ Some key) → Stands last
    one last mine (inl none) code is = cc
    one last mine (inr some) code is = mine ∙ sym some ∙ is

    at : (b : Bool) → is_key load.arrived key ≡ b → Stands (if b then load else after_ask (keyed load key) key came)
    at true is = stands
    at false is = one (after_ask (keyed load key) key came) (asked_key (keyed load key) key came ∙ keyed_key load key) (asked_arrived (keyed load key) key came (keyed_arrived load key stands))

-- a load whose key has arrived stays as it is
pub poll_stays : (load : Loading) (key : Code) (came : Polled) → load.arrived ≡ Some key → after_poll load key came ≡ load
poll_stays load key came is = ap (λ (b : Bool). if b then load else after_ask (keyed load key) key came) (is_the_key load.arrived key is)

-- ---- what is late

-- a load is late exactly where its key has not arrived
pub late_ids : (id : ℕ) (came : Polled) (arrived : Option Code) (key : Code) → (came ≡ Arrived) ↔ (arrived ≡ Some key) → map (λ l. l.0) (late_as id came) ≡ (if not (has_arrived arrived key) then id ∷ [] else [])
late_ids id came arrived key is = at came is
  where
    shown : (b : Bool) → has_arrived arrived key ≡ b → (if not b then id ∷ [] else []) ≡ (if not (has_arrived arrived key) then id ∷ [] else [])
    shown b same = ap (λ (c : Bool). if not c then id ∷ [] else []) (sym same)

    not_yet : (came : Polled) → (came ≡ Arrived → ⊥) → (came ≡ Arrived) ↔ (arrived ≡ Some key) → (b : Bool) → has_arrived arrived key ≡ b → id ∷ [] ≡ (if not (has_arrived arrived key) then id ∷ [] else [])
    not_yet came never is true same = absurd (never (is.1 (key_is arrived key (sym (arrived_key arrived key) ∙ same))))
    not_yet came never is false same = shown false same

    at : (came : Polled) → (came ≡ Arrived) ↔ (arrived ≡ Some key) → map (λ l. l.0) (late_as id came) ≡ (if not (has_arrived arrived key) then id ∷ [] else [])
    at Arrived is = shown true (arrived_key arrived key ∙ is_the_key arrived key (is.0 refl))
    at Waiting is = not_yet Waiting (λ same. cc) is (has_arrived arrived key) refl
    at Fault is = not_yet Fault (λ same. cc) is (has_arrived arrived key) refl
