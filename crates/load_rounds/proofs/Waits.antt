-- Loads one after another, each of which arrives once those before it stand and it was asked often enough.
use Rattle.std.proofs.Common.{◌≡◌, ℕ, zero, suc, ◌+◌, ◌-◌, ◌^◌, ◌<◌, ◌≤◌, ◌⊎◌, inl, inr, if◌then◌else◌, Bool, true, false, Some, None, refl, sym, ap, subst, ◌∙◌, arith}
use Rattle.std.proofs.lemmas.Bool.{le-leb}
use Rattle.values.specs.declared.code.Code.{Code}
use Rattle.async_derived.specs.declared.loading.Loading.{Loading}
use Rattle.async_derived.specs.declared.loading.Polled.{Polled}
use Rattle.async_derived.specs.declared.loading.Polled.TheVariants.{Arrived, Waiting, Failed as Fault}
use Rattle.async_derived.specs.Loads.{is_key, keyed, next_asked, after_ask, after_poll, prompt_ask, prompt_poll}
use Rattle.load_meaning.proofs.Loadings.{key_is, is_the_key, not_the_key, keyed_key, asked_key, poll_stays}

-- ---- one load

-- it has arrived with the key, or was asked for it so often
abbrev Tried : Code → ℕ → Loading → Type 0
Tried key times load = (load.arrived ≡ Some key) ⊎ (times ≤ (keyed load key).asked)

asked_count : (load : Loading) (key : Code) (came : Polled) → (after_ask load key came).asked ≡ next_asked load.asked
asked_count load key Arrived = refl
asked_count load key Waiting = refl
asked_count load key Fault = refl

counted : (times asked : ℕ) → times < 2 ^ 32 - 1 → times ≤ asked → suc times ≤ next_asked asked
counted times asked few le = omega arith

tried_more : (load : Loading) (key : Code) (came : Polled) (times : ℕ) → times < 2 ^ 32 - 1 → Tried key times load → Tried key (suc times) (after_poll load key came)
tried_more load key came times few tried = at (is_key load.arrived key) refl tried
  where
    same_key : keyed (after_ask (keyed load key) key came) key ≡ after_ask (keyed load key) key came
    same_key = ap (λ (b : Bool). if b then after_ask (keyed load key) key came else record { key = Some key; arrived = None; asked = 0 }) (is_the_key (after_ask (keyed load key) key came).key key (asked_key (keyed load key) key came ∙ keyed_key load key))

    at : (b : Bool) → is_key load.arrived key ≡ b → Tried key times load → Tried key (suc times) (if b then load else after_ask (keyed load key) key came)
    at true is tried = inl (key_is load.arrived key is)
    at false is (inl arrived) = absurd (not_the_key load.arrived key is arrived)
    at false is (inr le) =
        let more = counted times (keyed load key).asked few le in
        let count : (keyed (after_ask (keyed load key) key came) key).asked ≡ next_asked (keyed load key).asked = ap (λ (l : Loading). l.asked) same_key ∙ asked_count (keyed load key) key came in
        inr (subst (λ (n : ℕ). suc times ≤ n) (sym count) more)

tried_enough : (load : Loading) (key : Code) (after : ℕ) → Tried key after load → (after_poll load key (prompt_poll load key after)).arrived ≡ Some key
tried_enough load key after tried = at (is_key load.arrived key) refl tried
  where
    at : (b : Bool) → is_key load.arrived key ≡ b → Tried key after load → (if b then load else after_ask (keyed load key) key (if b then Arrived else prompt_ask after (keyed load key).asked)).arrived ≡ Some key
    at true is tried = key_is load.arrived key is
    at false is (inl arrived) = absurd (not_the_key load.arrived key is arrived)
    at false is (inr le) = ap (λ (b : Bool). (after_ask (keyed load key) key (if b then Arrived else Waiting)).arrived) (le-leb after (keyed load key).asked le)

below : (a b : ℕ) → a < suc b → (a < b) ⊎ (a ≡ b)
below zero zero lt = inr refl
below zero (suc b) lt = inl (omega arith)
below (suc a) zero lt = absurd (omega arith)
below (suc a) (suc b) lt = at (below a b (omega arith))
  where
    at : (a < b) ⊎ (a ≡ b) → (suc a < suc b) ⊎ (suc a ≡ suc b)
    at (inl less) = inl (omega arith)
    at (inr same) = inr (ap suc same)

-- ---- loads in a row: how far each is behind each round, and the value of its key then

pub record AreRounds (count : ℕ) (after : ℕ → ℕ) (due : ℕ → ℕ) (live : ℕ → Bool) (loading : ℕ → ℕ → Loading) (key : ℕ → ℕ → Code) : Type 0 where
  -- each live one is polled in each round with its key
  pub polled : (round place : ℕ) → place < count → live place ≡ true → loading (suc round) place ≡ after_poll (loading round place) (key (suc round) place) (prompt_poll (loading round place) (key (suc round) place) (after place))
  -- its key stays where those before it have the same keys
  pub keys : (round other place : ℕ) → place < count → live place ≡ true → ((earlier : ℕ) → earlier < place → live earlier ≡ true → (loading round earlier).arrived ≡ (loading other earlier).arrived) → key round place ≡ key other place
  -- the round behind which all before a place stand
  pub first : due 0 ≡ 1
  pub next : (place : ℕ) → place < count → due (suc place) ≡ due place + after place
  pub few : due count ≤ 2 ^ 32

module _ (count : ℕ) (after : ℕ → ℕ) (due : ℕ → ℕ) (live : ℕ → Bool) (loading : ℕ → ℕ → Loading) (key : ℕ → ℕ → Code) (rounds : AreRounds count after due live loading key) where
  due_rises : (steps place : ℕ) → place + steps ≤ count → due place ≤ due (place + steps)
  due_rises zero place le = let same : due (place + zero) ≡ due place = ap due (omega arith) in omega arith
  due_rises (suc steps) place le =
      let before = due_rises steps place (omega arith) in
      let more = rounds.next (place + steps) (omega arith) in
      let same : due (place + suc steps) ≡ due (suc (place + steps)) = ap due (omega arith) in
      omega arith

  due_some : (place : ℕ) → place ≤ count → (before : ℕ) × (due place ≡ suc before)
  due_some place le = at (due place) refl
    where
      at : (d : ℕ) → due place ≡ d → (before : ℕ) × (due place ≡ suc before)
      at zero is =
          let rises = due_rises place 0 (omega arith) in
          let same : due (0 + place) ≡ due place = ap due (omega arith) in
          let start = rounds.first in
          absurd (omega arith)
      at (suc before) is = (before, is)

  after_few : (place : ℕ) → place < count → after place < 2 ^ 32
  after_few place lt =
      let one = due_some place (omega arith) in
      let is = one.1 in
      let more = rounds.next place lt in
      let parts : place + 1 + (count - (place + 1)) ≡ count = omega arith in
      let rises = due_rises (count - (place + 1)) (place + 1) (omega arith) in
      let last : due (place + 1 + (count - (place + 1))) ≡ due count = ap due parts in
      let here : due (place + 1) ≡ due (suc place) = ap due (omega arith) in
      let most = rounds.few in
      omega arith

  -- from the round that is due on, those before a place have their last keys
  abbrev StandBefore : ℕ → Type 0
  StandBefore place = (earlier : ℕ) → earlier < place → live earlier ≡ true → (last : Code) × ((round : ℕ) → due place ≤ round → ((loading round earlier).arrived ≡ Some last) × (key round earlier ≡ last))

  module _ (place : ℕ) (within : place < count) (lives : live place ≡ true) (stand : StandBefore place) where
    abbrev last : Code
    last = key (due place) place

    key_last : (round : ℕ) → due place ≤ round → key round place ≡ last
    key_last round ge = rounds.keys round (due place) place within lives (λ earlier lt is. ((stand earlier lt is).1 round ge).0 ∙ sym ((stand earlier lt is).1 (due place) (omega arith)).0)

    polled_last : (round : ℕ) → due place ≤ suc round → loading (suc round) place ≡ after_poll (loading round place) last (prompt_poll (loading round place) last (after place))
    polled_last round ge = rounds.polled round place within lives ∙ ap (λ (k : Code). after_poll (loading round place) k (prompt_poll (loading round place) k (after place))) (key_last (suc round) ge)

    tried : (before : ℕ) → due place ≡ suc before → (times : ℕ) → times ≤ after place → Tried last times (loading (before + times) place)
    tried before is zero le = inr (omega arith)
    tried before is (suc times) le =
        let few = after_few place within in
        let so_far = tried before is times (omega arith) in
        let more = tried_more (loading (before + times) place) last (prompt_poll (loading (before + times) place) last (after place)) times (omega arith) so_far in
        let poll = polled_last (before + times) (omega (arith, is)) in
        let same : suc (before + times) ≡ before + suc times = omega arith in
        subst (λ (round : ℕ). Tried last (suc times) (loading round place)) same (subst (Tried last (suc times)) (sym poll) more)

    arrives : (loading (due (suc place)) place).arrived ≡ Some last
    arrives =
        let one = due_some place (omega arith) in
        let before = one.0 in
        let enough = tried_enough (loading (before + after place) place) last (after place) (tried before one.1 (after place) (omega arith)) in
        let is = one.1 in
        let next = rounds.next place within in
        let poll = polled_last (before + after place) (omega (arith, is)) in
        let same : due (suc place) ≡ suc (before + after place) = omega (arith, is, next) in
        ap (λ (round : ℕ). (loading round place).arrived) same ∙ ap (λ (l : Loading). l.arrived) poll ∙ enough

    stays : (steps : ℕ) → (loading (due (suc place) + steps) place).arrived ≡ Some last
    stays zero = ap (λ (round : ℕ). (loading round place).arrived) {x = due (suc place) + zero} {y = due (suc place)} (omega arith) ∙ arrives
    stays (suc steps) =
        let before = stays steps in
        let next = rounds.next place within in
        let poll = polled_last (due (suc place) + steps) (omega (arith, next)) in
        ap (λ (round : ℕ). (loading round place).arrived) {x = due (suc place) + suc steps} {y = suc (due (suc place) + steps)} (omega arith)
        ∙ ap (λ (l : Loading). l.arrived) (poll ∙ poll_stays (loading (due (suc place) + steps) place) last (prompt_poll (loading (due (suc place) + steps) place) last (after place)) before)
        ∙ before

    stands : (round : ℕ) → due (suc place) ≤ round → ((loading round place).arrived ≡ Some last) × (key round place ≡ last)
    stands round ge =
        let next = rounds.next place within in
        (ap (λ (n : ℕ). (loading n place).arrived) {x = round} {y = due (suc place) + (round - due (suc place))} (omega arith) ∙ stays (round - due (suc place)), key_last round (omega (arith, next)))

  pub stand_before : (place : ℕ) → place ≤ count → StandBefore place
  stand_before zero le earlier lt is = absurd (omega arith)
  stand_before (suc place) le earlier lt is = at (below earlier place lt) (stand_before place (omega arith))
    where
      at : (earlier < place) ⊎ (earlier ≡ place) → StandBefore place → (last : Code) × ((round : ℕ) → due (suc place) ≤ round → ((loading round earlier).arrived ≡ Some last) × (key round earlier ≡ last))
      at (inl before) stand =
          let one = stand earlier before is in
          let next = rounds.next place (omega arith) in
          (one.0, λ round ge. one.1 round (omega (arith, next)))
      at (inr here) stand =
          let lives : live place ≡ true = ap live (sym here) ∙ is in
          subst (λ (p : ℕ). (last : Code) × ((round : ℕ) → due (suc place) ≤ round → ((loading round p).arrived ≡ Some last) × (key round p ≡ last))) (sym here) (last place (omega arith) lives stand, stands place (omega arith) lives stand)

  -- each live load has arrived and stands
  pub all_stand : (place : ℕ) → place < count → live place ≡ true → (round : ℕ) → due count ≤ round → (loading round place).arrived ≡ Some (key round place)
  all_stand place lt is round ge =
      let both = (stand_before count (omega arith) place lt is).1 round ge in
      both.0 ∙ ap Some (sym both.1)
