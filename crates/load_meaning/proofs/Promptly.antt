-- Polls of a prompt loader.
use Rattle.std.proofs.Common.{◌≡◌, ◌↔◌, ℕ, zero, suc, ◌+◌, if◌then◌else◌, nat_le, Bool, true, false, List, [], ◌∷◌, ◌++◌, length, take, slice_get, Some, None, refl, sym, ap, subst, ◌∙◌, append_assoc, arith, length-append}
use Rattle.std.specs.Prelude.{fold}
use Rattle.std.specs.List.{zip}
use Rattle.std.proofs.lemmas.List.{append-nil}
use Rattle.values.specs.declared.code.Code.{Code}
use Rattle.component_items.specs.declared.component.Component.{Component}
use Rattle.outside.specs.Prompt.{prompt_arrival}
use Rattle.outside.specs.declared.traits.Arrival.TheVariants.{Ready, NotYet}
use Rattle.async_derived.specs.declared.loading.Loading.{Loading}
use Rattle.async_derived.specs.declared.loading.Polled.{Polled}
use Rattle.async_derived.specs.declared.loading.Polled.TheVariants.{Arrived, Waiting, Failed as Fault}
use Rattle.async_derived.specs.Loads.{is_key, keyed, after_ask, after_poll, answer_of, prompt_ask, prompt_poll}
use Rattle.plain_evaluation.specs.Changed.{with_arrived}
use Rattle.plain_evaluation.specs.Written.{state_of}
use Rattle.load_table.specs.Loads.{LoadOf, loads_in, is_live_load}
use Rattle.load_meaning.specs.declared.late.Late.{Late}
use Rattle.load_meaning.specs.Polls.{Progress, key_of, late_as, IsPolled, ArePolled, none, passed, polled, AllPolled, AnswersPromptly, promptly_one, all_promptly, some_promptly}
use Rattle.load_meaning.proofs.Loadings.{key_is, not_the_key, poll_stays}
use Rattle.load_meaning.proofs.Polls.{seam}

-- ---- one poll

not_keyed : (load : Loading) (key : Code) → is_key load.arrived key ≡ false → (keyed load key).arrived ≡ Some key → ⊥
not_keyed load key other is = at (is_key load.key key) is
  where
    at : (b : Bool) → (if b then load else record { key = Some key; arrived = None; asked = 0 }).arrived ≡ Some key → ⊥
    at true same = not_the_key load.arrived key other same
    at false same = cc

-- a prompt loader's answer, and what came of the poll
answer_is : (b : Bool) → answer_of (if b then Arrived else Waiting) ≡ (if b then Ready else NotYet)
answer_is true = refl
answer_is false = refl

came_of : (came : Polled) (b : Bool) → answer_of came ≡ (if b then Ready else NotYet) → came ≡ (if b then Arrived else Waiting)
came_of Arrived true is = refl
came_of Arrived false is = cc
came_of Waiting true is = cc
came_of Waiting false is = refl
came_of Fault true is = cc
came_of Fault false is = cc

pub is_polled : (load : LoadOf) (key : Code) (old : Loading) → IsPolled AnswersPromptly load key old (after_poll old key (prompt_poll old key load.after)) (prompt_poll old key load.after) tt tt
is_polled load key old = record {
  state = refl;
  arrived = both (is_key old.arrived key) refl;
  unasked = λ stood. refl;
  asked = λ never. answered (is_key old.arrived key) refl never;
}
  where
    asked_so : (b : Bool) → is_key old.arrived key ≡ false → ((if b then Arrived else Waiting) ≡ Arrived) ↔ ((after_ask (keyed old key) key (if b then Arrived else Waiting)).arrived ≡ Some key)
    asked_so true other = ((λ same. refl), (λ same. refl))
    asked_so false other = ((λ same. cc), (λ same. absurd (not_keyed old key other same)))

    both : (b : Bool) → is_key old.arrived key ≡ b → ((if b then Arrived else prompt_ask load.after (keyed old key).asked) ≡ Arrived) ↔ ((if b then old else after_ask (keyed old key) key (if b then Arrived else prompt_ask load.after (keyed old key).asked)).arrived ≡ Some key)
    both true is = ((λ same. key_is old.arrived key is), (λ same. refl))
    both false is = asked_so (nat_le load.after (keyed old key).asked) is

    answered : (b : Bool) → is_key old.arrived key ≡ b → (old.arrived ≡ Some key → ⊥) → answer_of (if b then Arrived else prompt_ask load.after (keyed old key).asked) ≡ prompt_arrival load.after (keyed old key).asked
    answered true is never = absurd (never (key_is old.arrived key is))
    answered false is never = answer_is (nat_le load.after (keyed old key).asked)

pub came_promptly : (load : LoadOf) (key : Code) (old new : Loading) (came : Polled) (before after : Unit {0}) → IsPolled AnswersPromptly load key old new came before after → came ≡ prompt_poll old key load.after
came_promptly load key old new came before after poll = at (is_key old.arrived key) refl
  where
    at : (b : Bool) → is_key old.arrived key ≡ b → came ≡ (if b then Arrived else prompt_ask load.after (keyed old key).asked)
    at true is =
        let stood = key_is old.arrived key is in
        poll.arrived.1 (ap (λ (l : Loading). l.arrived) (poll.state ∙ poll_stays old key came stood) ∙ stood)
    at false is = came_of came (nat_le load.after (keyed old key).asked) (poll.asked (λ same. not_the_key old.arrived key is same))

-- ---- all of them

module _ (component : Component) (first : Progress) where
  one_polled : (loads : List LoadOf) (now : Progress) (late : List (ℕ × Late)) (load : LoadOf) (old : Loading) → slice_get first.loadings (length loads) ≡ Some old → ArePolled AnswersPromptly component first tt loads now late tt → (more : List (ℕ × Late)) × ArePolled AnswersPromptly component first tt (loads ++ load ∷ []) (promptly_one component now (load, old)) more tt
  one_polled loads now late load old there polls = at (is_live_load component (state_of now.held) load) refl
    where
      key : Code
      key = key_of component now.held load

      at : (b : Bool) → is_live_load component (state_of now.held) load ≡ b → (more : List (ℕ × Late)) × ArePolled AnswersPromptly component first tt (loads ++ load ∷ []) (if b then record { held = with_arrived now.held load.id (after_poll old (key_of component now.held load) (prompt_poll old (key_of component now.held load) load.after)).arrived; loadings = now.loadings ++ after_poll old (key_of component now.held load) (prompt_poll old (key_of component now.held load) load.after) ∷ [] } else record { held = now.held; loadings = now.loadings ++ old ∷ [] }) more tt
      at true is = (late ++ late_as load.id (prompt_poll old (key_of component now.held load) load.after), polled load old (after_poll old (key_of component now.held load) (prompt_poll old (key_of component now.held load) load.after)) (prompt_poll old (key_of component now.held load) load.after) tt polls is there (is_polled load (key_of component now.held load) old))
      at false is = (late, passed load old polls is there)

  -- one after another
  fold_polled : (rest loads : List LoadOf) (firsts others : List Loading) (now : Progress) (late : List (ℕ × Late)) → length firsts ≡ length loads → first.loadings ≡ firsts ++ others → length others ≡ length rest → ArePolled AnswersPromptly component first tt loads now late tt → (more : List (ℕ × Late)) × ArePolled AnswersPromptly component first tt (loads ++ rest) (fold (promptly_one component) now (zip rest others)) more tt
  fold_polled [] loads firsts others now late before parted paired polls = (late, subst (λ (all : List LoadOf). ArePolled AnswersPromptly component first tt all now late tt) (sym (append-nil loads)) polls)
  fold_polled (load ∷ rest) loads firsts [] now late before parted paired polls = absurd (omega (arith, paired))
  fold_polled (load ∷ rest) loads firsts (old ∷ others) now late before parted paired polls =
      let there : slice_get first.loadings (length loads) ≡ Some old = ap (slice_get first.loadings) (sym before) ∙ ap (λ (all : List Loading). slice_get all (length firsts)) parted ∙ seam firsts old others in
      let one = one_polled loads now late load old there polls in
      let a = length-append firsts (old ∷ []) in
      let b = length-append loads (load ∷ []) in
      let done = fold_polled rest (loads ++ load ∷ []) (firsts ++ old ∷ []) others (promptly_one component now (load, old)) one.0 (omega (arith, a, b, before)) (parted ∙ sym (append_assoc firsts (old ∷ []) others)) (omega (arith, paired)) one.1 in
      (done.0, subst (λ (all : List LoadOf). ArePolled AnswersPromptly component first tt all (fold (promptly_one component) (promptly_one component now (load, old)) (zip rest others)) done.0 tt) (append_assoc loads (load ∷ []) rest) done.1)

  pub all_polled : length first.loadings ≡ length (loads_in component) → (late : List (ℕ × Late)) × AllPolled AnswersPromptly component first (all_promptly component first) late tt tt
  all_polled paired = fold_polled (loads_in component) [] [] first.loadings (record { held = first.held; loadings = [] }) [] refl refl paired none

-- ---- some of them

fold_more : {A B : Type 0} (f : B → A → B) (a : B) (xs : List A) (n : ℕ) (x : A) → slice_get xs n ≡ Some x → fold f a (take (suc n) xs) ≡ f (fold f a (take n xs)) x
fold_more f a [] n x is = cc
fold_more f a (y ∷ xs) zero x is = let here : y ≡ x = cc in ap (f a) here
fold_more f a (y ∷ xs) (suc n) x is = fold_more f (f a y) xs n x is

zip_at : {A B : Type 0} (xs : List A) (ys : List B) (n : ℕ) (x : A) (y : B) → slice_get xs n ≡ Some x → slice_get ys n ≡ Some y → slice_get (zip xs ys) n ≡ Some (x, y)
zip_at [] ys n x y is at = cc
zip_at (z ∷ xs) [] n x y is at = cc
zip_at (z ∷ xs) (w ∷ ys) zero x y is at = let one : z ≡ x = cc in let other : w ≡ y = cc in λ i. Some (one i, other i)
zip_at (z ∷ xs) (w ∷ ys) (suc n) x y is at = zip_at xs ys n x y is at

pub one_more_promptly : (component : Component) (progress : Progress) (place : ℕ) (load : LoadOf) (loading : Loading) → slice_get (loads_in component) place ≡ Some load → slice_get progress.loadings place ≡ Some loading → some_promptly component progress (place + 1) ≡ promptly_one component (some_promptly component progress place) (load, loading)
one_more_promptly component progress place load loading is at =
    ap (some_promptly component progress) {x = place + 1} {y = suc place} (omega arith)
    ∙ fold_more (promptly_one component) (record { held = progress.held; loadings = [] }) (zip (loads_in component) progress.loadings) place (load, loading) (zip_at (loads_in component) progress.loadings place load loading is at)

take_whole : {A B : Type 0} (xs : List A) (ys : List B) → take (length xs) (zip xs ys) ≡ zip xs ys
take_whole [] ys = refl
take_whole (x ∷ xs) [] = refl
take_whole (x ∷ xs) (y ∷ ys) = ap (λ more. (x, y) ∷ more) (take_whole xs ys)

pub all_of_them : (component : Component) (progress : Progress) → some_promptly component progress (length (loads_in component)) ≡ all_promptly component progress
all_of_them component progress = ap (fold (promptly_one component) (record { held = progress.held; loadings = [] })) (take_whole (loads_in component) progress.loadings)
