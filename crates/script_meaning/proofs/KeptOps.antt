-- What holds of each operation of a script, while it is read.
use Rattle.std.proofs.Common.{◌≡◌, ℕ, List, [], ◌∷◌, ◌++◌, length, Some, None, Option, Ok, Err, All, refl, arith}
use Rattle.std.specs.List.{AllByRecursion as Each}
use Rattle.std.proofs.lemmas.List.Elements.{All-from_recursion}
use Rattle.text_lexer.specs.declared.token.Token.{Token}
use Rattle.text_lexer.specs.Tokens.{Lexed}
use Rattle.text_grammar.specs.declared.script.Terminal.{Terminal}
use Rattle.script_items.specs.declared.operation.ScriptOp.{ScriptOp}
use Rattle.script_items.specs.Script.{at_last, with_phase, with_lane, with_op}
use Rattle.script_items.specs.KeptFor.{AllOps}
use Rattle.script_meaning.specs.State.{State}
use Rattle.script_meaning.specs.Checks.{Check, failed}
use Rattle.script_meaning.specs.Effects.{effect}
use Rattle.script_meaning.specs.Meaning.{judged, accept_token}

-- ---- tokens

-- an accepted token passes every check, and has its effect
pub record IsAccepted (text : List ℕ) (t : Terminal) (a : State) (lexed next : Lexed) (b : State) : Type 0 where
  pub token : Token
  pub is : lexed ≡ Ok token
  pub passes : failed text t a token next ≡ None
  pub after : b ≡ effect text t a token

pub accepted : (text : List ℕ) (t : Terminal) (a : State) (lexed next : Lexed) (b : State) → accept_token text t a lexed next ≡ Ok b → IsAccepted text t a lexed next b
accepted text t a (Err bad) next b takes = absurd cc
accepted text t a (Ok x) next b takes = at (failed text t a x next) refl takes
  where
    at : (o : Option Check) → failed text t a x next ≡ o → judged text t a x o ≡ Ok b → IsAccepted text t a (Ok x) next b
    at None passes is = record { token = x; is = refl; passes = passes; after = cc }
    at (Some check) passes is = absurd cc

-- ---- lists

pub each_more : {X : Type 0} (P Q : X → Type 0) → ((x : X) → P x → Q x) → (xs : List X) → Each P xs → Each Q xs
each_more P Q more [] h = tt
each_more P Q more (x ∷ xs) h = (more x h.0, each_more P Q more xs h.1)

pub each_append : {X : Type 0} (P : X → Type 0) (xs ys : List X) → Each P xs → Each P ys → Each P (xs ++ ys)
each_append P [] ys h g = g
each_append P (x ∷ xs) ys h g = (h.0, each_append P xs ys h.1 g)

pub each_last : {X : Type 0} (P : X → Type 0) (f : X → X) → ((x : X) → P x → P (f x)) → (xs : List X) → Each P xs → Each P (at_last f xs)
each_last P f keeps [] h = tt
each_last P f keeps (x ∷ []) h = (keeps x h.0, tt)
each_last P f keeps (x ∷ y ∷ ys) h = (h.0, each_last P f keeps (y ∷ ys) h.1)

pub length_last : {X : Type 0} (f : X → X) (xs : List X) → length (at_last f xs) ≡ length xs
length_last f [] = refl
length_last f (x ∷ []) = refl
length_last f (x ∷ y ∷ ys) = let more = length_last f (y ∷ ys) in omega arith

-- ---- operations

abbrev pub EachOp : (ScriptOp → Type 0) → List (List (List ScriptOp)) → Type 0
EachOp P phases = Each (λ lanes. Each (λ ops. Each P ops) lanes) phases

pub ops_more : (P Q : ScriptOp → Type 0) → ((o : ScriptOp) → P o → Q o) → (phases : List (List (List ScriptOp))) → EachOp P phases → EachOp Q phases
ops_more P Q more phases h =
    each_more (λ lanes. Each (λ ops. Each P ops) lanes) (λ lanes. Each (λ ops. Each Q ops) lanes)
    (λ lanes. each_more (λ ops. Each P ops) (λ ops. Each Q ops) (λ ops. each_more P Q more ops) lanes) phases h

pub phase_more : (P : ScriptOp → Type 0) (phases : List (List (List ScriptOp))) → EachOp P phases → EachOp P (with_phase phases)
phase_more P phases h = each_append (λ lanes. Each (λ ops. Each P ops) lanes) phases ([] ∷ []) h (tt, tt)

pub lane_more : (P : ScriptOp → Type 0) (phases : List (List (List ScriptOp))) → EachOp P phases → EachOp P (with_lane phases)
lane_more P phases h =
    each_last (λ lanes. Each (λ ops. Each P ops) lanes) (λ lanes. lanes ++ [] ∷ []) (λ lanes g. each_append (λ ops. Each P ops) lanes ([] ∷ []) g (tt, tt)) phases h

pub op_more : (P : ScriptOp → Type 0) (o : ScriptOp) (phases : List (List (List ScriptOp))) → P o → EachOp P phases → EachOp P (with_op o phases)
op_more P o phases p h =
    each_last (λ lanes. Each (λ ops. Each P ops) lanes) (λ lanes. at_last (λ ops. ops ++ o ∷ []) lanes)
    (λ lanes g. each_last (λ ops. Each P ops) (λ ops. ops ++ o ∷ []) (λ ops k. each_append P ops (o ∷ []) k (p, tt)) lanes g) phases h

pub all_ops : (P : ScriptOp → Type 0) (phases : List (List (List ScriptOp))) → EachOp P phases → AllOps P phases
all_ops P phases h =
    All-from_recursion (λ lanes. All (λ ops. All P ops) lanes) phases
    (each_more (λ lanes. Each (λ ops. Each P ops) lanes) (λ lanes. All (λ ops. All P ops) lanes)
    (λ lanes g. All-from_recursion (λ ops. All P ops) lanes (each_more (λ ops. Each P ops) (λ ops. All P ops) (λ ops k. All-from_recursion P ops k) lanes g)) phases h)
