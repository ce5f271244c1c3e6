-- What is put at the end of a list, a part at a time.
use Rattle.std.proofs.Common.{◌≡◌, List, [], ◌∷◌, ◌++◌, Result, OnOk, append_assoc, sym, ap, ◌∙◌}
use Rattle.std.proofs.lemmas.List.{append-nil}
use Rattle.std.proofs.lemmas.Result.{on_ok_weaker}

-- one more at the end, and one less to come
pub one_more : {A : Type 0} (old new rest target : List A) (x : A) → new ≡ old ++ x ∷ [] → old ++ (x ∷ rest) ≡ target → new ++ rest ≡ target
one_more old new rest target x is so_far = ap (λ xs. xs ++ rest) is ∙ append_assoc old (x ∷ []) rest ∙ so_far

-- two parts, one after the other
two_parts : {A : Type 0} (old mid new first second all : List A) → mid ≡ old ++ first → all ≡ first ++ second → new ≡ mid ++ second → new ≡ old ++ all
two_parts old mid new first second all one is two = two ∙ ap (λ xs. xs ++ second) one ∙ append_assoc old first second ∙ ap (λ xs. old ++ xs) (sym is)

pub nothing_put : {A : Type 0} (old all : List A) → all ≡ [] → old ≡ old ++ all
nothing_put old all is = sym (append-nil old) ∙ ap (λ xs. old ++ xs) (sym is)

-- what a call put is all that is wanted
pub put_all : {T E A : Type 0} (r : Result T E) (old new part all : List A) → all ≡ part → OnOk r (new ≡ old ++ part) → OnOk r (new ≡ old ++ all)
put_all r old new part all is put = on_ok_weaker r (λ e. e ∙ ap (λ xs. old ++ xs) (sym is)) put

-- it is all that is wanted, behind what an earlier call put
pub put_behind : {T E A : Type 0} (r : Result T E) (old mid new first second all : List A) → mid ≡ old ++ first → all ≡ first ++ second → OnOk r (new ≡ mid ++ second) → OnOk r (new ≡ old ++ all)
put_behind r old mid new first second all before is put = on_ok_weaker r (two_parts old mid new first second all before is) put
