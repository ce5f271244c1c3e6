-- Parts of a list, the first one last.
use Rattle.std.proofs.Common.{◌≡◌, ◌<◌, ◌==◌, true, List, [], ◌∷◌, ◌++◌, length, sym, ◌∙◌, ap, arith, append-nil, append_assoc}
use Rattle.std.proofs.lemmas.Bool.{eqb-true}
use Rattle.std.specs.Borrow.{Bor}
use Rattle.token_reader.specs.Pending.{joined}

-- one more part stands before the others
pub joined_push : {T : Type 0} → (parts : List (Bor (List T))) (part : Bor (List T)) → joined (parts ++ part ∷ []) ≡ part.now ++ joined parts
joined_push [] part = sym (append-nil part.now)
joined_push (p ∷ parts) part = ap (λ l. l ++ p.now) (joined_push parts part) ∙ append_assoc part.now (joined parts) p.now

-- where nothing is left in front of them, the last part is what comes first
pub last_in_front : {T : Type 0} (front : List T) (parts rest : List (Bor (List T))) (part : Bor (List T)) (all : List T) → length front < 1 → parts ≡ rest ++ part ∷ []
    → front ++ joined parts ≡ all → part.now ++ joined rest ≡ all
last_in_front [] parts rest part all short is same = sym (joined_push rest part) ∙ (ap joined (sym is) ∙ same)
last_in_front (x ∷ front) parts rest part all short is same = absurd (omega arith)

-- what was in front stands before the others as one more part
pub front_behind : {T : Type 0} (front : Bor (List T)) (parts more : List (Bor (List T))) (all : List T) → more ≡ parts ++ front ∷ [] → front.now ++ joined parts ≡ all → joined more ≡ all
front_behind front parts more all is same = ap joined is ∙ (joined_push parts front ∙ same)

-- where nothing is in front, the parts are all
pub none_in_front : {T : Type 0} (front : List T) (parts : List (Bor (List T))) (all : List T) → (length front == 0) ≡ true → front ++ joined parts ≡ all → joined parts ≡ all
none_in_front [] parts all none same = same
none_in_front (x ∷ front) parts all none same = absurd (let long = eqb-true (length (x ∷ front)) 0 none in omega arith)
