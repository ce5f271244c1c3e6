-- What holds of every line of a text.
use Rattle.std.proofs.Common.{inl, inr, List, [], ◌∷◌, ◌++◌, subst}
use Rattle.plain_evaluation.specs.Written.{Written}
use Rattle.plain_evaluation.specs.Sound.{Among}

abbrev pub Every : (Written → Type 0) → List Written → Type 0
Every P [] = Unit {0}
Every P (w ∷ ws) = P w × Every P ws

pub every-append : (P : Written → Type 0) (xs ys : List Written) → Every P xs → Every P ys → Every P (xs ++ ys)
every-append P [] ys h g = g
every-append P (x ∷ xs) ys h g = (h.0, every-append P xs ys h.1 g)

pub every_among : (P : Written → Type 0) (ws : List Written) (w : Written) → Every P ws → Among ws w → P w
every_among P [] w h among = absurd among
every_among P (x ∷ ws) w h (inl e) = subst P e h.0
every_among P (x ∷ ws) w h (inr among) = every_among P ws w h.1 among
