-- What was packed comes back.
use Rattle.std.proofs.Common.{◌≡◌, ℕ, ◌+◌, ◌*◌, ◌/◌, ◌%◌, refl, sym, ap, ◌∙◌, arith}
use Rattle.std.specs.Int.{cast_unsigned, w32}
use Rattle.std.proofs.lemmas.Int.{to_z-of_z}
use Rattle.values.specs.declared.code.Code.{Code}
use Rattle.values.specs.declared.code.Code.TheVariants.{Empty, Number, Word}
use Rattle.values.specs.Packing.{packed, unpacked, IsValue, IsPacked}

pub unpacked-packed : (code : Code) → IsValue code → unpacked (packed code) ≡ code
unfolding unpacked
unpacked-packed Empty h = refl
unpacked-packed (Number z) h =
    let m = cast_unsigned w32 z in
    let tag : (m * 4 + 1) % 4 ≡ 1 = omega arith in
    let back : (m * 4 + 1) / 4 ≡ m = omega arith in
    rw (tag, back) (ap Number (to_z-of_z w32 z h))
unpacked-packed (Word n) h =
    let tag : (n * 4 + 2) % 4 ≡ 2 = omega arith in
    let back : (n * 4 + 2) / 4 ≡ n = omega arith in
    rw (tag, back) refl

pub packed-unpacked : (word : ℕ) → IsPacked word → packed (unpacked word) ≡ word
packed-unpacked word is = ap (λ w. packed (unpacked w)) (sym is.packs) ∙ ap packed (unpacked-packed is.code is.value) ∙ is.packs
