use Rattle.std.proofs.Common.{◌≡◌, ◌<◌, ◌^◌, ◌+◌, ◌*◌, FitsSigned, refl, sym, ap, ◌∙◌, arith, rules}
use Rattle.std.specs.Int.{cast_unsigned, w32}
use Rattle.std.proofs.lemmas.Int.{to_z-of_z}
use Rattle.values.specs.declared.code.Code.TheVariants.{Number, Word}
use Rattle.values.specs.Packing.{unpacked}
use Rattle.values.proofs.PackingLemmas.{unpacked-packed}
use Rattle.values.proofs.code.Code.pack.Goals as goal

pub returns-in-Empty-clause-value : goal.returns-in-Empty-clause-value
unfolding unpacked
returns-in-Empty-clause-value c = sym c.in-Empty.is

pub returns-in-Number-clause-value : goal.returns-in-Number-clause-value
returns-in-Number-clause-value c =
    let n = c.in-Number.number in
    let fits : FitsSigned w32 n = search rules in
    let same : c.cast_unsigned.result ≡ cast_unsigned w32 n = c.cast_unsigned.ensures ∙ ap (cast_unsigned w32) (to_z-of_z w32 n fits) in
    ap (λ m. unpacked (m * 4 + 1)) same ∙ unpacked-packed (Number n) fits ∙ sym c.in-Number.is

pub returns-in-Number-clause-is_packed : goal.returns-in-Number-clause-is_packed
returns-in-Number-clause-is_packed c =
    let n = c.in-Number.number in
    let fits : FitsSigned w32 n = search rules in
    let same : c.cast_unsigned.result ≡ cast_unsigned w32 n = c.cast_unsigned.ensures ∙ ap (cast_unsigned w32) (to_z-of_z w32 n fits) in
    record { code = Number n; value = fits; packs = ap (λ m. m * 4 + 1) (sym same) }

pub returns-in-Word-clause-value : goal.returns-in-Word-clause-value
returns-in-Word-clause-value c =
    let small : c.in-Word.index < 2 ^ 32 = omega arith in
    unpacked-packed (Word c.in-Word.index) small ∙ sym c.in-Word.is

pub returns-in-Word-clause-is_packed : goal.returns-in-Word-clause-is_packed
returns-in-Word-clause-is_packed c = record { code = Word c.in-Word.index; value = omega arith; packs = refl }
