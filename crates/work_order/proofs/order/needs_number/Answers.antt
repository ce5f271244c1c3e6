use Rattle.std.proofs.Common.{◌≡◌, ◌≢◌, ◌∙◌, ℕ, Bool, true, false, nat_eq, not, IsTrue, sym, ap, refl, true≢false}
use Rattle.std.proofs.lemmas.Bool.{eqb-true, eq-eqb}
use Rattle.values.specs.declared.code.Code.{Code as CodeValue}
use Rattle.values.specs.Packing.{packed, unpacked, IsPacked}
use Rattle.values.proofs.PackingLemmas.{packed-unpacked}
use Rattle.work_order.proofs.order.needs_number.Goals as goal

-- two packings are one number exactly where their values are one
alike : (before after : ℕ) (code : CodeValue) → IsPacked before → after ≡ packed code → unpacked after ≡ code → (same : Bool) → nat_eq before after ≡ same →
    (IsTrue (not same) → unpacked before ≢ code) × (unpacked before ≢ code → IsTrue (not same))
alike before after code is packs undone true e = ((λ t. absurd (true≢false (sym t))), (λ other. absurd (other (ap unpacked (eqb-true before after e) ∙ undone))))
alike before after code is packs undone false e =
    ((λ t equal. true≢false (sym (eq-eqb before after (sym (packed-unpacked before is) ∙ ap packed equal ∙ sym packs)) ∙ e)), (λ other. refl))

pub returns : goal.returns
returns c = let e = c.pack-after.ensures in alike c.args.before c.pack-after.result c.args.code c.requires e.word e.value (nat_eq c.args.before c.pack-after.result) refl
