use Rattle.std.proofs.Common.{◌∙◌, ℕ, subst, sym}
use Rattle.values.specs.PlanValues.{is_derived}
use Rattle.still_readers.specs.Building.{HasAll, NamedIn, NamedBy}
use Rattle.still_readers.proofs.Lists.{on_ok, not_both}
use Rattle.still_readers.proofs.BuildingLemmas.{grown_none, grown_as, all_as}
use Rattle.still_readers.proofs.readers.Readers.add_derived.Goals as goal

pub returns-then-is_derived-clause-grown : goal.returns-then-is_derived-clause-grown
returns-then-is_derived-clause-grown c = on_ok c.add_names.result
    (λ g. grown_as c.args.at (NamedIn c.args.node.now.expr) (NamedBy c.args.node.now) c.args.self.now c.add_names.new.self (λ row n. (sym c.is_derived.ensures ∙ c.if-is_derived.true, n)) g)
    c.add_names.ensures.grown

pub returns-then-is_derived-clause-all : goal.returns-then-is_derived-clause-all
returns-then-is_derived-clause-all c = on_ok c.add_names.result
    (λ h. subst (λ (k : ℕ). HasAll (NamedBy c.args.node.now) k c.add_names.new.self) c.len-from.ensures (all_as (NamedIn c.args.node.now.expr) (NamedBy c.args.node.now) c.len-from.result c.add_names.new.self (λ row n. n.1) h))
    c.add_names.ensures.all

pub returns-clause-grown : goal.returns-clause-grown
returns-clause-grown c = grown_none c.args.at (NamedBy c.args.node.now) c.args.self.now

pub returns-clause-all : goal.returns-clause-all
returns-clause-all c = record { each = (λ row n l. absurd (not_both (is_derived c.args.node.now.kind) n.0 (sym c.is_derived.ensures ∙ c.if-is_derived.false))) }
