use Rattle.std.proofs.Common.{◌≡◌, ◌+◌, ◌∷◌, ◌++◌, [], ℕ, List, length, sym, subst}
use Rattle.still_readers.specs.declared.readers.Span.{Span}
use Rattle.still_readers.specs.Building.{IsGrown, NamedBy, IsBegun}
use Rattle.still_readers.proofs.Lists.{on_ok}
use Rattle.still_readers.proofs.BuildingLemmas.{begun_more}
use Rattle.still_readers.proofs.readers.Readers.add_node.Goals as goal

pub returns : goal.returns
returns c = on_ok c.push.result (λ e. whole e) c.push.ensures.added
  where
    grown : IsGrown (length c.args.self.now.spans) (NamedBy c.args.node.now) c.args.self.now c.add_derived.new.self
    grown = subst (λ (k : ℕ). IsGrown k (NamedBy c.args.node.now) c.args.self.now c.add_derived.new.self) c.len-at.ensures c.in_ok-add_derived.ensures.grown

    whole : c.push.new.self ≡ c.add_derived.new.self.spans ++ record { from = c.len-from.result; to = c.len-to.result } ∷ [] → IsBegun c.args._nodes.now (length c.args.self.now.spans + 1) record { list = c.add_derived.new.self.list; last = c.add_derived.new.self.last; spans = c.push.new.self }
    whole e =
        let a = c.len-from.ensures in let b = c.len-to.ensures in
        let same : c.push.new.self ≡ c.add_derived.new.self.spans ++ record { from = length c.args.self.now.list; to = length c.add_derived.new.self.list } ∷ [] = cc in
        subst (λ (t : List Span). IsBegun c.args._nodes.now (length c.args.self.now.spans + 1) record { list = c.add_derived.new.self.list; last = c.add_derived.new.self.last; spans = t }) (sym same)
        (begun_more c.args._nodes.now (length c.args.self.now.spans) c.args.node.now c.args.self.now c.add_derived.new.self c.requires.node c.requires.begun grown c.in_ok-add_derived.ensures.all)
