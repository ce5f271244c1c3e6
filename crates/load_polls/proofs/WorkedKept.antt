-- The worked component is kept.
use Rattle.std.proofs.Common.{◌≡◌, ℕ, ◌≤◌, ◌<◌, ◌^◌, Bool, true, List, [], ◌∷◌, length, refl, sym, ap, subst, ◌∙◌, lit≤, lit<}
use Rattle.std.specs.List.{list_all, range_with_len}
use Rattle.values.specs.declared.expr.Expr.TheOpen as form
use Rattle.values.specs.declared.expr.Expr.TheVariants.{Read, rolls-Read}
use Rattle.values.specs.declared.expr.Expr.TheFolds.{fold-Expr, fold-roll-Expr}
use Rattle.values.specs.declared.limits.TheConstants.{MOST_NODES, MOST_OWNERS}
use Rattle.values.proofs.PlanLemmas.{rows_in-Read}
use Rattle.component_items.specs.Counts.{item_nodes, nodes_of}
use Rattle.component_items.specs.Ids.{item_ids, item_owners, ids_in, owners_in}
use Rattle.component_items.specs.Kept.{IsKept, texts_step, expr_has_texts, item_has_texts, item_stands, standing_at_top, item_sees, items_see, nothing_seen, item_has_shape}
use Rattle.component_items.proofs.FoldLemmas.{fold-Signal, fold-Resource, fold-Load, at-Signal, at-Resource, at-Load}
use Rattle.load_polls.specs.Worked.{two_loads}

ids : ids_in two_loads ≡ 0 ∷ 1 ∷ 2 ∷ 3 ∷ 4 ∷ 5 ∷ []
unfolding item_ids
ids = simp (fold-Signal, fold-Resource, fold-Load)

owners : owners_in two_loads ≡ []
unfolding item_owners
owners = simp (fold-Signal, fold-Resource, fold-Load)

nodes : nodes_of two_loads ≡ 5
unfolding item_nodes
nodes = simp (fold-Signal, fold-Resource, fold-Load)

stand : list_all (λ item. item_stands item standing_at_top) two_loads ≡ true
unfolding item_stands
stand = simp (at-Signal, at-Resource, at-Load)

see : items_see two_loads nothing_seen ≡ true
unfolding item_sees
see = simp (fold-Signal, fold-Resource, fold-Load, rows_in-Read)

shaped : list_all item_has_shape two_loads ≡ true
unfolding item_has_shape
shaped = simp (fold-Signal, fold-Resource, fold-Load)

reads : (n id : ℕ) → expr_has_texts n (Read id) ≡ true
unfolding expr_has_texts
reads n id = ap (fold-Expr Bool (texts_step n)) (sym (rolls-Read id)) ∙ fold-roll-Expr Bool (texts_step n) (form.Read id)

has_texts : list_all (item_has_texts 5) two_loads ≡ true
unfolding item_has_texts
has_texts = simp (fold-Signal, fold-Resource, fold-Load, reads)

pub two_loads_kept : (texts : List (List ℕ)) → length texts ≡ 5 → IsKept (record { texts = texts; items = two_loads })
two_loads_kept texts five = record {
  numbered = record {
    ids = subst (λ (l : List ℕ). l ≡ range_with_len 0 (length l)) (sym ids) refl;
    owners = subst (λ (l : List ℕ). l ≡ range_with_len 1 (length l)) (sym owners) refl;
  };
  stand = stand;
  see = see;
  texts = subst (λ (n : ℕ). list_all (item_has_texts n) two_loads ≡ true) (sym five) has_texts;
  shaped = shaped;
  few_nodes = subst (λ (n : ℕ). n ≤ MOST_NODES) (sym nodes) (lit≤ tt);
  few_owners = subst (λ (l : List ℕ). length l < MOST_OWNERS) (sym owners) (lit< tt);
  few_ids = subst (λ (l : List ℕ). length l < 2 ^ 31) (sym ids) (lit< tt);
}
