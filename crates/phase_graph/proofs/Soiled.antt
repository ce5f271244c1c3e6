-- An effect that is left is dirty.
use Rattle.std.proofs.Common.{◌≡◌, ◌⊎◌, inl, inr, ℕ, true, false, Some, List, slice_get, set, length-set, refl, sym, ap, subst, ◌∙◌, arith}
use Rattle.values.specs.declared.code.Code.{Code}
use Rattle.values.specs.declared.plan.Kind.{Kind}
use Rattle.values.specs.declared.plan.Kind.TheVariants as kind
use Rattle.values.specs.declared.plan.Noted.{Noted}
use Rattle.values.specs.declared.plan.PlanNode.{PlanNode}
use Rattle.store_fields.specs.declared.edit.Edit.{Edit}
use Rattle.sources.specs.declared.colour.Colour.TheVariants.{Dirty}
use Rattle.sources.specs.declared.opening.Opened.{Opened}
use Rattle.sources.specs.Colours.{is_clean}
use Rattle.sources.specs.Rows.{IsDerivedGood, IsRowGood, IsGood}
use Rattle.still_readers.specs.declared.readers.Readers.{Readers}
use Rattle.still_readers.specs.Marking.{IsDarker, IsDarkened}
use Rattle.still_readers.proofs.Lists.{which, not_both}
use Rattle.still_readers.proofs.MarkingLemmas.{before, darkened_one, recorded_darkened, enrolled_darkened}
use Rattle.still_rows.specs.declared.clock.Clock.{Clock}
use Rattle.still_rows.specs.Works.{IsStill}
use Rattle.still_rows.proofs.Written.{present_kept}
use Rattle.run_history.specs.Going.{Start, Going}
use Rattle.phase_graph.specs.declared.table.Table.{Table}
use Rattle.phase_graph.specs.Table.{open_seen, IsTable}
use Rattle.phase_graph.specs.Pumping.{IsDirtied}
use Rattle.phase_graph.specs.Way.{Shows, ShowsAs, IsOnWay}
use Rattle.phase_graph.proofs.Naming.{darkened_named}

abbrev pub soiled : Opened → Opened
soiled row = record row { colour = Dirty }

-- ---- the rows

module _ (nodes : List PlanNode) (rows : List Opened) (m : ℕ) (row : Opened) (here : slice_get rows m ≡ Some row) (unclean : is_clean row.colour ≡ false) where
  darker : IsDarkened rows (set rows m (soiled row))
  darker = darkened_one rows m row true here

  soiled_good : IsGood nodes rows → IsGood nodes (set rows m (soiled row))
  soiled_good good = record {
    paired = length-set rows m (soiled row) ∙ good.paired;
    each = (λ i node z n at. by i node z n (which rows m row (soiled row) i z here at));
  }
    where
      derived : (i : ℕ) (node : PlanNode) (z : Opened) → IsDerivedGood rows i node z → IsDerivedGood (set rows m (soiled row)) i node z
      derived i node z d = record {
        fresh = d.fresh;
        right = d.right;
        known = (λ k x e. recorded_darkened rows (set rows m (soiled row)) i x darker (d.known k x e));
        clean = (λ c k x e. present_kept rows m row (soiled row) x here unclean (d.clean c k x e));
      }

      mine : (i : ℕ) (node : PlanNode) → IsDerivedGood rows i node row → IsDerivedGood (set rows m (soiled row)) i node (soiled row)
      mine i node d = record {
        fresh = (λ none. refl);
        right = d.right;
        known = (λ k x e. recorded_darkened rows (set rows m (soiled row)) i x darker (d.known k x e));
        clean = (λ c. absurd (not_both (is_clean Dirty) c refl));
      }

      by : (i : ℕ) (node : PlanNode) (z : Opened) → slice_get nodes i ≡ Some node → ((i ≡ m) × (z ≡ soiled row)) ⊎ ((i ≡ m → ⊥) × (slice_get rows i ≡ Some z)) → IsRowGood (set rows m (soiled row)) i node z
      by i node z n (inl (e, f)) =
          let g = good.each i node row n (rw e here) in
          subst (IsRowGood (set rows m (soiled row)) i node) (sym f) record { is_packed = g.is_packed; source = (λ d. absurd (not_both (is_clean row.colour) (g.source d) unclean)); derived = (λ d. mine i node (g.derived d)) }
      by i node z n (inr (other, at)) = let g = good.each i node z n at in record { is_packed = g.is_packed; source = g.source; derived = (λ d. derived i node z (g.derived d)) }

  pub soiled_still : (readers : Readers) (c : Clock) → IsStill nodes rows readers c → IsStill nodes (set rows m (soiled row)) readers c
  soiled_still readers c still = record {
    lawful = still.lawful;
    good = soiled_good still.good;
    dated = record {
      held = (λ i z at. let y = was i z at in let same = ap (λ (q : Opened). q.version) y.2.same in let d = still.dated.held i y.0 y.1 in omega arith);
      recorded = (λ i z at k x e. let y = was i z at in still.dated.recorded i y.0 y.1 k x (ap (λ (q : Opened). slice_get q.body.reads.list k) (sym y.2.same) ∙ e));
    };
    roomy = record { each = (λ i node z n at d. let y = was i z at in rw y.2.same (still.roomy.each i node y.0 n y.1 d)) };
    of_plan = still.of_plan;
    enrolled = enrolled_darkened nodes rows (set rows m (soiled row)) readers darker still.enrolled;
    ticks = still.ticks;
  }
    where
      was : (i : ℕ) (z : Opened) → slice_get (set rows m (soiled row)) i ≡ Some z → (y : Opened) × (slice_get rows i ≡ Some y) × IsDarker y z
      was i z at = before rows (set rows m (soiled row)) darker i z at

-- ---- the table

module _ (t t' : Table) (row : ℕ) (d : IsDirtied t t' row) (unclean : is_clean d.opened.colour ≡ false) where
  pub soiled_table : IsTable t → IsTable t'
  soiled_table table = subst IsTable (sym d.rest) record {
    lawful = table.lawful;
    still = (λ early. subst (λ (q : List Opened). IsStill t.plan.nodes q t.readers t.clock) (sym d.rows) (soiled_still t.plan.nodes t.rows.items row d.opened d.at unclean t.readers t.clock (table.still early)));
    early = table.early;
    ticks = table.ticks;
    good = subst (IsGood t.plan.nodes) (sym d.rows) (soiled_good t.plan.nodes t.rows.items row d.opened d.at unclean table.good);
    named = darkened_named t.plan.nodes t.rows.items t'.rows.items (subst (IsDarkened t.rows.items) (sym d.rows) (darker t.plan.nodes t.rows.items row d.opened d.at unclean)) table.named;
    fits = table.fits;
    owners = table.owners;
    is_full = table.is_full;
    few = table.few;
    spare = table.spare;
  }

-- ---- what is seen of the phase

shows_soiled : (s : Start) (es : List Noted) (base n : ℕ) (row : Opened) (code : Code) → Shows es base n row code → Shows es base n (soiled row) code
shows_soiled s es base n row code h = record { value = h.value; number = h.number }

soiled_shows : (s : Start) (es : List Noted) (base n : ℕ) (row : Opened) (k : Kind) → ShowsAs k s es base n row → ShowsAs k s es base n (soiled row)
soiled_shows s es base n row kind.Signal h = shows_soiled s es base n row _ h
soiled_shows s es base n row kind.Field h = shows_soiled s es base n row _ h
soiled_shows s es base n row kind.Load h = shows_soiled s es base n row _ h
soiled_shows s es base n row kind.Memo h = shows_soiled s es base n row _ h
soiled_shows s es base n row kind.Effect h = h

pub on_soiled : (s : Start) (g : Going) (t t' : Table) (row : ℕ) (edits : List (List Edit)) (room : ℕ) → IsDirtied t t' row → IsOnWay s g (open_seen t edits room) → IsOnWay s g (open_seen t' edits room)
on_soiled s g t t' row edits room d way = subst (λ (q : Table). IsOnWay s g (open_seen q edits room)) (sym d.rest) record {
  plan = way.plan;
  is_open = way.is_open;
  drawn = way.drawn;
  entries = way.entries;
  numbered_so = way.numbered_so;
  shown = (λ n node z at w. elim (which t.rows.items row d.opened (soiled d.opened) n z d.at (ap (λ (q : List Opened). slice_get q n) (sym d.rows) ∙ w)) [
    | inl p ↦ subst (ShowsAs node.kind s g.entries t.clock.base n) (sym p.1) (soiled_shows s g.entries t.clock.base n d.opened node.kind (way.shown n node d.opened at (ap (slice_get t.rows.items) p.0 ∙ d.at)))
    | inr p ↦ way.shown n node z at p.1
  ]);
  current = (λ n node z at w k. elim (which t.rows.items row d.opened (soiled d.opened) n z d.at (ap (λ (q : List Opened). slice_get q n) (sym d.rows) ∙ w)) [
    | inl p ↦ rw p.1 (way.current n node d.opened at (ap (slice_get t.rows.items) p.0 ∙ d.at) k)
    | inr p ↦ way.current n node z at p.1 k
  ]);
  dead = way.dead;
  alive = way.alive;
  noted_edits = way.noted_edits;
}
