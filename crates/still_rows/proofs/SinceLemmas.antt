-- What writes leave, one and more.
use Rattle.std.proofs.Common.{nat_lt, ◌≡◌, ◌≢◌, ℕ, ◌+◌, ◌<◌, ◌≤◌, ◌⊎◌, inl, inr, List, [], ◌∷◌, ◌++◌, slice_get, Option, Some, length, set, refl, sym, ap, subst, ◌∙◌, arith, Bool, true, false, length-set}
use Rattle.values.specs.declared.code.Code.{Code}
use Rattle.values.specs.declared.plan.Fact.TheVariants.{Change}
use Rattle.values.specs.declared.plan.Noted.{Noted}
use Rattle.values.specs.Packing.{unpacked}
use Rattle.sources.specs.declared.body.Read.{Read}
use Rattle.sources.specs.declared.body.Cause.{Cause}
use Rattle.sources.specs.declared.body.Cause.TheVariants.{First, Changed}
use Rattle.sources.specs.declared.opening.Opened.{Opened}
use Rattle.sources.specs.Bodies.{IsCaused}
use Rattle.sources.specs.Colours.{is_clean}
use Rattle.still_readers.proofs.Lists.{at_within, within_at, set_here, one_at, which, snoc_at, length_more, at_front, at_last, not_both}
use Rattle.still_rows.specs.declared.clock.Clock.{Clock}
use Rattle.still_rows.specs.Clock.{IsClock, IsTicked, IsVersioned, entry_at}
use Rattle.still_rows.specs.Since.{IsSeen, IsTouched, IsNews, IsSince}

-- a body that stays, or one of a run that was caused
abbrev pub IsBodySince : List Opened → List Opened → Opened → Opened → Type 0
IsBodySince rows rows' old new = ((new.body.reads.list ≡ old.body.reads.list) × (new.body.cause ≡ old.body.cause)) ⊎ ((cause : Cause) × (new.body.cause ≡ Some cause) × IsCaused old.body.reads.list old.body.cause (IsSeen rows rows') cause)

pub touched_same : (rows rows' : List Opened) (before after : Clock) (i : ℕ) (row : Opened) → IsTouched rows rows' before after i row row
touched_same rows rows' before after i row = record { clean = (λ _. refl); unclean = (λ _. refl); grows = omega arith; body = inl (refl, refl); value = inl (refl, refl) }

pub since_same : (rows : List Opened) (c : Clock) → IsSince rows rows c c
since_same rows c = record {
  paired = refl;
  base = refl;
  in_phase = refl;
  drawn = omega arith;
  few = (λ l. absurd (omega arith));
  each = (λ i old new o n. subst (λ (q : Opened). IsTouched rows rows c c i old q) (one_at old new o n) (touched_same rows rows c c i old));
  entries = (λ k noted e. e);
  news = (λ k noted l e. let w = at_within c.entries.list k noted e in absurd (omega arith));
  long = omega arith;
}

-- one write with no new value
since_kept : (rows : List Opened) (m : ℕ) (y0 y : Opened) (c : Clock) → slice_get rows m ≡ Some y0 → is_clean y0.colour ≡ false → is_clean y.colour ≡ true → IsBodySince rows (set rows m y) y0 y → y.code ≡ y0.code → y.version ≡ y0.version → IsSince rows (set rows m y) c c
since_kept rows m y0 y c here unclean clean body code version = record {
  paired = length-set rows m y;
  base = refl;
  in_phase = refl;
  drawn = omega arith;
  few = (λ l. absurd (omega arith));
  each = (λ i old new o n. by i old new o (which rows m y0 y i new here n));
  entries = (λ k noted e. e);
  news = (λ k noted l e. let w = at_within c.entries.list k noted e in absurd (omega arith));
  long = omega arith;
}
  where
    mine : IsTouched rows (set rows m y) c c m y0 y
    mine = record { clean = (λ k. absurd (not_both (is_clean y0.colour) k unclean)); unclean = (λ k. absurd (not_both (is_clean y.colour) clean k)); grows = omega arith; body = body; value = inl (code, version) }

    by : (i : ℕ) (old new : Opened) → slice_get rows i ≡ Some old → ((i ≡ m) × (new ≡ y)) ⊎ ((i ≡ m → ⊥) × (slice_get rows i ≡ Some new)) → IsTouched rows (set rows m y) c c i old new
    by i old new o (inl (e, f)) = rw (e, f, one_at old y0 o (rw e here)) mine
    by i old new o (inr (n, at)) = subst (λ (q : Opened). IsTouched rows (set rows m y) c c i old q) (one_at old new o at) (touched_same rows (set rows m y) c c i old)

-- one write with a new value
since_changed : (rows : List Opened) (m : ℕ) (y0 y : Opened) (c c' : Clock) → IsClock c → slice_get rows m ≡ Some y0 → is_clean y0.colour ≡ false → is_clean y.colour ≡ true → y0.version ≤ y.version → IsBodySince rows (set rows m y) y0 y → unpacked y.code ≢ unpacked y0.code → y.version ≡ c.base + c.drawn + 1 → IsTicked c c' (Change m (unpacked y.code)) → IsSince rows (set rows m y) c c'
since_changed rows m y0 y c c' clock here unclean clean grows body other version tick = record {
  paired = length-set rows m y;
  base = tick.base;
  in_phase = tick.in_phase;
  drawn = (let d = tick.drawn in omega arith);
  few = (λ l. tick.few);
  each = (λ i old new o n. by i old new o (which rows m y0 y i new here n));
  entries = (λ k noted e. kept k noted e (c.in_phase) refl);
  news = (λ k noted l e. news k noted l e (c.in_phase) refl);
  long = long (c.in_phase) refl;
}
  where
    entry : Noted
    entry = entry_at c.drawn (Change m (unpacked y.code))

    few : c.drawn ≤ 65536
    few = let a = tick.drawn in let b = tick.few in omega arith

    kept : (k : ℕ) (noted : Noted) → slice_get c.entries.list k ≡ Some noted → (b : Bool) → c.in_phase ≡ b → slice_get c'.entries.list k ≡ Some noted
    kept k noted e true p = ap (λ (l : List Noted). slice_get l k) (tick.noted p) ∙ at_front c.entries.list (entry_at c.drawn (Change m (unpacked y.code)) ∷ []) k noted e
    kept k noted e false p = ap (λ w. slice_get w.list k) (tick.silent p) ∙ e

    long : (b : Bool) → c.in_phase ≡ b → length c.entries.list ≤ length c'.entries.list
    long true p = let a = ap length (tick.noted p) in let b = length_more c.entries.list (entry_at c.drawn (Change m (unpacked y.code))) in omega arith
    long false p = let a = ap (λ w. length w.list) (tick.silent p) in omega arith

    news : (k : ℕ) (noted : Noted) → length c.entries.list ≤ k → slice_get c'.entries.list k ≡ Some noted → (b : Bool) → c.in_phase ≡ b → IsNews rows (set rows m y) c k noted
    news k noted l e false p = let w = at_within c.entries.list k noted (ap (λ w. slice_get w.list k) (sym (tick.silent p)) ∙ e) in absurd (omega arith)
    news k noted l e true p = new (snoc_at c.entries.list (entry_at c.drawn (Change m (unpacked y.code))) k noted (ap (λ (t : List Noted). slice_get t k) (sym (tick.noted p)) ∙ e))
      where
        new : (slice_get c.entries.list k ≡ Some noted) ⊎ ((k ≡ length c.entries.list) × (noted ≡ entry_at c.drawn (Change m (unpacked y.code)))) → IsNews rows (set rows m y) c k noted
        new (inl at) = let w = at_within c.entries.list k noted at in absurd (omega arith)
        new (inr (at, is)) =
            let same : k ≡ c.drawn = at ∙ clock.noted p few in
            record {
              row = m;
              old = y0;
              new = y;
              was = here;
              is = set_here rows m y0 y here;
              clean = clean;
              other = other;
              entry = is ∙ ap (λ (q : ℕ). entry_at q (Change m (unpacked y.code))) (sym same);
              version = (let v = version in omega arith);
            }

    mine : IsTouched rows (set rows m y) c c' m y0 y
    mine = record {
      clean = (λ k. absurd (not_both (is_clean y0.colour) k unclean));
      unclean = (λ k. absurd (not_both (is_clean y.colour) clean k));
      grows = grows;
      body = body;
      value = inr record {
        place = c.drawn;
        other = other;
        from_on = omega arith;
        below = (let d = tick.drawn in omega arith);
        version = (let v = version in omega arith);
        noted = (λ p. ap (λ (l : List Noted). slice_get l c.drawn) (tick.noted p) ∙ ap (λ (q : ℕ). slice_get (c.entries.list ++ entry_at c.drawn (Change m (unpacked y.code)) ∷ []) q) (sym (clock.noted p few)) ∙ at_last c.entries.list (entry_at c.drawn (Change m (unpacked y.code))));
      };
    }

    by : (i : ℕ) (old new : Opened) → slice_get rows i ≡ Some old → ((i ≡ m) × (new ≡ y)) ⊎ ((i ≡ m → ⊥) × (slice_get rows i ≡ Some new)) → IsTouched rows (set rows m y) c c' i old new
    by i old new o (inl (e, f)) = rw (e, f, one_at old y0 o (rw e here)) mine
    by i old new o (inr (n, at)) = subst (λ (q : Opened). IsTouched rows (set rows m y) c c' i old q) (one_at old new o at) (touched_same rows (set rows m y) c c' i old)

-- one write
pub since_written : (rows : List Opened) (m : ℕ) (y0 y : Opened) (c c' : Clock) (code : Code) → IsClock c → slice_get rows m ≡ Some y0 → is_clean y0.colour ≡ false → is_clean y.colour ≡ true → y0.version ≤ y.version → IsBodySince rows (set rows m y) y0 y → unpacked y.code ≡ code → (unpacked y0.code ≡ code → y.code ≡ y0.code) → IsVersioned c c' m y0 code y.version → IsSince rows (set rows m y) c c'
since_written rows m y0 y c c' code clock here unclean clean grows body is equal (inl (same, v, e)) = subst (λ (q : Clock). IsSince rows (set rows m y) c q) (sym e) (since_kept rows m y0 y c here unclean clean body (equal same) v)
since_written rows m y0 y c c' code clock here unclean clean grows body is equal (inr (other, v, tick)) = since_changed rows m y0 y c c' clock here unclean clean grows body (λ e. other (sym e ∙ is)) v (subst (λ (q : Code). IsTicked c c' (Change m q)) (sym is) tick)

-- what was seen in one of two steps was seen in both
module _ (rows0 rows1 rows2 : List Opened) (c0 c1 c2 : Clock) (a : IsSince rows0 rows1 c0 c1) (b : IsSince rows1 rows2 c1 c2) where
  middle : (i : ℕ) (old : Opened) → slice_get rows0 i ≡ Some old → (mid : Opened) × (slice_get rows1 i ≡ Some mid)
  middle i old o = let w = at_within rows0 i old o in let p = a.paired in within_at rows1 i (omega arith)

  -- a row that is clean in between stays, another was not touched before
  one_of : (r : ℕ) (old mid new : Opened) → slice_get rows0 r ≡ Some old → slice_get rows1 r ≡ Some mid → slice_get rows2 r ≡ Some new → (mid.version ≡ old.version) ⊎ (mid.version ≡ new.version)
  one_of r old mid new o m n = by (is_clean mid.colour) refl
    where
      by : (t : Bool) → is_clean mid.colour ≡ t → (mid.version ≡ old.version) ⊎ (mid.version ≡ new.version)
      by true clean = inr (sym (ap (λ (q : Opened). q.version) ((b.each r mid new m n).clean clean)))
      by false unclean = inl (ap (λ (q : Opened). q.version) ((a.each r old mid o m).unclean unclean))

  seen_first : (r v : ℕ) → IsSeen rows0 rows1 r v → IsSeen rows0 rows2 r v
  seen_first r v seen old new o n = let mid = middle r old o in elim (seen old mid.0 o mid.1) [
    | inl e ↦ inl e
    | inr e ↦ elim (one_of r old mid.0 new o mid.1 n) [ inl f ↦ inl (e ∙ f) | inr f ↦ inr (e ∙ f) ]
  ]

  seen_second : (r v : ℕ) → IsSeen rows1 rows2 r v → IsSeen rows0 rows2 r v
  seen_second r v seen old new o n = let mid = middle r old o in elim (seen mid.0 new mid.1 n) [
    | inl e ↦ elim (one_of r old mid.0 new o mid.1 n) [ inl f ↦ inl (e ∙ f) | inr f ↦ inr (e ∙ f) ]
    | inr e ↦ inr e
  ]

  caused_first : (reads : List Read) (was : Option Cause) (cause : Cause) → IsCaused reads was (IsSeen rows0 rows1) cause → IsCaused reads was (IsSeen rows0 rows2) cause
  caused_first reads was First h = h
  caused_first reads was (Changed s o n) h = record { place = h.place; read = h.read; recorded = h.recorded; of_source = h.of_source; at_old = h.at_old; shown = seen_first s n h.shown; other = h.other }

  caused_second : (reads : List Read) (was : Option Cause) (cause : Cause) → IsCaused reads was (IsSeen rows1 rows2) cause → IsCaused reads was (IsSeen rows0 rows2) cause
  caused_second reads was First h = h
  caused_second reads was (Changed s o n) h = record { place = h.place; read = h.read; recorded = h.recorded; of_source = h.of_source; at_old = h.at_old; shown = seen_second s n h.shown; other = h.other }

  touched : (i : ℕ) (old mid new : Opened) → IsTouched rows0 rows1 c0 c1 i old mid → IsTouched rows1 rows2 c1 c2 i mid new → (k : Bool) → is_clean mid.colour ≡ k → IsTouched rows0 rows2 c0 c2 i old new
  touched i old mid new s t true k = subst (λ (q : Opened). IsTouched rows0 rows2 c0 c2 i old q) (sym (t.clean k)) record {
    clean = s.clean;
    unclean = s.unclean;
    grows = s.grows;
    body = elim s.body [ inl h ↦ inl h | inr h ↦ inr (h.0, h.1, caused_first old.body.reads.list old.body.cause h.0 h.2) ];
    value = elim s.value [
      | inl h ↦ inl h
      | inr h ↦ inr record {
        place = h.place;
        other = h.other;
        from_on = h.from_on;
        below = (let l = h.below in let d = b.drawn in omega arith);
        version = h.version;
        noted = (λ p. b.entries h.place (entry_at h.place (Change i (unpacked mid.code))) (h.noted p));
      }
    ];
  }
  touched i old mid new s t false k = let same : mid ≡ old = s.unclean k in subst (λ (q : Opened). IsTouched rows0 rows2 c0 c2 i q new) same record {
    clean = t.clean;
    unclean = t.unclean;
    grows = t.grows;
    body = elim t.body [ inl h ↦ inl h | inr h ↦ inr (h.0, h.1, caused_second mid.body.reads.list mid.body.cause h.0 h.2) ];
    value = elim t.value [
      | inl h ↦ inl h
      | inr h ↦ inr record {
        place = h.place;
        other = h.other;
        from_on = (let l = h.from_on in let d = a.drawn in omega arith);
        below = h.below;
        version = h.version ∙ ap (λ (q : ℕ). q + (h.place + 1)) a.base;
        noted = (λ p. h.noted (a.in_phase ∙ p));
      }
    ];
  }

  old_same : (i : ℕ) (y0 y1 y2 : Opened) → IsTouched rows0 rows1 c0 c1 i y0 y1 → IsTouched rows1 rows2 c1 c2 i y1 y2 → unpacked y2.code ≢ unpacked y1.code → (k : Bool) → is_clean y1.colour ≡ k → y1 ≡ y0
  old_same i y0 y1 y2 s t other true k = absurd (other (ap (λ (z : Opened). unpacked z.code) (t.clean k)))
  old_same i y0 y1 y2 s t other false k = s.unclean k

  news : (k : ℕ) (noted : Noted) → length c0.entries.list ≤ k → slice_get c2.entries.list k ≡ Some noted → (t : Bool) → nat_lt k (length c1.entries.list) ≡ t → IsNews rows0 rows2 c0 k noted
  news k noted l e true t =
      let old = within_at c1.entries.list k (grind arith) in
      let same : old.0 ≡ noted = one_at old.0 noted (b.entries k old.0 old.1) e in
      let q = a.news k old.0 l old.1 in
      let w = at_within rows1 q.row q.new q.is in let p = b.paired in
      let y2 = within_at rows2 q.row (omega arith) in
      let stays : y2.0 ≡ q.new = (b.each q.row q.new y2.0 q.is y2.1).clean q.clean in
      subst (λ (z : Noted). IsNews rows0 rows2 c0 k z) same record { row = q.row; old = q.old; new = q.new; was = q.was; is = y2.1 ∙ ap (λ (z : Opened). Some z) stays; clean = q.clean; other = q.other; entry = q.entry; version = q.version }
  news k noted l e false t =
      let q = b.news k noted (grind arith) e in
      let w = at_within rows1 q.row q.old q.was in let p = a.paired in
      let y0 = within_at rows0 q.row (omega arith) in
      let same : q.old ≡ y0.0 = old_same q.row y0.0 q.old q.new (a.each q.row y0.0 q.old y0.1 q.was) (b.each q.row q.old q.new q.was q.is) q.other (is_clean q.old.colour) refl in
      record { row = q.row; old = y0.0; new = q.new; was = y0.1; is = q.is; clean = q.clean; other = (λ h. q.other (h ∙ ap (λ (z : Opened). unpacked z.code) (sym same))); entry = q.entry; version = q.version ∙ ap (λ (z : ℕ). z + (k + 1)) a.base }

  few : (t : Bool) → nat_lt c1.drawn c2.drawn ≡ t → c0.drawn < c2.drawn → c2.drawn ≤ 65536
  few true t l = b.few (grind arith)
  few false t l = let d = b.drawn in let same : c1.drawn ≡ c2.drawn = grind arith in let f = a.few (omega arith) in omega arith

  pub since_more : IsSince rows0 rows2 c0 c2
  since_more = record {
    paired = b.paired ∙ a.paired;
    base = b.base ∙ a.base;
    in_phase = b.in_phase ∙ a.in_phase;
    drawn = (let x = a.drawn in let y = b.drawn in omega arith);
    few = (λ l. few (nat_lt c1.drawn c2.drawn) refl l);
    each = (λ i old new o n. let mid = middle i old o in touched i old mid.0 new (a.each i old mid.0 o mid.1) (b.each i mid.0 new mid.1 n) (is_clean mid.0.colour) refl);
    entries = (λ k noted e. b.entries k noted (a.entries k noted e));
    news = (λ k noted l e. news k noted l e (nat_lt k (length c1.entries.list)) refl);
    long = (let x = a.long in let y = b.long in omega arith);
  }

-- what was clean before stays so
pub clean_stays : (rows rows' : List Opened) (c c' : Clock) → IsSince rows rows' c c' → (i : ℕ) (row : Opened) → slice_get rows' i ≡ Some row → ((old : Opened) → slice_get rows i ≡ Some old → is_clean old.colour ≡ true) → is_clean row.colour ≡ true
clean_stays rows rows' c c' s i row at was =
    let w = at_within rows' i row at in let p = s.paired in
    let old = within_at rows i (omega arith) in
    let k = was old.0 old.1 in
    ap (λ (q : Opened). is_clean q.colour) ((s.each i old.0 row old.1 at).clean k) ∙ k
