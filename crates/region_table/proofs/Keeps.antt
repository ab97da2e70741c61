-- What keeps the rule at every step.
use Rattle.std.proofs.Common.{◌≡◌, ◌≢◌, ℕ, ◌+◌, ◌*◌, ◌<◌, ◌≤◌, List, length, get_or, set, true, false, true≢false, refl, sym, ap, ◌∙◌, subst, ◌⊎◌, ⊎_elim, arith, length-set, get_or-set_other, get_or-set_same}
use Rattle.std.specs.Prelude.{All, Bool, Some, slice_index}
use mathlib.Core.Option.{Option, none, some}
use mathlib.Core.Logic.{dite}
use native.Mathlib.Decide.{ℕ_discrete}
use lib.ListN.{get_elem?}
use Rattle.atomic_table.specs.Table.{State}
use Rattle.atomic_table.proofs.Lists.{at_set}
use Rattle.local_run.specs.Opening.{RegionData}
use Rattle.region_table.specs.declared.rule.Sight.{Sight}
use Rattle.region_table.specs.declared.rule.Note.{Note}
use Rattle.region_table.specs.declared.rule.TableView.{TableView}
use Rattle.region_table.specs.Rule.{Content, IsHomeWord, version_of, all_parts, is_held, is_noted, total, no_view, OneHas, TellsAll, IsAtHome, IsOut, KnowsNoLater, Kept}
use Rattle.region_table.proofs.Held.{held_at}
use Rattle.region_table.proofs.Parts.{set_there, moved, total_set}

-- the version of no word falls
pub up : (words : List ℕ) (k n : ℕ) → k < length words → version_of (slice_index words k) ≤ version_of n → (j : ℕ) → version_of (slice_index words j) ≤ version_of (slice_index (set words k n) j)
up words k n inside more j = dite (ℕ_discrete j k)
    (λ same. subst (λ (z : ℕ). version_of (slice_index words z) ≤ version_of (slice_index (set words k n) z)) (sym same)
    (subst (λ (z : ℕ). version_of (slice_index words k) ≤ version_of z) (sym (get_or-set_same words k n 0 inside)) more))
    (λ other. subst (λ (z : ℕ). version_of (slice_index words j) ≤ version_of z) (sym (get_or-set_other words k j n 0 other)) (omega arith))

-- what wasn't later than its word stays so
pub past_up : (words : List ℕ) (k n : ℕ) (v : TableView) → k < length words → version_of (slice_index words k) ≤ version_of n → KnowsNoLater words v → KnowsNoLater (set words k n) v
past_up words k n v inside more p = record {
  notes = λ a d l. let x : Note = get_or v.notes a d in let q : x.version ≤ version_of (slice_index words x.slot) = p.notes a d l in let u = up words k n inside more x.slot in omega (arith, q, u);
  seen = λ a d l. let x : Sight = get_or v.seen a d in let q : version_of x.word ≤ version_of (slice_index words x.slot) = p.seen a d l in let u = up words k n inside more x.slot in omega (arith, q, u);
}

-- nobody holds a slot that is at home
pub nobody : (opened : List RegionData) (s : State Content TableView) → Kept opened s → (k : ℕ) → IsHomeWord (slice_index s.words k)
    → (i : ℕ) (v : TableView) → get_elem? s.views i ≡ some v → is_held k v.held ≡ false
nobody opened s r k even i v e = by_test (is_held k v.held) refl
  where
    by_test : (b : Bool) → is_held k v.held ≡ b → is_held k v.held ≡ false
    by_test false t = t
    by_test true t =
        let h = held_at k (IsOut s.words) v.held t (r.held i v e) in
        let odd : slice_index s.words k ≡ 2 * h.0.version + 1 = ap (λ (z : ℕ). slice_index s.words z) (sym h.1) ∙ h.2.1 in
        absurd (omega (arith, odd, even))

-- one word changes, with the content of its slot and with the view of the seat that changes it
pub step_kept : (opened : List RegionData) (s : State Content TableView) (k id n : ℕ) (v w : TableView) (homes : List (Option Content))
    → Kept opened s → k < length opened → get_elem? s.views id ≡ some v
    → version_of (slice_index s.words k) ≤ version_of n
    → length homes ≡ length s.homes
    → ((j : ℕ) → j ≢ k → get_elem? homes j ≡ get_elem? s.homes j)
    → (IsHomeWord n → (region : RegionData) × (get_elem? homes k ≡ some (some (Some region))) × IsAtHome opened (set s.views id w) k n region)
    → (¬ IsHomeWord n → get_elem? homes k ≡ some none)
    → ((j version : ℕ) (region : RegionData) → j ≢ k → TellsAll j version region v → TellsAll j version region w)
    → All (IsOut (set s.words k n)) w.held
    → ((i : ℕ) (u : TableView) → i ≢ id → get_elem? s.views i ≡ some u → All (IsOut (set s.words k n)) u.held)
    → ((j : ℕ) → is_held j w.held ≡ true → (is_held j v.held ≡ true) ⊎ ((i : ℕ) (u : TableView) → get_elem? s.views i ≡ some u → is_held j u.held ≡ false))
    → KnowsNoLater (set s.words k n) w
    → (v ≢ no_view) × (w.parts ≡ v.parts)
    → ((j : ℕ) → j ≢ k → is_held j v.held ≡ true → is_held j w.held ≡ true)
    → (¬ IsHomeWord n → OneHas (set s.views id w) (λ u. is_held k u.held ≡ true))
    → ((j version : ℕ) → is_noted j version v.notes ≡ true → is_noted j version w.notes ≡ true)
    → (version_of n ≡ version_of (slice_index s.words k)) ⊎ (is_noted k (version_of n) w.notes ≡ true)
    → Kept opened record { words = set s.words k n; homes = homes; views = set s.views id w }
step_kept opened s k id n v w homes r inside at more size else_same home_here out_here tells mine others names past live holds owner_here notes last = record {
  words = length-set s.words k n ∙ r.words;
  homes = size ∙ r.homes;
  home = λ j lt even. dite (ℕ_discrete j k)
      (λ here. subst (λ (z : ℕ). (region : RegionData) × (get_elem? homes z ≡ some (some (Some region))) × IsAtHome opened (set s.views id w) z (slice_index (set s.words k n) z) region) (sym here)
      (subst (λ (z : ℕ). (region : RegionData) × (get_elem? homes k ≡ some (some (Some region))) × IsAtHome opened (set s.views id w) k z region) (sym now)
      (home_here (subst IsHomeWord (now_at j here) even))))
      (λ other.
      let same = get_or-set_other s.words k j n 0 other in
      let old = r.home j lt (subst IsHomeWord same even) in (
        old.0,
        else_same j other ∙ old.1,
        subst (λ (z : ℕ). IsAtHome opened (set s.views id w) j z old.0) (sym same) record {
          lies = old.2.lies;
          at_first = old.2.at_first;
          noted = λ i u e. ⊎_elim
              (λ (x : (i ≡ id) × (w ≡ u)). subst (TellsAll j (version_of (slice_index s.words j)) old.0) x.1 (tells j (version_of (slice_index s.words j)) old.0 other (old.2.noted id v at)))
              (λ (x : (i ≢ id) × (get_elem? s.views i ≡ some u)). old.2.noted i u x.1)
              (at_set s.views id i w u e);
        },
      ));
  out = λ j lt odd. dite (ℕ_discrete j k)
      (λ here. subst (λ (z : ℕ). get_elem? homes z ≡ some none) (sym here) (out_here (λ even. odd (subst IsHomeWord (sym (now_at j here)) even))))
      (λ other. else_same j other ∙ r.out j lt (λ even. odd (subst IsHomeWord (sym (get_or-set_other s.words k j n 0 other)) even)));
  held = λ i u e. ⊎_elim
      (λ (x : (i ≡ id) × (w ≡ u)). subst (λ (z : TableView). All (IsOut (set s.words k n)) z.held) x.1 mine)
      (λ (x : (i ≢ id) × (get_elem? s.views i ≡ some u)). others i u x.0 x.1)
      (at_set s.views id i w u e);
  one = λ i j u u' q e e' h h'. ⊎_elim
      (λ (x : (i ≡ id) × (w ≡ u)). ⊎_elim
      (λ (y : (j ≡ id) × (w ≡ u')). x.0 ∙ sym y.0)
      (λ (y : (j ≢ id) × (get_elem? s.views j ≡ some u')). clash q u j (sym x.1) h u' y.0 y.1 h')
      (at_set s.views id j w u' e'))
      (λ (x : (i ≢ id) × (get_elem? s.views i ≡ some u)). ⊎_elim
      (λ (y : (j ≡ id) × (w ≡ u')). clash q u' i (sym y.1) h' u x.0 x.1 h)
      (λ (y : (j ≢ id) × (get_elem? s.views j ≡ some u')). r.one i j u u' q x.1 y.1 h h')
      (at_set s.views id j w u' e'))
      (at_set s.views id i w u e);
  past = λ i u e. ⊎_elim
      (λ (x : (i ≡ id) × (w ≡ u)). subst (KnowsNoLater (set s.words k n)) x.1 past)
      (λ (x : (i ≢ id) × (get_elem? s.views i ≡ some u)). past_up s.words k n u within more (r.past i u x.1))
      (at_set s.views id i w u e);
  owner = λ j lt odd. dite (ℕ_discrete j k)
      (λ here. subst (λ (z : ℕ). OneHas (set s.views id w) (λ u. is_held z u.held ≡ true)) (sym here) (owner_here (λ even. odd (subst IsHomeWord (sym (now_at j here)) even))))
      (λ other.
      let o = r.owner j lt (λ even. odd (subst IsHomeWord (sym (get_or-set_other s.words k j n 0 other)) even)) in
      let m = moved s.views id v w (λ u. is_held j u.held ≡ true) at (holds j other) o.0 o.1 o.2 o.3 in (o.0, m.0, m.1, m.2));
  writer = λ j lt some_puts. dite (ℕ_discrete j k)
      (λ here. subst (λ (z : ℕ). OneHas (set s.views id w) (λ u. is_noted j (version_of z) u.notes ≡ true)) (sym (now_at j here))
      (subst (λ (z : ℕ). OneHas (set s.views id w) (λ u. is_noted z (version_of n) u.notes ≡ true)) (sym here)
      (written (subst (λ (z : ℕ). 0 < version_of z) (now_at j here) some_puts))))
      (λ other. subst (λ (z : ℕ). OneHas (set s.views id w) (λ u. is_noted j (version_of z) u.notes ≡ true)) (sym (get_or-set_other s.words k j n 0 other))
      (still j lt (subst (λ (z : ℕ). 0 < version_of z) (get_or-set_other s.words k j n 0 other) some_puts)));
  whole = let a = total_set s.views id v w at in let b = r.whole in let c = live.1 in omega (arith, a, b, c);
  idle = λ all i u e none_left. ⊎_elim
      (λ (x : (i ≡ id) × (w ≡ u)). absurd (live.0 (r.idle (all_before all) id v at (sym live.1 ∙ (ap (λ (z : TableView). z.parts) x.1 ∙ none_left)))))
      (λ (x : (i ≢ id) × (get_elem? s.views i ≡ some u)). r.idle (all_before all) i u x.1 none_left)
      (at_set s.views id i w u e);
}
  where
    within : k < length s.words
    within = subst (λ (z : ℕ). k < z) (sym r.words) inside

    now : slice_index (set s.words k n) k ≡ n
    now = get_or-set_same s.words k n 0 within

    now_at : (j : ℕ) → j ≡ k → slice_index (set s.words k n) j ≡ n
    now_at j here = ap (λ (z : ℕ). slice_index (set s.words k n) z) here ∙ now

    all_before : total (set s.views id w) ≡ all_parts → total s.views ≡ all_parts
    all_before all = let a = total_set s.views id v w at in let c = live.1 in omega (arith, a, c, all)

    still : (j : ℕ) → j < length opened → 0 < version_of (slice_index s.words j) → OneHas (set s.views id w) (λ u. is_noted j (version_of (slice_index s.words j)) u.notes ≡ true)
    still j lt some_puts =
        let o = r.writer j lt some_puts in
        let m = moved s.views id v w (λ u. is_noted j (version_of (slice_index s.words j)) u.notes ≡ true) at (notes j (version_of (slice_index s.words j))) o.0 o.1 o.2 o.3 in
        (o.0, m.0, m.1, m.2)

    written : 0 < version_of n → OneHas (set s.views id w) (λ u. is_noted k (version_of n) u.notes ≡ true)
    written some_puts = ⊎_elim
        (λ (same : version_of n ≡ version_of (slice_index s.words k)). subst (λ (z : ℕ). OneHas (set s.views id w) (λ u. is_noted k z u.notes ≡ true)) (sym same)
        (still k inside (subst (λ (z : ℕ). 0 < z) same some_puts)))
        (λ (new : is_noted k (version_of n) w.notes ≡ true). (id, w, set_there s.views id v w at, new))
        last

    clash : {A : Type 0} (q : ℕ) (u : TableView) (j : ℕ) → u ≡ w → is_held q u.held ≡ true → (u' : TableView) → j ≢ id → get_elem? s.views j ≡ some u' → is_held q u'.held ≡ true → A
    clash q u j is h u' apart e h' = ⊎_elim
        (λ (old : is_held q v.held ≡ true). absurd (apart (r.one j id u' v q e at h' old)))
        (λ (none_has : (i : ℕ) (z : TableView) → get_elem? s.views i ≡ some z → is_held q z.held ≡ false). absurd (true≢false (sym h' ∙ none_has j u' e)))
        (names q (ap (λ (z : TableView). is_held q z.held) (sym is) ∙ h))

-- a view that says no more than views that were there, and holds no more than the view at its place
pub record Comes (s : State Content TableView) (i : ℕ) (u : TableView) : Type 0 where
  pub tells : (k version : ℕ) (region : RegionData) → ((j : ℕ) (v : TableView) → get_elem? s.views j ≡ some v → TellsAll k version region v) → TellsAll k version region u
  pub held : All (IsOut s.words) u.held
  pub own : (k : ℕ) → is_held k u.held ≡ true → (v : TableView) × (get_elem? s.views i ≡ some v) × (is_held k v.held ≡ true)
  pub past : KnowsNoLater s.words u

pub stays : (opened : List RegionData) (s : State Content TableView) → Kept opened s → (i : ℕ) (u : TableView) → get_elem? s.views i ≡ some u → Comes s i u
stays opened s r i u e = record {
  tells = λ k version region all. all i u e;
  held = r.held i u e;
  own = λ k h. (u, e, h);
  past = r.past i u e;
}

-- views change alone
pub views_kept : (opened : List RegionData) (s : State Content TableView) (vs : List TableView) → Kept opened s
    → ((i : ℕ) (u : TableView) → get_elem? vs i ≡ some u → Comes s i u)
    → ((k i : ℕ) (u : TableView) → get_elem? s.views i ≡ some u → is_held k u.held ≡ true → OneHas vs (λ z. is_held k z.held ≡ true))
    → ((k version i : ℕ) (u : TableView) → get_elem? s.views i ≡ some u → is_noted k version u.notes ≡ true → OneHas vs (λ z. is_noted k version z.notes ≡ true))
    → total vs ≤ all_parts
    → (total vs ≡ all_parts → (i : ℕ) (u : TableView) → get_elem? vs i ≡ some u → u.parts ≡ 0 → u ≡ no_view)
    → Kept opened record { words = s.words; homes = s.homes; views = vs }
views_kept opened s vs r comes holders writers whole idle = record {
  words = r.words;
  homes = r.homes;
  home = λ k lt even. let old = r.home k lt even in (
    old.0,
    old.1,
    record {
      lies = old.2.lies;
      at_first = old.2.at_first;
      noted = λ i u e. (comes i u e).tells k (version_of (slice_index s.words k)) old.0 old.2.noted;
    },
  );
  out = r.out;
  held = λ i u e. (comes i u e).held;
  one = λ i j u w k e f h g. let a = (comes i u e).own k h in let b = (comes j w f).own k g in r.one i j a.0 b.0 k a.1 b.1 a.2 b.2;
  past = λ i u e. (comes i u e).past;
  owner = λ k lt odd. let o = r.owner k lt odd in holders k o.0 o.1 o.2 o.3;
  writer = λ k lt some_puts. let o = r.writer k lt some_puts in writers k (version_of (slice_index s.words k)) o.0 o.1 o.2 o.3;
  whole = whole;
  idle = idle;
}
