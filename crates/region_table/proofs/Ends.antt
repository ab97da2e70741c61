-- What a table that is closed gives back.
use Rattle.std.proofs.Common.{◌≡◌, ◌≢◌, ℕ, zero, suc, ◌%◌, ◌<◌, ◌≤◌, min, List, [], ◌∷◌, length, get_or, refl, sym, ap, ◌∙◌, subst, inl, inr, ◌⊎◌, ⊎_elim, ◌++◌, true, false, true≢false, arith}
use Rattle.std.specs.Prelude.{Some, None, Bool, slice_index, slice_get}
use Rattle.std.proofs.lemmas.Option.{slice_get_within}
use Rattle.std.proofs.Common.{Option as StdOption}
use mathlib.Core.Option.{some, some-injective}
use mathlib.Core.Logic.{dite}
use native.Mathlib.Decide.{ℕ_discrete}
use lib.ListN.{get_elem?}
use Rattle.atomic_table.specs.Table.{Final, Seen}
use Rattle.atomic_table.specs.Seated.{TableId}
use Rattle.fixed_motion.specs.declared.rules.Rules.{Rules}
use Rattle.event_stamps.specs.declared.Stamp.{Stamp}
use Rattle.fixed_motion.specs.Rules.{IsChecked}
use Rattle.event_stamps.specs.Order.{Before, end_stamp}
use Rattle.cell_grid.specs.Grid.{GridData, IsGridOf, columns_of}
use Rattle.local_run.specs.Keeping.{IsKept}
use Rattle.local_run.specs.Opening.{RegionData, spent}
use Rattle.local_run.specs.Bursts.{IsAtPlace, AreTogether}
use Rattle.region_table.specs.declared.rule.TableView.{TableView}
use Rattle.region_table.specs.Bases.{AreReplaced}
use Rattle.region_table.specs.Rule.{Content, IsHomeWord, IsAtHome, version_of, all_parts, HasAll, no_view, is_held, is_noted, Kept}
use Rattle.region_table.proofs.Parts.{parts_of_two}
use Rattle.region_table.specs.Tables.{IsKeptTable, ComesOfSlot, Closes, AreLeft}

option_or : {A : Type 0} → A → StdOption A → A
option_or x None = x
option_or x (Some y) = y

option_injective : {A : Type 0} (x y : A) → Some x ≡ Some y → x ≡ y
unfolding option_or
option_injective x y e = ap (option_or x) e

is_some : {A : Type 0} → StdOption A → Bool
is_some None = false
is_some (Some y) = true

none_some : {A : Type 0} (y : A) → None ≡ Some y → ⊥
unfolding is_some
none_some y e = true≢false (sym (ap is_some e))

there_is : {A : Type 0} (xs : List A) (k : ℕ) → k < length xs → (x : A) × (get_elem? xs k ≡ some x) × (slice_get xs k ≡ Some x)
there_is [] k lt = absurd (omega arith)
there_is (x ∷ xs) zero lt = (x, refl, refl)
there_is (x ∷ xs) (suc k) lt = there_is xs k (omega arith)

indexed : (xs : List ℕ) (k : ℕ) → k < length xs → get_elem? xs k ≡ some (slice_index xs k)
indexed [] k lt = absurd (omega arith)
indexed (x ∷ xs) zero lt = refl
indexed (x ∷ xs) (suc k) lt = indexed xs k (omega arith)

-- what stands in a list with one more at its end
pub pushed_get : {A : Type 0} (xs : List A) (x : A) (j : ℕ) (y : A) → slice_get (xs ++ x ∷ []) j ≡ Some y → (slice_get xs j ≡ Some y) ⊎ ((j ≡ length xs) × (x ≡ y))
pushed_get [] x zero y e = inr (refl, option_injective x y e)
pushed_get [] x (suc j) y e = absurd (none_some y e)
pushed_get (z ∷ xs) x zero y e = inl e
pushed_get (z ∷ xs) x (suc j) y e = ⊎_elim (λ a. inl a) (λ a. inr (ap suc a.0, a.1)) (pushed_get xs x j y e)

spent_there : (rules : Rules) (grid : GridData) (floor : Stamp) (k : ℕ) (first region : RegionData) → IsAtPlace rules grid floor k first
    → region ≡ record { home = record { number = k; rules = rules; grid = grid }; floor = floor; run = None } → region ≡ spent first
spent_there rules grid floor k first region at is = is ∙ (λ i. record { home = sym at.home i; floor = sym at.floor_is i; run = None })

module _ (id : TableId) (opened : List RegionData) (rules : Rules) (grid : GridData) (floor : Stamp) (table : IsKeptTable id opened rules grid floor)
    (words : List ℕ) (contents : List Content) (seat : ℕ) (v : TableView) (f : Final (Seen (Kept opened) seat v) words contents)
    (regions : List RegionData) (count : length regions ≡ length opened)
    (each : (k : ℕ) (region : RegionData) → slice_get regions k ≡ Some region → ComesOfSlot words contents rules grid floor k region) (mark : TableId) where
  inside : (k : ℕ) (region : RegionData) → slice_get regions k ≡ Some region → k < length opened
  inside k region e = let lt = slice_get_within regions k region e in omega (arith, count, lt)

  at_home : (k : ℕ) (region : RegionData) → slice_get regions k ≡ Some region → IsHomeWord (slice_index f.0.words k)
      → get_elem? f.0.homes k ≡ some (some (Some region)) × IsAtHome opened f.0.views k (slice_index f.0.words k) region
  at_home k region e even =
      let r = f.1.0 in
      let lt = inside k region e in
      let home = r.home k lt even in
      let word : get_elem? words k ≡ some (slice_index f.0.words k) = ap (λ z. get_elem? z k) (sym f.2) ∙ indexed f.0.words k (let a = r.words in omega (arith, a, lt)) in
      let same : region ≡ home.0 = (each k region e (slice_index f.0.words k) (Some home.0) word (f.4 k (Some home.0) home.1)).0 even in (
        home.1 ∙ ap (λ z. some (some (Some z))) (sym same),
        subst (IsAtHome opened f.0.views k (slice_index f.0.words k)) (sym same) home.2,
      )

  when_out : (k : ℕ) (region : RegionData) → slice_get regions k ≡ Some region → ¬ IsHomeWord (slice_index f.0.words k)
      → region ≡ record { home = record { number = k; rules = rules; grid = grid }; floor = floor; run = None }
  when_out k region e odd =
      let r = f.1.0 in
      let lt = inside k region e in
      let a = r.words in
      let b = r.homes in
      let d = f.3 in
      let word : get_elem? words k ≡ some (slice_index f.0.words k) = ap (λ z. get_elem? z k) (sym f.2) ∙ indexed f.0.words k (omega (arith, a, lt)) in
      let x = there_is contents k (omega (arith, b, d, lt)) in
      (each k region e (slice_index f.0.words k) x.0 word x.1).1 odd

  pub closes : Closes (record { id = id; opened = opened }) (record { table = mark; view = v }) regions
  closes = record {
    state = f.0;
    kept = f.1.0;
    seen = (seat, f.1.1);
    count = count;
    each = λ k region e. record {
      home = λ even. (at_home k region e even).0;
      out = λ odd first is. spent_there rules grid floor k first region (table.each k first is) (when_out k region e odd);
    };
  }

  pub replaced : AreReplaced opened regions
  replaced = record {
    count = count;
    each = λ k region e. dite (ℕ_discrete (slice_index f.0.words k % 2) 0)
        (λ even. (at_home k region e even).1.lies)
        (λ odd.
        let first = there_is opened k (inside k region e) in
        let is = spent_there rules grid floor k first.0 region (table.each k first.0 first.2) (when_out k region e odd) in
        (first.0, first.2, inr record { run = ap (λ z. z.run) is; number_is = ap (λ z. z.home.number) is }));
  }

  -- a seat that has all parts is alone
  alone : HasAll v → (i : ℕ) (u : TableView) → get_elem? f.0.views i ≡ some u → i ≢ seat → u ≡ no_view
  alone all i u e other =
      let r = f.1.0 in
      let two = parts_of_two f.0.views seat i v u f.1.1 e other in
      let most = r.whole in
      let mine : v.parts ≡ all_parts = all in
      r.idle (omega (arith, two, most, mine)) i u e (omega (arith, two, most, mine))

  same_view : (i : ℕ) (u : TableView) → get_elem? f.0.views i ≡ some u → i ≡ seat → u ≡ v
  same_view i u e same = some-injective _ _ (sym e ∙ (ap (get_elem? f.0.views) same ∙ f.1.1))

  -- and if it holds nothing, nothing is out
  none_out : HasAll v → v.held ≡ [] → (k : ℕ) → k < length opened → IsHomeWord (slice_index f.0.words k)
  none_out all nothing k lt = dite (ℕ_discrete (slice_index f.0.words k % 2) 0)
      (λ even. even)
      (λ odd.
      let o = f.1.0.owner k lt odd in
      absurd (dite (ℕ_discrete o.0 seat)
      (λ same. true≢false (sym o.3 ∙ ap (is_held k) (ap (λ (z : TableView). z.held) (same_view o.0 o.1 o.2 same) ∙ nothing)))
      (λ other. true≢false (sym o.3 ∙ ap (λ (z : TableView). is_held k z.held) (alone all o.0 o.1 o.2 other)))))

  -- and the last put of each slot is among its notes
  put_last : HasAll v → (k : ℕ) → k < length opened → 0 < version_of (slice_index f.0.words k) → is_noted k (version_of (slice_index f.0.words k)) v.notes ≡ true
  put_last all k lt some_puts =
      let o = f.1.0.writer k lt some_puts in
      dite (ℕ_discrete o.0 seat)
      (λ same. ap (λ (z : TableView). is_noted k (version_of (slice_index f.0.words k)) z.notes) (sym (same_view o.0 o.1 o.2 same)) ∙ o.3)
      (λ other. absurd (true≢false (sym o.3 ∙ ap (λ (z : TableView). is_noted k (version_of (slice_index f.0.words k)) z.notes) (alone all o.0 o.1 o.2 other))))

  pub left : v.held ≡ [] → HasAll v → AreLeft opened v regions
  left nothing all k region e =
      let lt = inside k region e in
      let home = (at_home k region e (none_out all nothing k lt)).1 in
      let p = f.1.0.past seat v f.1.1 in
      record {
        version = version_of (slice_index f.0.words k);
        lies = home.lies;
        at_first = home.at_first;
        last = put_last all k lt;
        latest = λ a d l same. subst (λ (z : ℕ). (get_or v.notes a d).version ≤ version_of (slice_index f.0.words z)) same (p.notes a d l);
        noted = home.noted seat v f.1.1;
      }

-- regions that are together are no more than those of any grid
pub few_together : (opened : List RegionData) → AreTogether opened → (first : RegionData) → slice_get opened 0 ≡ Some first → IsKept first → length opened ≤ 64
few_together opened t first is kept =
    let at = t.each 0 first is in
    let of : IsGridOf first.home.rules first.home.grid = kept.place.grid in
    let count : length opened ≡ first.home.grid.regions = t.count ∙ ap (λ z. z.regions) (sym (ap (λ h. h.grid) at.home)) in
    let asked : first.home.grid.regions ≡ min of.0 (columns_of first.home.rules) = ap (λ z. z.regions) of.2 in
    let most_asked : of.0 ≤ 64 = of.1.1 in
    omega (arith, count, asked, most_asked)

-- the table of regions that are together
pub keeps_table : (id : TableId) (opened : List RegionData) (rules : Rules) (grid : GridData) (floor : Stamp) → AreTogether opened
    → id.words ≡ length opened → id.slots ≡ length opened → 0 < length opened
    → (first : RegionData) → slice_get opened 0 ≡ Some first → IsKept first
    → rules ≡ first.home.rules → grid ≡ first.home.grid → floor ≡ first.floor
    → IsKeptTable id opened rules grid floor
keeps_table id opened rules grid floor t words slots some_there first is kept r g f =
    let at = t.each 0 first is in
    let rules_is : t.rules ≡ rules = sym (r ∙ ap (λ h. h.rules) at.home) in
    let grid_is : t.grid ≡ grid = sym (g ∙ ap (λ h. h.grid) at.home) in
    let floor_is : t.floor ≡ floor = sym (f ∙ at.floor_is) in
    let of : IsGridOf rules grid = subst {A = Rules × GridData} (λ z. IsGridOf z.0 z.1) (λ i. (sym r i, sym g i)) kept.place.grid in
    let count : length opened ≡ grid.regions = t.count ∙ ap (λ z. z.regions) grid_is in
    let asked : grid.regions ≡ min of.0 (columns_of rules) = ap (λ z. z.regions) of.2 in
    let most_asked : of.0 ≤ 64 = of.1.1 in
    record {
      words = words;
      slots = slots;
      count = count;
      some = some_there;
      most = omega (arith, count, asked, most_asked);
      each = λ k region e. subst {A = Rules × (GridData × Stamp)} (λ z. IsAtPlace z.0 z.1.0 z.1.1 k region) (λ i. (rules_is i, (grid_is i, floor_is i))) (t.each k region e);
      checked = subst IsChecked (sym r) kept.place.checked;
      of_rules = of;
      in_time = subst {A = Rules × Stamp} (λ z. ¬ Before (end_stamp z.0.end) z.1) (λ i. (sym r i, sym f i)) kept.floor;
    }
