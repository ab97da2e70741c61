-- Keys that aren't after the pairs of a disk.
use Rattle.std.proofs.Common.{◌≡◌, ◌⊎◌, inl, inr, ℕ, ◌<◌, ◌≤◌, List, [], ◌∷◌, ◌++◌, arith, refl, sym, subst, ◌∙◌}
use Rattle.std.specs.Prelude.{Option, Some, None, IfSome, MatchOption}
use Rattle.std.specs.List.{Contains}
use Rattle.std.proofs.lemmas.Bool.{cases_lt}
use Rattle.std.proofs.lemmas.List.Elements.{Contains-push_cases}
use Rattle.event_stamps.specs.declared.Stamp.{Stamp}
use Rattle.event_stamps.specs.declared.Kind.TheVariants.{Pair}
use Rattle.event_stamps.specs.Least.{IsLeastOf, HasNone, earlier_of}
use Rattle.event_tree.specs.Keys.{Key, IsNotAfter}
use Rattle.event_stamps.proofs.StampOrder.{not_before_itself}
use Rattle.event_tree.proofs.Trees.{IsLesser, lesser, not_after_trans}
use Rattle.cell_grid.specs.Grid.{Owns}
use Rattle.event_rules.specs.Events.{IsPairEvent, IsChance, HaveNoEvent}
use Rattle.region_view.specs.declared.action.Placed.{Placed}
use Rattle.region_view.specs.Naming.{Names}
use Rattle.region_view.specs.Views.{ViewData, rows_in}
use Rattle.region_view.proofs.Naming.{same_row, near_pair}
use Rattle.region_queue.specs.declared.finder.Finder.{Finder}
use Rattle.region_queue.specs.Finding.{IsNativeOf, IsNativePair, IsNativeWith, IsLowKey, AreKept}
use Rattle.region_queue.proofs.Candidates.{native_order, pair_found, names_pair}
use Rattle.region_queue.proofs.Covered.{least_not_after}

-- ---- the least one is such a key
least_low : (P : Stamp → Type 0) (disk : ℕ) (key : Key) → ((s : Stamp) → P s → (s.kind ≡ Pair) × Names s disk) → IsLeastOf P key →
    IsLowKey P disk key
least_low P disk key names least = record {
  low = λ s p. least_not_after P key s least p;
  pair = λ s e. names s (subst (IsLeastOf P) e least).0;
}

native_names : (finder : Finder) (view : ViewData) (disk other : ℕ) (s : Stamp) → IsNativePair finder view disk other s →
    (s.kind ≡ Pair) × Names s disk
native_names finder view disk other s x =
    let pair = pair_found finder view disk other s x in (pair.1, names_pair s disk other pair.1 pair.2)

pub least_pair_low : (finder : Finder) (view : ViewData) (disk other : ℕ) (key : Key) → IsLeastOf (IsNativePair finder view disk other) key →
    IsLowKey (IsNativePair finder view disk other) disk key
least_pair_low finder view disk other key least =
    least_low (IsNativePair finder view disk other) disk key (λ s x. native_names finder view disk other s x) least

pub least_with_low : (finder : Finder) (view : ViewData) (disk : ℕ) (With : ℕ → Type 0) (key : Key) →
    IsLeastOf (IsNativeWith finder view disk With) key → IsLowKey (IsNativeWith finder view disk With) disk key
least_with_low finder view disk With key least =
    least_low (IsNativeWith finder view disk With) disk key (λ s x. native_names finder view disk x.0 s x.2) least

-- ---- one after the other
pub low_none : (finder : Finder) (view : ViewData) (disk : ℕ) (With : ℕ → Type 0) → ((i : ℕ) → ¬ With i) →
    IsLowKey (IsNativeWith finder view disk With) disk None
low_none finder view disk With none = record { low = λ s x. absurd (none x.0 x.1); pair = λ s e. absurd (let no = e in cc) }

pub low_more : (finder : Finder) (view : ViewData) (disk other : ℕ) (done : List ℕ) (a b : Key) →
    IsLowKey (IsNativeWith finder view disk (λ i. Contains done i)) disk a → IsLowKey (IsNativePair finder view disk other) disk b →
    IsLowKey (IsNativeWith finder view disk (λ i. Contains (done ++ other ∷ []) i)) disk (earlier_of a b)
low_more finder view disk other done a b ha hb = record { low = low; pair = λ s e. pair s e is.one }
  where
    is : IsLesser a b (earlier_of a b)
    is = lesser a b

    low : (s : Stamp) → IsNativeWith finder view disk (λ i. Contains (done ++ other ∷ []) i) s → IsNotAfter (earlier_of a b) (Some s)
    low s x = elim (Contains-push_cases done other x.0 x.1) [
      | inl before ↦ not_after_trans (earlier_of a b) a (Some s) is.first (ha.low s (x.0, before, x.2))
      | inr same ↦ not_after_trans (earlier_of a b) b (Some s) is.second
          (hb.low s (subst (λ (i : ℕ). IsNativePair finder view disk i s) (sym same) x.2))
    ]

    pair : (s : Stamp) → earlier_of a b ≡ Some s → (earlier_of a b ≡ a) ⊎ (earlier_of a b ≡ b) → (s.kind ≡ Pair) × Names s disk
    pair s e (inl first) = ha.pair s (sym first ∙ e)
    pair s e (inr second) = hb.pair s (sym second ∙ e)

-- those that are left out have no event
pub low_of_all : (finder : Finder) (view : ViewData) (disk : ℕ) (old new : List ℕ) (key : Key) →
    AreKept (λ i. HasNone (IsNativePair finder view disk i)) old new →
    IsLowKey (IsNativeWith finder view disk (λ i. Contains new i)) disk key → IsLowKey (IsNativeWith finder view disk (λ i. Contains old i)) disk key
low_of_all finder view disk old new key are h = record {
  low = λ s x. elim (are.out x.0 x.1) [ inl y ↦ h.low s (x.0, y, x.2) | inr none ↦ absurd (none s x.2) ];
  pair = h.pair;
}

-- the others may be said in another way
pub low_as : (finder : Finder) (view : ViewData) (disk : ℕ) (With Has : ℕ → Type 0) (key : Key) → ((i : ℕ) → Has i → With i) →
    IsLowKey (IsNativeWith finder view disk With) disk key → IsLowKey (IsNativeWith finder view disk Has) disk key
low_as finder view disk With Has key to h = record { low = λ s x. h.low s (x.0, to x.0 x.1, x.2); pair = h.pair }

-- ---- the only tick at which two disks can hit each other
native_event : (finder : Finder) (view : ViewData) (low high : ℕ) (p q : Placed) (s : Stamp) → rows_in view low ≡ Some p →
    rows_in view high ≡ Some q → IsNativeOf finder view low high s → IsPairEvent finder.rules low p.disk high q.disk s
native_event finder view low high p q s at_low at_high n =
    let near = near_pair finder.rules finder.grid finder.region view s n.0 n.1.0 in
    let first : s.first ≡ low = n.1.1.0 in
    let second : s.second ≡ high = n.1.1.1 in
    let a = same_row view s.first low near.1.0 p near.1.1 at_low first in
    let b = same_row view s.second high near.1.2.0 q near.1.2.1 at_high second in
    subst (λ (x : Placed). IsPairEvent finder.rules low p.disk high x.disk s) b
    (subst (λ (x : Placed). IsPairEvent finder.rules low x.disk high near.1.2.0.disk s) a
    (subst (λ (m : ℕ). IsPairEvent finder.rules low near.1.0.disk m near.1.2.0.disk s) second
    (subst (λ (m : ℕ). IsPairEvent finder.rules m near.1.0.disk s.second near.1.2.0.disk s) first near.1.2.3)))

-- two disks have no native event if the region doesn't own the cell of the lower one
pub unowned_low : (finder : Finder) (view : ViewData) (disk other : ℕ) (p q : Placed) → rows_in view disk ≡ Some p →
    rows_in view other ≡ Some q → (disk < other → Owns finder.grid finder.region p.cell → ⊥) →
    (other < disk → Owns finder.grid finder.region q.cell → ⊥) → IsLowKey (IsNativePair finder view disk other) disk None
unowned_low finder view disk other p q here there low high = record { low = never; pair = λ s e. absurd (let no = e in cc) }
  where
    owned : (i j : ℕ) (r : Placed) (s : Stamp) → rows_in view i ≡ Some r → IsNativeOf finder view i j s → Owns finder.grid finder.region r.cell
    owned i j r s row x =
        subst (λ (v : Placed). Owns finder.grid finder.region v.cell) (same_row view s.first i x.0.1.0 r x.0.1.1 row x.1.1.0) x.0.1.2

    never : (s : Stamp) → IsNativePair finder view disk other s → IsNotAfter None (Some s)
    never s (inl x) = low (native_order finder view disk other s x) (owned disk other p s here x)
    never s (inr x) = high (native_order finder view other disk s x) (owned other disk q s there x)

pub chance_low : (finder : Finder) (view : ViewData) (disk other : ℕ) (p q : Placed) (o : Option Stamp) → rows_in view disk ≡ Some p →
    rows_in view other ≡ Some q →
    MatchOption o (HaveNoEvent finder.rules disk p.disk other q.disk) (IsChance finder.rules disk p.disk other q.disk) →
    IsLowKey (IsNativePair finder view disk other) disk o
chance_low finder view disk other p q None here there none = record { low = low; pair = λ s e. absurd (let no = e in cc) }
  where
    low : (s : Stamp) → IsNativePair finder view disk other s → IsNotAfter None (Some s)
    low s (inl x) = none.rising (native_order finder view disk other s x) s (native_event finder view disk other p q s here there x)
    low s (inr x) = none.falling (native_order finder view other disk s x) s (native_event finder view other disk q p s there here x)
chance_low finder view disk other p q (Some t) here there chance = record { low = low; pair = λ s e. pair s (let same = e in cc) }
  where
    not_after : (s : Stamp) → s ≡ t → IsNotAfter (Some t) (Some s)
    not_after s same = subst (λ (v : Stamp). IsNotAfter (Some t) (Some v)) (sym same) (not_before_itself t)

    low : (s : Stamp) → IsNativePair finder view disk other s → IsNotAfter (Some t) (Some s)
    low s (inl x) = not_after s (chance.rising (native_order finder view disk other s x) s (native_event finder view disk other p q s here there x))
    low s (inr x) = not_after s (chance.falling (native_order finder view other disk s x) s (native_event finder view other disk q p s there here x))

    named : (disk < other) ⊎ (other ≤ disk) → Names t disk
    named (inl lt) = let first = chance.first in inl (omega arith)
    named (inr le) = let second = chance.second in inr (chance.kind, omega arith)

    pair : (s : Stamp) → t ≡ s → (s.kind ≡ Pair) × Names s disk
    pair s same = subst (λ (v : Stamp). (v.kind ≡ Pair) × Names v disk) same (chance.kind, named (cases_lt disk other))

-- ---- codes
-- what holds of the key, if there is one
pub told : (P Q : Key → Type 0) (found : Option Key) → IfSome found P → ((key : Key) → P key → Q key) → IfSome found Q
told P Q None h f = tt
told P Q (Some key) h f = f key h

-- what holds of a key holds of its code
pub coded : (Q : Key → Type 0) (found : Option Key) (key : Key) → IfSome found (λ code. code ≡ key) → Q key → IfSome found Q
coded Q found key same q = told (λ code. code ≡ key) Q found same (λ code is. subst Q (sym is) q)

-- a key that isn't after some pairs is that of a pair
pub low_is_pair : (P : Stamp → Type 0) (disk : ℕ) (key : Key) → IsLowKey P disk key → IfSome key (λ s. s.kind ≡ Pair)
low_is_pair P disk None low = tt
low_is_pair P disk (Some s) low = (low.pair s refl).0
