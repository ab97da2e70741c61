-- A disk that has come to another cell has the pairs that it had, and others only with disks beyond the old cell.
use Rattle.std.proofs.Common.{◌≡◌, ◌≢◌, ◌⊎◌, ◌↔◌, inl, inr, ℕ, [], ◌∷◌, ◌<◌, ◌≤◌, arith, refl, sym, subst, ap, ◌∙◌}
use Rattle.std.specs.Prelude.{Some, IfSome, option_map}
use Rattle.std.specs.List.{Contains}
use Rattle.std.proofs.lemmas.Bool.{cases_lt, cases_eq}
use Rattle.fixed_motion.specs.declared.disk.Disk.{Disk}
use Rattle.event_stamps.specs.declared.Stamp.{Stamp}
use Rattle.event_stamps.specs.declared.Kind.TheVariants.{Pair}
use Rattle.event_stamps.specs.Least.{IsLeastOf, earlier_of}
use Rattle.event_rules.specs.Events.{IsPairEvent}
use Rattle.event_tree.specs.Entries.{EntriesData, IsEntered}
use Rattle.event_tree.specs.Keys.{Key, IsNotAfter, key_at}
use Rattle.event_tree.proofs.Trees.{IsLesser, lesser, not_after_trans}
use Rattle.cell_grid.specs.Grid.{GridData, IsAdjacent, Owns}
use Rattle.region_view.specs.declared.action.Placed.{Placed}
use Rattle.region_view.specs.Placing.{IsNearPair}
use Rattle.region_view.specs.Views.{ViewData, rows_in}
use Rattle.region_queue.specs.declared.finder.Finder.{Finder}
use Rattle.region_view.specs.Naming.{Names, IsPairOf, IsMoved}
use Rattle.region_view.proofs.Naming.{same_row, near_pair, native_stays, natives_stay}
use Rattle.region_queue.specs.Finding.{IsFound, IsBestSingle, IsBestPair, IsLowKey, IsLowPair, IsLowBeyond, IsPaired, IsPairedBeyond, IsTaken, IsTakenAt, IsLoweredAt, cell_in}
use Rattle.region_queue.specs.Covering.{IsKey, IsLowered, Covers}
use Rattle.region_queue.proofs.Again.{lowered_one, taken_low}
use Rattle.region_queue.proofs.Back.{names_decides}
use Rattle.region_queue.proofs.Candidates.{adjacent_back, names_pair, best_of_both}
use Rattle.region_queue.proofs.Covered.{SinglesOf, PairsOf, least_not_after, key_stays, covers_again}
use Rattle.region_queue.proofs.Outside.{placed_in}
use Rattle.region_queue.proofs.Unchanged.{all_but_moved, the_only}

-- ---- the pairs that are new
at_most_decides : (m n : ℕ) → (m ≤ n) ⊎ ¬ (m ≤ n)
at_most_decides m n = elim (cases_lt n m) [ inl more ↦ inr (λ le. absurd (omega arith)) | inr le ↦ inl (omega arith) ]

both_decide : (A B : Type 0) → A ⊎ ¬ A → B ⊎ ¬ B → (A × B) ⊎ ¬ (A × B)
both_decide A B (inl a) (inl b) = inl (a, b)
both_decide A B (inl a) (inr not) = inr (λ h. not h.1)
both_decide A B (inr not) b = inr (λ h. not h.0)

adjacent_decides : (grid : GridData) (a b : ℕ) → IsAdjacent grid a b ⊎ ¬ IsAdjacent grid a b
adjacent_decides grid a b =
    both_decide _ _ (both_decide _ _ (at_most_decides _ _) (at_most_decides _ _)) (both_decide _ _ (at_most_decides _ _) (at_most_decides _ _))

-- a disk's record is the one it was
same_disk : (disk : ℕ) (before view : ViewData) (p b : Placed) → IsMoved disk before view → rows_in view disk ≡ Some p →
    rows_in before disk ≡ Some b → p.disk ≡ b.disk
same_disk disk before view p b moved now was =
    let e : Some p.disk ≡ Some b.disk =
    sym (ap (option_map (λ (x : Placed). x.disk)) now) ∙ moved.1 ∙ ap (option_map (λ (x : Placed). x.disk)) was in cc

-- the region owns the old cell of the disk if and only if it owns the new one
abbrev pub IsOwnerKept : Finder → ViewData → ℕ → ℕ → Type 0
IsOwnerKept finder view disk cell = (p : Placed) → rows_in view disk ≡ Some p →
    (Owns finder.grid finder.region cell ↔ Owns finder.grid finder.region p.cell)

old_or_beyond : (finder : Finder) (before view : ViewData) (disk cell : ℕ) (s : Stamp) → IsMoved disk before view →
    Some cell ≡ cell_in before disk → IsOwnerKept finder view disk cell → IsPaired finder view disk s →
    IsFound finder before s ⊎ IsPairedBeyond finder view disk cell s
old_or_beyond finder before view disk cell s moved at owner is = from is.2
  where
    near : IsNearPair finder.rules finder.grid (rows_in view) s
    near = near_pair finder.rules finder.grid finder.region view s is.0 is.1

    p : Placed
    p = near.1.0

    q : Placed
    q = near.1.2.0

    was : (b : Placed) × (rows_in before disk ≡ Some b) × (b.cell ≡ cell)
    was = placed_in (rows_in before disk) cell (sym at)

    kept : (i : ℕ) (row : Placed) → i ≢ disk → rows_in view i ≡ Some row → rows_in before i ≡ Some row
    kept i row ne now = sym (moved.0 i ne) ∙ now

    beyond : (other : ℕ) (row : Placed) → rows_in view other ≡ Some row → ¬ IsAdjacent finder.grid cell row.cell → IsPairOf s disk other →
        IsPairedBeyond finder view disk cell s
    beyond other row now far pair = (is.0, is.1, (other, (row.cell, ap (option_map (λ (x : Placed). x.cell)) now, far), pair))

    owned : s.first ≡ disk → Owns finder.grid finder.region was.0.cell
    owned first =
        let same = same_row view s.first s.first is.0.1.0 p is.0.1.1 near.1.1 refl in
        let now = subst (λ (x : Placed). Owns finder.grid finder.region x.cell) same is.0.1.2 in
        subst (Owns finder.grid finder.region) (sym was.2) ((owner p (sym (ap (rows_in view) first) ∙ near.1.1)).1 now)

    as_first : s.first ≡ disk → IsAdjacent finder.grid cell q.cell ⊎ ¬ IsAdjacent finder.grid cell q.cell →
        IsFound finder before s ⊎ IsPairedBeyond finder view disk cell s
    as_first first (inl beside) =
        let order : s.first < s.second = near.0 in
        let other : s.second ≢ disk = λ same. absurd (omega arith) in
        let here : rows_in before s.first ≡ Some was.0 = ap (rows_in before) first ∙ was.1 in
        let same = same_disk disk before view p was.0 moved (sym (ap (rows_in view) first) ∙ near.1.1) was.1 in
        inl (
          inr (inr (
            near.0,
            (
              was.0,
              here,
              (
                q,
                kept s.second q other near.1.2.1,
                subst (λ (n : ℕ). IsAdjacent finder.grid n q.cell) (sym was.2) beside,
                subst (λ (d : Disk). IsPairEvent finder.rules s.first d s.second q.disk s) same near.1.2.3,
              ),
            ),
          )),
          (was.0, here, owned first),
        )
    as_first first (inr far) = inr (beyond s.second q near.1.2.1 far (inl (first, refl)))

    as_second : s.second ≡ disk → IsAdjacent finder.grid cell p.cell ⊎ ¬ IsAdjacent finder.grid cell p.cell →
        IsFound finder before s ⊎ IsPairedBeyond finder view disk cell s
    as_second second (inl beside) =
        let order : s.first < s.second = near.0 in
        let other : s.first ≢ disk = λ same. absurd (omega arith) in
        let there : rows_in before s.second ≡ Some was.0 = ap (rows_in before) second ∙ was.1 in
        let same = same_disk disk before view q was.0 moved (sym (ap (rows_in view) second) ∙ near.1.2.1) was.1 in
        inl (
          inr (inr (
            near.0,
            (
              p,
              kept s.first p other near.1.1,
              (
                was.0,
                there,
                adjacent_back finder.grid was.0.cell p.cell (subst (λ (n : ℕ). IsAdjacent finder.grid n p.cell) (sym was.2) beside),
                subst (λ (d : Disk). IsPairEvent finder.rules s.first p.disk s.second d s) same near.1.2.3,
              ),
            ),
          )),
          (is.0.1.0, kept s.first is.0.1.0 other is.0.1.1, is.0.1.2),
        )
    as_second second (inr far) = inr (beyond s.first p near.1.1 far (inr (refl, second)))

    from : Names s disk → IsFound finder before s ⊎ IsPairedBeyond finder view disk cell s
    from (inl first) = as_first first (adjacent_decides finder.grid cell q.cell)
    from (inr pair) = as_second pair.1 (adjacent_decides finder.grid cell p.cell)

-- ---- the key of the disk
-- the earlier of the disk's least candidate by itself, and of a bound that is a pair of it
pub joined_is_key : (D : Stamp → Type 0) (i : ℕ) (single bound : Key) → IsLeastOf (SinglesOf D i) single →
    ((s : Stamp) → bound ≡ Some s → (s.kind ≡ Pair) × Names s i) → IsKey D i (earlier_of single bound) bound
joined_is_key D i single bound least pair = record {
  named = λ s e. named s e is.one;
  bound_named = λ s e. (pair s e).1;
  alone = λ s e not. alone s e not is.one;
  single = λ s d not first. not_after_trans (earlier_of single bound) single (Some s) is.first
      (least_not_after (SinglesOf D i) single s least (d, first, not));
  below = is.second;
}
  where
    is : IsLesser single bound (earlier_of single bound)
    is = lesser single bound

    named : (s : Stamp) → earlier_of single bound ≡ Some s → (earlier_of single bound ≡ single) ⊎ (earlier_of single bound ≡ bound) → Names s i
    named s e (inl same) = inl (subst (IsLeastOf (SinglesOf D i)) (sym same ∙ e) least).0.1
    named s e (inr same) = (pair s (sym same ∙ e)).1

    alone : (s : Stamp) → earlier_of single bound ≡ Some s → ¬ (s.kind ≡ Pair) →
        (earlier_of single bound ≡ single) ⊎ (earlier_of single bound ≡ bound) → D s
    alone s e not (inl same) = (subst (IsLeastOf (SinglesOf D i)) (sym same ∙ e) least).0.0
    alone s e not (inr same) = absurd (not (pair s (sym same ∙ e)).0)

-- ---- the theorem: if a disk's bound takes in the pairs that are new, and all other candidates were there, the keys
-- cover the candidates again
extended_covers : (C D B : Stamp → Type 0) (disk : ℕ) (single beyond : Key) (old new : EntriesData) → Covers C old.keys old.bounds →
    ((s : Stamp) → ¬ Names s disk → (C s ↔ D s)) → ((s : Stamp) → PairsOf D disk s → C s ⊎ B s) →
    ((s : Stamp) → B s → (s.kind ≡ Pair) × Names s disk) → IfSome (key_at old.bounds disk) (λ s. s.kind ≡ Pair) →
    IsLeastOf (SinglesOf D disk) single → IsLowKey B disk beyond →
    IsEntered disk (earlier_of single (earlier_of (key_at old.bounds disk) beyond), earlier_of (key_at old.bounds disk) beyond) old new →
    Covers D new.keys new.bounds
extended_covers C D B disk single beyond old new covers stay split names known least new_pair entered = record {
  each = λ i. each i (cases_eq i disk);
  paired = λ s d pair. paired s d pair (names_decides s disk);
}
  where
    bound : Key
    bound = earlier_of (key_at old.bounds disk) beyond

    is : IsLesser (key_at old.bounds disk) beyond (earlier_of (key_at old.bounds disk) beyond)
    is = lesser (key_at old.bounds disk) beyond

    bound_pair : (s : Stamp) → bound ≡ Some s → (bound ≡ key_at old.bounds disk) ⊎ (bound ≡ beyond) → (s.kind ≡ Pair) × Names s disk
    bound_pair s e (inl same) =
        let was : key_at old.bounds disk ≡ Some s = sym same ∙ e in
        (subst (λ (key : Key). IfSome key (λ (t : Stamp). t.kind ≡ Pair)) was known, (covers.each disk).bound_named s was)
    bound_pair s e (inr same) = new_pair.pair s (sym same ∙ e)

    each : (i : ℕ) → (i ≡ disk) ⊎ (i ≢ disk) → IsKey D i (key_at new.keys i) (key_at new.bounds i)
    each i (inl same) =
        subst (λ (n : ℕ). IsKey D n (key_at new.keys n) (key_at new.bounds n)) (sym same)
        (subst (λ (entry : Key × Key). IsKey D disk entry.0 entry.1) (sym entered.set)
        (joined_is_key D disk single bound least (λ s e. bound_pair s e is.one)))
    each i (inr ne) = subst (λ (entry : Key × Key). IsKey D i entry.0 entry.1) (sym (entered.others i ne))
        (key_stays C D i (key_at old.keys i) (key_at old.bounds i) (λ s not first. stay s (other s not first)) (covers.each i))
      where
        other : (s : Stamp) → ¬ (s.kind ≡ Pair) → s.first ≡ i → ¬ Names s disk
        other s not first (inl same) = ne (sym first ∙ same)
        other s not first (inr pair) = not pair.0

    -- at the disk itself the bound has only come nearer
    still : (s : Stamp) (i : ℕ) → IsNotAfter (key_at old.bounds i) (Some s) → (i ≡ disk) ⊎ (i ≢ disk) → IsNotAfter (key_at new.bounds i) (Some s)
    still s i le (inl same) =
        subst (λ (n : ℕ). IsNotAfter (key_at new.bounds n) (Some s)) (sym same)
        (subst (λ (entry : Key × Key). IsNotAfter entry.1 (Some s)) (sym entered.set)
        (not_after_trans bound (key_at old.bounds disk) (Some s) is.first (subst (λ (n : ℕ). IsNotAfter (key_at old.bounds n) (Some s)) same le)))
    still s i le (inr ne) = subst (λ (entry : Key × Key). IsNotAfter entry.1 (Some s)) (sym (entered.others i ne)) le

    from_old : (s : Stamp) → C s → s.kind ≡ Pair → (i : ℕ) × Names s i × IsNotAfter (key_at new.bounds i) (Some s)
    from_old s c pair = let was = covers.paired s c pair in (was.0, was.1, still s was.0 was.2 (cases_eq was.0 disk))

    from_new : (s : Stamp) → B s → (i : ℕ) × Names s i × IsNotAfter (key_at new.bounds i) (Some s)
    from_new s b = (
      disk,
      (names s b).1,
      subst (λ (entry : Key × Key). IsNotAfter entry.1 (Some s)) (sym entered.set)
          (not_after_trans bound beyond (Some s) is.second (new_pair.low s b)),
    )

    paired : (s : Stamp) → D s → s.kind ≡ Pair → Names s disk ⊎ ¬ Names s disk → (i : ℕ) × Names s i × IsNotAfter (key_at new.bounds i) (Some s)
    paired s d pair (inl named) = elim (split s (d, pair, named)) [ inl c ↦ from_old s c pair | inr b ↦ from_new s b ]
    paired s d pair (inr not) = from_old s ((stay s not).1 d) pair

-- a native candidate that doesn't name the disk is one before and after
others_stay : (finder : Finder) (before view : ViewData) (disk : ℕ) (s : Stamp) → IsMoved disk before view → ¬ Names s disk →
    (IsFound finder before s ↔ IsFound finder view s)
others_stay finder before view disk s moved not =
    native_stays finder.rules finder.grid finder.region before view s
    (λ i names. moved.0 i (λ same. not (subst (Names s) same names)))

pub moved_covers : (finder : Finder) (before view : ViewData) (disk cell : ℕ) (single beyond : Key) (old new : EntriesData) →
    IsMoved disk before view → Some cell ≡ cell_in before disk → IsOwnerKept finder view disk cell →
    IfSome (key_at old.bounds disk) (λ s. s.kind ≡ Pair) → IsBestSingle finder view disk single → IsLowBeyond finder view disk cell beyond →
    IsEntered disk (earlier_of single (earlier_of (key_at old.bounds disk) beyond), earlier_of (key_at old.bounds disk) beyond) old new →
    Covers (IsFound finder before) old.keys old.bounds → Covers (IsFound finder view) new.keys new.bounds
moved_covers finder before view disk cell single beyond old new moved at owner known least low entered covers =
    extended_covers (IsFound finder before) (IsFound finder view) (IsPairedBeyond finder view disk cell) disk single beyond old new covers
    (λ s not. others_stay finder before view disk s moved not) (λ s pair. old_or_beyond finder before view disk cell s moved at owner pair)
    (λ s b. (b.1, names_pair s disk b.2.0 b.1 b.2.2)) known least low entered

-- ---- the entry of one disk
-- the least candidate of the disk by itself, and a key that isn't after its pairs
pub entered_low : (finder : Finder) (view : ViewData) (disk : ℕ) (single pair : Key) (old new : EntriesData) →
    IsEntered disk (earlier_of single pair, pair) old new → IsBestSingle finder view disk single → IsLowPair finder view disk pair →
    IsLoweredAt finder view disk old new
entered_low finder view disk single pair old new entered least low = record {
  lowered = subst (IsLowered (IsFound finder view) disk) (sym entered.set) (record {
    key = joined_is_key (IsFound finder view) disk single pair least low.pair;
    pairs = λ s found is named. low.low s (found, is, named);
  });
  others = entered.others;
}

-- the least ones
pub entered_best : (finder : Finder) (view : ViewData) (disk : ℕ) (single pair : Key) (old new : EntriesData) →
    IsEntered disk (earlier_of single pair, pair) old new → IsBestSingle finder view disk single → IsBestPair finder view disk pair →
    IsTakenAt finder view disk old new
entered_best finder view disk single pair old new entered least pairs = record {
  taken = subst (IsTaken finder view disk) (sym entered.set) (best_of_both finder view disk single pair least pairs, pairs);
  others = entered.others;
}

-- the keys cover the candidates again also if the disk's key and bound are taken again
pub taken_covers : (finder : Finder) (before view : ViewData) (disk : ℕ) (old new : EntriesData) → IsMoved disk before view →
    IsTakenAt finder view disk old new → Covers (IsFound finder before) old.keys old.bounds → Covers (IsFound finder view) new.keys new.bounds
taken_covers finder before view disk old new moved is covers =
    covers_again (IsFound finder before) (IsFound finder view) (disk ∷ []) old new covers
    (λ s none. natives_stay finder.rules finder.grid finder.region before view (disk ∷ []) s (all_but_moved disk before view moved) none)
    (lowered_one finder view (λ i. Contains (disk ∷ []) i) disk old new (taken_low finder view disk old new is)
    (λ i among. the_only disk i among))
