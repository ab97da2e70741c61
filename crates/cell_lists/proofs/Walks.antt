-- The disks that are gathered after others.
use Rattle.std.proofs.Common.{◌≡◌, ◌≢◌, ◌⊎◌, ◌↔◌, inl, inr, ℕ, zero, suc, ◌+◌, ◌-◌, ◌*◌, ◌<◌, ◌≤◌, List, [], ◌∷◌, ◌++◌, length, take, drop, get_or, arith, refl, sym, subst, ap, ◌∙◌}
use Rattle.std.specs.Prelude.{Option, Some, None, IsSomeAnd}
use Rattle.std.specs.List.{Contains}
use Rattle.std.proofs.Math.Nat.{mod-eq_of_lt}
use Rattle.std.proofs.lemmas.Bool.{cases_lt}
use Rattle.std.proofs.lemmas.Option.{none-some}
use Rattle.std.proofs.lemmas.List.{append-nil, append_assoc, length-append, length-drop, length-take-le, take_at, drop_at, get_or_at, get_or_default, get_or-drop, get_or-take, get_or_append_left, take-append-drop, take-append-le, drop-append-le}
use Rattle.std.proofs.lemmas.List.Elements.{Contains-append_left, Contains-append_right, Contains-append_cases}
use Rattle.cell_lists.specs.declared.pointer.Pointer.{Pointer}
use Rattle.cell_lists.specs.declared.places.Places.{Places}
use Rattle.cell_lists.specs.declared.gathered.TheConstants.{MOST_GATHERED}
use Rattle.cell_lists.specs.Firsts.{IsFirstOf}
use Rattle.cell_lists.specs.Nearby.{IsInLine}
use Rattle.cell_lists.specs.Pointer.{disk_of, SaysMore}
use Rattle.cell_lists.specs.Places.{Holds}
use Rattle.cell_lists.specs.Chain.{ChainsData, IsCellOf, InBucket, IsFirst, LeadsOn}
use Rattle.cell_lists.specs.Gathering.{with_offered, HaveOwnBuckets, AreAllListed, IsFromOneOf, StartsAdded, HasLater, SaysLater, LeadsIn, ArePending, AreFollowed, AreGatheredIn}
use Rattle.cell_lists.proofs.Firsts.{first_kept}
use Rattle.cell_lists.proofs.Chaining.{same_or_not}

-- ---- lists
none_in : (x : ℕ) → ¬ Contains {X = ℕ} [] x
none_in x h = let lt : h.0 < 0 = h.1 in omega arith

one_in : (x : ℕ) → Contains (x ∷ []) x
one_in x = (0, lit, refl)
  where
    lit : 0 < 1
    lit = omega arith

the_one : (x y : ℕ) → Contains (x ∷ []) y → y ≡ x
the_one x y h = at h.0 h.1 h.2
  where
    at : (k : ℕ) → k < 1 → get_or (x ∷ []) k y ≡ y → y ≡ x
    at zero lt e = sym e
    at (suc k) lt e = absurd (omega arith)

-- as many of the gathered disks as are asked for
pub all_taken : (count : ℕ) (disks : List ℕ) → count ≤ MOST_GATHERED → length disks ≡ MOST_GATHERED → length (take count disks) ≡ count
all_taken count disks most long = length-take-le count disks (subst (λ (n : ℕ). count ≤ n) (sym long) most)

-- ---- a bucket of one cell
-- the disks of the bucket are those of the cell
pub own_bucket : (chains : ChainsData) (cell : ℕ) → HaveOwnBuckets chains → cell < chains.buckets → (j : ℕ) →
    (InBucket chains.cells chains.buckets cell j ↔ IsCellOf chains.cells cell j)
own_bucket chains cell own lt j = (
  λ h. (let same : h.0 ≡ cell = sym (mod-eq_of_lt (own j h.0 h.1)) ∙ h.2 in
      subst (λ (n : ℕ). IsCellOf chains.cells n j) same h.1),
  λ here. (cell, here, mod-eq_of_lt lt),
)

own_first : (chains : ChainsData) (cell from : ℕ) (o : Option ℕ) → HaveOwnBuckets chains → cell < chains.buckets →
    IsFirst chains.cells chains.buckets cell from o → IsFirstOf (IsCellOf chains.cells cell) from o
own_first chains cell from o own lt h =
    first_kept (InBucket chains.cells chains.buckets cell) (IsCellOf chains.cells cell) from o (λ j le. own_bucket chains cell own lt j) h

-- ---- disks in one cell
one_cell : (cells : List (Option ℕ)) (a b disk : ℕ) → IsCellOf cells a disk → IsCellOf cells b disk → a ≡ b
one_cell cells a b disk first second = cc

not_less : (i j : ℕ) → ¬ (j < i) → i ≤ j
not_less i j never = grind arith

from_more : (cells : List (Option ℕ)) (xs ys : List ℕ) (disk : ℕ) → IsFromOneOf cells xs disk → IsFromOneOf cells (xs ++ ys) disk
from_more cells xs ys disk h = (h.0, Contains-append_left xs ys h.0 h.1, h.2)

from_later : (cells : List (Option ℕ)) (xs ys : List ℕ) (disk : ℕ) → IsFromOneOf cells ys disk → IsFromOneOf cells (xs ++ ys) disk
from_later cells xs ys disk h = (h.0, Contains-append_right xs ys h.0 h.1, h.2)

-- ---- the first disks of cells
pub head_added : (cells : List (Option ℕ)) (cell : ℕ) (old : List ℕ) (o : Option ℕ) → IsFirstOf (IsCellOf cells cell) 0 o →
    StartsAdded cells (λ n. n ≡ cell) old (with_offered old o)
head_added cells cell old None h = (
  [],
  sym (append-nil old),
  record {
    listed = λ disk here. absurd (none_in disk here);
    all = λ disk n here same. absurd (h disk (omega arith) (subst (λ (m : ℕ). IsCellOf cells m disk) same here));
  },
)
head_added cells cell old (Some i) h = (
  i ∷ [],
  refl,
  record {
    listed = λ disk is. (cell, subst (λ (n : ℕ). IsCellOf cells cell n) (sym (the_one i disk is)) h.1, refl);
    all = λ disk n here same. (let in_cell = subst (λ (m : ℕ). IsCellOf cells m disk) same here in
        (i, one_in i, (cell, h.1, in_cell, not_less i disk (λ less. h.2 disk (omega arith) less in_cell))));
  },
)

-- those of no cell
pub nothing_added : (cells : List (Option ℕ)) (IsSuch : ℕ → Type 0) (old : List ℕ) → ((cell : ℕ) → ¬ IsSuch cell) → StartsAdded cells IsSuch old old
nothing_added cells IsSuch old never = (
  [],
  sym (append-nil old),
  record { listed = λ disk here. absurd (none_in disk here); all = λ disk cell here such. absurd (never cell such) },
)

-- those of some cells, and then of others
pub both_added : (cells : List (Option ℕ)) (First Second Both : ℕ → Type 0) (a b c : List ℕ) → StartsAdded cells First a b → StartsAdded cells Second b c →
    ((cell : ℕ) → (Both cell ↔ (First cell ⊎ Second cell))) → StartsAdded cells Both a c
both_added cells First Second Both a b c (xs, xs_added, x) (ys, ys_added, y) split = (
  xs ++ ys,
  ys_added ∙ ap (λ zs. zs ++ ys) xs_added ∙ append_assoc a xs ys,
  record {
    listed = λ disk is. listed disk (Contains-append_cases xs ys disk is);
    all = λ disk cell here such. all disk cell here ((split cell).0 such);
  },
)
  where
    listed : (disk : ℕ) → Contains xs disk ⊎ Contains ys disk → (cell : ℕ) × IsCellOf cells cell disk × Both cell
    listed disk (inl is) = let h = x.listed disk is in (h.0, h.1, (split h.0).1 (inl h.2))
    listed disk (inr is) = let h = y.listed disk is in (h.0, h.1, (split h.0).1 (inr h.2))

    all : (disk cell : ℕ) → IsCellOf cells cell disk → First cell ⊎ Second cell → IsFromOneOf cells (xs ++ ys) disk
    all disk cell here (inl such) = from_more cells xs ys disk (x.all disk cell here such)
    all disk cell here (inr such) = from_later cells xs ys disk (y.all disk cell here such)

-- one more cell
pub next_cell : (first cell n : ℕ) → first ≤ cell → (((first ≤ n) × (n < cell + 1)) ↔ (((first ≤ n) × (n < cell)) ⊎ (n ≡ cell)))
next_cell first cell n le = grind arith

-- three cells in a line
pub line_added : (cells : List (Option ℕ)) (first step : ℕ) (a b c d : List ℕ) → StartsAdded cells (λ n. n ≡ first) a b →
    StartsAdded cells (λ n. n ≡ first + step) b c → StartsAdded cells (λ n. n ≡ first + 2 * step) c d → StartsAdded cells (IsInLine first step) a d
line_added cells first step a b c d one two three =
    both_added cells (λ n. n ≡ first) (λ n. (n ≡ first + step) ⊎ (n ≡ first + 2 * step)) (IsInLine first step) a b d one
    (both_added cells (λ n. n ≡ first + step) (λ n. n ≡ first + 2 * step) (λ n. (n ≡ first + step) ⊎ (n ≡ first + 2 * step)) b c d two three
    (λ n. (λ h. h, λ h. h)))
    (λ n. (λ h. h, λ h. h))

-- ---- disks that have a greater one in their cell
-- a pointer of a bucket of one cell says of that cell what it says
own_later : (chains : ChainsData) (cell from : ℕ) (x : Pointer) → HaveOwnBuckets chains → cell < chains.buckets →
    LeadsOn chains.cells chains.buckets cell from x → SaysLater chains.cells x
own_later chains cell from x own lt leads = says (disk_of x) leads.0 leads.1
  where
    says : (o : Option ℕ) → IsFirst chains.cells chains.buckets cell from o →
        (SaysMore x ↔ IsSomeAnd o (λ i. (j : ℕ) × (i < j) × InBucket chains.cells chains.buckets cell j)) → (SaysMore x ↔ IsSomeAnd o (HasLater chains.cells))
    says None first marks = marks
    says (Some i) first marks = (
      λ more. (let later = marks.0 more in (cell, later.0, here, (own_bucket chains cell own lt later.0).0 later.2, later.1)),
      λ later. marks.1 (
        later.1,
        later.4,
        (own_bucket chains cell own lt later.1).1
            (subst (λ (n : ℕ). IsCellOf chains.cells n later.1) (one_cell chains.cells later.0 cell i later.2 here) later.3),
      ),
    )
      where
        here : IsCellOf chains.cells cell i
        here = (own_bucket chains cell own lt i).0 first.1

-- if no place is held yet, none of the disks has to be looked at
pub none_pending : (cells : List (Option ℕ)) (disks : List ℕ) (places : Places) → ((p : ℕ) → ¬ Holds places p) → ArePending cells (length disks) disks places
none_pending cells disks places none p = (λ h. absurd (none p h), λ x. (let low = x.0 in let high = x.1 in absurd (omega arith)))

one_more : (disks : List ℕ) (d : ℕ) → length (disks ++ (d ∷ [])) ≡ length disks + 1
one_more disks d = length-append disks (d ∷ [])

at_before : (disks : List ℕ) (d p : ℕ) → p < length disks → get_or (disks ++ (d ∷ [])) p 0 ≡ get_or disks p 0
at_before disks d p lt = get_or_append_left disks (d ∷ []) 0 p lt

at_end : (disks : List ℕ) (d p : ℕ) → p ≡ length disks → get_or (disks ++ (d ∷ [])) p 0 ≡ d
at_end disks d p e = get_or_at disks d [] 0 p (sym e)

-- one more disk
pub pending_more : (cells : List (Option ℕ)) (first : ℕ) (disks : List ℕ) (before after : Places) (x : Pointer) → first ≤ length disks → SaysLater cells x →
    ((p : ℕ) → (Holds after p ↔ (Holds before p ⊎ ((p ≡ length disks) × SaysMore x)))) → ArePending cells first disks before →
    ArePending cells first (with_offered disks (disk_of x)) after
pending_more cells first disks before after x some says step pending = more (disk_of x) says
  where
    more : (o : Option ℕ) → (SaysMore x ↔ IsSomeAnd o (HasLater cells)) → ArePending cells first (with_offered disks o) after
    more None says p = (
      λ h. elim ((step p).0 h) [ inl was ↦ (pending p).0 was | inr new ↦ absurd (says.0 new.1) ],
      λ h. (step p).1 (inl ((pending p).1 h)),
    )
    more (Some d) says p = (λ h. forward ((step p).0 h), λ h. backward h (cases_lt p (length disks)))
      where
        forward : Holds before p ⊎ ((p ≡ length disks) × SaysMore x) →
            (first ≤ p) × (p < length (disks ++ (d ∷ []))) × HasLater cells (get_or (disks ++ (d ∷ [])) p 0)
        forward (inl was) =
            let h = (pending p).0 was in
            let lt = h.1 in
            (h.0, (let count = one_more disks d in omega arith), subst (HasLater cells) (sym (at_before disks d p lt)) h.2)
        forward (inr (e, more)) =
            (omega arith, (let count = one_more disks d in omega arith), subst (HasLater cells) (sym (at_end disks d p e)) (says.0 more))

        backward : (first ≤ p) × (p < length (disks ++ (d ∷ []))) × HasLater cells (get_or (disks ++ (d ∷ [])) p 0) →
            (p < length disks) ⊎ (length disks ≤ p) → Holds after p
        backward h (inl lt) = (step p).1 (inl ((pending p).1 (h.0, lt, subst (HasLater cells) (at_before disks d p lt) h.2)))
        backward h (inr past) =
            let e : p ≡ length disks = (let lt = h.1 in let count = one_more disks d in omega arith) in
            (step p).1 (inr (e, says.1 (subst (HasLater cells) (at_end disks d p e) h.2)))

pub leads_in : (chains : ChainsData) (cell from : ℕ) (x : Pointer) → HaveOwnBuckets chains → cell < chains.buckets →
    LeadsOn chains.cells chains.buckets cell from x → LeadsIn chains.cells cell from x
leads_in chains cell from x own lt leads = (
  own_first chains cell from (disk_of x) own lt leads.0,
  own_later chains cell from x own lt leads,
)

-- ---- the next disks
-- the disk is in the cell of this one, and after it
abbrev IsAfter : List (Option ℕ) → ℕ → ℕ → Type 0
IsAfter cells start disk = (cell : ℕ) × IsCellOf cells cell start × IsCellOf cells cell disk × (start < disk)

-- what is gathered while disks are followed: each disk that comes from the old ones is there, or after one at a place
-- that is held
pub record IsFollowing (cells : List (Option ℕ)) (old : List ℕ) (first : ℕ) (new : List ℕ) (places : Places) : Type 0 where
  pub kept : take first new ≡ take first old
  pub some : first ≤ length new
  pub listed : AreAllListed cells (drop first new)
  pub held : (p : ℕ) → Holds places p → (first ≤ p) × (p < length new) × HasLater cells (get_or new p 0)
  pub same : (disk : ℕ) → (IsFromOneOf cells (drop first old) disk ↔
      (Contains (drop first new) disk ⊎ ((p : ℕ) × Holds places p × IsAfter cells (get_or new p 0) disk)))

behind : (xs : List ℕ) (first p : ℕ) → first ≤ p → p < length xs → Contains (drop first xs) (get_or xs p 0)
behind xs first p from lt = (p - first, inside, there ∙ get_or_default xs p (get_or xs p 0) 0 lt)
  where
    inside : p - first < length (drop first xs)
    inside = let count = length-drop first xs in omega arith

    there : get_or (drop first xs) (p - first) (get_or xs p 0) ≡ get_or xs p (get_or xs p 0)
    there = get_or-drop first xs (p - first) (get_or xs p 0) ∙ ap (λ n. get_or xs n (get_or xs p 0)) (let sum : first + (p - first) ≡ p = omega arith in sum)

pub following_starts : (cells : List (Option ℕ)) (old : List ℕ) (first : ℕ) (places : Places) → first ≤ length old → AreAllListed cells (drop first old) →
    ArePending cells first old places → IsFollowing cells old first old places
following_starts cells old first places some listed pending = record {
  kept = refl;
  some = some;
  listed = listed;
  held = λ p h. (pending p).0 h;
  same = λ disk. (λ h. forward disk h (same_or_less h.0 disk h.2.3), backward disk);
}
  where
    same_or_less : (i j : ℕ) → i ≤ j → (i ≡ j) ⊎ (i < j)
    same_or_less i j le = grind arith

    forward : (disk : ℕ) (h : IsFromOneOf cells (drop first old) disk) → (h.0 ≡ disk) ⊎ (h.0 < disk) →
        Contains (drop first old) disk ⊎ ((p : ℕ) × Holds places p × IsAfter cells (get_or old p 0) disk)
    forward disk h (inl e) = inl (subst (λ (n : ℕ). Contains (drop first old) n) e h.1)
    forward disk h (inr less) = inr (first + h.1.0, (pending (first + h.1.0)).1 (omega arith, within, later), after)
      where
        within : first + h.1.0 < length old
        within = let lt = h.1.1 in let count = length-drop first old in omega arith

        there : get_or old (first + h.1.0) 0 ≡ h.0
        there = get_or_default old (first + h.1.0) 0 h.0 within ∙ sym (get_or-drop first old h.1.0 h.0) ∙ h.1.2

        later : HasLater cells (get_or old (first + h.1.0) 0)
        later = subst (HasLater cells) (sym there) (h.2.0, disk, h.2.1, h.2.2, less)

        after : IsAfter cells (get_or old (first + h.1.0) 0) disk
        after = subst (λ (n : ℕ). IsAfter cells n disk) (sym there) (h.2.0, h.2.1, h.2.2, less)

    backward : (disk : ℕ) → Contains (drop first old) disk ⊎ ((p : ℕ) × Holds places p × IsAfter cells (get_or old p 0) disk) →
        IsFromOneOf cells (drop first old) disk
    backward disk (inl is) = let here = listed disk is in (disk, is, (here.0, here.1, here.1, itself disk))
      where
        itself : (n : ℕ) → n ≤ n
        itself n = omega arith
    backward disk (inr (p, holds, after)) =
        let at = (pending p).0 holds in
        let less = after.3 in
        (get_or old p 0, behind old first p at.0 at.1, (after.0, after.1, after.2, omega arith))

-- a disk that has a later one in its cell has a next one
next_there : (cells : List (Option ℕ)) (s : ℕ) (o : Option ℕ) → HasLater cells s →
    ((cell : ℕ) → IsCellOf cells cell s → IsFirstOf (IsCellOf cells cell) (s + 1) o) → (n : ℕ) × (o ≡ Some n)
next_there cells s None later next = absurd (let less = later.4 in next later.0 later.2 later.1 (omega arith) later.3)
next_there cells s (Some n) later next = (n, refl)

pub longer : (cells : List (Option ℕ)) (disks : List ℕ) (s : ℕ) (o : Option ℕ) → HasLater cells s →
    ((cell : ℕ) → IsCellOf cells cell s → IsFirstOf (IsCellOf cells cell) (s + 1) o) → length (with_offered disks o) ≡ length disks + 1
longer cells disks s o later next =
    let there = next_there cells s o later next in
    subst (λ (o : Option ℕ). length (with_offered disks o) ≡ length disks + 1) (sym there.1) (one_more disks there.0)

-- the next of one disk at a place that was held
pub following_more : (cells : List (Option ℕ)) (old : List ℕ) (first : ℕ) (new : List ℕ) (before after : Places) (q : ℕ) (x : Pointer) →
    IsFollowing cells old first new before → Holds before q →
    ((cell : ℕ) → IsCellOf cells cell (get_or new q 0) → IsFirstOf (IsCellOf cells cell) (get_or new q 0 + 1) (disk_of x)) → SaysLater cells x →
    ((p : ℕ) → (Holds after p ↔ ((Holds before p × (p ≢ q)) ⊎ ((p ≡ length new) × SaysMore x)))) →
    IsFollowing cells old first (with_offered new (disk_of x)) after
following_more cells old first new before after q x following holds next says step = more (disk_of x) next says
  where
    held : (first ≤ q) × (q < length new) × HasLater cells (get_or new q 0)
    held = following.held q holds

    more : (o : Option ℕ) → ((cell : ℕ) → IsCellOf cells cell (get_or new q 0) → IsFirstOf (IsCellOf cells cell) (get_or new q 0 + 1) o) →
        (SaysMore x ↔ IsSomeAnd o (HasLater cells)) → IsFollowing cells old first (with_offered new o) after
    more None next says = let there = next_there cells (get_or new q 0) None held.2 next in absurd (none-some there.0 there.1)
    more (Some n) next says = record {
      kept = take-append-le first new (n ∷ []) following.some ∙ following.kept;
      some = (let count = one_more new n in let some = following.some in omega arith);
      listed = λ disk is. listed disk (Contains-append_cases (drop first new) (n ∷ []) disk (subst (λ (xs : List ℕ). Contains xs disk) parts is));
      held = λ p h. held_still p ((step p).0 h);
      same = λ disk. (
        λ h. forward disk ((following.same disk).0 h),
        λ h. (following.same disk).1 (backward disk h),
      );
    }
      where
        first_next : IsFirstOf (IsCellOf cells held.2.0) (get_or new q 0 + 1) (Some n)
        first_next = next held.2.0 held.2.2

        parts : drop first (new ++ (n ∷ [])) ≡ drop first new ++ (n ∷ [])
        parts = drop-append-le first new (n ∷ []) following.some

        listed : (disk : ℕ) → Contains (drop first new) disk ⊎ Contains (n ∷ []) disk → (cell : ℕ) × IsCellOf cells cell disk
        listed disk (inl is) = following.listed disk is
        listed disk (inr is) = (held.2.0, subst (λ (m : ℕ). IsCellOf cells held.2.0 m) (sym (the_one n disk is)) first_next.1)

        held_still : (p : ℕ) → (Holds before p × (p ≢ q)) ⊎ ((p ≡ length new) × SaysMore x) →
            (first ≤ p) × (p < length (new ++ (n ∷ []))) × HasLater cells (get_or (new ++ (n ∷ [])) p 0)
        held_still p (inl (was, other)) =
            let h = following.held p was in
            let lt = h.1 in
            (h.0, (let count = one_more new n in omega arith), subst (HasLater cells) (sym (at_before new n p lt)) h.2)
        held_still p (inr (e, says_more)) = (
          (let some = following.some in omega arith),
          (let count = one_more new n in omega arith),
          subst (HasLater cells) (sym (at_end new n p e)) (says.0 says_more),
        )

        order : (i j : ℕ) → (i < j) ⊎ ((i ≡ j) ⊎ (j < i))
        order i j = grind arith

        from_q : (disk : ℕ) → IsAfter cells (get_or new q 0) disk → (n < disk) ⊎ ((n ≡ disk) ⊎ (disk < n)) →
            Contains (drop first (new ++ (n ∷ []))) disk ⊎ ((p : ℕ) × Holds after p × IsAfter cells (get_or (new ++ (n ∷ [])) p 0) disk)
        from_q disk h which = by_order which
          where
            here : IsCellOf cells held.2.0 disk
            here = subst (λ (m : ℕ). IsCellOf cells m disk) (one_cell cells h.0 held.2.0 (get_or new q 0) h.1 held.2.2) h.2

            by_order : (n < disk) ⊎ ((n ≡ disk) ⊎ (disk < n)) →
                Contains (drop first (new ++ (n ∷ []))) disk ⊎ ((p : ℕ) × Holds after p × IsAfter cells (get_or (new ++ (n ∷ [])) p 0) disk)
            by_order (inl less) = inr (
              length new,
              (step (length new)).1 (inr (refl, says.1 (held.2.0, disk, first_next.1, here, less))),
              subst (λ (m : ℕ). IsAfter cells m disk) (sym (at_end new n (length new) refl)) (held.2.0, first_next.1, here, less),
            )
            by_order (inr (inl e)) = inl (subst (λ (xs : List ℕ). Contains xs disk) (sym parts)
                (Contains-append_right (drop first new) (n ∷ []) disk (subst (λ (m : ℕ). Contains (n ∷ []) m) e (one_in n))))
            by_order (inr (inr more)) = absurd (let less = h.3 in first_next.2 disk (omega arith) more here)

        forward : (disk : ℕ) → Contains (drop first new) disk ⊎ ((p : ℕ) × Holds before p × IsAfter cells (get_or new p 0) disk) →
            Contains (drop first (new ++ (n ∷ []))) disk ⊎ ((p : ℕ) × Holds after p × IsAfter cells (get_or (new ++ (n ∷ [])) p 0) disk)
        forward disk (inl is) = inl (subst (λ (xs : List ℕ). Contains xs disk) (sym parts) (Contains-append_left (drop first new) (n ∷ []) disk is))
        forward disk (inr (p, holds, h)) = elim (same_or_not p q) [
          | inl e ↦ from_q disk (subst (λ (m : ℕ). IsAfter cells (get_or new m 0) disk) e h) (order n disk)
          | inr ne ↦ inr (p, (step p).1 (inl (holds, ne)), subst (λ (m : ℕ). IsAfter cells m disk) (sym (at_before new n p (following.held p holds).1)) h)
        ]

        from_n : (disk : ℕ) → IsAfter cells n disk → IsAfter cells (get_or new q 0) disk
        from_n disk h =
            let less = h.3 in
            let more : get_or new q 0 + 1 ≤ n = first_next.0 in
            (held.2.0, held.2.2, subst (λ (m : ℕ). IsCellOf cells m disk) (one_cell cells h.0 held.2.0 n h.1 first_next.1) h.2, omega arith)

        backward : (disk : ℕ) → Contains (drop first (new ++ (n ∷ []))) disk ⊎ ((p : ℕ) × Holds after p × IsAfter cells (get_or (new ++ (n ∷ [])) p 0) disk) →
            Contains (drop first new) disk ⊎ ((p : ℕ) × Holds before p × IsAfter cells (get_or new p 0) disk)
        backward disk (inl is) = elim (Contains-append_cases (drop first new) (n ∷ []) disk (subst (λ (xs : List ℕ). Contains xs disk) parts is)) [
          | inl was ↦ inl was
          | inr one ↦ inr (
            q,
            holds,
            subst (λ (m : ℕ). IsAfter cells (get_or new q 0) m) (sym (the_one n disk one))
                (held.2.0, held.2.2, first_next.1, (let more : get_or new q 0 + 1 ≤ n = first_next.0 in omega arith)),
          )
        ]
        backward disk (inr (p, h, after_p)) = elim ((step p).0 h) [
          | inl was ↦ inr (p, was.0, subst (λ (m : ℕ). IsAfter cells m disk) (at_before new n p (following.held p was.0).1) after_p)
          | inr end ↦ inr (q, holds, from_n disk (subst (λ (m : ℕ). IsAfter cells m disk) (at_end new n p end.0) after_p))
        ]

-- the same for the first elements of an array
pub walk_held : (cells : List (Option ℕ)) (old : List ℕ) (first count : ℕ) (disks : List ℕ) (places : Places) (q : ℕ) → count ≤ MOST_GATHERED →
    length disks ≡ MOST_GATHERED → IsFollowing cells old first (take count disks) places → Holds places q → (q < count) × HasLater cells (get_or disks q 0)
walk_held cells old first count disks places q most long following holds =
    let held = following.held q holds in
    let less : q < count = subst (λ (n : ℕ). q < n) (all_taken count disks most long) held.1 in
    (less, subst (HasLater cells) (get_or-take count disks q 0 less) held.2)

pub walk_step : (cells : List (Option ℕ)) (old : List ℕ) (first count : ℕ) (disks : List ℕ) (before without after : Places) (q : ℕ) (x : Pointer) →
    count ≤ MOST_GATHERED → length disks ≡ MOST_GATHERED → IsFollowing cells old first (take count disks) before → Holds before q →
    ((cell : ℕ) → IsCellOf cells cell (get_or disks q 0) → IsFirstOf (IsCellOf cells cell) (get_or disks q 0 + 1) (disk_of x)) → SaysLater cells x →
    ((p : ℕ) → (Holds without p ↔ (Holds before p × (p ≢ q)))) → ((p : ℕ) → (Holds after p ↔ (Holds without p ⊎ ((p ≡ count) × SaysMore x)))) →
    IsFollowing cells old first (with_offered (take count disks) (disk_of x)) after
walk_step cells old first count disks before without after q x most long following holds next says taken_out put_in =
    following_more cells old first (take count disks) before after q x following holds
    (subst (λ (s : ℕ). (cell : ℕ) → IsCellOf cells cell s → IsFirstOf (IsCellOf cells cell) (s + 1) (disk_of x)) (sym (get_or-take count disks q 0 less)) next) says step
  where
    taken : length (take count disks) ≡ count
    taken = all_taken count disks most long

    less : q < count
    less = (walk_held cells old first count disks before q most long following holds).0

    split : (p : ℕ) → Holds without p ⊎ ((p ≡ count) × SaysMore x) → (Holds before p × (p ≢ q)) ⊎ ((p ≡ length (take count disks)) × SaysMore x)
    split p (inl h) = inl ((taken_out p).0 h)
    split p (inr h) = inr (h.0 ∙ sym taken, h.1)

    join : (p : ℕ) → (Holds before p × (p ≢ q)) ⊎ ((p ≡ length (take count disks)) × SaysMore x) → Holds without p ⊎ ((p ≡ count) × SaysMore x)
    join p (inl h) = inl ((taken_out p).1 h)
    join p (inr h) = inr (h.0 ∙ taken, h.1)

    step : (p : ℕ) → (Holds after p ↔ ((Holds before p × (p ≢ q)) ⊎ ((p ≡ length (take count disks)) × SaysMore x)))
    step p = (λ h. split p ((put_in p).0 h), λ h. (put_in p).1 (join p h))

pub walk_longer : (cells : List (Option ℕ)) (count : ℕ) (disks : List ℕ) (q count' : ℕ) (disks' : List ℕ) (x : Pointer) → count ≤ MOST_GATHERED →
    length disks ≡ MOST_GATHERED → count' ≤ MOST_GATHERED → length disks' ≡ MOST_GATHERED → HasLater cells (get_or disks q 0) →
    ((cell : ℕ) → IsCellOf cells cell (get_or disks q 0) → IsFirstOf (IsCellOf cells cell) (get_or disks q 0 + 1) (disk_of x)) →
    take count' disks' ≡ with_offered (take count disks) (disk_of x) → count' ≡ count + 1
walk_longer cells count disks q count' disks' x most long most' long' later next offered =
    sym (all_taken count' disks' most' long') ∙ ap length offered ∙ longer cells (take count disks) (get_or disks q 0) (disk_of x) later next
    ∙ ap (λ n. n + 1) (all_taken count disks most long)

-- no place is held any more
pub following_ends : (cells : List (Option ℕ)) (old : List ℕ) (first : ℕ) (new : List ℕ) (places : Places) → IsFollowing cells old first new places →
    ((p : ℕ) → ¬ Holds places p) → AreFollowed cells first old new
following_ends cells old first new places following none = record {
  kept = following.kept;
  all = λ disk. (
    λ is. (following.same disk).1 (inl is),
    λ from. elim ((following.same disk).0 from) [ inl is ↦ is | inr (p, h, after) ↦ absurd (none p h) ],
  );
}

-- ---- all disks of some cells
pub starts_behind : (cells : List (Option ℕ)) (IsSuch : ℕ → Type 0) (old new : List ℕ) → StartsAdded cells IsSuch old new → AreAllListed cells (drop (length old) new)
starts_behind cells IsSuch old new (starts, added, are) = subst (AreAllListed cells) (sym (ap (drop (length old)) added ∙ drop_at old starts (length old) refl))
    (λ disk is. (let h = are.listed disk is in (h.0, h.1)))

pub gathered_in : (cells : List (Option ℕ)) (IsSuch : ℕ → Type 0) (old starts new : List ℕ) → StartsAdded cells IsSuch old starts →
    AreFollowed cells (length old) starts new → AreGatheredIn cells IsSuch old new
gathered_in cells IsSuch old mid new (starts, added, are) followed disk = (
  λ is. forward (Contains-append_cases (take (length old) new) (drop (length old) new) disk (subst (λ (xs : List ℕ). Contains xs disk) (sym whole) is)),
  λ h. subst (λ (xs : List ℕ). Contains xs disk) whole (backward h),
)
  where
    whole : take (length old) new ++ drop (length old) new ≡ new
    whole = take-append-drop (length old) new

    before : take (length old) new ≡ old
    before = followed.kept ∙ ap (take (length old)) added ∙ take_at old starts (length old) refl

    behind : drop (length old) mid ≡ starts
    behind = ap (drop (length old)) added ∙ drop_at old starts (length old) refl

    forward : Contains (take (length old) new) disk ⊎ Contains (drop (length old) new) disk →
        Contains old disk ⊎ ((cell : ℕ) × IsCellOf cells cell disk × IsSuch cell)
    forward (inl is) = inl (subst (λ (xs : List ℕ). Contains xs disk) before is)
    forward (inr is) =
        let from = subst (λ (xs : List ℕ). IsFromOneOf cells xs disk) behind ((followed.all disk).0 is) in
        let start = are.listed from.0 from.1 in
        inr (start.0, subst (λ (n : ℕ). IsCellOf cells n disk) (one_cell cells from.2.0 start.0 from.0 from.2.1 start.1) from.2.2, start.2)

    backward : Contains old disk ⊎ ((cell : ℕ) × IsCellOf cells cell disk × IsSuch cell) → Contains (take (length old) new ++ drop (length old) new) disk
    backward (inl is) = Contains-append_left (take (length old) new) (drop (length old) new) disk (subst (λ (xs : List ℕ). Contains xs disk) (sym before) is)
    backward (inr h) = Contains-append_right (take (length old) new) (drop (length old) new) disk
        ((followed.all disk).1 (subst (λ (xs : List ℕ). IsFromOneOf cells xs disk) (sym behind) (are.all disk h.0 h.1 h.2)))
