-- Disks that entries have nothing to do with: if their rows are set, each entry is what it was.
use Rattle.std.proofs.Common.{◌≡◌, ◌⊎◌, inl, inr, ℕ, zero, suc, ◌==◌, Bool, List, [], ◌∷◌, ◌++◌, Option, Some, None, Ok, sym, ap, ◌∙◌, refl, arith}
use Rattle.std.specs.Prelude.{if◌then◌else◌, ◌||◌, IfSome}
use Rattle.std.specs.List.{Contains}
use Rattle.fixed_motion.specs.declared.disk.Disk.{Disk}
use Rattle.event_stamps.specs.declared.Stamp.{Stamp}
use Rattle.event_stamps.specs.declared.Kind.{Kind}
use Rattle.event_stamps.specs.declared.Kind.TheVariants.{Cross as Crossing, Wall, Pair}
use Rattle.cell_grid.specs.Grid.{GridData}
use Rattle.region_view.specs.declared.action.Placed.{Placed}
use Rattle.region_view.specs.declared.action.Action.{Action}
use Rattle.region_view.specs.declared.action.Action.TheVariants.{Cross, Hit}
use Rattle.region_view.specs.Placing.{Placing}
use Rattle.region_view.specs.Views.{ViewData, rows_in}
use Rattle.region_view.specs.Acting.{stamp_of, action_of, partner_in, disk_in, recelled, redisked}
use Rattle.region_view.specs.Setting.{RowList, rows_set, set_rows, get_over, numbers_of}
use Rattle.region_view.specs.Messages.{message_of, message_with, told_rows, sees, seen_by}
use Rattle.region_view.proofs.Puts.{same_view, set_rows_are_put_over, same_is}
use Rattle.region_messages.specs.Trails.{IsAmong}
use Rattle.region_view.specs.Naming.{Names, NamesAny}
use Rattle.region_view.proofs.Naming.{none_among, among_or_not, natives_stay}
use Rattle.local_run.specs.declared.home.Home.{Home}
use Rattle.local_run.specs.LocalRun.{IsOwn, ComesToInView}
use Rattle.local_run.specs.Weaving.{AreOthers}
use Rattle.local_run.proofs.Touched.{over_others, same_but}
use Rattle.local_run.proofs.Untouched.{as_rows, two_are_a_pair}

-- ---- rows of other disks
pub here_first : (x : ℕ) (xs : List ℕ) → Contains (x ∷ xs) x
here_first x xs = (0, omega arith, refl)

pub first_or_later : (x : ℕ) (xs : List ℕ) (i : ℕ) → Contains (x ∷ xs) i → (i ≡ x) ⊎ Contains xs i
first_or_later x xs i (zero, lt, at) = inl (sym at)
first_or_later x xs i (suc k, lt, at) = inr (k, omega arith, at)

-- such rows may be set in any order
pub crosswise : (view : ViewData) (xs ys : RowList) → AreOthers xs ys →
    set_rows (set_rows view xs) ys ≡ set_rows (set_rows view ys) xs
crosswise view xs ys others = same_view (set_rows (set_rows view xs) ys) (set_rows (set_rows view ys) xs) at
  where
    at : (i : ℕ) → rows_in (set_rows (set_rows view xs) ys) i ≡ rows_in (set_rows (set_rows view ys) xs) i
    at i = elim (among_or_not (numbers_of xs) i) [
      | inl is ↦ same_but (set_rows view xs) ys i (others i is) ∙ set_rows_are_put_over view xs i
          ∙ sym (set_rows_are_put_over (set_rows view ys) xs i
          ∙ ap (get_over xs i) (same_but view ys i (others i is)))
      | inr not ↦ set_rows_are_put_over (set_rows view xs) ys i
          ∙ ap (get_over ys i) (same_but view xs i not)
          ∙ sym (same_but (set_rows view ys) xs i not ∙ set_rows_are_put_over view ys i)
    ]

-- what stands at the number of a row is one of the rows
pub over_among : (rows : RowList) (i : ℕ) (o : Option Placed) (p : Placed) → Contains (numbers_of rows) i →
    get_over rows i o ≡ Some p → IsAmong (i, Some p) rows
over_among [] i o p has is = absurd (none_among i has)
over_among (r ∷ rows) i o p has is = elim (among_or_not (numbers_of rows) i) [
  | inl later ↦ inr (over_among rows i (if i == r.0 then r.1 else o) p later is)
  | inr not ↦ elim (first_or_later r.0 (numbers_of rows) i has) [
    | inl same ↦ inl (here same not)
    | inr later ↦ absurd (not later)
  ]
]
  where
    here : i ≡ r.0 → ¬ Contains (numbers_of rows) i → (i, Some p) ≡ r
    here same not =
        let row : Some p ≡ r.1 = sym is ∙ over_others rows i (if i == r.0 then r.1 else o) not
        ∙ ap (λ (b : Bool). if b then r.1 else o) (same_is i r.0 same) in
        λ k. (same k, row k)

-- and doesn't depend on what stood there before
pub over_here : (rows : RowList) (i : ℕ) (o r : Option Placed) → Contains (numbers_of rows) i →
    get_over rows i o ≡ get_over rows i r
over_here [] i o r has = absurd (none_among i has)
over_here (x ∷ rows) i o r has = elim (first_or_later x.0 (numbers_of rows) i has) [
  | inl same ↦ ap (λ (b : Bool). get_over rows i (if b then x.1 else o)) (same_is i x.0 same)
      ∙ sym (ap (λ (b : Bool). get_over rows i (if b then x.1 else r)) (same_is i x.0 same))
  | inr later ↦ over_here rows i (if i == x.0 then x.1 else o) (if i == x.0 then x.1 else r) later
]

-- ---- candidates
-- a native candidate of other disks stays one if rows are set, and was one if it is one then
pub own_on : (h : Home) (view : ViewData) (rows : RowList) (s : Stamp) → ¬ NamesAny s (numbers_of rows) →
    IsOwn h view s → IsOwn h (set_rows view rows) s
unfolding IsOwn
own_on h view rows s not own = (natives_stay h.rules h.grid h.number view (set_rows view rows)
    (numbers_of rows) s (same_but view rows) not).0 own

pub own_back : (h : Home) (view : ViewData) (rows : RowList) (s : Stamp) → ¬ NamesAny s (numbers_of rows) →
    IsOwn h (set_rows view rows) s → IsOwn h view s
unfolding IsOwn
own_back h view rows s not own = (natives_stay h.rules h.grid h.number view (set_rows view rows)
    (numbers_of rows) s (same_but view rows) not).1 own

-- ---- what an event has to do with
pub later_still : (x : ℕ) (xs : List ℕ) (i : ℕ) → Contains xs i → Contains (x ∷ xs) i
later_still x xs i (k, lt, at) = (suc k, omega arith, at)

-- an event sets only rows of its own disks
pub set_are_named : (h : Home) (view : ViewData) (x : Action) (i : ℕ) → ComesToInView h view (stamp_of x) (Ok x) →
    Contains (numbers_of (rows_set (rows_in view) x)) i → Names (stamp_of x) i
set_are_named h view (Cross s cell) i comes has = by_row (rows_in view s.first) has
  where
    by_row : (o : Option Placed) → Contains (numbers_of (as_rows (recelled s.first cell o))) i →
        Names s i
    by_row None has = absurd (none_among i has)
    by_row (Some p) has = elim (first_or_later s.first [] i has) [
      | inl same ↦ inl (sym same)
      | inr none ↦ absurd (none_among i none)
    ]
set_are_named h view (Hit change) i comes has =
    by_rows (rows_in view s.first) (rows_in view s.second) change.second (two_are_a_pair h view change comes) has
  where
    s : Stamp
    s = change.stamp

    one : (j : ℕ) → Contains (j ∷ []) i → j ≡ i
    one j has = elim (first_or_later j [] i has) [
      | inl same ↦ sym same
      | inr none ↦ absurd (none_among i none)
    ]

    by_rows : (o r : Option Placed) (c : Option Disk) → IfSome c (λ _. s.kind ≡ Pair) →
        Contains (numbers_of (as_rows (redisked s.first (Some change.first) o ++ redisked s.second c r))) i →
        Names s i
    by_rows None r None pair has = absurd (none_among i has)
    by_rows None None (Some c) pair has = absurd (none_among i has)
    by_rows None (Some r) (Some c) pair has = inr (pair, one s.second has)
    by_rows (Some o) r None pair has = inl (one s.first has)
    by_rows (Some o) None (Some c) pair has = inl (one s.first has)
    by_rows (Some o) (Some r) (Some c) pair has = elim (first_or_later s.first (s.second ∷ []) i has) [
      | inl same ↦ inl (sym same)
      | inr later ↦ inr (pair, one s.second later)
    ]

-- ---- the result of an event if its disks are as they were
abbrev pub AreSame : Stamp → ViewData → ViewData → Type 0
AreSame s v w = (i : ℕ) → Names s i → rows_in w i ≡ rows_in v i

partner_same : (k : Kind) (f g : Placing) (j : ℕ) → (k ≡ Pair → f j ≡ g j) →
    partner_in k f j ≡ partner_in k g j
partner_same Crossing f g j same = refl
partner_same Wall f g j same = refl
partner_same Pair f g j same = ap disk_in (same refl)

pub same_action : (h : Home) (v w : ViewData) (s : Stamp) (x : Action) → AreSame s v w →
    ComesToInView h v s (Ok x) → ComesToInView h w s (Ok x)
same_action h v w s x same (p, there, is) = (
  p,
  same s.first (inl refl) ∙ there,
  is ∙ ap (λ (o : Option Disk). action_of h.rules h.grid s p.disk o s.kind)
      (sym (partner_same s.kind (rows_in w) (rows_in v) s.second (λ pair. same s.second (inr (pair, refl))))),
)

pub same_rows : (h : Home) (v w : ViewData) (x : Action) → ComesToInView h v (stamp_of x) (Ok x) →
    AreSame (stamp_of x) v w → rows_set (rows_in w) x ≡ rows_set (rows_in v) x
same_rows h v w (Cross s cell) comes same =
    ap (λ (o : Option Placed). as_rows (recelled s.first cell o)) (same s.first (inl refl))
same_rows h v w (Hit change) comes same = by_second change.second (two_are_a_pair h v change comes)
  where
    s : Stamp
    s = change.stamp

    first : rows_in w s.first ≡ rows_in v s.first
    first = same s.first (inl refl)

    by_second : (b : Option Disk) → IfSome b (λ _. s.kind ≡ Pair) →
        as_rows (redisked s.first (Some change.first) (rows_in w s.first) ++ redisked s.second b (rows_in w s.second))
        ≡ as_rows (redisked s.first (Some change.first) (rows_in v s.first) ++ redisked s.second b (rows_in v s.second))
    by_second None alone =
        ap (λ (o : Option Placed). as_rows (redisked s.first (Some change.first) o ++ [])) first
    by_second (Some b) pair =
        let second = same s.second (inr (pair, refl)) in
        λ i. as_rows (redisked s.first (Some change.first) (first i) ++ redisked s.second (Some b) (second i))

-- ---- what is told
told_same : (grid : GridData) (k : ℕ) (f g : Placing) (rows : RowList) →
    ((i : ℕ) → Contains (numbers_of rows) i → f i ≡ g i) → told_rows grid k f rows ≡ told_rows grid k g rows
told_same grid k f g [] same = refl
told_same grid k f g (r ∷ rows) same =
    let first = same r.0 (here_first r.0 (numbers_of rows)) in
    let rest = told_same grid k f g rows (λ i has. same i (later_still r.0 (numbers_of rows) i has)) in
    λ i. (if sees grid k (first i) || sees grid k r.1 then (r.0, seen_by grid k r.1) ∷ [] else []) ++ rest i

pub same_message : (grid : GridData) (k : ℕ) (f g : Placing) (x : Action) →
    rows_set f x ≡ rows_set g x →
    ((i : ℕ) → Contains (numbers_of (rows_set g x)) i → f i ≡ g i) →
    message_of grid k f x ≡ message_of grid k g x
unfolding message_of
same_message grid k f g x rows same = ap (message_with (stamp_of x))
    (ap (told_rows grid k f) rows ∙ told_same grid k f g (rows_set g x) same)
