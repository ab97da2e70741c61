-- What the rows that lead back over the entries of a log tell, before which a message is put.
use Rattle.std.proofs.Common.{◌≡◌, ◌⊎◌, inl, inr, ℕ, zero, suc, ◌==◌, Bool, true, false, List, [], ◌∷◌, Some, sym, ap, ◌∙◌, subst, refl, arith}
use Rattle.std.specs.Prelude.{None, All}
use Rattle.std.specs.List.{Contains}
use Rattle.event_stamps.specs.declared.Stamp.{Stamp}
use Rattle.event_stamps.specs.declared.Kind.TheVariants.{Pair}
use Rattle.cell_grid.specs.Grid.{Owns}
use Rattle.region_view.specs.declared.action.Placed.{Placed}
use Rattle.region_view.specs.Placing.{IsValidPlacing}
use Rattle.region_view.specs.Views.{ViewData, rows_in}
use Rattle.region_view.specs.Setting.{RowList, set_rows, rows_at, rows_set, numbers_of}
use Rattle.region_view.proofs.Puts.{swap_is_undone, set_rows_are_put_over}
use Rattle.region_messages.specs.Trails.{IsAmong}
use Rattle.region_view.specs.Naming.{Names, NamesAny}
use Rattle.region_view.proofs.Naming.{among_or_not, near_pair, same_row}
use Rattle.local_run.specs.declared.home.Home.{Home}
use Rattle.local_run.specs.declared.entry.Entry.{Entry}
use Rattle.local_run.specs.declared.entry.Entry.TheVariants.{Native, Heard}
use Rattle.local_run.specs.Entries.{entry_stamp}
use Rattle.local_run.specs.LocalRun.{At, after_entry, IsOwn, IsInPlace, IsMove, Moves}
use Rattle.local_run.specs.Weaving.{IsApart, LeavesNear, AreAside, AreOthers}
use Rattle.event_log.specs.Logged.{Logged, entries_in, sets}
use Rattle.event_log.specs.Undoing.{LeadBack, IsAside, rows_by, view_with, LoggedAreAside as AreSpared}
use Rattle.event_log.proofs.AtFloor.{view_of_entry}
use Rattle.region_parts.specs.Aside.{IsOwnTouch, AllTouchAfter, IsLateAside, IsValidBack}
use Rattle.local_run.proofs.Touched.{over_others, same_but}
use Rattle.local_run.proofs.Valid.{HaveValidRows, valid_without, valid_along}
use Rattle.local_run.proofs.Aside.{here_first, later_still, over_among, over_here, same_rows, set_are_named}

-- ---- what stood in the rows
-- a pair that the region runs, by what stands in a view
touch_of : (h : Home) (view : ViewData) (s : Stamp) → IsOwn h view s → s.kind ≡ Pair →
    (a : Placed) × (rows_in view s.first ≡ Some a)
    × ((b : Placed) × (rows_in view s.second ≡ Some b) × IsOwnTouch h s.first a s.second b s)
unfolding IsOwn
touch_of h view s own pair =
    let near = near_pair h.rules h.grid h.number view s own pair in
    let same = same_row view s.first s.first own.1.0 near.1.0 own.1.1 near.1.1 refl in (
      near.1.0,
      near.1.1,
      (
        near.1.2.0,
        near.1.2.1,
        (
          near.0,
          (near.1.2.2, near.1.2.3),
          subst (λ (x : Placed). Owns h.grid h.number x.cell) same own.1.2,
        ),
      ),
    )

-- a native candidate of a disk with the disks of the rows is such a pair
pub touch_of_rows : (h : Home) (rows : RowList) (view : ViewData) (s : Stamp) (i : ℕ) (p : Placed) →
    IsOwn h (set_rows view rows) s → ¬ Contains (numbers_of rows) i → rows_in view i ≡ Some p →
    Names s i → NamesAny s (numbers_of rows) → (j : ℕ) × (q : Placed) × IsAmong (j, Some q) rows
    × (IsOwnTouch h i p j q s ⊎ IsOwnTouch h j q i p s)
touch_of_rows h rows view s i p own not there named names = by_names names named
  where
    here : rows_in (set_rows view rows) i ≡ Some p
    here = same_but view rows i not ∙ there

    row_of : (j : ℕ) (q : Placed) → Contains (numbers_of rows) j → rows_in (set_rows view rows) j ≡ Some q →
        IsAmong (j, Some q) rows
    row_of j q has is =
        over_among rows j (rows_in view j) q has (sym (set_rows_are_put_over view rows j) ∙ is)

    by_names : NamesAny s (numbers_of rows) → Names s i → (j : ℕ) × (q : Placed) × IsAmong (j, Some q) rows
        × (IsOwnTouch h i p j q s ⊎ IsOwnTouch h j q i p s)
    by_names (inl has) (inl first) = absurd (not (subst (Contains (numbers_of rows)) first has))
    by_names (inl has) (inr (pair, second)) =
        let m = touch_of h (set_rows view rows) s own pair in
        let same = same_row (set_rows view rows) s.second i m.2.0 p m.2.1 here second in (
          s.first,
          m.0,
          row_of s.first m.0 has m.1,
          inr (subst (λ (x : Placed). IsOwnTouch h s.first m.0 i x s) same
              (subst (λ (n : ℕ). IsOwnTouch h s.first m.0 n m.2.0 s) second m.2.2)),
        )
    by_names (inr (pair, has)) (inl first) =
        let m = touch_of h (set_rows view rows) s own pair in
        let same = same_row (set_rows view rows) s.first i m.0 p m.1 here first in (
          s.second,
          m.2.0,
          row_of s.second m.2.0 has m.2.1,
          inl (subst (λ (x : Placed). IsOwnTouch h i x s.second m.2.0 s) same
              (subst (λ (n : ℕ). IsOwnTouch h n m.0 s.second m.2.0 s) first m.2.2)),
        )
    by_names (inr (pair, has)) (inr (also, second)) =
        absurd (not (subst (Contains (numbers_of rows)) second has))

-- an entry over which such rows lead back leaves what is near the others
leaves_near : (h : Home) (rows back : RowList) (t : Stamp) (before after : ViewData) →
    set_rows after back ≡ before → AreOthers rows back → AllTouchAfter h t back rows →
    LeavesNear h rows t before after
leaves_near h rows back t before after is others later i p there = elim (among_or_not (numbers_of back) i) [
  | inl has ↦ inr (λ s own named names.
      let m = touch_of_rows h rows before s i p own (λ also. others i also has) there named names in
      later (i, Some p) (m.0, Some m.1) (over_among back i (rows_in after i) p has
      (sym (set_rows_are_put_over after back i) ∙ here)) m.2 s m.3)
  | inr not ↦ inl (sym (same_but after back i not) ∙ here)
]
  where
    here : rows_in (set_rows after back) i ≡ Some p
    here = ap (λ (v : ViewData). rows_in v i) is ∙ there

-- the rows beside an entry lead back over it
leads_back : (view : ViewData) (l : Logged) → l.1 ≡ rows_at (rows_in view) (rows_by view l.0) →
    set_rows (view_with view l) l.1 ≡ view
leads_back view l is = ap (set_rows (view_with view l)) is ∙ swap_is_undone view (rows_by view l.0)

all_rest : {A : Type 0} (P : A → Type 0) (x : A) (xs : List A) → All P (x ∷ xs) → P x × All P xs
all_rest P x xs all = (all 0 x (omega arith), λ k d lt. all (suc k) d (omega arith))

-- so entries have nothing to do with rows, if the rows that lead back over them have not
pub aside_by_backs : (h : Home) (rows : RowList) (a : At) (log : List Logged) → LeadBack a.view log →
    All (IsLateAside h rows) log → All (IsApart rows) (entries_in log) → AreAside h rows a (entries_in log)
aside_by_backs h rows a [] back late apart = tt
aside_by_backs h rows a (l ∷ log) back late apart =
    let after : (after_entry a l.0).view ≡ view_with a.view l = view_of_entry a l l.0 refl in
    let one = all_rest (IsLateAside h rows) l log late in
    let other = all_rest (IsApart rows) l.0 (entries_in log) apart in (
      other.0,
      leaves_near h rows l.1 (entry_stamp l.0) a.view (after_entry a l.0).view
          (ap (λ (v : ViewData). set_rows v l.1) after ∙ leads_back a.view l back.0) one.0.others one.0.later,
      aside_by_backs h rows (after_entry a l.0) log
          (subst (λ (v : ViewData). LeadBack v log) (sym after) back.1) one.1 other.1,
    )

-- ---- what the rows lead back to is valid
still_waits : (h : Home) (a : At) (e : Entry) → HaveValidRows h a.waiting →
    HaveValidRows h (after_entry a e).waiting
still_waits h a (Native x) waits = waits
still_waits h a (Heard q m) waits = valid_without h a.waiting q waits

valid_back : (h : Home) (back : RowList) (before after : ViewData) → set_rows after back ≡ before →
    IsValidPlacing h.rules h.grid (rows_in before) → IsValidBack h back
valid_back h back before after is valid i p there = elim (among_or_not (numbers_of back) i) [
  | inl has ↦
      let here : rows_in before i ≡ Some p = ap (λ (v : ViewData). rows_in v i) (sym is)
      ∙ set_rows_are_put_over after back i ∙ over_here back i (rows_in after i) None has ∙ there in
      (valid.disk i p here, valid.cell i p here)
  | inr not ↦ absurd (let none : None ≡ Some p = sym (over_others back i None not) ∙ there in cc)
]

pub backs_valid : (h : Home) (a : At) (log : List Logged) → IsInPlace h →
    IsValidPlacing h.rules h.grid (rows_in a.view) → HaveValidRows h a.waiting → Moves h a (entries_in log) →
    LeadBack a.view log → All (λ l. IsValidBack h l.1) log
backs_valid h a [] place valid waits moves back k d lt = absurd (omega arith)
backs_valid h a (l ∷ log) place valid waits moves back zero d lt =
    valid_back h l.1 a.view (view_with a.view l) (leads_back a.view l back.0) valid
backs_valid h a (l ∷ log) place valid waits moves back (suc k) d lt =
    backs_valid h (after_entry a l.0) log place
    (valid_along h a (l.0 ∷ []) place valid waits (moves.0, tt)) (still_waits h a l.0 waits) moves.1
    (subst (λ (v : ViewData). LeadBack v log) (sym (view_of_entry a l l.0 refl)) back.1) k d (omega arith)

-- ---- entries before which rows may be set
equal : (i j : ℕ) → (i == j) ≡ true → i ≡ j
equal i j is = grind arith

sets_has : (disk : ℕ) (rows : RowList) → sets disk rows ≡ true → Contains (numbers_of rows) disk
sets_has disk [] e = absurd (let clash : false ≡ true = e in cc)
sets_has disk (r ∷ rows) e = by_test (λ set. sets_has disk rows set) (r.0 == disk) refl
  where
    by_test : (sets disk rows ≡ true → Contains (numbers_of rows) disk) → (b : Bool) → (r.0 == disk) ≡ b →
        Contains (numbers_of (r ∷ rows)) disk
    by_test rest true is =
        subst (Contains (numbers_of (r ∷ rows))) (equal r.0 disk is) (here_first r.0 (numbers_of rows))
    by_test rest false is = later_still r.0 (numbers_of rows) disk (rest (rw is at e))

not_set : (disk : ℕ) (rows : RowList) → ¬ Contains (numbers_of rows) disk → sets disk rows ≡ false
not_set disk rows none = by_test (sets disk rows) refl
  where
    by_test : (b : Bool) → sets disk rows ≡ b → b ≡ false
    by_test true is = absurd (none (sets_has disk rows is))
    by_test false is = refl

is_aside : (h : Home) (rows : RowList) (a : At) (e : Entry) → IsApart rows e → IsMove h a e →
    IsAside rows a.view e
is_aside h rows a (Native x) apart move = record {
  same = same_rows h a.view (set_rows a.view rows) x move.comes
      (λ i named. same_but a.view rows i (apart i named));
  apart = λ disk set. not_set disk (rows_set (rows_in a.view) x)
      (λ has. apart disk (set_are_named h a.view x disk move.comes has) (sets_has disk rows set));
}
is_aside h rows a (Heard q m) apart move = record {
  same = refl;
  apart = λ disk set. not_set disk m.rows (λ has. apart disk has (sets_has disk rows set));
}

-- in a right run, entries that have none of their disks
pub all_spared : (h : Home) (rows : RowList) (a : At) (log : List Logged) → All (IsApart rows) (entries_in log) →
    Moves h a (entries_in log) → AreSpared rows a.view log
all_spared h rows a [] apart moves = tt
all_spared h rows a (l ∷ log) apart moves =
    let one = all_rest (IsApart rows) l.0 (entries_in log) apart in (
      is_aside h rows a l.0 one.0 moves.0,
      subst (λ (v : ViewData). AreSpared rows v log) (view_of_entry a l l.0 refl)
          (all_spared h rows (after_entry a l.0) log one.1 moves.1),
    )
