-- Loops that take what is kept of each disk again.
use Rattle.std.proofs.Common.{◌≡◌, ◌≢◌, ◌⊎◌, inl, inr, ℕ, List, [], ◌∷◌, ◌++◌, length, take, get_or, ◌≤◌, arith, refl, sym, subst, ap, ◌∙◌, true, false, cond}
use Rattle.std.specs.Option.{option_eq}
use Rattle.std.specs.Prelude.{eqb, Option, Some, None, Result, Ok, Err, OnOk}
use Rattle.std.specs.List.{Contains}
use Rattle.std.specs.Ordering.{nat_cmp, eq_by_cmp}
use Rattle.std.specs.Cmp.{nat_cmp_total}
use Rattle.std.specs.FinMap as map
use Rattle.std.proofs.lemmas.Bool.{cases_eq, true≢false, eqb-true}
use Rattle.std.proofs.lemmas.Grind.{common_steps}
use Rattle.std.proofs.lemmas.List.Elements.{Contains-push_cases}
use Rattle.cell_lists.specs.Listing.{ListsData, with_disk, without_disk}
use Rattle.region_view.specs.Views.{ViewData}
use Rattle.region_view.proofs.Naming.{none_among}
use Rattle.region_queue.specs.declared.finder.Finder.{Finder}
use Rattle.event_tree.specs.Entries.{EntriesData, entry_at}
use Rattle.region_queue.specs.Finding.{Cells, cell_in, IsTakenOff, IsRelisted, AreRelisted, AreRetaken, AreRetakenOf, IsFound, IsTaken, IsTakenAt, IsLoweredAt}
use Rattle.region_queue.specs.Covering.{IsLowered}
use Rattle.region_queue.proofs.Covered.{taken_lowered}

pub take_whole : (xs : List ℕ) (n : ℕ) → length xs ≤ n → take n xs ≡ xs
take_whole xs n le = grind (arith, common_steps)

-- a list of two
pub two_of : (xs : List ℕ) → length xs ≡ 2 → get_or xs 0 0 ∷ get_or xs 1 0 ∷ [] ≡ xs
two_of [] e = absurd (omega arith)
two_of (x ∷ []) e = absurd (omega arith)
two_of (x ∷ y ∷ []) e = refl
two_of (x ∷ y ∷ z ∷ zs) e = absurd (omega arith)

-- ---- one more disk
-- P holds for the disks so far, and each other one is as it was, or P holds for it too
pub again_more : {A : Type 0} (P : ℕ → A → Type 0) (done : List ℕ) (id : ℕ) (old mid new : ℕ → A) →
    ((i : ℕ) → P i (mid i) ⊎ ((mid i ≡ old i) × ¬ Contains done i)) → P id (new id) →
    ((i : ℕ) → i ≢ id → new i ≡ mid i) →
    (i : ℕ) → P i (new i) ⊎ ((new i ≡ old i) × ¬ Contains (done ++ id ∷ []) i)
again_more {A} P done id old mid new before here others i = elim (cases_eq i id) [
  | inl same ↦ inl (subst (λ (n : ℕ). P n (new n)) (sym same) here)
  | inr ne ↦ elim (before i) [
    | inl p ↦ inl (subst (λ (x : A). P i x) (sym (others i ne)) p)
    | inr k ↦ inr (others i ne ∙ k.0, λ h. elim (Contains-push_cases done id i h) [ inl old ↦ k.1 old | inr e ↦ ne (sym e) ])
  ]
]

pub again_none : {A : Type 0} (P : ℕ → A → Type 0) (old : ℕ → A) (i : ℕ) →
    P i (old i) ⊎ ((old i ≡ old i) × ¬ Contains [] i)
again_none P old i = inr (refl, none_among i)

pub relisted_more : (view : ViewData) (done : List ℕ) (disk : ℕ) (old mid new : Cells) →
    AreRelisted view done old mid → IsRelisted view disk mid new → AreRelisted view (done ++ disk ∷ []) old new
relisted_more view done disk old mid new before is =
    again_more (λ i o. o ≡ cell_in view i) done disk (map.get old) (map.get mid) (map.get new) before is.listed is.others

pub retaken_more : (finder : Finder) (view : ViewData) (done : List ℕ) (disk : ℕ) (old mid new : EntriesData) →
    AreRetaken finder view done old mid → IsLoweredAt finder view disk mid new → AreRetaken finder view (done ++ disk ∷ []) old new
retaken_more finder view done disk old mid new before is =
    again_more (IsLowered (IsFound finder view)) done disk (entry_at old) (entry_at mid) (entry_at new) before is.lowered is.others

pub taken_low : (finder : Finder) (view : ViewData) (disk : ℕ) (old new : EntriesData) → IsTakenAt finder view disk old new →
    IsLoweredAt finder view disk old new
taken_low finder view disk old new is =
    record { lowered = taken_lowered (IsFound finder view) disk (entry_at new disk) is.taken; others = is.others }

pub lowered_one : (finder : Finder) (view : ViewData) (Such : ℕ → Type 0) (disk : ℕ) (old new : EntriesData) →
    IsLoweredAt finder view disk old new → ((i : ℕ) → Such i → i ≡ disk) → (i : ℕ) →
    IsLowered (IsFound finder view) i (entry_at new i) ⊎ ((entry_at new i ≡ entry_at old i) × ¬ Such i)
lowered_one finder view Such disk old new is only i = elim (cases_eq i disk) [
  | inl same ↦ inl (subst (λ (n : ℕ). IsLowered (IsFound finder view) n (entry_at new n)) (sym same) is.lowered)
  | inr ne ↦ inr (is.others i ne, λ such. ne (only i such))
]

pub retaken_one : (finder : Finder) (view : ViewData) (Such : ℕ → Type 0) (disk : ℕ) (old new : EntriesData) →
    IsTakenAt finder view disk old new → ((i : ℕ) → Such i → i ≡ disk) → AreRetakenOf finder view Such old new
retaken_one finder view Such disk old new is only i = elim (cases_eq i disk) [
  | inl same ↦ inl (subst (λ (n : ℕ). IsTaken finder view n (entry_at new n)) (sym same) is.taken)
  | inr ne ↦ inr (is.others i ne, λ such. ne (only i such))
]

pub on_ok : {T E : Type 0} (r : Result T E) (P Q : Type 0) → (P → Q) → OnOk r P → OnOk r Q
on_ok (Ok x) P Q f p = f p
on_ok (Err e) P Q f p = tt

-- ---- one disk
tied : (q : ℕ) → eq_by_cmp nat_cmp q q ≡ true
tied q = grind arith

untied : (q n : ℕ) → q ≢ n → eq_by_cmp nat_cmp q n ≡ false
untied q n ne = grind arith

pub get_put : (cells : Cells) (disk cell : ℕ) → map.get (map.insert cells disk cell) disk ≡ Some cell
get_put cells disk cell = map.get-insert nat_cmp_total cells disk cell disk ∙ ap (λ b. cond b (Some cell) (map.get cells disk)) (tied disk)

pub get_put_other : (cells : Cells) (disk cell other : ℕ) → other ≢ disk → map.get (map.insert cells disk cell) other ≡ map.get cells other
get_put_other cells disk cell other ne =
    map.get-insert nat_cmp_total cells disk cell other ∙ ap (λ b. cond b (Some cell) (map.get cells other)) (untied other disk ne)

pub taken_off : (old new : ListsData) (disk : ℕ) → new ≡ without_disk old disk → IsTakenOff disk old new
taken_off old new disk is = record {
  grid = ap (λ (l : ListsData). l.grid) is;
  free = ap (λ (l : ListsData). map.get l.cells disk) is ∙ map.get-remove nat_cmp_total old.cells disk disk
      ∙ ap (λ b. cond b None (map.get old.cells disk)) (tied disk);
  others = λ other ne. ap (λ (l : ListsData). map.get l.cells other) is ∙ map.get-remove nat_cmp_total old.cells disk other
      ∙ ap (λ b. cond b None (map.get old.cells other)) (untied other disk ne);
}

pub listed_again : (view : ViewData) (disk cell : ℕ) (old off new : ListsData) → cell_in view disk ≡ Some cell →
    IsTakenOff disk old off → new ≡ with_disk off disk cell → IsRelisted view disk old.cells new.cells
listed_again view disk cell old off new at is put = record {
  listed = ap (λ (l : ListsData). map.get l.cells disk) put ∙ get_put off.cells disk cell ∙ sym at;
  others = λ other ne. ap (λ (l : ListsData). map.get l.cells other) put ∙ get_put_other off.cells disk cell other ne ∙ is.others other ne;
}

pub listed_nowhere : (view : ViewData) (disk : ℕ) (old off : ListsData) → cell_in view disk ≡ None → IsTakenOff disk old off →
    IsRelisted view disk old.cells off.cells
listed_nowhere view disk old off at is = record { listed = is.free ∙ sym at; others = is.others }

pub listed_still : (view : ViewData) (disk : ℕ) (old : Cells) → map.get old disk ≡ cell_in view disk → IsRelisted view disk old old
listed_still view disk old at = record { listed = at; others = λ other ne. refl }

-- the machine's test of two cells
pub same_cell : (a b : Option ℕ) → true ≡ option_eq eqb a b → a ≡ b
same_cell None None e = refl
same_cell None (Some n) e = absurd (true≢false e)
same_cell (Some m) None e = absurd (true≢false e)
same_cell (Some m) (Some n) e = ap Some (eqb-true m n (sym e))
