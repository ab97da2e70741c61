-- The map of the listed disks, and the map after a disk is listed or taken off.
use Rattle.std.proofs.Common.{◌≡◌, ◌≢◌, ◌⊎◌, ◌↔◌, ℕ, zero, suc, ◌+◌, ◌<◌, true, false, cond, List, [], ◌∷◌, length, get_or, set, arith, refl, sym, subst, ap, ◌∙◌, inl, inr}
use Rattle.std.specs.Prelude.{Option, Some, None, Result, Ok, Err, OnErr}
use Rattle.std.specs.List.{Contains}
use Rattle.std.specs.Ordering.{nat_cmp, eq_by_cmp}
use Rattle.std.specs.Cmp.{nat_cmp_total}
use Rattle.std.specs.FinMap as map
use Rattle.std.specs.FinMap.{find, nat_cmp-IsAntisymmetric}
use Rattle.std.proofs.lemmas.Bool.{cases_eq, cases_lt}
use Rattle.std.proofs.lemmas.List.{get_or-set_same, get_or-set_other, get_or_past}
use Rattle.cell_grid.specs.Grid.{GridData, IsCell}
use Rattle.cell_lists.specs.Firsts.{IsFirstOf}
use Rattle.cell_lists.specs.Listing.{ListsData, lists_of, IsListed, IsFirstIn, with_disk, without_disk}
use Rattle.cell_lists.specs.Gathering.{AreGatheredIn}
use Rattle.cell_lists.proofs.Firsts.{first_kept}
use Rattle.cell_lists.specs.Chain.{at, IsCellOf, numbered_cells, cells_in, AreCells}

tied : (q : ℕ) → eq_by_cmp nat_cmp q q ≡ true
tied q = grind arith

untied : (q n : ℕ) → q ≢ n → eq_by_cmp nat_cmp q n ≡ false
untied q n ne = grind arith

-- no entry of a number below the first
find_below : (n q : ℕ) (xs : List (Option ℕ)) → q < n → find nat_cmp q (numbered_cells n xs) ≡ None
find_below n q [] lt = refl
find_below n q (None ∷ xs) lt = find_below (n + 1) q xs (omega arith)
find_below n q (Some cell ∷ xs) lt =
    ap (λ b. cond b (Some cell) (find nat_cmp q (numbered_cells (n + 1) xs))) (untied q n (λ e. absurd (omega arith)))
    ∙ find_below (n + 1) q xs (omega arith)

later : (n k : ℕ) → (n + 1) + k ≡ n + suc k
later n k = omega arith

find_at : (n k : ℕ) (xs : List (Option ℕ)) → find nat_cmp (n + k) (numbered_cells n xs) ≡ get_or xs k None
find_at n k [] = refl
find_at n zero (None ∷ xs) = find_below (n + 1) (n + 0) xs (omega arith)
find_at n (suc k) (None ∷ xs) = subst (λ (q : ℕ). find nat_cmp q (numbered_cells (n + 1) xs) ≡ get_or xs k None) (later n k) (find_at (n + 1) k xs)
find_at n zero (Some cell ∷ xs) = ap (λ b. cond b (Some cell) (find nat_cmp (n + 0) (numbered_cells (n + 1) xs))) (same n)
  where
    same : (n : ℕ) → eq_by_cmp nat_cmp (n + 0) n ≡ true
    same n = grind arith
find_at n (suc k) (Some cell ∷ xs) =
    ap (λ b. cond b (Some cell) (find nat_cmp (n + suc k) (numbered_cells (n + 1) xs))) (untied (n + suc k) n (λ e. absurd (omega arith)))
    ∙ subst (λ (q : ℕ). find nat_cmp q (numbered_cells (n + 1) xs) ≡ get_or xs k None) (later n k) (find_at (n + 1) k xs)

pub cell_of : (xs : List (Option ℕ)) (disk : ℕ) → map.get (cells_in xs) disk ≡ at xs disk
cell_of xs disk =
    map.get-from_entries nat_cmp_total (numbered_cells 0 xs) disk
    ∙ subst (λ (q : ℕ). find nat_cmp q (numbered_cells 0 xs) ≡ at xs disk) (from_none disk) (find_at 0 disk xs)
  where
    from_none : (q : ℕ) → 0 + q ≡ q
    from_none q = omega arith

-- lists that say the same of each disk are the same map
pub same_cells : (xs : List (Option ℕ)) (cells : map.FinMap nat_cmp ℕ) → ((i : ℕ) → at xs i ≡ map.get cells i) → cells_in xs ≡ cells
same_cells xs cells same = map.same_map nat_cmp_total nat_cmp-IsAntisymmetric (cells_in xs) cells (λ i. cell_of xs i ∙ same i)

-- ---- changes
pub listed_put : (xs : List (Option ℕ)) (disk cell : ℕ) → disk < length xs →
    cells_in (set xs disk (Some cell)) ≡ map.insert (cells_in xs) disk cell
listed_put xs disk cell lt = same_cells (set xs disk (Some cell)) (map.insert (cells_in xs) disk cell) (λ i. at_each i (cases_eq i disk))
  where
    inserted : (i : ℕ) → map.get (map.insert (cells_in xs) disk cell) i ≡ cond (eq_by_cmp nat_cmp i disk) (Some cell) (at xs i)
    inserted i = map.get-insert nat_cmp_total (cells_in xs) disk cell i ∙ ap (cond (eq_by_cmp nat_cmp i disk) (Some cell)) (cell_of xs i)

    at_each : (i : ℕ) → (i ≡ disk) ⊎ (i ≢ disk) → at (set xs disk (Some cell)) i ≡ map.get (map.insert (cells_in xs) disk cell) i
    at_each i (inl e) = subst (λ (n : ℕ). at (set xs disk (Some cell)) n ≡ map.get (map.insert (cells_in xs) disk cell) n) (sym e)
        (get_or-set_same xs disk (Some cell) None lt ∙ sym (inserted disk ∙ ap (λ b. cond b (Some cell) (at xs disk)) (tied disk)))
    at_each i (inr ne) = get_or-set_other xs disk i (Some cell) None ne ∙ sym (inserted i ∙ ap (λ b. cond b (Some cell) (at xs i)) (untied i disk ne))

pub listed_take : (xs : List (Option ℕ)) (disk : ℕ) → disk < length xs → cells_in (set xs disk None) ≡ map.remove (cells_in xs) disk
listed_take xs disk lt = same_cells (set xs disk None) (map.remove (cells_in xs) disk) (λ i. at_each i (cases_eq i disk))
  where
    removed : (i : ℕ) → map.get (map.remove (cells_in xs) disk) i ≡ cond (eq_by_cmp nat_cmp i disk) None (at xs i)
    removed i = map.get-remove nat_cmp_total (cells_in xs) disk i ∙ ap (cond (eq_by_cmp nat_cmp i disk) None) (cell_of xs i)

    at_each : (i : ℕ) → (i ≡ disk) ⊎ (i ≢ disk) → at (set xs disk None) i ≡ map.get (map.remove (cells_in xs) disk) i
    at_each i (inl e) = subst (λ (n : ℕ). at (set xs disk None) n ≡ map.get (map.remove (cells_in xs) disk) n) (sym e)
        (get_or-set_same xs disk None None lt ∙ sym (removed disk ∙ ap (λ b. cond b None (at xs disk)) (tied disk)))
    at_each i (inr ne) = get_or-set_other xs disk i None None ne ∙ sym (removed i ∙ ap (λ b. cond b None (at xs i)) (untied i disk ne))

-- lists with the same disk in each place
pub listed_same : (xs ys : List (Option ℕ)) → ((i : ℕ) → at ys i ≡ at xs i) → cells_in ys ≡ cells_in xs
listed_same xs ys same = same_cells ys (cells_in xs) (λ i. same i ∙ sym (cell_of xs i))

-- ---- what contracts see of the lists
pub listed_within : (xs : List (Option ℕ)) (disk cell : ℕ) → at xs disk ≡ Some cell → disk < length xs
listed_within xs disk cell here = elim (cases_lt disk (length xs)) [
  | inl lt ↦ lt
  | inr past ↦ absurd (let none : at xs disk ≡ None = get_or_past xs disk None past in cc)
]

pub cell_seen : (grid : GridData) (xs : List (Option ℕ)) (lists : ListsData) (disk : ℕ) (o : Option ℕ) → lists_of grid (cells_in xs) ≡ lists →
    map.get lists.cells disk ≡ o → at xs disk ≡ o
cell_seen grid xs lists disk o seen is = sym (cell_of xs disk) ∙ ap (λ (l : ListsData). map.get l.cells disk) seen ∙ is

pub first_seen : (grid : GridData) (xs : List (Option ℕ)) (lists : ListsData) (cell from : ℕ) (o : Option ℕ) → lists_of grid (cells_in xs) ≡ lists →
    IsFirstOf (IsCellOf xs cell) from o → IsFirstIn lists cell from o
first_seen grid xs lists cell from o seen h = first_kept (IsCellOf xs cell) (IsListed lists cell) from o
    (λ j le. (λ here. sym (ap (λ (l : ListsData). map.get l.cells j) seen) ∙ cell_of xs j ∙ here, λ here. cell_seen grid xs lists j (Some cell) seen here)) h

pub put_seen : (grid : GridData) (old room new : List (Option ℕ)) (lists : ListsData) (disk cell : ℕ) → lists_of grid (cells_in old) ≡ lists →
    ((i : ℕ) → at room i ≡ at old i) → disk < length room → new ≡ set room disk (Some cell) → lists_of grid (cells_in new) ≡ with_disk lists disk cell
put_seen grid old room new lists disk cell seen same lt e =
    ap (λ xs. lists_of grid (cells_in xs)) e
    ∙ ap (lists_of grid) (listed_put room disk cell lt ∙ ap (λ m. map.insert m disk cell) (listed_same old room same))
    ∙ ap (λ l. with_disk l disk cell) seen

pub take_seen : (grid : GridData) (old new : List (Option ℕ)) (lists : ListsData) (disk cell : ℕ) → lists_of grid (cells_in old) ≡ lists →
    at old disk ≡ Some cell → new ≡ set old disk None → lists_of grid (cells_in new) ≡ without_disk lists disk
take_seen grid old new lists disk cell seen here e =
    ap (λ xs. lists_of grid (cells_in xs)) e
    ∙ ap (lists_of grid) (listed_take old disk (listed_within old disk cell here))
    ∙ ap (λ l. without_disk l disk) seen

pub same_seen : (grid : GridData) (old new : List (Option ℕ)) (lists : ListsData) → lists_of grid (cells_in old) ≡ lists →
    ((i : ℕ) → at new i ≡ at old i) → lists_of grid (cells_in new) ≡ lists
same_seen grid old new lists seen same = ap (lists_of grid) (listed_same old new same) ∙ seen

-- with a cell of the grid, or none, for one disk, each cell is still one of the grid
pub still_cells : (grid : GridData) (old new : List (Option ℕ)) (d : ℕ) (o : Option ℕ) → AreCells grid old → d < length old →
    ((cell : ℕ) → o ≡ Some cell → IsCell grid cell) → new ≡ set old d o → AreCells grid new
still_cells grid old new d o are lt is e disk cell here = elim (cases_eq disk d) [
  | inl same ↦ is cell (sym (get_or-set_same old d o None lt) ∙ sym (ap (λ xs. at xs d) e) ∙ ap (at new) (sym same) ∙ here)
  | inr other ↦ are disk cell (sym (get_or-set_other old d disk o None other) ∙ sym (ap (λ xs. at xs disk) e) ∙ here)
]

pub on_err : {T E : Type 0} (r : Result T E) (P : Type 0) → P → OnErr r P
on_err (Ok x) P p = tt
on_err (Err e) P p = p

pub cells_seen : (grid : GridData) (xs : List (Option ℕ)) (lists : ListsData) → lists_of grid (cells_in xs) ≡ lists → AreCells grid xs →
    (i cell : ℕ) → IsListed lists cell i → IsCell lists.grid cell
cells_seen grid xs lists seen are i cell here =
    subst (λ (l : ListsData). IsCell l.grid cell) seen (are i cell (cell_seen grid xs lists i (Some cell) seen here))

pub gathered_seen : (grid : GridData) (xs : List (Option ℕ)) (lists : ListsData) (IsSuch : GridData → ℕ → Type 0) (old new : List ℕ) →
    lists_of grid (cells_in xs) ≡ lists → AreGatheredIn xs (IsSuch grid) old new → (disk : ℕ) →
    Contains new disk ↔ (Contains old disk ⊎ ((cell : ℕ) × IsListed lists cell disk × IsSuch lists.grid cell))
gathered_seen grid xs lists IsSuch old new seen h =
    subst (λ (l : ListsData). (disk : ℕ) →
    Contains new disk ↔ (Contains old disk ⊎ ((cell : ℕ) × IsListed l cell disk × IsSuch l.grid cell))) seen (λ disk. (
      λ is. elim ((h disk).0 is) [ inl was ↦ inl was | inr here ↦ inr (here.0, cell_of xs disk ∙ here.1, here.2) ],
      λ is. (h disk).1 (elim is [ inl was ↦ inl was | inr here ↦ inr (here.0, sym (cell_of xs disk) ∙ here.1, here.2) ]),
    ))
