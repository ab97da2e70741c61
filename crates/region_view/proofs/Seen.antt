-- A view that is made row by row.
use Rattle.std.proofs.Common.{◌≡◌, ◌≢◌, ◌↔◌, inl, inr, ℕ, ◌+◌, ◌<◌, ◌≤◌, List, length}
use Rattle.std.proofs.Common.{slice_get, get_or, sym, ap, ◌∙◌, subst, arith, Some}
use Rattle.std.specs.Prelude.{cond, true, false, Bool, pos}
use Rattle.std.specs.Ordering.{nat_cmp, eq_by_cmp}
use Rattle.std.specs.Cmp.{nat_cmp_total}
use Rattle.std.specs.FinMap as map
use Rattle.std.specs.FinMap.{get-insert, get-empty}
use Rattle.std.proofs.lemmas.Option.{none-some, same_Some, slice_get_within, slice_get-get_or}
use Rattle.event_stamps.proofs.Decision.{same_number}
use Rattle.cell_grid.specs.Grid.{GridData, Reaches}
use Rattle.region_view.specs.declared.action.Placed.{Placed}
use Rattle.region_view.specs.Placing.{Placing}
use Rattle.region_view.specs.Views.{ViewData, IsViewOf}

-- what is seen of the disks below a number
abbrev pub IsViewBelow : GridData → ℕ → Placing → ℕ → ViewData → Type 0
IsViewBelow grid region at n view =
    (i : ℕ) (p : Placed) → (map.get view i ≡ Some p) ↔
    ((at i ≡ Some p) × Reaches grid region p.cell × (i < n))

insert_here : (view : ViewData) (n : ℕ) (p : Placed) → map.get (map.insert view n p) n ≡ Some p
insert_here view n p = get-insert nat_cmp_total view n p n
    ∙ ap (λ (b : Bool). cond b (Some p) (map.get view n)) (same n)
  where
    same : (n : ℕ) → eq_by_cmp nat_cmp n n ≡ true
    same n = grind arith

insert_other : (view : ViewData) (n i : ℕ) (p : Placed) → i ≢ n →
    map.get (map.insert view n p) i ≡ map.get view i
insert_other view n i p ne = get-insert nat_cmp_total view n p i
    ∙ ap (λ (b : Bool). cond b (Some p) (map.get view i)) (other n i ne)
  where
    other : (n i : ℕ) → i ≢ n → eq_by_cmp nat_cmp i n ≡ false
    other n i ne = grind arith

pub none_yet : (grid : GridData) (region : ℕ) (at : Placing) →
    IsViewBelow grid region at 0 map.empty
none_yet grid region at i p = (
  λ e. absurd (none-some p (sym (get-empty nat_cmp i) ∙ e)),
  λ h. absurd (let lt = h.2 in omega arith),
)

-- a row in reach is put
pub one_seen : (grid : GridData) (region n : ℕ) (at : Placing) (p : Placed) (view : ViewData) →
    at n ≡ Some p →
    Reaches grid region p.cell → IsViewBelow grid region at n view →
    IsViewBelow grid region at (n + 1) (map.insert view n p)
one_seen grid region n at p view row reach so_far i q = elim (same_number i n) [
  | inl e ↦
      let here = insert_here view n p in
      let moved : map.get (map.insert view n p) i ≡ map.get (map.insert view n p) n =
      ap (map.get (map.insert view n p)) e in (
        λ h. let is : p ≡ q = same_Some p q (sym here ∙ sym moved ∙ h) in (
          ap at e ∙ row ∙ ap (λ (r : Placed). Some r) is,
          subst
              (λ (r : Placed). Reaches grid region r.cell) is reach,
          omega arith,
        ),
        λ h. moved ∙ here ∙ sym row ∙ sym (ap at e) ∙ h.0,
      )
  | inr ne ↦ (
    λ h. let old = (so_far i q).0 (sym (insert_other view n i p ne) ∙ h) in
        (old.0, old.1, let lt = old.2 in omega arith),
    λ h. insert_other view n i p ne ∙ (so_far i q).1 (h.0, h.1, let lt = h.2 in omega arith),
  )
]

-- another isn't
pub one_unseen : (grid : GridData) (region n : ℕ) (at : Placing) (p : Placed) (view : ViewData) →
    at n ≡ Some p →
    ¬ Reaches grid region p.cell → IsViewBelow grid region at n view →
    IsViewBelow grid region at (n + 1) view
one_unseen grid region n at p view row not so_far i q = (
  λ h. let old = (so_far i q).0 h in (old.0, old.1, let lt = old.2 in omega arith),
  λ h. elim (same_number i n) [
    | inl e ↦ absurd (not (subst (λ (r : Placed). Reaches grid region r.cell)
        (same_Some q p (sym h.0 ∙ ap at e ∙ row)) h.1))
    | inr ne ↦ (so_far i q).1 (h.0, h.1, let lt = h.2 in omega arith)
  ],
)

pub all_seen : (grid : GridData) (region n : ℕ) (placed : List Placed) (view : ViewData) →
    length placed ≤ n →
    IsViewBelow grid region (slice_get placed) n view → IsViewOf grid region (slice_get placed) view
all_seen grid region n placed view le so_far i q = (
  λ h. let old = (so_far i q).0 h in (old.0, old.1),
  λ h. (so_far i q).1 (h.0, h.1, let lt = slice_get_within placed i q h.0 in omega arith),
)

-- what a read past the end of a list of rows would give
abbrev pub no_row : Placed
no_row = record {
  disk = record { x = pos 0; y = pos 0; vx = pos 0; vy = pos 0; size = pos 0; base = 0; mark = 0 };
  cell = 0;
}

-- the row that a read gives
pub row_at : (placed : List Placed) (i : ℕ) → i < length placed →
    slice_get placed i ≡ Some (get_or placed i no_row)
row_at placed i lt = slice_get-get_or placed i no_row lt
