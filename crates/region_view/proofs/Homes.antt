-- Homes of events, and what their regions see of them.
use Rattle.std.proofs.Common.{◌≡◌, ◌⊎◌, inl, inr, ℕ, sym, ap, ◌∙◌, subst, refl, Option, Some}
use Rattle.std.proofs.lemmas.Option.{same_Some}
use Rattle.fixed_motion.specs.declared.rules.Rules.{Rules}
use Rattle.fixed_motion.specs.declared.disk.Disk.{Disk}
use Rattle.event_stamps.specs.declared.Stamp.{Stamp}
use Rattle.event_stamps.specs.declared.Kind.{Kind}
use Rattle.event_stamps.specs.declared.Kind.TheVariants.{Cross as Crossing, Wall, Pair}
use Rattle.cell_grid.specs.Grid.{GridData, HasSizes, IsRegion, IsCell, Owns, Reaches, IsAdjacent}
use Rattle.cell_grid.proofs.Owners.{each_cell_has_one_owner, reach_is_beside_own, own_is_in_reach}
use Rattle.region_view.specs.declared.action.Placed.{Placed}
use Rattle.region_view.specs.Placing.{Placing, IsCellCandidate, IsHome}
use Rattle.region_view.specs.Acting.{action_of, partner_in, disk_in}
use Rattle.region_view.specs.Views.{ViewData, rows_in, IsViewOf}
use Rattle.region_view.specs.Laws.{HasCells, EachEventHasOneHome, NativesAreHome, NativesActAlike}

row_of : (rules : Rules) (grid : GridData) (at : Placing) (s : Stamp) →
    IsCellCandidate rules grid at s → (p : Placed) × (at s.first ≡ Some p)
row_of rules grid at s h = elim h [
  | inl cross ↦ (cross.0, cross.1)
  | inr event ↦ elim event [ inl wall ↦ (wall.0, wall.1) | inr pair ↦ (pair.1.0, pair.1.1) ]
]

pub each_event_has_one_home : EachEventHasOneHome
each_event_has_one_home rules grid at s sizes cells h =
    let row = row_of rules grid at s h in
    let own = each_cell_has_one_owner grid row.0.cell sizes (cells s.first row.0 row.1) in (
      own.0,
      own.1,
      (row.0, row.1, own.2),
      λ j region home.
          let same : home.0 ≡ row.0 = same_Some home.0 row.0 (sym home.1 ∙ row.1) in
          own.3 j region (subst (λ (p : Placed). Owns grid j p.cell) same home.2),
    )

-- what is adjacent to an own cell is in reach
pub beside_reach : (grid : GridData) (k own cell : ℕ) → HasSizes grid → IsRegion grid k →
    IsCell grid own → IsCell grid cell → Owns grid k own →
    IsAdjacent grid own cell → Reaches grid k cell
beside_reach grid k own cell sizes region first second owns near =
    (reach_is_beside_own grid k cell sizes region second).1 (own, first, owns, near)

-- ---- from the view to the state
to_state : (rules : Rules) (grid : GridData) (k : ℕ) (at : Placing) (view : ViewData) (s : Stamp) →
    IsViewOf grid k at view → IsCellCandidate rules grid (rows_in view) s →
    IsCellCandidate rules grid at s
to_state rules grid k at view s is h = elim h [
  | inl cross ↦ inl (cross.0, ((is s.first cross.0).0 cross.1).0, cross.2)
  | inr event ↦ elim event [
    | inl wall ↦ inr (inl (wall.0, ((is s.first wall.0).0 wall.1).0, wall.2))
    | inr pair ↦ inr (inr (
      pair.0,
      (
        pair.1.0,
        ((is s.first pair.1.0).0 pair.1.1).0,
        (pair.1.2.0, ((is s.second pair.1.2.0).0 pair.1.2.1).0, pair.1.2.2, pair.1.2.3),
      ),
    ))
  ]
]

-- ---- from the state to the view
in_view : (grid : GridData) (k : ℕ) (at : Placing) (view : ViewData) (i : ℕ) (p : Placed) →
    IsViewOf grid k at view → at i ≡ Some p → Reaches grid k p.cell → rows_in view i ≡ Some p
in_view grid k at view i p is row reach = (is i p).1 (row, reach)

to_view : (rules : Rules) (grid : GridData) (k : ℕ) (at : Placing) (view : ViewData) (s : Stamp) →
    HasSizes grid → IsRegion grid k → HasCells grid at →
    IsViewOf grid k at view → IsHome grid at k s → IsCellCandidate rules grid at s →
    IsCellCandidate rules grid (rows_in view) s
to_view rules grid k at view s sizes region cells is home h = elim h [
  | inl cross ↦ inl (cross.0, first cross.0 cross.1, cross.2)
  | inr event ↦ elim event [
    | inl wall ↦ inr (inl (wall.0, first wall.0 wall.1, wall.2))
    | inr pair ↦
        let p = pair.1.0 in
        let q = pair.1.2.0 in
        let near = beside_reach grid k p.cell q.cell sizes region (cells s.first p pair.1.1)
        (cells s.second q pair.1.2.1) (owned p pair.1.1) pair.1.2.2 in
        inr (inr (
          pair.0,
          (
            p,
            first p pair.1.1,
            (q, in_view grid k at view s.second q is pair.1.2.1 near, pair.1.2.2, pair.1.2.3),
          ),
        ))
  ]
]
  where
    owned : (p : Placed) → at s.first ≡ Some p → Owns grid k p.cell
    owned p row = subst (λ (q : Placed). Owns grid k q.cell)
        (same_Some home.0 p (sym home.1 ∙ row)) home.2

    first : (p : Placed) → at s.first ≡ Some p → rows_in view s.first ≡ Some p
    first p row = in_view grid k at view s.first p is row
        (own_is_in_reach grid k p.cell (owned p row))

pub natives_are_home : NativesAreHome
natives_are_home rules grid k at view s sizes region cells is = (
  λ h. (to_state rules grid k at view s is h.0, (h.1.0, ((is s.first h.1.0).0 h.1.1).0, h.1.2)),
  λ h. (
    to_view rules grid k at view s sizes region cells is h.1 h.0,
    (
      h.1.0,
      in_view grid k at view s.first h.1.0 is h.1.1 (own_is_in_reach grid k h.1.0.cell h.1.2),
      h.1.2,
    ),
  ),
)

-- the partner of an event at home is seen
partner_seen : (rules : Rules) (grid : GridData) (k : ℕ) (at : Placing) (view : ViewData) (s : Stamp) →
    HasSizes grid → IsRegion grid k → HasCells grid at →
    IsViewOf grid k at view → IsHome grid at k s → IsCellCandidate rules grid at s →
    partner_in s.kind (rows_in view) s.second ≡ partner_in s.kind at s.second
partner_seen rules grid k at view s sizes region cells is home h = elim h [
  | inl cross ↦ alone s.kind (inl (ap (λ (v : Stamp). v.kind) cross.2.2))
  | inr event ↦ elim event [
    | inl wall ↦ alone s.kind (inr (ap (λ (v : Stamp). v.kind) wall.2.2))
    | inr pair ↦
        let p = pair.1.0 in
        let q = pair.1.2.0 in
        let own = subst (λ (r : Placed). Owns grid k r.cell)
        (same_Some home.0 p (sym home.1 ∙ pair.1.1)) home.2 in
        let near = beside_reach grid k p.cell q.cell sizes region (cells s.first p pair.1.1)
        (cells s.second q pair.1.2.1) own pair.1.2.2 in
        seen s.kind (in_view grid k at view s.second q is pair.1.2.1 near ∙ sym pair.1.2.1)
  ]
]
  where
    alone : (kind : Kind) → (kind ≡ Crossing) ⊎ (kind ≡ Wall) →
        partner_in kind (rows_in view) s.second ≡ partner_in kind at s.second
    alone Crossing e = refl
    alone Wall e = refl
    alone Pair e = elim e [ inl c ↦ cc | inr w ↦ cc ]

    seen : (kind : Kind) → rows_in view s.second ≡ at s.second →
        partner_in kind (rows_in view) s.second ≡ partner_in kind at s.second
    seen Crossing e = refl
    seen Wall e = refl
    seen Pair e = ap disk_in e

pub natives_act_alike : NativesActAlike
natives_act_alike rules grid k at view s r sizes region cells is h home =
    let partner = partner_seen rules grid k at view s sizes region cells is home h in
    let first = in_view grid k at view s.first home.0 is home.1
    (own_is_in_reach grid k home.0.cell home.2) in (
      λ a. (
        a.0,
        ((is s.first a.0).0 a.1).0,
        a.2
            ∙ ap (λ (b : Option Disk). action_of rules grid s a.0.disk b s.kind) partner,
      ),
      λ a.
          let same : home.0 ≡ a.0 = same_Some home.0 a.0 (sym home.1 ∙ a.1) in (
            a.0,
            first ∙ ap (λ (p : Placed). Some p) same,
            a.2
                ∙ ap (λ (b : Option Disk). action_of rules grid s a.0.disk b s.kind) (sym partner),
          ),
    )
