-- The disks that an event names, and why an event that names no changed disk stays a native candidate.
use Rattle.std.proofs.Common.{◌≡◌, ◌⊎◌, ◌↔◌, inl, inr, ℕ, ◌<◌, List, [], ◌∷◌, length, arith, refl, sym, subst, ap, ◌∙◌}
use Rattle.std.specs.Prelude.{Some}
use Rattle.std.specs.List.{Contains}
use Rattle.std.proofs.lemmas.Bool.{cases_eq}
use Rattle.std.proofs.lemmas.List.Elements.{Contains-push_cases, Contains-append_right, Contains-append_cases}
use Rattle.fixed_motion.specs.declared.rules.Rules.{Rules}
use Rattle.event_stamps.specs.declared.Stamp.{Stamp}
use Rattle.event_stamps.specs.declared.Kind.{Kind}
use Rattle.event_stamps.specs.declared.Kind.TheVariants.{Cross, Wall, Pair}
use Rattle.cell_grid.specs.Grid.{GridData}
use Rattle.region_view.specs.declared.action.Placed.{Placed}
use Rattle.region_view.specs.Placing.{IsCellCandidate, IsNearPair, IsNative}
use Rattle.region_view.specs.Views.{ViewData, rows_in}
use Rattle.region_view.specs.Naming.{Names, NamesAny, NativesStay}

-- ---- lists of numbers
pub none_among : (i : ℕ) → ¬ Contains {X = ℕ} [] i
none_among i h = let lt = h.1 in absurd (omega arith)

pub among_or_not : (xs : List ℕ) (i : ℕ) → Contains xs i ⊎ ¬ Contains xs i
among_or_not [] i = inr (none_among i)
among_or_not (x ∷ xs) i = elim (cases_eq x i) [
  | inl same ↦ inl (subst (λ (n : ℕ). Contains (x ∷ xs) n) same (0, first x xs, refl))
  | inr other ↦ elim (among_or_not xs i) [
    | inl later ↦ inl (Contains-append_right (x ∷ []) xs i later)
    | inr none ↦ inr (λ h. elim (Contains-append_cases (x ∷ []) xs i h) [
      | inl here ↦ elim (Contains-push_cases [] x i here) [ inl never ↦ none_among i never | inr same ↦ other same ]
      | inr later ↦ none later
    ])
  ]
]
  where
    first : (x : ℕ) (xs : List ℕ) → 0 < length (x ∷ xs)
    first x xs = omega arith

-- ---- rows and kinds
pub same_row : (view : ViewData) (i j : ℕ) (p q : Placed) → rows_in view i ≡ Some p → rows_in view j ≡ Some q → i ≡ j → p ≡ q
same_row view i j p q a b e = let at : Some p ≡ Some q = sym a ∙ ap (rows_in view) e ∙ b in cc

pub near_pair : (rules : Rules) (grid : GridData) (region : ℕ) (view : ViewData) (s : Stamp) →
    IsNative rules grid region (rows_in view) s → s.kind ≡ Pair → IsNearPair rules grid (rows_in view) s
near_pair rules grid region view s native pair = from native.0
  where
    from : IsCellCandidate rules grid (rows_in view) s → IsNearPair rules grid (rows_in view) s
    from (inl cross) =
        let kind : s.kind ≡ Cross = ap (λ (v : Stamp). v.kind) cross.2.2 in
        absurd (let no : Cross ≡ Pair = sym kind ∙ pair in cc)
    from (inr (inl wall)) =
        let kind : s.kind ≡ Wall = ap (λ (v : Stamp). v.kind) wall.2.2 in
        absurd (let no : Wall ≡ Pair = sym kind ∙ pair in cc)
    from (inr (inr near)) = near

pub pair_kind : (rules : Rules) (grid : GridData) (view : ViewData) (s : Stamp) → IsNearPair rules grid (rows_in view) s → s.kind ≡ Pair
pair_kind rules grid view s near = ap (λ (v : Stamp). v.kind) near.1.2.3.2

pub is_pair_or_not : (kind : Kind) → (kind ≡ Pair) ⊎ ¬ (kind ≡ Pair)
is_pair_or_not Cross = inr (λ e. cc)
is_pair_or_not Wall = inr (λ e. cc)
is_pair_or_not Pair = inl refl

-- ---- the disks that an event names
pub by_itself : (s : Stamp) (disk : ℕ) → ¬ (s.kind ≡ Pair) → Names s disk → s.first ≡ disk
by_itself s disk alone (inl first) = first
by_itself s disk alone (inr pair) = absurd (alone pair.0)

pub names_or_not : (s : Stamp) (ids : List ℕ) → NamesAny s ids ⊎ ¬ NamesAny s ids
names_or_not s ids = elim (among_or_not ids s.first) [
  | inl first ↦ inl (inl first)
  | inr not_first ↦ elim (is_pair_or_not s.kind) [
    | inr alone ↦ inr (λ h. elim h [ inl first ↦ not_first first | inr pair ↦ alone pair.0 ])
    | inl pair ↦ elim (among_or_not ids s.second) [
      | inl second ↦ inl (inr (pair, second))
      | inr not_second ↦ inr (λ h. elim h [ inl first ↦ not_first first | inr both ↦ not_second both.1 ])
    ]
  ]
]

pub one_named : (s : Stamp) (ids : List ℕ) → NamesAny s ids → (i : ℕ) × Names s i × Contains ids i
one_named s ids (inl first) = (s.first, inl refl, first)
one_named s ids (inr pair) = (s.second, inr (pair.0, refl), pair.1)

pub any_named : (s : Stamp) (ids : List ℕ) (i : ℕ) → Names s i → Contains ids i → NamesAny s ids
any_named s ids i (inl first) among = inl (subst (λ (n : ℕ). Contains ids n) (sym first) among)
any_named s ids i (inr pair) among = inr (pair.0, subst (λ (n : ℕ). Contains ids n) (sym pair.1) among)

-- an event that names only one disk, which isn't touched, names none that is
pub names_none : (s : Stamp) (ids : List ℕ) (i : ℕ) → ¬ (s.kind ≡ Pair) → Names s i → ¬ Contains ids i → ¬ NamesAny s ids
names_none s ids i alone names not (inl first) = not (subst (λ (n : ℕ). Contains ids n) (by_itself s i alone names) first)
names_none s ids i alone names not (inr pair) = alone pair.0

-- ---- events that name no changed disk
moved_pair : (rules : Rules) (grid : GridData) (x y : ViewData) (s : Stamp) → rows_in y s.first ≡ rows_in x s.first →
    (s.kind ≡ Pair → rows_in y s.second ≡ rows_in x s.second) → IsNearPair rules grid (rows_in x) s → IsNearPair rules grid (rows_in y) s
moved_pair rules grid x y s first second h =
    (h.0, (h.1.0, first ∙ h.1.1, (h.1.2.0, second (pair_kind rules grid x s h) ∙ h.1.2.1, h.1.2.2, h.1.2.3)))

moved : (rules : Rules) (grid : GridData) (region : ℕ) (x y : ViewData) (s : Stamp) → rows_in y s.first ≡ rows_in x s.first →
    (s.kind ≡ Pair → rows_in y s.second ≡ rows_in x s.second) → IsNative rules grid region (rows_in x) s → IsNative rules grid region (rows_in y) s
moved rules grid region x y s first second h = (candidate h.0, (h.1.0, first ∙ h.1.1, h.1.2))
  where
    candidate : IsCellCandidate rules grid (rows_in x) s → IsCellCandidate rules grid (rows_in y) s
    candidate (inl cross) = inl (cross.0, first ∙ cross.1, cross.2)
    candidate (inr (inl wall)) = inr (inl (wall.0, first ∙ wall.1, wall.2))
    candidate (inr (inr pair)) = inr (inr (moved_pair rules grid x y s first second pair))

pub native_stays : (rules : Rules) (grid : GridData) (region : ℕ) (before after : ViewData) (s : Stamp) →
    ((i : ℕ) → Names s i → rows_in after i ≡ rows_in before i) →
    (IsNative rules grid region (rows_in before) s ↔ IsNative rules grid region (rows_in after) s)
native_stays rules grid region before after s same =
    let first : rows_in after s.first ≡ rows_in before s.first = same s.first (inl refl) in
    let second : s.kind ≡ Pair → rows_in after s.second ≡ rows_in before s.second = λ pair. same s.second (inr (pair, refl)) in
    (moved rules grid region before after s first second, moved rules grid region after before s (sym first) (λ pair. sym (second pair)))

pub natives_stay : NativesStay
natives_stay rules grid region before after ids s same none =
    native_stays rules grid region before after s (λ i names. same i (λ among. none (any_named s ids i names among)))
