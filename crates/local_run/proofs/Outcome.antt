-- The result of a native candidate of a view, given the rows that reads give.
use Rattle.std.proofs.Common.{Bor, ◌≡◌, ◌⊎◌, inl, inr, sym, ap, ◌∙◌, subst, refl, Option, Some, None, Result}
use Rattle.std.specs.Prelude.{IsSome, option_copied}
use Rattle.std.proofs.lemmas.Option.{none-some, same_Some}
use Rattle.fixed_motion.specs.declared.disk.Disk.{Disk}
use Rattle.event_stamps.specs.declared.Stamp.{Stamp}
use Rattle.event_stamps.specs.declared.Kind.{Kind}
use Rattle.event_stamps.specs.declared.Kind.TheVariants.{Cross as Crossing, Wall, Pair}
use Rattle.event_rules.specs.Events.{IsWallEvent, IsPairEvent}
use Rattle.event_rules.specs.declared.change.Limit.{Limit}
use Rattle.cell_grid.specs.Crossing.{IsCrossEvent}
use Rattle.region_view.specs.declared.action.Placed.{Placed}
use Rattle.region_view.specs.declared.action.Action.{Action}
use Rattle.region_view.specs.Acting.{action_of, partner_in, disk_in}
use Rattle.region_view.specs.Events.{IsEventBy}
use Rattle.region_view.specs.Placing.{IsNearPair}
use Rattle.region_view.specs.Views.{ViewData, rows_in}
use Rattle.local_run.specs.declared.home.Home.{Home}
use Rattle.local_run.specs.LocalRun.{IsOwn, ComesToInView}
use Rattle.local_run.proofs.Valid.{own_candidate}

-- ---- reads
pub found_row : {T : Type 0} (o : Option T) (p : T) → o ≡ Some p → IsSome o
found_row None p is = absurd (none-some p is)
found_row (Some r) p is = refl

-- the same behind a reference
pub found_message : {T : Type 0} (o : Option (Bor T)) (p : T) → option_copied o ≡ Some p → IsSome o
found_message None p is = absurd (none-some p is)
found_message (Some r) p is = refl

-- ---- rows of a native candidate
pub first_row : (h : Home) (view : ViewData) (s : Stamp) → IsOwn h view s →
    (p : Placed) × (rows_in view s.first ≡ Some p)
unfolding IsOwn
first_row h view s own = (own.1.0, own.1.1)

kinds_differ : (k : Kind) → (k ≡ Crossing) ⊎ (k ≡ Wall) → ¬ (k ≡ Pair)
kinds_differ Crossing h e = cc
kinds_differ Wall h e = cc
kinds_differ Pair h e = elim h [ inl c ↦ cc | inr w ↦ cc ]

near_pair : (h : Home) (view : ViewData) (s : Stamp) → IsOwn h view s → s.kind ≡ Pair →
    IsNearPair h.rules h.grid (rows_in view) s
near_pair h view s own kind = elim (own_candidate h view s own) [
  | inl cross ↦ absurd (kinds_differ s.kind (inl (ap (λ (v : Stamp). v.kind) cross.2.2)) kind)
  | inr event ↦ elim event [
    | inl wall ↦ absurd (kinds_differ s.kind (inr (ap (λ (v : Stamp). v.kind) wall.2.2)) kind)
    | inr pair ↦ pair
  ]
]

pub second_row : (h : Home) (view : ViewData) (s : Stamp) → IsOwn h view s → s.kind ≡ Pair →
    (p : Placed) × (rows_in view s.second ≡ Some p)
second_row h view s own kind =
    let pair = near_pair h view s own kind in (pair.1.2.0, pair.1.2.1)

-- ---- its event and its result
pub pair_by : (h : Home) (view : ViewData) (s : Stamp) (p q : Placed) → IsOwn h view s → s.kind ≡ Pair →
    rows_in view s.first ≡ Some p → rows_in view s.second ≡ Some q →
    IsEventBy h.rules h.grid s p (Some q.disk) s.kind
pair_by h view s p q own kind at_p at_q =
    let pair = near_pair h view s own kind in
    let first : pair.1.0 ≡ p = same_Some pair.1.0 p (sym pair.1.1 ∙ at_p) in
    let second : pair.1.2.0 ≡ q = same_Some pair.1.2.0 q (sym pair.1.2.1 ∙ at_q) in
    subst (IsEventBy h.rules h.grid s p (Some q.disk)) (sym kind)
    (subst (λ (r : Placed). IsPairEvent h.rules s.first r.disk s.second q.disk s) first
    (subst (λ (r : Placed). IsPairEvent h.rules s.first pair.1.0.disk s.second r.disk s) second
    pair.1.2.3))

pub alone_by : (h : Home) (view : ViewData) (s : Stamp) (p : Placed) → IsOwn h view s →
    ¬ (s.kind ≡ Pair) → rows_in view s.first ≡ Some p → IsEventBy h.rules h.grid s p None s.kind
alone_by h view s p own not at = elim (own_candidate h view s own) [
  | inl cross ↦ subst (IsEventBy h.rules h.grid s p None) (sym (ap (λ (v : Stamp). v.kind) cross.2.2))
      (subst (λ (r : Placed). IsCrossEvent h.rules h.grid s.first r.disk r.cell s)
      (same_Some cross.0 p (sym cross.1 ∙ at)) cross.2)
  | inr event ↦ elim event [
    | inl wall ↦ subst (IsEventBy h.rules h.grid s p None) (sym (ap (λ (v : Stamp). v.kind) wall.2.2))
        (subst (λ (r : Placed). IsWallEvent h.rules s.first r.disk s.second s)
        (same_Some wall.0 p (sym wall.1 ∙ at)) wall.2)
    | inr pair ↦ absurd (not (ap (λ (v : Stamp). v.kind) pair.1.2.3.2))
  ]
]

pub pair_comes : (h : Home) (view : ViewData) (s : Stamp) (p q : Placed) (r : Result Action Limit) →
    s.kind ≡ Pair → rows_in view s.first ≡ Some p → rows_in view s.second ≡ Some q →
    r ≡ action_of h.rules h.grid s p.disk (Some q.disk) s.kind → ComesToInView h view s r
pair_comes h view s p q r kind at_p at_q is =
    let partner : partner_in s.kind (rows_in view) s.second ≡ Some q.disk =
    ap (λ (k : Kind). partner_in k (rows_in view) s.second) kind ∙ ap disk_in at_q in (
      p,
      at_p,
      is ∙ ap (λ (b : Option Disk). action_of h.rules h.grid s p.disk b s.kind) (sym partner),
    )

pub alone_comes : (h : Home) (view : ViewData) (s : Stamp) (p : Placed) (r : Result Action Limit) →
    ¬ (s.kind ≡ Pair) → rows_in view s.first ≡ Some p →
    r ≡ action_of h.rules h.grid s p.disk None s.kind → ComesToInView h view s r
alone_comes h view s p r not at is = (
  p,
  at,
  is ∙ ap (λ (b : Option Disk). action_of h.rules h.grid s p.disk b s.kind) (sym (none s.kind not)),
)
  where
    none : (k : Kind) → ¬ (k ≡ Pair) → partner_in k (rows_in view) s.second ≡ None
    none Crossing n = refl
    none Wall n = refl
    none Pair n = absurd (n refl)
