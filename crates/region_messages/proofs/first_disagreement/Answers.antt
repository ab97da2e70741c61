use Rattle.std.proofs.Common.{◌≡◌, ℕ, Option, List, slice_get, sym, ap, subst, ◌∙◌}
use Rattle.event_stamps.specs.declared.Stamp.{Stamp}
use Rattle.event_stamps.specs.Least.{earlier_of}
use Rattle.region_view.specs.declared.rows.Message.{Message}
use Rattle.region_messages.specs.Trails.{Rises, StartAlike}
use Rattle.region_messages.proofs.Disagreement.{IsFound, stamp_in, found, agree_of_found, first_of_found}
use Rattle.region_messages.proofs.first_disagreement.Goals as goal

-- the steps of the code in one
by_steps : (n : ℕ) (a b p q r s : List Message) (x y z : Option Stamp) → Rises a → Rises b → p ≡ a → q ≡ b →
    r ≡ a → s ≡ b → StartAlike n p q → x ≡ stamp_in (slice_get r n) → y ≡ stamp_in (slice_get s n) →
    z ≡ earlier_of x y → IsFound a b z
by_steps n a b p q r s x y z ra rb ep eq er es alike ex ey ez =
    let alike_now : StartAlike n a b = subst (λ (v : List Message). StartAlike n v b) ep
    (subst (λ (v : List Message). StartAlike n p v) eq alike) in
    let first : x ≡ stamp_in (slice_get a n) = ex ∙ ap (λ (v : List Message). stamp_in (slice_get v n)) er in
    let second : y ≡ stamp_in (slice_get b n) = ey ∙ ap (λ (v : List Message). stamp_in (slice_get v n)) es in
    subst (IsFound a b) (sym (ez ∙ ap (λ (v : Option Stamp). earlier_of v y) first
    ∙ ap (earlier_of (stamp_in (slice_get a n))) second)) (found n a b ra rb alike_now)

pub returns-clause-agree : goal.returns-clause-agree
returns-clause-agree c =
    agree_of_found c.args.a.now c.args.b.now c.earlier.result
    (by_steps c.count_same-same.result c.args.a.now c.args.b.now c.deref.result.now c.deref-2.result.now
    c.deref-3.result.now c.deref-4.result.now c.stamp_at.result c.stamp_at-2.result c.earlier.result
    (subst Rises c.a.view_is c.a.invariant) (subst Rises c.b.view_is c.b.invariant)
    (c.deref.ensures.value ∙ c.a.view_is) (c.deref-2.ensures.value ∙ c.b.view_is)
    (c.deref-3.ensures.value ∙ c.a.view_is) (c.deref-4.ensures.value ∙ c.b.view_is)
    c.count_same-same.ensures c.stamp_at.ensures c.stamp_at-2.ensures c.earlier.ensures)

pub returns-clause-first : goal.returns-clause-first
returns-clause-first c =
    first_of_found c.args.a.now c.args.b.now c.earlier.result
    (by_steps c.count_same-same.result c.args.a.now c.args.b.now c.deref.result.now c.deref-2.result.now
    c.deref-3.result.now c.deref-4.result.now c.stamp_at.result c.stamp_at-2.result c.earlier.result
    (subst Rises c.a.view_is c.a.invariant) (subst Rises c.b.view_is c.b.invariant)
    (c.deref.ensures.value ∙ c.a.view_is) (c.deref-2.ensures.value ∙ c.b.view_is)
    (c.deref-3.ensures.value ∙ c.a.view_is) (c.deref-4.ensures.value ∙ c.b.view_is)
    c.count_same-same.ensures c.stamp_at.ensures c.stamp_at-2.ensures c.earlier.ensures)
