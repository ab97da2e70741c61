-- The records that an event makes are valid.
use Rattle.std.proofs.Common.{◌≡◌, ◌≢◌, ℕ, ◌<◌, ◌≤◌, max, Bool, true, false, ap, sym, ◌∙◌, subst, refl, arith, Option, Some, None}
use Rattle.std.specs.Prelude.{◌&&◌, Ok, Err}
use Rattle.std.proofs.lemmas.Bool.Decides.{nat_tests}
use Rattle.std.proofs.lemmas.Int.{ints}
use Rattle.std.specs.Option.{ForSome}
use Rattle.plane_vectors.specs.declared.Vector.{Vector}
use Rattle.fixed_motion.specs.declared.rules.Rules.{Rules}
use Rattle.fixed_motion.specs.declared.disk.Disk.{Disk}
use Rattle.fixed_motion.specs.Rules.{IsChecked}
use Rattle.fixed_motion.specs.Motion.{IsInside, IsValidDisk, IsSlow, is_slow, place_of, velocity_of, mark_at}
use Rattle.event_stamps.specs.declared.Stamp.{Stamp}
use Rattle.event_rules.specs.declared.change.Change.{Change}
use Rattle.event_rules.specs.declared.change.Limit.TheVariants.{Rounds, Speed}
use Rattle.event_rules.specs.Events.{IsEventOf, IsWallEvent, IsPairEvent}
use Rattle.event_rules.specs.Effect.{applied, change_of, keeps_speed, is_slow_disk, bounced, moved, turned, pushed, pushed_back, impulse_at, KeepsValid}

both_true : (p q : Bool) → (p && q) ≡ true → (p ≡ true) × (q ≡ true)
both_true true true h = (refl, refl)
both_true true false h = cc
both_true false q h = cc

slow_from_test : (rules : Rules) (v : Vector) → is_slow rules v ≡ true → IsSlow rules v
slow_from_test rules v h = record { x = grind arith; y = grind arith }

pub mark_within : (a : Disk) (tick n : ℕ) → a.mark ≤ n → mark_at a tick ≤ n
mark_within a tick n le = grind arith

greater : (m n k : ℕ) → m ≤ k → n ≤ k → max m n ≤ k
greater m n k h l = omega arith

-- the round of an event is at most the greatest limit
few_rounds : (rules : Rules) (a : Disk) (tick : ℕ) → IsChecked rules → IsValidDisk rules a → mark_at a tick ≤ 65536
few_rounds rules a tick checked valid =
    let limit = checked.round_limit.1 in
    let mark = valid.mark in
    mark_within a tick 65536 (omega (arith, ints))

pub wall_round : (rules : Rules) (s : Stamp) (a : Disk) → IsChecked rules → IsValidDisk rules a →
    IsWallEvent rules s.first a s.second s → s.round ≤ 65536
wall_round rules s a checked valid event =
    subst (λ (n : ℕ). n ≤ 65536) (sym (ap (λ (v : Stamp). v.round) event.2)) (few_rounds rules a s.tick checked valid)

pub pair_round : (rules : Rules) (s : Stamp) (a b : Disk) → IsChecked rules → IsValidDisk rules a → IsValidDisk rules b →
    IsPairEvent rules s.first a s.second b s → s.round ≤ 65536
pair_round rules s a b checked va vb event =
    subst (λ (n : ℕ). n ≤ 65536) (sym (ap (λ (v : Stamp). v.round) event.2))
    (greater (mark_at a s.tick) (mark_at b s.tick) 65536 (few_rounds rules a s.tick checked va) (few_rounds rules b s.tick checked vb))

-- a disk that is inside at an event below the limits becomes a valid one
moved_valid : (rules : Rules) (s : Stamp) (a : Disk) (v : Vector) → IsValidDisk rules a →
    IsInside rules a (place_of a s.tick) → s.tick < rules.end → s.round < rules.round_limit →
    is_slow rules v ≡ true → IsValidDisk rules (moved s a v)
moved_valid rules s a v valid inside lt round slow = record {
  size = valid.size;
  centre = inside;
  velocity = slow_from_test rules v slow;
  base = omega arith;
  mark = omega arith;
}

pub change_valid : (rules : Rules) (s : Stamp) (a : Disk) (b : Option Disk) → IsValidDisk rules a →
    ForSome b (IsValidDisk rules) → IsEventOf rules s a b → s.round ≢ rules.round_limit →
    keeps_speed rules (change_of s a b) ≡ true → KeepsValid rules (change_of s a b)
change_valid rules s a None ha hb event other slow =
    let mark = mark_within a s.tick rules.round_limit ha.mark in
    let round : s.round ≡ mark_at a s.tick = ap (λ (v : Stamp). v.round) event.2 in
    let tests = both_true (is_slow_disk rules (bounced s a)) true slow in (
      moved_valid rules s a (turned s.second (velocity_of a)) ha event.0.inside event.1
          (omega arith) tests.0,
      tt,
    )
change_valid rules s a (Some b) ha hb event other slow =
    let j = impulse_at s.tick a b in
    let first = mark_within a s.tick rules.round_limit ha.mark in
    let second = mark_within b s.tick rules.round_limit (hb b refl).mark in
    let round : s.round ≡ max (mark_at a s.tick) (mark_at b s.tick) =
    ap (λ (v : Stamp). v.round) event.2 in
    let below : s.round < rules.round_limit = omega arith in
    let tests =
    both_true (is_slow_disk rules (pushed s a j)) (is_slow_disk rules (pushed_back s b j)) slow in (
      moved_valid rules s a _ ha event.0.first_inside event.1 below tests.0,
      moved_valid rules s b _ (hb b refl) event.0.second_inside event.1 below tests.1,
    )

-- the same for a change by its tests
pub within_valid : (rules : Rules) (s : Stamp) (a : Disk) (b : Option Disk) (c : Change)
    (slow : Bool) → IsValidDisk rules a → ForSome b (IsValidDisk rules) → IsEventOf rules s a b →
    c ≡ change_of s a b → s.round ≢ rules.round_limit → slow ≡ keeps_speed rules c → slow ≡ true →
    KeepsValid rules c
within_valid rules s a b c slow ha hb event own other test h =
    subst (KeepsValid rules) (sym own)
    (change_valid rules s a b ha hb event other (ap (keeps_speed rules) (sym own) ∙ sym test ∙ h))

-- ---- the result of the event, given the tests
pub applied_last : (rules : Rules) (s : Stamp) (a : Disk) (b : Option Disk) →
    s.round ≡ rules.round_limit → applied rules s a b ≡ Err (Rounds s)
applied_last rules s a b last = grind (arith, nat_tests)

pub applied_slow : (rules : Rules) (s : Stamp) (a : Disk) (b : Option Disk) (c : Change)
    (slow : Bool) → c ≡ change_of s a b → s.round ≢ rules.round_limit → slow ≡ keeps_speed rules c →
    slow ≡ true → applied rules s a b ≡ Ok c
applied_slow rules s a b c slow own other test h =
    let passed : keeps_speed rules (change_of s a b) ≡ true =
    ap (keeps_speed rules) (sym own) ∙ sym test ∙ h in
    grind (arith, nat_tests)

pub applied_fast : (rules : Rules) (s : Stamp) (a : Disk) (b : Option Disk) (c : Change)
    (slow : Bool) → c ≡ change_of s a b → s.round ≢ rules.round_limit → slow ≡ keeps_speed rules c →
    slow ≡ false → applied rules s a b ≡ Err (Speed s)
applied_fast rules s a b c slow own other test h =
    let failed : keeps_speed rules (change_of s a b) ≡ false =
    ap (keeps_speed rules) (sym own) ∙ sym test ∙ h in
    grind (arith, nat_tests)
