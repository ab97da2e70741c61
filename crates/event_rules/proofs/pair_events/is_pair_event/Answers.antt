-- The stamp has the round of the contact tick.
use Rattle.std.proofs.Common.{◌≡◌, ℕ, ◌<◌, ◌≤◌, ap, max, ◌∙◌, sym, arith}
use Rattle.std.proofs.lemmas.Bool.{false≢true, eqb-true}
use Rattle.event_stamps.specs.declared.Stamp.{Stamp}
use Rattle.event_stamps.specs.declared.Kind.TheVariants.{Pair}
use Rattle.fixed_motion.specs.declared.disk.Disk.{Disk}
use Rattle.fixed_motion.specs.Motion.{mark_at}
use Rattle.event_rules.specs.Events.{pair_stamp}
use Rattle.event_rules.proofs.pair_events.is_pair_event.Goals as goal

stamp_is : (s : Stamp) (a b : Disk) → s.kind ≡ Pair → s.round ≡ max (mark_at a s.tick) (mark_at b s.tick) →
    s ≡ pair_stamp s.first a s.second b s.tick
stamp_is s a b kind round = λ i. record { tick = s.tick; round = round i; kind = kind i; first = s.first; second = s.second }

pub returns-then-stamp-round : goal.returns-then-stamp-round
returns-then-stamp-round c =
    let s = c.args.stamp.now in
    let a = c.args.a.now in
    let b = c.args.b.now in
    let round : s.round ≡ max (mark_at a s.tick) (mark_at b s.tick) =
    c.if-stamp-round.true ∙ c.max-round.ensures ∙ (λ i. max (c.mark_at.ensures i) (c.mark_at-2.ensures i)) in (
      λ yes. (c.is_contact_tick.ensures.0 yes, c.if-stamp-rules.false, stamp_is s a b c.requires.pair round),
      λ h. c.is_contact_tick.ensures.1 h.0,
    )

pub returns-else-stamp-round : goal.returns-else-stamp-round
returns-else-stamp-round c =
    let round = c.max-round.ensures ∙ (λ i. max (c.mark_at.ensures i) (c.mark_at-2.ensures i)) in (
      λ yes. absurd (c.if-stamp-round.false (eqb-true c.args.stamp.now.round c.max-round.result yes)),
      λ h. absurd (c.if-stamp-round.false (ap (λ (s : Stamp). s.round) h.2 ∙ sym round)),
    )

ended : (tick end : ℕ) → end ≤ tick → ¬ (tick < end)
ended tick end past before = omega arith

pub returns-then-stamp-rules : goal.returns-then-stamp-rules
returns-then-stamp-rules c =
    (λ yes. absurd (false≢true yes), λ event. absurd (ended c.args.stamp.now.tick c.args.rules.now.end c.if-stamp-rules.true event.1))
