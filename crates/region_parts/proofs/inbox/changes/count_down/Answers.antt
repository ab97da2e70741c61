use Rattle.std.proofs.Common.{◌≡◌, ◌+◌, ℕ, suc, List, Some, get_or, take, ap, ◌∙◌, subst, arith}
use Rattle.event_log.specs.Logged.{entries_in}
use Rattle.local_run.specs.Taken.{taken_of}
use Rattle.region_parts.proofs.Back.{one_to_come, taken_none, counted_down, in_range}
use Rattle.region_parts.proofs.inbox.changes.count_down.Goals.{in-Some, in_default}
use Rattle.region_parts.proofs.inbox.changes.count_down.Goals as goal

pub overflow_sub-counts : goal.overflow_sub-counts
overflow_sub-counts c = one_to_come c.loop-i.counts c.in-Some.sender c.loop-i.i c.args.end _ c.args.log.now
    (c.sender.ensures ∙ ap Some c.in-Some.is) c.loop-i-test.true (c.requires.taken c.in-Some.sender)
    (c.loop-i.invariant c.in-Some.sender)

pub bounds-counts-sender : goal.bounds-counts-sender
bounds-counts-sender c = in_range c.loop-i.counts c.in-Some.sender
    (one_to_come c.loop-i.counts c.in-Some.sender c.loop-i.i c.args.end _ c.args.log.now
    (c.sender.ensures ∙ ap Some c.in-Some.is) c.loop-i-test.true (c.requires.taken c.in-Some.sender)
    (c.loop-i.invariant c.in-Some.sender))

pub bounds-counts-sender-in-Some : goal.bounds-counts-sender-in-Some
bounds-counts-sender-in-Some c = in_range c.loop-i.counts c.in-Some.sender
    (one_to_come c.loop-i.counts c.in-Some.sender c.loop-i.i c.args.end _ c.args.log.now
    (c.sender.ensures ∙ ap Some c.in-Some.is) c.loop-i-test.true (c.requires.taken c.in-Some.sender)
    (c.loop-i.invariant c.in-Some.sender))

pub loop-i-preserved : goal.loop-i-preserved
loop-i-preserved c = λ q.
    let log = c.args.log.now in
    let next : suc c.loop-i.i ≡ c.loop-i.i + 1 = omega arith in
    let from = taken_of q (take c.args.from (entries_in log)) in
    subst (λ (n : ℕ). get_or c.match-sender.counts q 0 + taken_of q (take n (entries_in log))
    ≡ get_or c.args.counts.now q 0 + from) next
    (elim c.match-sender.branch [
      | in-Some w ↦
          let p = w.in-Some.sender in
          let sent = c.sender.ensures ∙ ap Some w.in-Some.is in
          let some = one_to_come c.loop-i.counts p c.loop-i.i c.args.end _ log sent c.loop-i-test.true
          (c.requires.taken p) (c.loop-i.invariant p) in
          ap (λ (v : List ℕ). get_or v q 0 + taken_of q (take (suc c.loop-i.i) (entries_in log))) w.counts-is
          ∙ counted_down c.loop-i.counts p q c.loop-i.i log (get_or c.args.counts.now q 0 + from)
          (in_range c.loop-i.counts p some) some sent (c.loop-i.invariant q)
      | in_default w ↦
          let none = taken_none q c.loop-i.i log (c.sender.ensures ∙ ap Some w.in_default.is) in
          let same = ap (λ (v : List ℕ). get_or v q 0) w.counts-is in
          let so_far = c.loop-i.invariant q in
          omega arith
    ])
