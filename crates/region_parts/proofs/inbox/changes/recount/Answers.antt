use Rattle.std.proofs.Common.{◌≡◌, ◌+◌, ◌≤◌, ℕ, suc, List, Some, length, get_or, take, ap, ◌∙◌, subst, arith}
use Rattle.std.proofs.lemmas.List.{take_all}
use Rattle.event_log.specs.Logged.{entries_in}
use Rattle.local_run.specs.Taken.{taken_of}
use Rattle.region_parts.proofs.Back.{taken_in_parts, taken_none, has_count, counted_up}
use Rattle.region_parts.proofs.Lists.{as_many}
use Rattle.region_parts.proofs.inbox.changes.recount.Goals.{in-Some, in_default}
use Rattle.region_parts.proofs.inbox.changes.recount.Goals as goal

pub bounds-counts-sender : goal.bounds-counts-sender
bounds-counts-sender c =
    let within = has_count (length c.args.counts.now) c.in-Some.sender c.loop-i.i c.args.log.now
    (c.sender.ensures ∙ ap Some c.in-Some.is) c.requires.numbers in
    omega (arith, c.loop-i.auto.counts, c.fill.ensures.len)

pub bounds-counts-sender-in-Some : goal.bounds-counts-sender-in-Some
bounds-counts-sender-in-Some c =
    let within = has_count (length c.args.counts.now) c.in-Some.sender c.loop-i.i c.args.log.now
    (c.sender.ensures ∙ ap Some c.in-Some.is) c.requires.numbers in
    omega (arith, c.loop-i.auto.counts, c.fill.ensures.len)

pub loop-i-preserved : goal.loop-i-preserved
loop-i-preserved c = λ q.
    let log = c.args.log.now in
    let next : suc c.loop-i.i ≡ c.loop-i.i + 1 = omega arith in
    let gone = taken_of q (take c.args.from (entries_in log)) in
    subst (λ (n : ℕ). get_or c.match-sender.counts q 0 + gone ≡ taken_of q (take n (entries_in log))) next
    (elim c.match-sender.branch [
      | in-Some w ↦
          let p = w.in-Some.sender in
          let sent = c.sender.ensures ∙ ap Some w.in-Some.is in
          let within = has_count (length c.args.counts.now) p c.loop-i.i log sent c.requires.numbers in
          ap (λ (v : List ℕ). get_or v q 0 + gone) w.counts-is
          ∙ counted_up c.loop-i.counts p q c.loop-i.i gone log (omega (arith, c.loop-i.auto.counts, c.fill.ensures.len))
          sent (c.loop-i.invariant q)
      | in_default w ↦
          let none = taken_none q c.loop-i.i log (c.sender.ensures ∙ ap Some w.in_default.is) in
          let same = ap (λ (v : List ℕ). get_or v q 0) w.counts-is in
          let so_far = c.loop-i.invariant q in
          omega arith
    ])

pub returns : goal.returns
returns c = λ q.
    let es = entries_in c.args.log.now in
    let many = as_many c.args.log.now in
    let within : length es ≤ c.loop-i.i = omega (arith, c.len-i-end.ensures, c.loop-i-test.false) in
    let whole = ap (taken_of q) (take_all c.loop-i.i es within) in
    let parts = taken_in_parts q c.args.from es in
    let counted = c.loop-i.invariant q in
    omega arith
