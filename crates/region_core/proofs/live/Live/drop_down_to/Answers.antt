use Rattle.std.proofs.Common.{◌-◌, length, ap, take, ◌∙◌, arith, ◌≤◌, sym}
use Rattle.std.proofs.lemmas.List.{take-take, take_all}
use Rattle.region_core.proofs.live.Live.drop_down_to.Goals as goal

pub loop-alloc-preserved : goal.loop-alloc-preserved
loop-alloc-preserved c =
    let more = c.loop-alloc-test.true in
    record {
      along = c.in_ok-drop_last.ensures.along;
      left = ap (take c.args.kept) c.in_ok-drop_last.ensures.log
          ∙ take-take c.args.kept (length c.loop-alloc.self.log - 1) c.loop-alloc.self.log (omega arith)
          ∙ c.loop-alloc.invariant.left;
      base = c.in_ok-drop_last.ensures.base ∙ c.loop-alloc.invariant.base;
      inbox = c.drop_last.ensures.inbox ∙ c.loop-alloc.invariant.inbox;
      sent = c.drop_last.ensures.sent ∙ c.loop-alloc.invariant.sent;
    }

pub returns-clause-log : goal.returns-clause-log
returns-clause-log c =
    let few : length c.loop-alloc.self.log ≤ c.args.kept = omega (arith, c.loop-alloc-test.false, c.len.ensures) in
    sym (take_all c.args.kept c.loop-alloc.self.log few) ∙ c.loop-alloc.invariant.left
