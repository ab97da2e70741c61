use Rattle.std.proofs.Common.{◌≡◌, ◌∙◌, sym, subst, arith}
use Rattle.event_stamps.proofs.Counted.{IsPlace}
use Rattle.region_messages.proofs.Sought.{NoneFrom, none_from_end, none_from_less, found_from_end, found_at_front}
use Rattle.event_log.proofs.Laid.{head_stamp}
use Rattle.event_log.proofs.heads.count_earlier.Goals as goal

pub loop-count-init : goal.loop-count-init
loop-count-init c = (omega arith, none_from_end head_stamp c.args.at c.args.heads.now)

pub loop-count-preserved : goal.loop-count-preserved
loop-count-preserved c = (
  omega arith,
  none_from_less head_stamp c.args.at c.args.heads.now c.loop-count.count c.loop-count.invariant.1
      (λ x. sym (c.is_earlier.ensures x) ∙ c.if-not-is_earlier.true),
)

pub returns-else-not-is_earlier : goal.returns-else-not-is_earlier
returns-else-not-is_earlier c = record {
  within = c.loop-count.invariant.0;
  place = found_from_end head_stamp c.args.at c.args.heads.now c.loop-count.count c.requires c.loop-count.invariant.1 c.loop-count-test.true c.loop-count.invariant.0
      (λ x. sym (c.is_earlier.ensures x) ∙ c.if-not-is_earlier.false);
}

pub returns-after-loop-count : goal.returns-after-loop-count
returns-after-loop-count c =
    let none : c.loop-count.count ≡ 0 = omega arith in record {
      within = c.loop-count.invariant.0;
      place = subst (IsPlace head_stamp c.args.at c.args.heads.now) (sym none)
          (found_at_front head_stamp c.args.at c.args.heads.now
          (subst (NoneFrom head_stamp c.args.at c.args.heads.now) none c.loop-count.invariant.1));
    }
