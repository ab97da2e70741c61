use Rattle.std.proofs.Common.{◌≡◌, ◌∙◌, sym, subst, arith}
use Rattle.event_stamps.proofs.Counted.{IsPlace, partitioned, counted_below, counted_from}
use Rattle.region_messages.specs.Trails.{message_key}
use Rattle.region_messages.proofs.Sought.{NoneFrom, none_from_end, none_from_less, found_from_end, found_at_front}
use Rattle.region_messages.proofs.count_below.Goals as goal

pub loop-count-init : goal.loop-count-init
loop-count-init c = (omega arith, none_from_end message_key c.args.at c.args.messages.now)

pub loop-count-preserved : goal.loop-count-preserved
loop-count-preserved c = (
  omega arith,
  none_from_less message_key c.args.at c.args.messages.now c.loop-count.count c.loop-count.invariant.1
      (λ x. sym (c.is_earlier.ensures x) ∙ c.if-not-is_earlier.true),
)

pub returns-else-not-is_earlier : goal.returns-else-not-is_earlier
returns-else-not-is_earlier c =
    let place : IsPlace message_key c.args.at c.args.messages.now c.loop-count.count =
    found_from_end message_key c.args.at c.args.messages.now c.loop-count.count (partitioned message_key c.args.at c.args.messages.now c.requires) c.loop-count.invariant.1 c.loop-count-test.true
    c.loop-count.invariant.0
    (λ x. sym (c.is_earlier.ensures x) ∙ c.if-not-is_earlier.false) in record {
      within = c.loop-count.invariant.0;
      below = counted_below message_key c.args.at c.args.messages.now c.loop-count.count place;
      from = counted_from message_key c.args.at c.args.messages.now c.loop-count.count place;
    }

pub returns-after-loop-count : goal.returns-after-loop-count
returns-after-loop-count c =
    let none : c.loop-count.count ≡ 0 = omega arith in
    let place : IsPlace message_key c.args.at c.args.messages.now c.loop-count.count =
    subst (IsPlace message_key c.args.at c.args.messages.now) (sym none)
    (found_at_front message_key c.args.at c.args.messages.now
    (subst (NoneFrom message_key c.args.at c.args.messages.now) none c.loop-count.invariant.1)) in record {
      within = c.loop-count.invariant.0;
      below = counted_below message_key c.args.at c.args.messages.now c.loop-count.count place;
      from = counted_from message_key c.args.at c.args.messages.now c.loop-count.count place;
    }
