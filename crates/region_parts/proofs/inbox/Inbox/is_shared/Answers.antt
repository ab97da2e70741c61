use Rattle.region_parts.proofs.Firsts.{not_shared_below, none_shared, with_stamp}
use Rattle.std.proofs.Common.{◌≤◌, length, sym, ap, ◌∙◌, arith, Option, refl, subst}
use Rattle.std.proofs.lemmas.Bool.{false≢true}
use Rattle.region_parts.specs.Inbox.{InboxData, next_from, HasStamp}
use Rattle.region_view.specs.declared.rows.Message.{Message}
use Rattle.region_parts.proofs.inbox.Inbox.is_shared.Goals as goal

pub loop-other-init : goal.loop-other-init
loop-other-init c = not_shared_below c.args.self.now c.args.from c.args.stamp.now

pub returns : goal.returns
returns c =
    let many = ap (λ (a : InboxData). length a.heard) (sym c.self.view_is) ∙ c.self.invariant.sizes.0 in
    let all : length c.args.self.now.heard ≤ c.loop-other.other = omega (arith, many, c.loop-other-test.false) in (
      λ never. absurd (false≢true never),
      λ shared. absurd (none_shared c.args.self.now c.loop-other.other c.args.from c.args.stamp.now all
          c.loop-other.invariant shared),
    )

pub returns-then-has_stamp : goal.returns-then-has_stamp
returns-then-has_stamp c =
    let there = with_stamp (next_from c.args.self.now c.loop-other.other) c.args.stamp.now
    (subst (λ (o : Option Message). HasStamp o c.args.stamp.now) c.next.ensures
    (c.has_stamp.ensures.0 c.if-has_stamp.true)) in (
      λ _. (c.loop-other.other, there.0, c.if-other-from.true, there.1, there.2),
      λ _. refl,
    )
