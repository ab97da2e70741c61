use Rattle.std.proofs.Common.{◌≡◌, ◌+◌, ℕ, length, refl, sym, ◌∙◌, subst, arith}
use Rattle.std.proofs.lemmas.Option.{slice_get_read}
use Rattle.region_messages.proofs.Order.{before_from_true, not_before_from_false}
use Rattle.event_stamps.proofs.Derived.{lt_is}
use Rattle.run_core.specs.Taking.{IsFirstDue}
use Rattle.run_core.proofs.Dues.{due_as, due_first, due_there, due_before}
use Rattle.run_core.proofs.one_event.least_due.Goals.{then-lt, else-lt}
use Rattle.run_core.proofs.one_event.least_due.Goals as goal

pub loop-k-init : goal.loop-k-init
loop-k-init c =
    due_first c.args.regions.now c.index-regions-0.result c.due-least.result
    (slice_get_read c.args.regions.now (length c.args.regions.now) 0 _ refl c.requires c.index-regions-0.is)
    c.due-least.ensures.value

pub loop-k-preserved : goal.loop-k-preserved
loop-k-preserved c =
    let regions = c.args.regions.now in
    let here = slice_get_read regions (length regions) c.loop-k.k c.index-regions-k.result refl c.loop-k-test.true
    c.index-regions-k.is in
    elim c.if-lt.branch [
      | then-lt w ↦
          due_as regions (c.loop-k.k + 1) c.loop-k.k c.due-due.result c.if-lt.home
          c.if-lt.least w.home-is w.least-is (due_there regions c.loop-k.k c.loop-k.home c.loop-k.least
          c.due-due.result c.index-regions-k.result c.loop-k.invariant here c.due-due.ensures.value
          (before_from_true c.due-due.result c.loop-k.least
          (sym (c.lt.ensures ∙ lt_is c.due-due.result c.loop-k.least) ∙ w.if-lt.true)))
      | else-lt w ↦
          due_as regions (c.loop-k.k + 1) c.loop-k.home c.loop-k.least c.if-lt.home
          c.if-lt.least w.home-is w.least-is (due_before regions c.loop-k.k c.loop-k.home c.loop-k.least
          c.due-due.result c.index-regions-k.result c.loop-k.invariant here c.due-due.ensures.value
          (not_before_from_false c.due-due.result c.loop-k.least
          (sym (c.lt.ensures ∙ lt_is c.due-due.result c.loop-k.least) ∙ w.if-lt.false)))
    ]

pub returns : goal.returns
returns c =
    let regions = c.args.regions.now in
    let all : c.loop-k.k ≡ length regions = omega arith in (
      c.loop-k.least,
      subst (λ (n : ℕ). IsFirstDue regions n c.loop-k.home c.loop-k.least) all c.loop-k.invariant,
    )
