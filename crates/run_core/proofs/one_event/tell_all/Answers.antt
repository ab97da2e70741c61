use Rattle.std.proofs.Common.{◌≡◌, ℕ, get_or, subst, arith}
use Rattle.std.proofs.lemmas.Option.{slice_get-get_or}
use Rattle.run_core.specs.Taking.{OneTookIn}
use Rattle.run_core.proofs.Passed.{still_on}
use Rattle.run_core.proofs.Taken.{none_took, number_of, one_more_took, all_took}
use Rattle.run_core.proofs.one_event.tell_all.Goals as goal

pub loop-hearer-init : goal.loop-hearer-init
loop-hearer-init c = λ state on. none_took state c.args.regions.now c.args.home on.stand

pub take_in-requires-clause-stand : goal.take_in-requires-clause-stand
take_in-requires-clause-stand c =
    let state = c.requires.stand.0 in
    let on = c.requires.stand.1 in (
      state,
      still_on c.args.grid.now c.args.regions.now c.loop-hearer.regions state on
          (c.loop-hearer.invariant state on).stand,
    )

pub take_in-requires-clause-sender : goal.take_in-requires-clause-sender
take_in-requires-clause-sender c =
    let regions = c.args.regions.now in
    let d = c.index-regions-home.result in
    (number_of c.args.grid.now regions c.requires.stand.0 c.args.home c.number-number.result
    (get_or regions c.args.home d) c.requires.stand.1
    (slice_get-get_or regions c.args.home d c.requires.teller) c.number-number.ensures.value).1

pub loop-hearer-preserved : goal.loop-hearer-preserved
loop-hearer-preserved c = λ state on.
    let regions = c.args.regions.now in
    let d = c.index-regions-home.result in
    let so_far = c.loop-hearer.invariant state on in
    let number = (number_of c.args.grid.now regions state c.args.home c.number-number.result
    (get_or regions c.args.home d) on (slice_get-get_or regions c.args.home d c.requires.teller)
    c.number-number.ensures.value).0 in
    one_more_took state regions c.loop-hearer.regions c.take_in.new.regions c.args.home
    c.loop-hearer.hearer so_far
    (subst (λ (k : ℕ). OneTookIn state c.loop-hearer.regions c.take_in.new.regions k c.loop-hearer.hearer)
    number (c.in_ok-take_in.ensures state
    (still_on c.args.grid.now regions c.loop-hearer.regions state on so_far.stand)))

pub returns : goal.returns
returns c = λ state on.
    let whole : c.loop-hearer.hearer ≡ c.args.grid.now.regions
    = omega (arith, c.loop-hearer-test.false, c.loop-hearer.auto.hearer-end, c.regions-hearer-end.ensures.value) in
    all_took c.args.grid.now c.args.regions.now c.loop-hearer.regions state c.args.home c.loop-hearer.hearer on
    whole (c.loop-hearer.invariant state on)
