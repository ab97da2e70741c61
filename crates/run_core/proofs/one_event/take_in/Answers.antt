use Rattle.std.proofs.Common.{refl, sym, subst}
use Rattle.cell_grid.specs.Grid.{GridData, AreLinked}
use Rattle.run_core.proofs.Passed.{place_of, region_of, linked_of, still_on}
use Rattle.run_core.proofs.Standing.{has_heard}
use Rattle.run_core.proofs.Taken.{not_told, no_news, news}
use Rattle.run_core.proofs.one_event.take_in.Goals as goal

pub returns-then-not-linked : goal.returns-then-not-linked
returns-then-not-linked c = λ state on.
    not_told state c.args.regions.now c.args.from c.args.hearer on.stand
    (λ linked. let wrong = c.if-not-linked.ensures.1
    (subst (λ (g : GridData). AreLinked g c.args.from c.args.hearer) on.grid_is linked) in cc)

pub hear_at-requires-clause-hearer : goal.hear_at-requires-clause-hearer
hear_at-requires-clause-hearer c = place_of c.args.grid.now c.args.regions.now c.requires.stand.0
    c.args.hearer c.requires.stand.1 c.requires.hearer

pub hear_at-requires-clause-sender : goal.hear_at-requires-clause-sender
hear_at-requires-clause-sender c = place_of c.args.grid.now c.args.regions.now c.requires.stand.0
    c.args.from c.requires.stand.1 c.requires.sender

pub step_at-requires : goal.step_at-requires
step_at-requires c =
    let state = c.requires.stand.0 in
    let on = c.requires.stand.1 in
    let grid = c.args.grid.now in
    let regions = c.args.regions.now in
    let heard = has_heard state regions c.hear_at.new.regions c.args.hearer c.args.from c.in_ok-hearing.hearing
    on.stand (region_of grid regions state c.args.hearer on c.requires.hearer)
    (region_of grid regions state c.args.from on c.requires.sender)
    (linked_of grid regions state c.args.from c.args.hearer on (c.if-not-linked.ensures.0 refl))
    c.in_ok-hearing.ensures.hears in
    place_of grid c.hear_at.new.regions state c.args.hearer
    (still_on grid regions c.hear_at.new.regions state on heard.changes.stand) c.requires.hearer

pub returns-in_ok-step_at-in-Later : goal.returns-in_ok-step_at-in-Later
returns-in_ok-step_at-in-Later c = λ state on.
    let grid = c.args.grid.now in
    let regions = c.args.regions.now in
    news state regions c.hear_at.new.regions c.args.from c.args.hearer c.in_ok-hearing.hearing on.stand
    (region_of grid regions state c.args.hearer on c.requires.hearer)
    (region_of grid regions state c.args.from on c.requires.sender)
    (linked_of grid regions state c.args.from c.args.hearer on (c.if-not-linked.ensures.0 refl))
    c.in_ok-hearing.ensures.hears c.in-Later.field-0 c.in-Later.is
    c.step_at.new.regions c.in_ok-step_at-in-Later.field-0 c.in_ok-step_at-in-Later.ensures.step

pub returns-in_default : goal.returns-in_default
returns-in_default c = λ state on.
    let grid = c.args.grid.now in
    let regions = c.args.regions.now in
    no_news state regions c.hear_at.new.regions c.args.from c.args.hearer c.in_ok-hearing.hearing on.stand
    (region_of grid regions state c.args.hearer on c.requires.hearer)
    (region_of grid regions state c.args.from on c.requires.sender)
    (linked_of grid regions state c.args.from c.args.hearer on (c.if-not-linked.ensures.0 refl))
    c.in_ok-hearing.ensures.hears c.in_default.not-Later

pub hear_at-requires-clause-other : goal.hear_at-requires-clause-other
hear_at-requires-clause-other c = λ e. (c.if-not-linked.ensures.0 refl).0 (sym e)
