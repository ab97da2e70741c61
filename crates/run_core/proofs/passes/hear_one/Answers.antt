use Rattle.std.proofs.Common.{refl, sym, subst}
use Rattle.cell_grid.specs.Grid.{GridData, AreLinked}
use Rattle.run_core.specs.Passing.{HearsOne}
use Rattle.run_core.proofs.Passed.{place_of, region_of, linked_of, heard_none, heard_one}
use Rattle.run_core.proofs.passes.hear_one.Goals as goal

pub returns-then-not-linked : goal.returns-then-not-linked
returns-then-not-linked c = λ state on.
    heard_none state c.args.regions.now (HearsOne state c.args.hearer c.args.from) on.stand
    (λ linked. let wrong = c.if-not-linked.ensures.1
    (subst (λ (g : GridData). AreLinked g c.args.from c.args.hearer) on.grid_is linked) in cc)

pub hear_at-requires-clause-hearer : goal.hear_at-requires-clause-hearer
hear_at-requires-clause-hearer c = place_of c.args.grid.now c.args.regions.now c.requires.stand.0 c.args.hearer
    c.requires.stand.1 c.requires.hearer

pub hear_at-requires-clause-sender : goal.hear_at-requires-clause-sender
hear_at-requires-clause-sender c = place_of c.args.grid.now c.args.regions.now c.requires.stand.0 c.args.from
    c.requires.stand.1 c.requires.sender

pub returns : goal.returns
returns c = λ state on.
    let grid = c.args.grid.now in
    let regions = c.args.regions.now in
    heard_one state regions c.hear_at.new.regions c.args.hearer c.args.from
    c.in_ok-hearing.hearing c.is_rewound.result on.stand
    (region_of grid regions state c.args.hearer on c.requires.hearer)
    (region_of grid regions state c.args.from on c.requires.sender)
    (linked_of grid regions state c.args.from c.args.hearer on (c.if-not-linked.ensures.0 refl))
    c.in_ok-hearing.ensures.hears c.is_rewound.ensures

pub hear_at-requires-clause-other : goal.hear_at-requires-clause-other
hear_at-requires-clause-other c = λ e. (c.if-not-linked.ensures.0 refl).0 (sym e)
