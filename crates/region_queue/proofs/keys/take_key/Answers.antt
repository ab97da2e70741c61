-- What is found is set.
use Rattle.event_stamps.specs.Least.{earlier_of}
use Rattle.event_tree.specs.Entries.{IsEntered}
use Rattle.region_queue.specs.Finding.{AreListed, IsTakenAt}
use Rattle.region_queue.proofs.Again.{on_ok}
use Rattle.region_queue.proofs.Moved.{entered_best}
use Rattle.region_queue.proofs.keys.take_key.Goals as goal

pub returns : goal.returns
returns c =
    let finder = c.args.finder.now in
    let view = c.args.view.now in
    let disk = c.args.disk in
    let best = c.best-best.result in
    let old = c.args.keys.now in
    let new = c.set_best.new.keys in
    on_ok c.set_best.result (IsEntered disk (earlier_of best.single best.pair, best.pair) old new)
    (AreListed view finder.lists.cells → IsTakenAt finder view disk old new)
    (λ entered listed.
    entered_best finder view disk best.single best.pair old new entered c.best-best.ensures.single (c.best-best.ensures.pair listed))
    c.set_best.ensures
