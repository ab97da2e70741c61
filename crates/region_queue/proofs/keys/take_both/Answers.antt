-- One after the other.
use Rattle.std.proofs.Common.{[], ◌∷◌}
use Rattle.event_stamps.specs.Least.{earlier_of}
use Rattle.event_tree.specs.Entries.{IsEntered, entry_at}
use Rattle.region_queue.specs.Covering.{IsLowered}
use Rattle.region_queue.specs.Finding.{AreListed, AreRetaken, IsFound, IsTakenAt}
use Rattle.region_queue.proofs.Again.{on_ok, again_none, retaken_more, taken_low}
use Rattle.region_queue.proofs.Moved.{entered_low}
use Rattle.region_queue.proofs.keys.take_both.Goals as goal

pub returns-in_ok-set_codes-in-Some : goal.returns-in_ok-set_codes-in-Some
returns-in_ok-set_codes-in-Some c =
    let finder = c.args.finder.now in
    let view = c.args.view.now in
    let i = c.args.first in
    let j = c.args.second in
    let old = c.args.keys.now in
    let mid = c.set_codes.new.keys in
    let new = c.set_codes-in-Some.new.keys in
    let one = c.in-Some.one in
    let other = c.in-Some.other in
    on_ok c.set_codes-in-Some.result (IsEntered j (earlier_of other.single other.pair, other.pair) mid new)
    (AreListed view finder.lists.cells → AreRetaken finder view (i ∷ j ∷ []) old new)
    (λ entered listed. retaken_more finder view (i ∷ []) j old mid new
    (retaken_more finder view [] i old old mid (again_none (IsLowered (IsFound finder view)) (entry_at old))
    (entered_low finder view i one.single one.pair old mid c.in_ok-set_codes-in-Some.ensures c.in-Some.ensures.first.0
    (c.in-Some.ensures.first.1 listed)))
    (entered_low finder view j other.single other.pair mid new entered c.in-Some.ensures.second.0 (c.in-Some.ensures.second.1 listed)))
    c.set_codes-in-Some.ensures

pub returns-in_ok-take_key-in-None : goal.returns-in_ok-take_key-in-None
returns-in_ok-take_key-in-None c =
    let finder = c.args.finder.now in
    let view = c.args.view.now in
    let i = c.args.first in
    let j = c.args.second in
    let old = c.args.keys.now in
    let mid = c.take_key.new.keys in
    let new = c.take_key-in-None.new.keys in
    on_ok c.take_key-in-None.result (AreListed view finder.lists.cells → IsTakenAt finder view j mid new)
    (AreListed view finder.lists.cells → AreRetaken finder view (i ∷ j ∷ []) old new)
    (λ second listed. retaken_more finder view (i ∷ []) j old mid new
    (retaken_more finder view [] i old old mid (again_none (IsLowered (IsFound finder view)) (entry_at old)) (taken_low finder view i old mid (c.in_ok-take_key-in-None.ensures listed)))
    (taken_low finder view j mid new (second listed)))
    c.take_key-in-None.ensures
