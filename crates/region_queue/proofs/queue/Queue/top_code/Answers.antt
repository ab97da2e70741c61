-- The least key is the least native candidate.
use Rattle.std.proofs.Common.{List, ap, subst}
use Rattle.std.specs.Prelude.{IfSome}
use Rattle.event_stamps.specs.Least.{IsLeastOf}
use Rattle.event_tree.specs.Keys.{Key, IsLeastKey}
use Rattle.region_view.specs.Placing.{IsNative}
use Rattle.region_view.specs.Views.{ViewData, rows_in}
use Rattle.region_queue.specs.Queue.{QueueData, StandsFor}
use Rattle.region_queue.proofs.Low.{told}
use Rattle.region_queue.proofs.Standing.{stands_least}
use Rattle.region_queue.proofs.queue.Queue.top_code.Goals as goal

pub returns : goal.returns
returns c =
    let queue = c.args.self.now in
    told (IsLeastKey queue.keys)
    (λ key. (view : ViewData) → StandsFor queue view → IsLeastOf (IsNative queue.rules queue.grid queue.region (rows_in view)) key) c.top_code.result
    (subst (λ (keys : List Key). IfSome c.top_code.result (IsLeastKey keys)) (ap (λ (q : QueueData). q.keys) c.self.view_is) c.top_code.ensures)
    (λ key least view stands. stands_least queue view key stands least)
