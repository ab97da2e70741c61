-- Those that are out have no event.
use Rattle.std.specs.List.{Contains}
use Rattle.region_queue.specs.Finding.{IsNativeWith, IsLowKey}
use Rattle.region_queue.proofs.Low.{low_of_all, told}
use Rattle.region_queue.proofs.finder.Finder.low_among.Goals as goal

pub returns : goal.returns
returns c =
    let finder = c.args.self.now in
    let view = c.args.view.now in
    let kept = c.keep_candidates.new.near in
    told (IsLowKey (IsNativeWith finder view c.args.disk (λ i. Contains kept i)) c.args.disk)
    (IsLowKey (IsNativeWith finder view c.args.disk (λ i. Contains c.args.near.now i)) c.args.disk) c.low_pair.result c.low_pair.ensures
    (λ key low. low_of_all finder view c.args.disk c.args.near.now kept key c.keep_candidates.ensures low)
