-- The disks gathered have all that are listed beyond.
use Rattle.std.proofs.Common.{ℕ}
use Rattle.std.specs.List.{Contains}
use Rattle.region_queue.specs.Finding.{AreListed, IsNativeWith, IsLowKey, IsLowBeyond}
use Rattle.region_queue.proofs.Low.{told}
use Rattle.region_queue.proofs.Outside.{low_beyond}
use Rattle.region_queue.proofs.finder.Finder.low_outside.Goals as goal

pub returns-then-have_rows : goal.returns-then-have_rows
returns-then-have_rows c =
    let finder = c.args.self.now in
    let view = c.args.view.now in
    let With : ℕ → Type 0 = λ i. Contains c.gather_beyond.new.near i in
    told (IsLowKey (IsNativeWith finder view c.args.disk With) c.args.disk)
    (λ key. AreListed view finder.lists.cells → IsLowBeyond finder view c.args.disk c.args.old key) c.low_among.result c.low_among.ensures
    (λ key low listed. low_beyond finder view c.args.disk c.args.old c.args.placed.now With key c.requires.subject.ready c.requires.subject.placed listed
    (c.gather_beyond.ensures c.if-gather_beyond.true) low)
