-- One more of the disks.
use Rattle.std.proofs.Common.{ℕ, ◌+◌, ◌<◌, List, [], take, length, get_or, arith, sym, subst}
use Rattle.std.specs.Prelude.{Option}
use Rattle.std.specs.List.{Contains}
use Rattle.std.proofs.lemmas.List.{take_more}
use Rattle.event_stamps.specs.declared.Stamp.{Stamp}
use Rattle.event_stamps.specs.Least.{earlier_of}
use Rattle.region_view.proofs.Naming.{none_among}
use Rattle.region_queue.specs.Finding.{IsNativeWith, IsLowKey}
use Rattle.region_queue.proofs.Again.{take_whole}
use Rattle.region_queue.proofs.Low.{low_none, low_more}
use Rattle.region_queue.proofs.finder.Finder.low_pair.Goals as goal

pub loop-other-init : goal.loop-other-init
loop-other-init c =
    let Among : ℕ → Type 0 = λ i. Contains [] i in
    subst (λ (o : Option Stamp). IsLowKey (IsNativeWith c.args.self.now c.args.view.now c.args.disk Among) c.args.disk o) (sym c.none-best.ensures)
    (low_none c.args.self.now c.args.view.now c.args.disk Among none_among)

pub loop-other-preserved : goal.loop-other-preserved
loop-other-preserved c =
    let others = c.as_slice-others.result.now in
    let n = c.loop-other.other-index in
    let lt : c.loop-other.other-index < length c.as_slice-others.result.now = omega arith in
    let Found = IsNativeWith c.args.self.now c.args.view.now c.args.disk in
    subst (λ (o : Option Stamp). IsLowKey (Found (λ i. Contains (take (n + 1) others) i)) c.args.disk o) (sym c.earlier-best.ensures)
    (subst (λ (done : List ℕ). IsLowKey (Found (λ i. Contains done i)) c.args.disk (earlier_of c.loop-other.best c.in_ok-key.key))
    (sym (take_more others n 0 lt))
    (low_more c.args.self.now c.args.view.now c.args.disk (get_or others n 0) (take n others) c.loop-other.best c.in_ok-key.key
    c.loop-other.invariant c.in_ok-key.ensures))

pub returns : goal.returns
returns c =
    let others = c.as_slice-others.result.now in
    let Low : List ℕ → Type 0 =
    λ xs. IsLowKey (IsNativeWith c.args.self.now c.args.view.now c.args.disk (λ i. Contains xs i)) c.args.disk c.loop-other.best in
    subst Low c.as_slice-others.ensures
    (subst Low (take_whole others c.loop-other.other-index (omega arith)) c.loop-other.invariant)
