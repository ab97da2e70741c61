-- One more of the disks that are kept; those that are out have no key.
use Rattle.std.proofs.Common.{ℕ, ◌+◌, ◌<◌, List, [], take, length, get_or, arith, sym, subst}
use Rattle.std.specs.Prelude.{Option}
use Rattle.std.specs.List.{Contains}
use Rattle.std.proofs.lemmas.List.{take_more}
use Rattle.std.proofs.lemmas.List.Elements.{Contains-get_or}
use Rattle.event_stamps.specs.declared.Stamp.{Stamp}
use Rattle.event_stamps.specs.Least.{IsLeastOf, earlier_of}
use Rattle.region_view.proofs.Naming.{none_among}
use Rattle.region_queue.specs.Finding.{IsNativeWith, AreAllWithin}
use Rattle.region_queue.proofs.Again.{take_whole}
use Rattle.region_queue.proofs.Candidates.{with_none}
use Rattle.region_queue.proofs.Among.{one_more, nearby_listed}
use Rattle.region_queue.proofs.Keeping.{least_of_all}
use Rattle.region_queue.proofs.finder.Finder.best_among.Goals as goal

pub loop-other-preserved : goal.loop-other-preserved
loop-other-preserved c = λ listed within.
    let others = c.as_slice-others.result.now in
    let n = c.loop-other.other-index in
    let lt : c.loop-other.other-index < length c.as_slice-others.result.now = omega arith in
    let other = get_or others n 0 in
    let Found = IsNativeWith c.args.self.now c.args.view.now c.args.disk in
    subst (λ (o : Option Stamp). IsLeastOf (Found (λ i. Contains (take (n + 1) others) i)) o) (sym c.earlier-best.ensures)
    (subst (λ (done : List ℕ). IsLeastOf (Found (λ i. Contains done i)) (earlier_of c.loop-other.best c.key_beside.result))
    (sym (take_more others n 0 lt))
    (one_more c.args.self.now c.args.view.now c.args.disk other (take n others) c.loop-other.best c.key_beside.result
    (c.loop-other.invariant listed within) (c.key_beside.ensures
    (nearby_listed c.args.self.now c.args.view.now c.args.placed.now.cell other c.args.block c.owns_columns-whole.result c.requires.subject.ready
    listed c.requires.beside c.owns_columns-whole.ensures (within other (Contains-get_or others n 0 lt))))))

pub returns : goal.returns
returns c = λ listed within.
    let finder = c.args.self.now in
    let others = c.as_slice-others.result.now in
    let Least : List ℕ → Type 0 =
    λ xs. IsLeastOf (IsNativeWith finder c.args.view.now c.args.disk (λ i. Contains xs i)) c.loop-other.best in
    let are = c.keep_candidates.ensures in
    let left : AreAllWithin finder.lists c.args.block others =
    λ i x. within i (are.within i (subst (λ (xs : List ℕ). Contains xs i) c.as_slice-others.ensures x)) in
    least_of_all finder c.args.view.now c.args.disk c.args.near.now c.keep_candidates.new.near c.loop-other.best are
    (subst Least c.as_slice-others.ensures
    (subst Least (take_whole others c.loop-other.other-index (omega arith)) (c.loop-other.invariant listed left)))

pub loop-other-init : goal.loop-other-init
loop-other-init c = λ listed within.
    let Among : ℕ → Type 0 = λ i. Contains [] i in
    subst (λ (o : Option Stamp). IsLeastOf (IsNativeWith c.args.self.now c.args.view.now c.args.disk Among) o) (sym c.new-best.ensures)
    (with_none c.args.self.now c.args.view.now c.args.disk Among none_among)
