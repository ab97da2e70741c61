use Rattle.std.proofs.Common.{◌≡◌, ◌+◌, get_or, length, sym, subst, arith}
use Rattle.std.proofs.lemmas.Option.{get_or_from_slice_get}
use Rattle.std.specs.Prelude.{MatchOption}
use Rattle.fixed_motion.specs.declared.disk.Disk.{Disk}
use Rattle.event_rules.specs.Events.{IsPairEvent}
use Rattle.event_stamps.specs.declared.Stamp.{Stamp}
use Rattle.event_stamps.specs.Least.{IsOnly, IsLeastOf}
use Rattle.all_pairs.specs.Search.{IsPairBelow}
use Rattle.all_pairs.proofs.Least.{no_pair, one_more_pair, no_disk, disk_at}
use Rattle.all_pairs.proofs.search.first_pair.Goals as goal

pub loop-j-init : goal.loop-j-init
loop-j-init c = λ a at. no_pair c.args.rules.now c.args.disks.now c.args.i a

pub pair_event-requires-clause-first_valid : goal.pair_event-requires-clause-first_valid
pair_event-requires-clause-first_valid c =
    c.requires.valid.valid c.args.i _ (disk_at c.args.disks.now c.args.i c.requires.within)

pub pair_event-requires-clause-second_valid : goal.pair_event-requires-clause-second_valid
pair_event-requires-clause-second_valid c =
    c.requires.valid.valid c.loop-j.j _ (disk_at c.args.disks.now c.loop-j.j (omega arith))

pub loop-j-preserved : goal.loop-j-preserved
loop-j-preserved c = λ a at.
    let rules = c.args.rules.now in
    let disks = c.args.disks.now in
    let i = c.args.i in
    let j = c.loop-j.j in
    let b : Disk = get_or disks j no_disk in
    let same : get_or disks i no_disk ≡ a = get_or_from_slice_get disks i a no_disk at in
    let own = subst (λ (d : Disk). MatchOption c.pair_event.result
    ((s : Stamp) → IsPairEvent rules i d j b s → ⊥) (IsOnly (IsPairEvent rules i d j b))) same
    c.pair_event.ensures in
    subst (IsLeastOf (IsPairBelow rules disks i a (j + 1))) (sym c.earlier-first.ensures)
    (one_more_pair rules disks i a j b c.loop-j.first c.pair_event.result (omega arith)
    (disk_at disks j (omega arith)) (c.loop-j.invariant a at) own)

pub returns : goal.returns
returns c = λ a at.
    let last : c.loop-j.j ≡ length c.args.disks.now = omega arith in
    subst (λ n. IsLeastOf (IsPairBelow c.args.rules.now c.args.disks.now c.args.i a n)
    c.loop-j.first) last (c.loop-j.invariant a at)
