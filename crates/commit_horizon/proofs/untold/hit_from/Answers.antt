use Rattle.std.proofs.Common.{[], sym, subst, refl, arith}
use Rattle.std.proofs.lemmas.List.{length-map}
use Rattle.event_log.specs.Logged.{entries_in}
use Rattle.event_tree.specs.Keys.{Key}
use Rattle.commit_horizon.specs.Merging.{head_of}
use Rattle.commit_horizon.specs.Untold.{IsNextHit}
use Rattle.commit_horizon.proofs.Lefts.{hit_found, hit_passed, hit_past, hit_in_range}
use Rattle.commit_horizon.proofs.untold.hit_from.Goals as goal

pub loop-place-init : goal.loop-place-init
loop-place-init c = ([], refl, refl)

pub new-requires : goal.new-requires
new-requires c =
    let log = entries_in c.args.log.now in
    hit_in_range log c.args.done c.loop-place.place c.in-Some.change c.in-Some.ensures c.loop-place.invariant c.requires.can

pub returns-in-Some : goal.returns-in-Some
returns-in-Some c =
    let log = entries_in c.args.log.now in
    subst (λ (key : Key). IsNextHit log c.args.done (head_of key c.loop-place.place)) (sym c.new.ensures)
    (hit_found log c.args.done c.loop-place.place c.in-Some.change c.in-Some.ensures c.loop-place.invariant)

pub loop-place-preserved : goal.loop-place-preserved
loop-place-preserved c =
    let log = entries_in c.args.log.now in
    let count = length-map c.args.log.now (λ l. l.0) in
    hit_passed log c.args.done c.loop-place.place (omega (arith, c.requires.end, count)) c.in_default.ensures
    c.loop-place.invariant

pub returns : goal.returns
returns c =
    let log = entries_in c.args.log.now in
    let count = length-map c.args.log.now (λ l. l.0) in
    subst (IsNextHit log c.args.done) (sym c.no_head.ensures)
    (hit_past log c.args.done c.loop-place.place (omega (arith, c.requires.end, count)) c.loop-place.invariant)
