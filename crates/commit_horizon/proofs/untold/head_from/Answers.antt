use Rattle.std.proofs.Common.{sym, subst, ◌∙◌, arith}
use Rattle.std.proofs.lemmas.List.{length-map}
use Rattle.event_log.specs.Logged.{entries_in}
use Rattle.event_tree.specs.Keys.{Key}
use Rattle.commit_horizon.specs.Merging.{head_of}
use Rattle.commit_horizon.specs.Untold.{IsNextHead}
use Rattle.commit_horizon.proofs.Lefts.{next_found, next_passed, next_past, in_range}
use Rattle.commit_horizon.proofs.untold.head_from.Goals as goal

pub new-requires : goal.new-requires
new-requires c =
    let log = entries_in c.args.log.now in
    in_range log c.args.done c.loop-place.place c.in-Some.stamp (sym c.in-Some.ensures) c.loop-place.invariant
    c.requires.range

pub returns-in-Some : goal.returns-in-Some
returns-in-Some c =
    let log = entries_in c.args.log.now in
    subst (λ (key : Key). IsNextHead log c.args.done (head_of key c.loop-place.place)) (sym c.new.ensures)
    (next_found log c.args.done c.loop-place.place c.in-Some.stamp (sym c.in-Some.ensures) c.loop-place.invariant)

pub loop-place-preserved : goal.loop-place-preserved
loop-place-preserved c =
    let log = entries_in c.args.log.now in
    let count = length-map c.args.log.now (λ l. l.0) in
    c.loop-place.invariant
    ∙ next_passed log c.loop-place.place (omega (arith, c.requires.end, count)) (sym c.in_default.ensures)

pub returns : goal.returns
returns c =
    let log = entries_in c.args.log.now in
    let count = length-map c.args.log.now (λ l. l.0) in
    subst (IsNextHead log c.args.done) (sym c.no_head.ensures)
    (next_past log c.args.done c.loop-place.place (omega (arith, c.requires.end, count)) c.loop-place.invariant)
