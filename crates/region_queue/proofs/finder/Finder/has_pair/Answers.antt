-- The two disks are those that the view has.
use Rattle.std.proofs.Common.{sym}
use Rattle.std.proofs.lemmas.Bool.{false≢true}
use Rattle.region_queue.proofs.Candidates.{event_found, none_without_first, none_without_second}
use Rattle.region_queue.proofs.finder.Finder.has_pair.Goals as goal

pub is_event_of-requires-clause-first_valid : goal.is_event_of-requires-clause-first_valid
is_event_of-requires-clause-first_valid c = c.requires.ready.valid.disk c.args.stamp.now.first c.in-Some.first (sym c.in-Some.ensures)

pub is_event_of-requires-clause-second_valid : goal.is_event_of-requires-clause-second_valid
is_event_of-requires-clause-second_valid c = c.requires.ready.valid.disk c.args.stamp.now.second c.in-Some-get.second (sym c.in-Some-get.ensures)

pub is_event_of-requires-clause-first_cell : goal.is_event_of-requires-clause-first_cell
is_event_of-requires-clause-first_cell c = c.requires.ready.valid.cell c.args.stamp.now.first c.in-Some.first (sym c.in-Some.ensures)

pub is_event_of-requires-clause-second_cell : goal.is_event_of-requires-clause-second_cell
is_event_of-requires-clause-second_cell c = c.requires.ready.valid.cell c.args.stamp.now.second c.in-Some-get.second (sym c.in-Some-get.ensures)

pub returns-in_default : goal.returns-in_default
returns-in_default c = (
  λ yes. absurd (false≢true yes),
  λ found. absurd (none_without_first c.args.self.now c.args.view.now c.args.stamp.now (sym c.in_default.ensures) found),
)

pub returns-in_default-get : goal.returns-in_default-get
returns-in_default-get c = (
  λ yes. absurd (false≢true yes),
  λ found. absurd (none_without_second c.args.self.now c.args.view.now c.args.stamp.now c.requires.pair (sym c.in_default-get.ensures) found),
)

pub returns : goal.returns
returns c =
    let is = event_found c.args.self.now c.args.view.now c.args.stamp.now c.in-Some.first c.in-Some-get.second c.requires.pair
    (sym c.in-Some.ensures) (sym c.in-Some-get.ensures) in
    (λ yes. is.0 (c.is_event_of.ensures.0 yes), λ found. c.is_event_of.ensures.1 (is.1 found))
