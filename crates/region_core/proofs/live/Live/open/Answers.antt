use Rattle.std.proofs.Common.{ap, refl, List}
use Rattle.event_log.specs.Logged.{Logged, backs_in}
use Rattle.event_log.specs.Undoing.{undone}
use Rattle.region_core.proofs.Opened.{opened_is}
use Rattle.region_core.proofs.live.Live.open.Goals as goal

pub returns-clause-live : goal.returns-clause-live
returns-clause-live c = record {
  place = c.requires.place;
  body = opened_is c.args.place.now.home c.args.place.now.floor c.args.base _ c.requires.valid c.requires.place.floor
      c.new.ensures refl c.in_ok-inbox.ensures.inbox c.in_ok-inbox.ensures.sent c.in_ok-queue.ensures.0
      c.in_ok-queue.ensures.1;
}

pub returns-clause-base : goal.returns-clause-base
returns-clause-base c = ap (λ (log : List Logged). undone c.args.base (backs_in log)) c.new.ensures
