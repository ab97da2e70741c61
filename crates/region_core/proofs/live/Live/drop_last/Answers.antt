use Rattle.std.proofs.Common.{◌∙◌, sym, subst, ap}
use Rattle.region_view.specs.Placing.{IsValidPlacing}
use Rattle.region_view.specs.Views.{ViewData, rows_in}
use Rattle.event_log.specs.Logged.{entries_in}
use Rattle.event_log.proofs.Traced.{undone_is}
use Rattle.local_run.specs.LocalRun.{after_log}
use Rattle.region_core.specs.Live.{base_in, start_in, IsAlong}
use Rattle.region_parts.proofs.Results.{on_ok}
use Rattle.region_core.proofs.Shorter.{shorter_is, taken_back, along_before, nothing_taken}
use Rattle.region_core.proofs.live.Live.drop_last.Goals as goal

pub take_back-requires-2-clause-valid : goal.take_back-requires-2-clause-valid
take_back-requires-2-clause-valid c =
    let home = c.args.place.now.home in
    let back = taken_back c.args.self.now c.take_back.new.view c.take_back.new.self c.in-Some.entry
    c.requires.body.traced c.in_ok-entry.ensures.log c.in_ok-entry.ensures.view
    (sym c.in-Some.is ∙ c.in_ok-entry.ensures.entry) in
    subst (λ (v : ViewData). IsValidPlacing home.rules home.grid (rows_in v)) back.newest
    (shorter_is home c.args.place.now.floor c.args.self.now (entries_in c.take_back.new.self) c.in-Some.entry
    c.requires.place.home c.requires.body back.parts).valid

pub take_back-requires-2-clause-moves : goal.take_back-requires-2-clause-moves
take_back-requires-2-clause-moves c =
    let live = c.args.self.now in
    let back = taken_back live c.take_back.new.view c.take_back.new.self c.in-Some.entry
    c.requires.body.traced c.in_ok-entry.ensures.log c.in_ok-entry.ensures.view
    (sym c.in-Some.is ∙ c.in_ok-entry.ensures.entry) in (
      after_log (start_in live) (entries_in c.take_back.new.self),
      back.newest,
      (shorter_is c.args.place.now.home c.args.place.now.floor live (entries_in c.take_back.new.self) c.in-Some.entry
          c.requires.place.home c.requires.body back.parts).move,
    )

pub returns-clause-along : goal.returns-clause-along
returns-clause-along c =
    let home = c.args.place.now.home in
    let live = c.args.self.now in
    let log = c.take_back.new.self in
    let back = taken_back live c.take_back.new.view log c.in-Some.entry
    c.requires.body.traced c.in_ok-entry.ensures.log c.in_ok-entry.ensures.view
    (sym c.in-Some.is ∙ c.in_ok-entry.ensures.entry) in
    let shorter = shorter_is home c.args.place.now.floor live (entries_in log) c.in-Some.entry
    c.requires.place.home c.requires.body back.parts in
    on_ok c.take_back-2.result _ _
    (λ stands. record {
      place = c.requires.place;
      body = along_before home c.args.place.now.floor live c.take_back.new.view log c.take_back-2.new.queue c.in-Some.entry
          back shorter c.take_back-2.ensures.queue
          (stands (after_log (start_in live) (entries_in log)) back.newest shorter.stands);
    })
    c.take_back-2.ensures.stands

pub returns-clause-base : goal.returns-clause-base
returns-clause-base c =
    let live = c.args.self.now in
    let back = taken_back live c.take_back.new.view c.take_back.new.self c.in-Some.entry
    c.requires.body.traced c.in_ok-entry.ensures.log c.in_ok-entry.ensures.view
    (sym c.in-Some.is ∙ c.in_ok-entry.ensures.entry) in
    on_ok c.take_back-2.result _ _
    (λ stands. undone_is (base_in live) c.take_back.new.view c.take_back.new.self back.traced)
    c.take_back-2.ensures.stands

pub returns-clause-log : goal.returns-clause-log
returns-clause-log c = on_ok c.take_back-2.result _ _ (λ stands. c.in_ok-entry.ensures.log) c.take_back-2.ensures.stands

pub take_back-requires-2-clause-of : goal.take_back-requires-2-clause-of
take_back-requires-2-clause-of c = c.requires.body.queue

pub returns-in_default-clause-base : goal.returns-in_default-clause-base
returns-in_default-clause-base c =
    ap base_in (nothing_taken c.args.self.now c.take_back.new.view c.take_back.new.self c.in_ok-entry.ensures.log
    c.in_ok-entry.ensures.view (sym c.in_default.is ∙ c.in_ok-entry.ensures.entry))

pub returns-in_default-clause-along : goal.returns-in_default-clause-along
returns-in_default-clause-along c =
    subst (IsAlong c.args.place.now)
    (sym (nothing_taken c.args.self.now c.take_back.new.view c.take_back.new.self c.in_ok-entry.ensures.log
    c.in_ok-entry.ensures.view (sym c.in_default.is ∙ c.in_ok-entry.ensures.entry)))
    c.requires
