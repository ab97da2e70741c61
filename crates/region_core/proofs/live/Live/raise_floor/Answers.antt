use Rattle.std.proofs.Common.{◌≡◌, ◌+◌, List, length, map, sym, ap, ◌∙◌, refl}
use Rattle.std.proofs.lemmas.List.{length-map, with_items_is}
use Rattle.region_messages.specs.Trails.{from}
use Rattle.local_run.specs.declared.entry.Entry.{Entry}
use Rattle.event_log.specs.Logged.{entries_in}
use Rattle.region_parts.specs.Inbox.{taken_from}
use Rattle.local_run.specs.Taken.{taken_of}
use Rattle.region_core.specs.Live.{run_in}
use Rattle.local_run.proofs.Raised.{raised_right}
use Rattle.region_core.proofs.Rewound.{all_taken}
use Rattle.region_core.proofs.LetGo.{raised_run_is, base_let_go, log_let_go, raised_is}
use Rattle.region_core.proofs.live.Live.raise_floor.Goals as goal

pub drop_before-requires-clause-taken : goal.drop_before-requires-clause-taken
drop_before-requires-clause-taken c = λ q.
    all_taken c.args.place.now.home c.args.place.now.floor c.args.self.now q c.requires.live.body

pub returns-clause-run : goal.returns-clause-run
returns-clause-run c =
    let floor = c.args.place.now.floor in
    let n = c.count_before-gone.result in
    let live = c.args.self.now in
    raised_run_is c.args.to (run_in floor live) _
    c.drop_before.new.self.heard (entries_in c.drop_first.new.self)
    (base_let_go c.args.to live live.view c.drop_first.new.self n c.requires.live.body.traced
    c.count_before-gone.ensures.before refl c.drop_first.ensures)
    c.drop_before.ensures.heard
    (log_let_go c.args.to live c.drop_first.new.self n c.count_before-gone.ensures.from c.drop_first.ensures)

pub returns-clause-live : goal.returns-clause-live
returns-clause-live c =
    let n = c.count_before-gone.result in
    let floor = c.args.place.now.floor in
    let is = c.requires.live.body in
    let none = c.requires.none_waiting in
    let sent : c.drop_before-2.new.trails ≡ map (from c.args.to) c.args.self.now.sent.items =
    c.drop_before-2.ensures ∙ ap (map (from c.args.to)) c.deref_mut.ensures.value in
    record {
      place = record {
        home = c.requires.live.place.home;
        far = c.requires.live.place.far;
        floor = c.requires.in_time;
      };
      body = raised_is c.args.place.now.home floor c.args.to c.args.self.now _ n is none
          (raised_right c.args.place.now.home (run_in floor c.args.self.now) c.args.to c.requires.live.place.home is.right
          c.requires.in_time none)
          c.count_before-gone.ensures.before c.count_before-gone.ensures.from c.drop_first.ensures refl
          c.drop_before.ensures.heard c.drop_before.ensures.counts
          (λ q. ap (λ (es : List Entry). taken_from c.drop_before.new.self q + taken_of q es)
          (sym c.count_before-gone.ensures.before) ∙ c.drop_before.ensures.taken q)
          (with_items_is c.args.self.now.sent c.drop_before-2.new.trails
          (ap length c.drop_before-2.ensures ∙ length-map c.deref_mut.result.now (from c.args.to)
          ∙ c.deref_mut.ensures.len) ∙ sent)
          refl;
    }

pub count_before-gone-requires : goal.count_before-gone-requires
count_before-gone-requires c = (c.args.place.now.floor, c.requires.live.body.right.rises)

pub drop_first-requires : goal.drop_first-requires
drop_first-requires c = record { place = c.count_before-gone.ensures.within }

pub returns-clause-place : goal.returns-clause-place
returns-clause-place c = refl
