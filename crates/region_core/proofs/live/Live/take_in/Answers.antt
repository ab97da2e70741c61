use Rattle.std.proofs.Common.{◌∷◌, [], ◌++◌, ap, ◌∙◌, sym, subst, arith}
use Rattle.region_view.specs.Placing.{IsValidPlacing}
use Rattle.region_view.specs.Views.{ViewData, rows_in}
use Rattle.local_run.specs.declared.entry.Entry.TheVariants.{Heard}
use Rattle.event_log.specs.Logged.{entries_in}
use Rattle.region_parts.specs.Inbox.{InboxData}
use Rattle.region_core.specs.Live.{IsInbox}
use Rattle.region_parts.proofs.Lists.{as_many}
use Rattle.region_core.proofs.Traced.{stands_newest}
use Rattle.region_core.proofs.Appended.{further_is, further_run, heard_valid, waits_in, few_taken, inbox_heard, outbox_heard, sender_is_region}
use Rattle.region_core.proofs.Tests.{set_differs}
use Rattle.region_core.proofs.live.Live.take_in.Goals as goal

pub append-requires : goal.append-requires
append-requires c = record {
  room = let few = c.requires.fits.0.0 in let many = as_many c.args.self.now.log in omega arith;
}

pub touch-requires : goal.touch-requires
touch-requires c =
    let queue = c.args.self.now.queue in
    record {
      valid = subst (λ (view : ViewData). IsValidPlacing queue.rules queue.grid (rows_in view))
          (sym c.in_ok-append.ensures.view) (heard_valid c.args.place.now.home c.args.place.now.floor c.args.self.now c.args.from
          c.args.message c.requires.live.place.home c.requires.live.body c.requires.fits);
    }

pub take-requires : goal.take-requires
take-requires c = record {
  waits = waits_in c.args.place.now.home c.args.place.now.floor c.args.self.now c.args.from c.args.message c.requires.live.body
      c.requires.fits;
  room = few_taken c.args.place.now.home c.args.place.now.floor c.args.self.now c.args.from c.args.message c.requires.live.body
      c.requires.fits;
}

pub returns-clause-live : goal.returns-clause-live
returns-clause-live c =
    let home = c.args.place.now.home in
    let live = c.args.self.now in
    let e = Heard c.args.from c.args.message in
    let queue = c.touch.ensures.queue in
    record {
      place = c.requires.live.place;
      body = further_is home c.args.place.now.floor live _ e c.requires.live.body c.requires.fits.0.0 c.requires.fits.1
          c.requires.fits.2
          record {
            heard = ap (λ (x : InboxData). x.heard) c.take.ensures;
            log = c.in_ok-append.ensures.log;
            view = c.in_ok-append.ensures.view;
            queue = record {
              rules = queue.rules ∙ c.requires.live.body.queue.rules;
              grid = queue.grid ∙ c.requires.live.body.queue.grid;
              region = queue.region ∙ c.requires.live.body.queue.region;
            };
            stands = c.in_ok-touch.ensures.stands live.view (stands_newest home c.args.place.now.floor live c.requires.live.body)
                (set_differs live.view c.append.new.view c.args.message.rows c.in_ok-append.ensures.view);
            inbox = subst (IsInbox home (entries_in live.log ++ e ∷ [])) (sym c.take.ensures)
                (inbox_heard home (entries_in live.log) live.inbox c.args.from c.args.message
                (sender_is_region home c.args.place.now.floor live c.args.from c.args.message c.requires.live.body
                c.requires.fits) c.requires.live.body.inbox);
            sent = outbox_heard home c.args.place.now.floor live c.args.from c.args.message c.requires.live.body.sent;
          };
    }

pub returns-clause-run : goal.returns-clause-run
returns-clause-run c =
    let live = c.args.self.now in
    further_run c.args.place.now.floor live
    (record live { view = c.append.new.view; log = c.append.new.self; inbox = c.take.new.self })
    (Heard c.args.from c.args.message) c.requires.live.body.traced (ap (λ (x : InboxData). x.heard) c.take.ensures)
    c.in_ok-append.ensures.log c.in_ok-append.ensures.view
