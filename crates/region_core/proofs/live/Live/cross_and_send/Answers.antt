use Rattle.std.proofs.Common.{sym, subst, refl, arith}
use Rattle.region_view.specs.declared.action.Action.TheVariants.{Cross}
use Rattle.region_view.specs.Placing.{IsValidPlacing}
use Rattle.region_view.specs.Views.{ViewData, rows_in}
use Rattle.region_view.specs.Naming.{IsMoved}
use Rattle.local_run.proofs.Untouched.{crossing_moves}
use Rattle.local_run.specs.declared.entry.Entry.TheVariants.{Native}
use Rattle.region_parts.proofs.Lists.{as_many}
use Rattle.region_core.proofs.Traced.{stands_newest}
use Rattle.region_core.proofs.Appended.{acted_is_live, further_run, native_valid, may_send}
use Rattle.region_core.proofs.live.Live.cross_and_send.Goals as goal

pub send_crossing-requires-clause-may : goal.send_crossing-requires-clause-may
send_crossing-requires-clause-may c = may_send c.args.place.now.home c.args.place.now.floor c.args.self.now
    (Cross c.args.stamp.now c.args.cell) c.requires.live.place.home c.requires.live.body c.requires.fits

pub crossed-requires : goal.crossed-requires
crossed-requires c =
    let queue = c.args.self.now.queue in
    record {
      valid = subst (λ (view : ViewData). IsValidPlacing queue.rules queue.grid (rows_in view))
          (sym c.in_ok-cross.ensures.view) (native_valid c.args.place.now.home c.args.place.now.floor c.args.self.now
          (Cross c.args.stamp.now c.args.cell) c.requires.live.place.home c.requires.live.body c.requires.fits);
    }

pub returns-clause-live : goal.returns-clause-live
returns-clause-live c =
    let home = c.args.place.now.home in
    let live = c.args.self.now in
    record {
      place = c.requires.live.place;
      body = acted_is_live home c.args.place.now.floor live _ (Cross c.args.stamp.now c.args.cell) c.requires.live.body c.requires.fits
          record {
            inbox = refl;
            log = c.in_ok-cross.ensures.log;
            view = c.in_ok-cross.ensures.view;
            queue = c.crossed.ensures.same;
            stands = c.in_ok-crossed.ensures.stands live.view (stands_newest home c.args.place.now.floor live c.requires.live.body)
                (subst (IsMoved c.args.stamp.now.first live.view) (sym c.in_ok-cross.ensures.view)
                (crossing_moves live.view c.args.stamp.now c.args.cell));
            sent = c.in_ok-send_crossing.ensures;
          };
    }

pub returns-clause-run : goal.returns-clause-run
returns-clause-run c =
    let live = c.args.self.now in
    further_run c.args.place.now.floor live (record live { view = c.cross.new.view; log = c.cross.new.self })
    (Native (Cross c.args.stamp.now c.args.cell)) c.requires.live.body.traced refl c.in_ok-cross.ensures.log
    c.in_ok-cross.ensures.view

pub cross-requires-clause-room : goal.cross-requires-clause-room
cross-requires-clause-room c =
    let few = c.requires.fits.0.0 in
    let many = as_many c.args.self.now.log in
    omega arith
