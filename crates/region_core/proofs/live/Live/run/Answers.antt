use Rattle.std.proofs.Common.{sym, subst, refl, arith}
use Rattle.region_view.specs.Placing.{IsValidPlacing}
use Rattle.region_view.specs.Views.{ViewData, rows_in}
use Rattle.local_run.specs.declared.entry.Entry.TheVariants.{Native}
use Rattle.region_parts.proofs.Lists.{as_many}
use Rattle.region_core.proofs.Traced.{stands_newest}
use Rattle.region_core.proofs.Appended.{acted_is_live, further_run, native_action, native_valid, may_send}
use Rattle.region_core.proofs.live.Live.run.Goals as goal

pub send-requires : goal.send-requires
send-requires c = may_send c.args.place.now.home c.args.place.now.floor c.args.self.now c.args.action
    c.requires.live.place.home c.requires.live.body c.requires.fits

pub act-requires : goal.act-requires
act-requires c = record {
  room = let few = c.requires.fits.0.0 in let many = as_many c.args.self.now.log in omega arith;
  order = (native_action c.args.place.now.home c.args.place.now.floor c.args.self.now c.args.action c.requires.live.place.home
      c.requires.live.body c.requires.fits).order;
}

pub tell-requires : goal.tell-requires
tell-requires c =
    let queue = c.args.self.now.queue in
    record {
      valid = subst (λ (view : ViewData). IsValidPlacing queue.rules queue.grid (rows_in view))
          (sym c.in_ok-act.ensures.view) (native_valid c.args.place.now.home c.args.place.now.floor c.args.self.now c.args.action
          c.requires.live.place.home c.requires.live.body c.requires.fits);
    }

pub returns-clause-live : goal.returns-clause-live
returns-clause-live c =
    let home = c.args.place.now.home in
    let live = c.args.self.now in
    record {
      place = c.requires.live.place;
      body = acted_is_live home c.args.place.now.floor live _ c.args.action c.requires.live.body c.requires.fits
          record {
            inbox = refl;
            log = c.in_ok-act.ensures.log;
            view = c.in_ok-act.ensures.view;
            queue = c.tell.ensures.queue;
            stands = c.in_ok-tell.ensures.stands live.view (stands_newest home c.args.place.now.floor live c.requires.live.body)
                c.in_ok-act.ensures.view;
            sent = c.in_ok-send.ensures;
          };
    }

pub returns-clause-run : goal.returns-clause-run
returns-clause-run c =
    let live = c.args.self.now in
    further_run c.args.place.now.floor live (record live { view = c.act.new.view; log = c.act.new.self }) (Native c.args.action)
    c.requires.live.body.traced refl c.in_ok-act.ensures.log c.in_ok-act.ensures.view
