use Rattle.std.proofs.Common.{◌++◌, ◌∷◌, [], ap, ◌∙◌, sym, subst, refl, arith}
use Rattle.event_rules.specs.declared.change.Change.{Change}
use Rattle.region_view.specs.declared.action.Action.TheVariants.{Hit}
use Rattle.region_view.specs.Placing.{IsValidPlacing}
use Rattle.region_view.specs.Setting.{IsInOrder, after_action}
use Rattle.region_view.specs.Views.{ViewData, rows_in}
use Rattle.local_run.specs.declared.entry.Entry.TheVariants.{Native}
use Rattle.region_view.specs.Naming.{IsSameBut}
use Rattle.event_log.specs.Running.{logged_action, collision}
use Rattle.local_run.proofs.Aside.{here_first, later_still}
use Rattle.region_queue.specs.Finding.{KeepCells}
use Rattle.region_core.proofs.Told.{hit_leaves, hit_keeps_cells}
use Rattle.region_parts.proofs.Lists.{as_many}
use Rattle.region_core.proofs.Traced.{stands_newest}
use Rattle.region_core.proofs.Appended.{acted_is_live, further_run, native_action, native_valid, may_send}
use Rattle.region_core.proofs.live.Live.collide_and_send.Goals as goal

pub send_hit-requires-clause-may : goal.send_hit-requires-clause-may
send_hit-requires-clause-may c = may_send c.args.place.now.home c.args.place.now.floor c.args.self.now
    (Hit c.args.change.now) c.requires.live.place.home c.requires.live.body c.requires.fits

pub collide-requires-clause-order : goal.collide-requires-clause-order
collide-requires-clause-order c =
    subst (λ (x : Change). IsInOrder (Hit x)) c.requires.change
    (native_action c.args.place.now.home c.args.place.now.floor c.args.self.now
    (Hit c.args.change.now) c.requires.live.place.home c.requires.live.body c.requires.fits).order

pub struck-requires : goal.struck-requires
struck-requires c =
    let live = c.args.self.now in
    record {
      valid = subst (λ (v : ViewData). IsValidPlacing live.queue.rules live.queue.grid (rows_in v))
          (sym (c.in_ok-collide.ensures.view ∙ ap (λ (x : Change). after_action live.view (Hit x))
          (sym c.requires.change)))
          (native_valid c.args.place.now.home c.args.place.now.floor live (Hit c.args.change.now) c.requires.live.place.home c.requires.live.body
          c.requires.fits);
    }

pub returns-clause-live : goal.returns-clause-live
returns-clause-live c =
    let home = c.args.place.now.home in
    let live = c.args.self.now in
    let stamp = c.args.change.now.stamp in
    let ids = stamp.first ∷ stamp.second ∷ [] in
    record {
      place = c.requires.live.place;
      body = acted_is_live home c.args.place.now.floor live _ (Hit c.args.change.now) c.requires.live.body c.requires.fits
          record {
            inbox = refl;
            log = c.in_ok-collide.ensures.log
                ∙ ap (λ (x : Change). live.log ++ logged_action live.view (Hit x) ∷ []) (sym c.requires.change);
            view = c.in_ok-collide.ensures.view
                ∙ ap (λ (x : Change). after_action live.view (Hit x)) (sym c.requires.change);
            queue = c.struck.ensures.same;
            stands = c.in_ok-struck.ensures.stands live.view (stands_newest home c.args.place.now.floor live c.requires.live.body)
                (subst (IsSameBut ids live.view) (sym c.in_ok-collide.ensures.view)
                (hit_leaves live.view (collision stamp c.args.first.now c.args.second.now) ids
                (here_first stamp.first (stamp.second ∷ []))
                (later_still stamp.first (stamp.second ∷ []) stamp.second (here_first stamp.second []))))
                (subst (KeepCells live.view) (sym c.in_ok-collide.ensures.view)
                (hit_keeps_cells live.view (collision stamp c.args.first.now c.args.second.now)));
            sent = c.in_ok-send_hit.ensures;
          };
    }

pub returns-clause-run : goal.returns-clause-run
returns-clause-run c =
    let live = c.args.self.now in
    further_run c.args.place.now.floor live (record live { view = c.collide.new.view; log = c.collide.new.self })
    (Native (Hit c.args.change.now)) c.requires.live.body.traced refl
    (c.in_ok-collide.ensures.log
    ∙ ap (λ (x : Change). live.log ++ logged_action live.view (Hit x) ∷ []) (sym c.requires.change))
    (c.in_ok-collide.ensures.view ∙ ap (λ (x : Change). after_action live.view (Hit x)) (sym c.requires.change))

pub collide-requires-clause-room : goal.collide-requires-clause-room
collide-requires-clause-room c =
    let few = c.requires.fits.0.0 in
    let many = as_many c.args.self.now.log in
    omega arith
