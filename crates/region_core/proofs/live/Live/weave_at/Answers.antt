use Rattle.std.proofs.Common.{◌++◌, ◌∷◌, Some, None, take, drop, ◌∙◌, sym, ap, refl, ◌<◌, ℕ, subst}
use Rattle.region_view.specs.Setting.{RowList}
use Rattle.region_view.specs.Views.{ViewData}
use Rattle.local_run.specs.declared.entry.Entry.TheVariants.{Heard}
use Rattle.region_core.specs.declared.live.Live.{Live}
use Rattle.region_core.specs.Live.{run_in, now_in}
use Rattle.region_core.proofs.Traced.{now_is, stands_newest, last_stamp_is}
use Rattle.region_core.proofs.WeavingLive.{IsParted, put_live, may_be_woven, set_valid, same_live, of_again, set_is, all_later, few_taken}
use Rattle.region_core.proofs.live.Live.weave_at.Goals as goal

pub set_late-requires-clause-valid : goal.set_late-requires-clause-valid
set_late-requires-clause-valid c = (set_valid c.args.place.now.home c.args.place.now.floor c.args.self.now c.args.from c.args.message
    c.requires.live.place.home c.requires.live.body c.requires.hearable).0

pub set_late-requires-clause-later : goal.set_late-requires-clause-later
set_late-requires-clause-later c = (set_valid c.args.place.now.home c.args.place.now.floor c.args.self.now c.args.from c.args.message
    c.requires.live.place.home c.requires.live.body c.requires.hearable).1

pub returns-in-Some-2 : goal.returns-in-Some-2
returns-in-Some-2 c =
    let home = c.args.place.now.home in
    let live = c.args.self.now in
    let set = set_is c.in-Some.last live.view c.args.message.rows c.set_late.new.queue c.set_late.new.view
    c.set_late.new.rows c.in_ok-at.field-0 (Some c.in-Some-2.at)
    (c.in_ok-at.ensures.late (stands_newest home c.args.place.now.floor live c.requires.live.body)) c.in-Some-2.is in (
      record {
        place = c.requires.live.place;
        body = same_live home c.args.place.now.floor live c.set_late.new.view c.set_late.new.queue c.requires.live.body
            set.0 (of_again live.queue c.set_late.new.queue home c.set_late.ensures.queue c.requires.live.body.queue)
            set.1;
      },
      ap (λ (v : ViewData). run_in c.args.place.now.floor (record live { view = v; queue = c.set_late.new.queue })) set.0,
    )

pub weave-requires-clause-room : goal.weave-requires-clause-room
weave-requires-clause-room c = few_taken c.args.place.now.home c.args.place.now.floor c.args.self.now c.args.from c.args.kept
    c.args.message c.requires.region c.requires.live.body c.requires.tried

pub returns : goal.returns
returns c =
    let home = c.args.place.now.home in
    let live = c.args.self.now in
    let m = c.args.message in
    let set = set_is c.in-Some.last live.view m.rows c.set_late.new.queue c.set_late.new.view
    c.set_late.new.rows c.in_ok-at.field-0 None
    (c.in_ok-at.ensures.late (stands_newest home c.args.place.now.floor live c.requires.live.body))
    c.in_default-2.is in
    let of = of_again live.queue c.set_late.new.queue home c.set_late.ensures.queue c.requires.live.body.queue in
    let parted : IsParted live c.args.kept m = record {
      below = c.requires.below;
      rest = c.requires.rest;
      within = c.requires.within;
    } in
    let later = all_later home c.set_late.new.queue c.in-Some.last live.view (now_in live).view c.set_late.new.view
    m.rows of (sym (now_is live c.requires.live.body.traced)) set.0 set.3 in
    let may = may_be_woven home c.args.place.now.floor live c.args.from c.args.kept m c.in-Some.last
    c.requires.live.body parted c.requires.tried c.requires.aside
    (sym c.in-Some.is ∙ c.last_stamp.ensures ∙ last_stamp_is live.log) later in
    let new : Live = record live {
      view = c.set_late.new.view;
      log = c.insert.new.self;
      queue = c.set_late.new.queue;
      inbox = c.weave.new.self;
    } in
    let woven = put_live home c.args.place.now.floor c.args.from c.args.kept m live new c.requires.region c.requires.live.body
    parted c.requires.tried may c.requires.hearable (record {
      heard = c.in_ok-weave.ensures.heard;
      taken = c.in_ok-weave.ensures.taken;
      own = refl;
      log = c.in_ok-insert.ensures.inserted
          ∙ ap (λ (b : RowList). take c.args.kept live.log ++ (Heard c.args.from m, b) ∷ drop c.args.kept live.log) set.1;
      view = set.0;
      queue = of;
      stands = set.2;
    }) in
    (record { place = c.requires.live.place; body = woven.0 }, woven.1)

pub weave-requires-clause-free : goal.weave-requires-clause-free
weave-requires-clause-free c = c.requires.tried.free

pub weave-requires-clause-heard : goal.weave-requires-clause-heard
weave-requires-clause-heard c = subst (λ (n : ℕ). c.args.from < n) (sym c.requires.live.body.inbox.regions) c.requires.region

pub weave-requires-clause-taken : goal.weave-requires-clause-taken
weave-requires-clause-taken c = subst (λ (n : ℕ). c.args.from < n) (sym c.requires.live.body.inbox.counts) c.requires.region

pub insert-requires-clause-place : goal.insert-requires-clause-place
insert-requires-clause-place c = c.requires.within

pub insert-requires-clause-room : goal.insert-requires-clause-room
insert-requires-clause-room c = c.requires.tried.room
