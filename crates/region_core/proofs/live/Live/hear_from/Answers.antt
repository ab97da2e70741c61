use Rattle.std.proofs.Common.{◌≡◌, ◌<◌, ◌∙◌, ℕ, Bool, false, length, sym, subst, refl}
use Rattle.std.specs.Prelude.{IsTrue}
use Rattle.region_messages.proofs.Parts.{below_replaced}
use Rattle.event_log.specs.Logged.{entries_in}
use Rattle.local_run.specs.LocalRun.{Trails, trail_of}
use Rattle.region_parts.specs.Inbox.{mixed}
use Rattle.region_core.specs.Replaced.{IsReplaced}
use Rattle.region_core.proofs.Traced.{last_stamp_is}
use Rattle.region_core.proofs.News.{same_base, nothing_more, has_heard, news_live, mixed_hearable}
use Rattle.region_core.proofs.live.Live.hear_from.Goals as goal

differs : (b : Bool) → IsTrue b → b ≡ false → ⊥
differs b h e = cc

pub returns-in_ok-replace-clause-base : goal.returns-in_ok-replace-clause-base
returns-in_ok-replace-clause-base c =
    same_base c.args.self.now c.replace.new.self c.in_ok-replace.ensures.view c.in_ok-replace.ensures.log

pub returns-in_ok-replace-clause-hears : goal.returns-in_ok-replace-clause-hears
returns-in_ok-replace-clause-hears c =
    let live = c.args.self.now in
    let ends = c.ends_before.ensures c.args.place.now.floor (entries_in live.log)
    c.requires.live.body.right.rises (c.last_stamp.ensures ∙ last_stamp_is live.log) in
    let all = ends.0 c.if-ends_before.true in (
      refl,
      all,
      has_heard c.args.place.now.floor c.args.at c.args.from
          (mixed c.args.at (trail_of live.inbox.heard c.args.from) c.args.sent.now) live live c.replace.new.self refl
          refl (sym all)
          (subst (λ (n : ℕ). c.args.from < n) (sym c.requires.live.body.inbox.regions) c.requires.region)
          c.in_ok-replace.ensures,
    )

pub returns-in_ok-replace-clause-live : goal.returns-in_ok-replace-clause-live
returns-in_ok-replace-clause-live c = λ hearable.
    let live = c.requires.live.body in
    let floor = c.args.place.now.floor in
    let heard = trail_of c.args.self.now.inbox.heard c.args.from in
    let ends = c.ends_before.ensures c.args.place.now.floor (entries_in c.args.self.now.log)
    c.requires.live.body.right.rises (c.last_stamp.ensures ∙ last_stamp_is c.args.self.now.log) in
    record {
      place = c.requires.live.place;
      body = news_live c.args.place.now.home floor c.args.at c.args.from (mixed c.args.at heard c.args.sent.now)
          c.args.self.now c.replace.new.self live (ends.0 c.if-ends_before.true)
          (sym (below_replaced c.args.at heard c.args.sent.now))
          (mixed_hearable c.args.place.now.home floor c.args.at c.args.from heard c.args.sent.now
          (live.right.heard c.args.from) hearable)
          (subst (λ (n : ℕ). c.args.from < n) (sym live.inbox.regions) c.requires.region) c.in_ok-replace.ensures;
    }

pub returns-in_ok-replace-2-clause-base : goal.returns-in_ok-replace-2-clause-base
returns-in_ok-replace-2-clause-base c =
    same_base c.rewind.new.self c.replace-else-ends_before.new.self c.in_ok-replace-2.ensures.view
    c.in_ok-replace-2.ensures.log ∙ c.in_ok-rewind.ensures.base

pub returns-in_ok-replace-2-clause-hears : goal.returns-in_ok-replace-2-clause-hears
returns-in_ok-replace-2-clause-hears c =
    let ends = c.ends_before.ensures c.args.place.now.floor (entries_in c.args.self.now.log)
    c.requires.live.body.right.rises (c.last_stamp.ensures ∙ last_stamp_is c.args.self.now.log) in (
      refl,
      λ same. differs c.ends_before.result (ends.1 same) c.if-ends_before.false,
      has_heard c.args.place.now.floor c.args.at c.args.from
          (mixed c.args.at (trail_of c.args.self.now.inbox.heard c.args.from) c.args.sent.now)
          c.args.self.now c.rewind.new.self
          c.replace-else-ends_before.new.self c.in_ok-rewind.ensures.base c.in_ok-rewind.ensures.heard
          c.in_ok-rewind.ensures.log
          (subst (λ (ts : Trails). c.args.from < length ts) (sym c.in_ok-rewind.ensures.heard)
          (subst (λ (n : ℕ). c.args.from < n) (sym c.requires.live.body.inbox.regions) c.requires.region))
          (subst (λ (ts : Trails). IsReplaced c.args.from
          (mixed c.args.at (trail_of ts c.args.from) c.args.sent.now) c.rewind.new.self
          c.replace-else-ends_before.new.self) c.in_ok-rewind.ensures.heard c.in_ok-replace-2.ensures),
    )

pub returns-in_ok-replace-2-clause-live : goal.returns-in_ok-replace-2-clause-live
returns-in_ok-replace-2-clause-live c = λ hearable.
    let floor = c.args.place.now.floor in
    let heard = trail_of c.rewind.new.self.inbox.heard c.args.from in
    let left = c.in_ok-rewind.ensures.live.body in
    record {
      place = c.requires.live.place;
      body = news_live c.args.place.now.home floor c.args.at c.args.from (mixed c.args.at heard c.args.sent.now)
          c.rewind.new.self c.replace-else-ends_before.new.self left
          (nothing_more c.args.at (entries_in c.args.self.now.log) (entries_in c.rewind.new.self.log) c.in_ok-rewind.ensures.log)
          (sym (below_replaced c.args.at heard c.args.sent.now))
          (mixed_hearable c.args.place.now.home floor c.args.at c.args.from heard c.args.sent.now
          (left.right.heard c.args.from) hearable)
          (subst (λ (n : ℕ). c.args.from < n) (sym left.inbox.regions) c.requires.region)
          c.in_ok-replace-2.ensures;
    }

pub replace-requires-else-ends_before : goal.replace-requires-else-ends_before
replace-requires-else-ends_before c =
    subst (λ (ts : Trails). c.args.from < length ts) (sym c.in_ok-rewind.ensures.heard)
    (subst (λ (n : ℕ). c.args.from < n) (sym c.requires.live.body.inbox.regions) c.requires.region)

pub replace-requires : goal.replace-requires
replace-requires c = subst (λ (n : ℕ). c.args.from < n) (sym c.requires.live.body.inbox.regions) c.requires.region
