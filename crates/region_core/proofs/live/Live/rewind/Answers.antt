use Rattle.std.proofs.Common.{◌≡◌, ◌+◌, List, length, map, sym, ap, ◌∙◌, arith}
use Rattle.std.proofs.lemmas.List.{length-map, with_items_is}
use Rattle.region_messages.specs.Trails.{below}
use Rattle.local_run.specs.declared.entry.Entry.{Entry}
use Rattle.local_run.specs.Entries.{entries_from}
use Rattle.event_log.specs.Logged.{entries_in}
use Rattle.region_parts.specs.Inbox.{InboxData, taken_from}
use Rattle.local_run.specs.Taken.{taken_of}
use Rattle.local_run.proofs.Taken.{taken_below}
use Rattle.region_core.proofs.Rewound.{all_taken}
use Rattle.region_core.proofs.Traced.{entries_taken}
use Rattle.region_core.proofs.Rewound.{still_right, still_stands, rewound_is}
use Rattle.region_core.proofs.live.Live.rewind.Goals as goal

pub give_back-requires-clause-taken : goal.give_back-requires-clause-taken
give_back-requires-clause-taken c = λ q.
    let log = entries_in c.args.self.now.log in
    let dropped = ap (taken_of q) c.count_before-kept.ensures.from in
    let parts = taken_below q c.args.at log in
    let all = all_taken c.args.place.now.home c.args.place.now.floor c.args.self.now q c.requires.body in
    omega arith

pub drop_down_to-requires : goal.drop_down_to-requires
drop_down_to-requires c =
    let live = c.requires.body in
    record {
      place = c.requires.place;
      body = record {
        right = still_right c.args.place.now.home c.args.place.now.floor c.args.self.now c.give_back.new.self.heard
            live c.give_back.ensures.heard;
        traced = live.traced;
        queue = live.queue;
        stands = still_stands c.args.place.now.home c.args.place.now.floor c.args.self.now c.give_back.new.self.heard
            live c.give_back.ensures.heard;
      };
    }

pub returns-clause-log : goal.returns-clause-log
returns-clause-log c =
    ap entries_in c.in_ok-drop_down_to.ensures.log
    ∙ sym (entries_taken c.count_before-kept.result c.args.self.now.log) ∙ c.count_before-kept.ensures.before

pub returns-clause-live : goal.returns-clause-live
returns-clause-live c =
    let log = entries_in c.args.self.now.log in
    let inbox = c.drop_down_to.ensures.inbox in
    let cut : c.cut_from.new.trails ≡ map (below c.args.at) c.args.self.now.sent.items =
    c.cut_from.ensures ∙ ap (map (below c.args.at)) c.deref_mut.ensures.value in
    record {
      place = c.requires.place;
      body = rewound_is c.args.place.now.home c.args.place.now.floor c.args.at c.args.self.now c.drop_down_to.new.self c.requires.body
          c.in_ok-drop_down_to.ensures.base
          (ap entries_in c.in_ok-drop_down_to.ensures.log
          ∙ sym (entries_taken c.count_before-kept.result c.args.self.now.log) ∙ c.count_before-kept.ensures.before)
          (ap (λ (x : InboxData). x.heard) inbox ∙ c.give_back.ensures.heard)
          (ap (λ (x : InboxData). length x.taken) inbox ∙ c.give_back.ensures.counts)
          (λ q. ap (λ (x : InboxData). taken_from x q + taken_of q (entries_from c.args.at log)) inbox
          ∙ ap (λ (v : List Entry). taken_from c.give_back.new.self q + taken_of q v) (sym c.count_before-kept.ensures.from)
          ∙ c.give_back.ensures.taken q)
          ((λ i. (c.drop_down_to.ensures.sent i).items)
          ∙ with_items_is c.args.self.now.sent c.cut_from.new.trails
          (ap length c.cut_from.ensures ∙ length-map c.deref_mut.result.now (below c.args.at)
          ∙ c.deref_mut.ensures.len) ∙ cut)
          c.in_ok-drop_down_to.ensures.along.body;
    }

pub returns-clause-heard : goal.returns-clause-heard
returns-clause-heard c = ap (λ (x : InboxData). x.heard) c.drop_down_to.ensures.inbox ∙ c.give_back.ensures.heard

pub returns-clause-base : goal.returns-clause-base
returns-clause-base c = c.in_ok-drop_down_to.ensures.base

pub count_before-kept-requires : goal.count_before-kept-requires
count_before-kept-requires c = (c.args.place.now.floor, c.requires.body.right.rises)
