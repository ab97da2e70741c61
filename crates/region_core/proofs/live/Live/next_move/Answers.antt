use Rattle.std.proofs.Common.{Option, refl, ap, ◌∙◌, sym, subst, arith}
use Rattle.std.proofs.lemmas.Bool.{false≢true}
use Rattle.std.specs.Prelude.{unwrap_or}
use Rattle.event_stamps.specs.declared.Stamp.{Stamp}
use Rattle.event_stamps.specs.Least.{IsLeastOf}
use Rattle.local_run.specs.LocalRun.{IsOffered}
use Rattle.event_log.specs.Logged.{entries_in}
use Rattle.region_core.specs.Live.{run_in, now_in}
use Rattle.local_run.specs.Moves.{ComesAfter}
use Rattle.region_parts.proofs.Lists.{as_many}
use Rattle.region_core.proofs.Traced.{last_stamp_is, clock_is}
use Rattle.region_core.proofs.NextMove.{turn_by}
use Rattle.region_core.proofs.live.Live.next_move.Goals as goal

pub returns-then-not-is_in_turn : goal.returns-then-not-is_in_turn
returns-then-not-is_in_turn c =
    let r = run_in c.args.place.now.floor c.args.self.now in
    let last = c.last_stamp-last.ensures ∙ last_stamp_is c.args.self.now.log in
    let many = as_many c.args.self.now.log in (
      (
        omega (arith, c.if-len-ge-MAX_ENTRIES.false, c.len.ensures),
        subst (IsLeastOf (IsOffered c.args.place.now.home (now_in c.args.self.now))) c.in-Some.is c.requires.due,
      ),
      λ turn. false≢true (sym c.if-not-is_in_turn.true ∙ c.is_in_turn.ensures.1
          (subst (λ (o : Option Stamp). ComesAfter c.args.place.now.floor o c.in-Some.due) (sym last)
          ((turn_by r c.in-Some.due).1 turn))),
      c.unwrap_or-clock.ensures ∙ ap (λ (o : Option Stamp). unwrap_or o c.args.place.now.floor) last
          ∙ clock_is c.args.place.now.floor (entries_in c.args.self.now.log),
      refl,
    )

pub message_move-requires-clause-turn : goal.message_move-requires-clause-turn
message_move-requires-clause-turn c =
    let r = run_in c.args.place.now.floor c.args.self.now in
    let last = c.last_stamp-last.ensures ∙ last_stamp_is c.args.self.now.log in
    (turn_by r c.in-Some.due).0
    (subst (λ (o : Option Stamp). ComesAfter c.args.place.now.floor o c.in-Some.due) last
    (c.is_in_turn.ensures.0 c.if-not-is_in_turn.false))

pub returns-in-None : goal.returns-in-None
returns-in-None c =
    let r = run_in c.args.place.now.floor c.args.self.now in
    let last = c.last_stamp-last.ensures ∙ last_stamp_is c.args.self.now.log in
    let many = as_many c.args.self.now.log in
    record {
      due = (
        omega (arith, c.if-len-ge-MAX_ENTRIES.false, c.len.ensures),
        subst (IsLeastOf (IsOffered c.args.place.now.home (now_in c.args.self.now))) c.in-Some.is c.requires.due,
      );
      turn = (turn_by r c.in-Some.due).0
          (subst (λ (o : Option Stamp). ComesAfter c.args.place.now.floor o c.in-Some.due) last
          (c.is_in_turn.ensures.0 c.if-not-is_in_turn.false));
      alone = c.in-None.ensures c.args.place.now c.args.self.now c.requires.live c.requires.head
          (subst (IsLeastOf (IsOffered c.args.place.now.home (now_in c.args.self.now))) c.in-Some.is c.requires.due);
    }

pub returns-then-len-ge-MAX_ENTRIES : goal.returns-then-len-ge-MAX_ENTRIES
returns-then-len-ge-MAX_ENTRIES c =
    let many = as_many c.args.self.now.log in ((omega (arith, c.if-len-ge-MAX_ENTRIES.true, c.len.ensures)), refl)

pub returns-in_default : goal.returns-in_default
returns-in_default c =
    let many = as_many c.args.self.now.log in (
      omega (arith, c.if-len-ge-MAX_ENTRIES.false, c.len.ensures),
      subst (IsLeastOf (IsOffered c.args.place.now.home (now_in c.args.self.now))) c.in_default.is c.requires.due,
      refl,
    )

pub message_move-requires-clause-due : goal.message_move-requires-clause-due
message_move-requires-clause-due c =
    let many = as_many c.args.self.now.log in (
      omega (arith, c.if-len-ge-MAX_ENTRIES.false, c.len.ensures),
      subst (IsLeastOf (IsOffered c.args.place.now.home (now_in c.args.self.now))) c.in-Some.is c.requires.due,
    )

pub message_move-requires-clause-first : goal.message_move-requires-clause-first
message_move-requires-clause-first c = c.in-Some-sender_at.ensures c.args.place.now c.args.self.now c.requires.live
    c.requires.head (subst (IsLeastOf (IsOffered c.args.place.now.home (now_in c.args.self.now))) c.in-Some.is c.requires.due)

pub returns-in-Some-sender_at : goal.returns-in-Some-sender_at
returns-in-Some-sender_at c = c.message_move.ensures

pub message_move-requires-clause-live : goal.message_move-requires-clause-live
message_move-requires-clause-live c = c.requires.live
