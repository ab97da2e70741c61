use Rattle.std.proofs.Common.{◌≡◌, Some, ap, ◌∙◌, sym, subst}
use Rattle.std.specs.Prelude.{option_copied}
use Rattle.std.proofs.lemmas.Bool.{false≢true}
use Rattle.event_stamps.specs.declared.Stamp.{Stamp}
use Rattle.local_run.specs.Answers.{HasDue, IsInTurn}
use Rattle.local_run.specs.LocalRun.{IsOwn}
use Rattle.region_parts.specs.Inbox.{next_from, IsSharedHead}
use Rattle.region_core.specs.Live.{run_in, now_in}
use Rattle.local_run.proofs.Outcome.{found_message}
use Rattle.region_core.proofs.NextMove.{tied_by_own, tied_by_other, take_fits, first_has}
use Rattle.region_core.proofs.live.Live.message_move.Goals as goal
use Rattle.region_core.proofs.live.Live.message_move.Goals.{then-is_own, else-is_own}

pub returns-then-is_shared : goal.returns-then-is_shared
returns-then-is_shared c = elim c.if-is_own.branch [
  | then-is_own w ↦ tied_by_own c.args.place.now.home c.args.place.now.floor c.args.self.now c.args.from c.args.due
      c.requires.live.body c.requires.due c.requires.turn c.requires.first ((c.is_own.ensures c.args.place.now c.requires.live c.requires.due.1).0 w.if-is_own.true)
  | else-is_own w ↦ tied_by_other c.args.place.now.home c.args.place.now.floor c.args.self.now c.args.from c.args.due
      c.requires.live.body c.requires.due c.requires.turn c.requires.first
      (w.is_shared.ensures.0 (sym w.value-is ∙ c.if-is_shared.true))
]

pub unwrap-message-requires : goal.unwrap-message-requires
unwrap-message-requires c =
    found_message c.next.result c.requires.first.0 (c.next.ensures ∙ c.requires.first.1)

pub returns-else-is_shared : goal.returns-else-is_shared
returns-else-is_shared c =
    let home = c.args.place.now.home in
    let live = c.args.self.now in
    let m = c.unwrap-message.result.now in
    let next : next_from live.inbox c.args.from ≡ Some m =
    sym c.next.ensures ∙ ap option_copied c.unwrap-message.ensures in
    let same = sym (first_has live.inbox c.args.from c.args.due m c.requires.first next) in
    elim c.if-is_own.branch [
      | then-is_own w ↦ absurd (false≢true (sym c.if-is_shared.false ∙ w.value-is ∙ w.if-is_own.true))
      | else-is_own w ↦ take_fits home c.args.place.now.floor live c.args.from m c.requires.live.body
          (subst (HasDue home (run_in c.args.place.now.floor live)) same c.requires.due)
          (subst (IsInTurn (run_in c.args.place.now.floor live)) same c.requires.turn) next
          (subst (λ (s : Stamp). ¬ IsOwn home (now_in live).view s) same
          (λ own. false≢true (sym w.if-is_own.false ∙ (c.is_own.ensures c.args.place.now c.requires.live c.requires.due.1).1 own)))
          (subst (λ (s : Stamp). ¬ IsSharedHead live.inbox c.args.from s) same
          (λ shared. false≢true (sym c.if-is_shared.false ∙ w.value-is ∙ w.is_shared.ensures.1 shared)))
    ]
