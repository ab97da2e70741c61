use Rattle.std.proofs.Common.{Ok, refl, subst}
use Rattle.std.proofs.lemmas.Result.{err_from_is_err_and}
use Rattle.event_stamps.specs.declared.Stamp.{Stamp}
use Rattle.cell_sequence.specs.State.{IsNextOf, ComesToInState}
use Rattle.cell_sequence.proofs.Followed.{some_found, own_stamp}
use Rattle.cell_sequence.proofs.state.CellState.run_next.Goals as goal

pub unwrap-stamp-requires : goal.unwrap-stamp-requires
unwrap-stamp-requires c = some_found c.args.self.now c.next.result c.requires c.next.ensures.found

pub follow-requires-clause-next : goal.follow-requires-clause-next
follow-requires-clause-next c =
    let state = c.args.self.now in
    let s = c.unwrap-stamp.result in
    let next : IsNextOf state s = rw c.unwrap-stamp.ensures at c.next.ensures.found in
    subst (IsNextOf state) (own_stamp state s c.in_ok-action.action c.next.ensures.kept next
    c.in_ok-action.ensures) next

pub follow-requires-clause-comes : goal.follow-requires-clause-comes
follow-requires-clause-comes c =
    let state = c.args.self.now in
    let s = c.unwrap-stamp.result in
    let x = c.in_ok-action.action in
    let next : IsNextOf state s = rw c.unwrap-stamp.ensures at c.next.ensures.found in
    subst (λ (t : Stamp). ComesToInState state t (Ok x))
    (own_stamp state s x c.next.ensures.kept next c.in_ok-action.ensures) c.in_ok-action.ensures

pub returns : goal.returns
returns c =
    let state = c.args.self.now in
    let s = c.unwrap-stamp.result in
    let x = c.in_ok-action.action in
    let next : IsNextOf state s = rw c.unwrap-stamp.ensures at c.next.ensures.found in
    let own = own_stamp state s x c.next.ensures.kept next c.in_ok-action.ensures in (
      subst (IsNextOf state) own next,
      subst (λ (t : Stamp). ComesToInState state t (Ok x)) own c.in_ok-action.ensures,
      c.follow.ensures,
    )

pub upcoming-requires : goal.upcoming-requires
upcoming-requires c = rw c.unwrap-stamp.ensures at c.next.ensures.found

pub returns-in_err-action : goal.returns-in_err-action
returns-in_err-action c =
    let state = c.args.self.now in
    let s = c.unwrap-stamp.result in
    let next : IsNextOf state s = rw c.unwrap-stamp.ensures at c.next.ensures.found in
    let p = err_from_is_err_and c.from_residual.result c.from_residual.ensures.1 in
    rw (p.1, p.2) (s, next, c.in_err-action.ensures, refl)
