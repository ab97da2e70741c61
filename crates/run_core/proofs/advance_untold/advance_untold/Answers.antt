use Rattle.std.proofs.Common.{List, length, sym, ap, ◌∙◌, subst, Option}
use Rattle.event_stamps.specs.declared.Stamp.{Stamp}
use Rattle.local_run.specs.Opening.{RegionData}
use Rattle.commit_horizon.specs.Horizon.{runs_of}
use Rattle.run_core.specs.AdvancesUntold.{answer_with}
use Rattle.run_core.specs.Simulates.{AdvancesBy}
use Rattle.run_core.specs.Standing.{GoesOnTo}
use Rattle.run_core.proofs.OneState.{comes_of, written_back}
use Rattle.run_core.proofs.Untold.{goes_to, advances_to}
use Rattle.run_core.proofs.advance_untold.advance_untold.Goals as goal

pub make_final-requires-clause-stand : goal.make_final-requires-clause-stand
make_final-requires-clause-stand c =
    let earlier = c.args.earlier in
    let last = c.args.last in
    let state = c.requires.stand.0 in
    let floor = c.requires.stand.1 in
    let given = c.deref_mut.result.now in
    let goes = subst (λ (v : List RegionData). GoesOnTo earlier last floor v state) (sym c.deref_mut.ensures.value)
    c.requires.stand.2 in
    (state, comes_of earlier c.state.result.now last floor given state c.state.ensures.value goes)

pub after-standing-requires : goal.after-standing-requires
after-standing-requires c =
    let earlier = c.args.earlier in
    let last = c.args.last in
    let state = c.requires.stand.0 in
    let floor = c.requires.stand.1 in
    let items = c.args.regions.items in
    let given = c.deref_mut.result.now in
    let goes = subst (λ (v : List RegionData). GoesOnTo earlier last floor v state) (sym c.deref_mut.ensures.value)
    c.requires.stand.2 in
    let left = c.make_final.new.regions in
    let made = c.in_ok-kind.made in
    let advance = c.in_ok-kind.ensures state
    (comes_of earlier c.state.result.now last floor given state c.state.ensures.value goes) in
    let back = written_back left items c.args.regions.len (c.make_final.auto.regions ∙ c.deref_mut.ensures.len)
    (ap length (sym c.deref_mut.ensures.value) ∙ c.deref_mut.ensures.len) in (
      advance.new,
      subst (λ (v : List RegionData). GoesOnTo earlier c.or.result made.floor v advance.new) back
          (subst (λ (v : Option Stamp). GoesOnTo earlier v made.floor left advance.new) (sym c.or.ensures)
          (goes_to earlier last floor given state goes left c.in_ok-kind.kind c.make_final.new.untold made
          advance)),
    )

pub returns : goal.returns
returns c = λ state floor stand.
    let earlier = c.args.earlier in
    let last = c.args.last in
    let items = c.args.regions.items in
    let given = c.deref_mut.result.now in
    let goes = subst (λ (v : List RegionData). GoesOnTo earlier last floor v state) (sym c.deref_mut.ensures.value)
    stand in
    let left = c.make_final.new.regions in
    let made = c.in_ok-kind.made in
    let batch = c.make_final.new.untold in
    let answer = answer_with c.in_ok-kind.kind batch in
    let advance = c.in_ok-kind.ensures state
    (comes_of earlier c.state.result.now last floor given state c.state.ensures.value goes) in
    let back = written_back left items c.args.regions.len (c.make_final.auto.regions ∙ c.deref_mut.ensures.len)
    (ap length (sym c.deref_mut.ensures.value) ∙ c.deref_mut.ensures.len) in
    let to = subst (λ (v : List RegionData). GoesOnTo earlier c.or.result made.floor v advance.new) back
    (subst (λ (v : Option Stamp). GoesOnTo earlier v made.floor left advance.new) (sym c.or.ensures)
    (goes_to earlier last floor given state goes left c.in_ok-kind.kind batch made advance)) in
    subst (λ (v : List RegionData). AdvancesBy state (runs_of v) answer c.after-standing.result)
    c.deref_mut.ensures.value
    (advances_to earlier last floor given state goes left c.in_ok-kind.kind batch made advance
    c.after-standing.result (c.after-standing.ensures advance.new to))
