-- The slots keep what stands in them while room is made.
use Rattle.std.proofs.Common.{◌≢◌, ℕ, [], ◌∷◌, arith, ap, ◌∙◌}
use Rattle.std.proofs.lemmas.Result.{err_from_is_err_and}
use Rattle.region_view.specs.Slots.{SlotList, slot_at}
use Rattle.region_view.proofs.InSlots.{same_placed, put_both, get_in, set_other, takes_still}
use Rattle.region_view.proofs.view.View.replace_both.Goals as goal

pub returns-in_err-make_room-clause-unchanged : goal.returns-in_err-make_room-clause-unchanged
returns-in_err-make_room-clause-unchanged c =
    let p = err_from_is_err_and c.from_residual.result c.from_residual.ensures.1 in
    rw p.1 (same_placed c.make_room.new.self c.self.inside.slots c.make_room.ensures.same ∙ c.self.view_is)

pub returns-in_err-make_room-2-clause-unchanged : goal.returns-in_err-make_room-2-clause-unchanged
returns-in_err-make_room-2-clause-unchanged c =
    let p = err_from_is_err_and c.from_residual-in_err-make_room-2.result
    c.from_residual-in_err-make_room-2.ensures.1 in
    rw p.1 (same_placed c.make_room-2.new.self c.self.inside.slots
    (λ i. c.make_room-2.ensures.same i ∙ c.make_room.ensures.same i) ∙ c.self.view_is)

pub returns-clause-view : goal.returns-clause-view
returns-clause-view c =
    put_both c.self.inside.slots c.make_room-2.new.self c.replace-before.new.self
    c.replace-after.new.self c.args.self.now c.args.first c.args.second c.self.view_is
    (λ i. c.make_room-2.ensures.same i ∙ c.make_room.ensures.same i)
    (c.make_room-2.ensures.kept c.args.first.0 c.args.first.1
    (rw c.as_ref.ensures.value at c.in_ok-make_room.ensures.room))
    (rw c.as_ref-2.ensures.value at c.in_ok-make_room-2.ensures.room) c.replace-before.ensures.slots c.replace-after.ensures.slots

pub returns-clause-rows : goal.returns-clause-rows
returns-clause-rows c =
    let i = c.args.first.0 in
    let j = c.args.second.0 in
    let stood = λ (k : ℕ). c.make_room-2.ensures.same k ∙ c.make_room.ensures.same k
    ∙ get_in c.self.inside.slots c.args.self.now k c.self.view_is in
    let apart : j ≢ i = omega arith in
    let before = c.replace-before.ensures.before ∙ stood i in
    let after = c.replace-after.ensures.before
    ∙ ap (λ (slots : SlotList). slot_at slots j) c.replace-before.ensures.slots
    ∙ set_other c.make_room-2.new.self i j c.args.first.1 apart ∙ stood j in
    c.two.ensures ∙ (λ k. (i, before k) ∷ (j, after k) ∷ [])

pub replace-before-requires : goal.replace-before-requires
replace-before-requires c = record {
  room = c.make_room-2.ensures.kept c.args.first.0 c.args.first.1 (rw c.as_ref.ensures.value at c.in_ok-make_room.ensures.room);
}

pub replace-after-requires : goal.replace-after-requires
replace-after-requires c = record {
  room = rw c.replace-before.ensures.slots
      (takes_still c.make_room-2.new.self c.args.first.0 c.args.second.0 c.args.first.1 c.args.second.1
      (rw c.as_ref-2.ensures.value at c.in_ok-make_room-2.ensures.room));
}
