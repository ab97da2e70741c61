use Rattle.std.proofs.Common.{◌∙◌, sym, ap, subst, Ok, Err, ◌≡◌, Option, refl}
use Rattle.std.proofs.lemmas.Option.{same_Some}
use Rattle.std.specs.FinMap as map
use Rattle.fixed_motion.specs.Motion.{IsValidDisk}
use Rattle.event_stamps.specs.declared.Stamp.{Stamp}
use Rattle.region_view.specs.declared.action.Action.TheVariants.{Hit}
use Rattle.region_view.specs.Views.{rows_in}
use Rattle.region_core.specs.Live.{run_in}
use Rattle.region_core.proofs.RunningEvents.{valid_row, valid_is_small, pair_event, hit_comes, pair_is_untold, change_of_both, moved_has, moved_to, change_is, second_valid, turn_fits, turn_ran}
use Rattle.std.specs.Prelude.{IfSome, IsTrue, is_some}
use Rattle.region_view.specs.declared.action.Placed.{Placed}
use Rattle.region_core.proofs.live.Live.run_pair.Goals as goal

pub apply-requires-clause-first : goal.apply-requires-clause-first
apply-requires-clause-first c =
    let here = sym c.in-Some.ensures.0 ∙ sym c.get.ensures ∙ c.unwrap-first.ensures in
    (valid_row c.args.place.now.home c.args.place.now.floor c.args.self.now c.args.due.now.first c.unwrap-first.result
    c.requires.live.place.home c.requires.live.body here).0

pub apply-requires-clause-second : goal.apply-requires-clause-second
apply-requires-clause-second c =
    let home = c.args.place.now.home in
    let q = c.unwrap-second.result in
    let there = sym c.in-Some-narrow.ensures.0 ∙ sym c.get-2.ensures ∙ c.unwrap-second.ensures in
    λ d is. subst (IsValidDisk home.rules) (same_Some q.disk d is)
    (valid_row home c.args.place.now.floor c.args.self.now c.args.due.now.second q c.requires.live.place.home c.requires.live.body there).0

pub apply-requires-clause-event : goal.apply-requires-clause-event
apply-requires-clause-event c =
    let here = sym c.in-Some.ensures.0 ∙ sym c.get.ensures ∙ c.unwrap-first.ensures in
    let there = sym c.in-Some-narrow.ensures.0 ∙ sym c.get-2.ensures ∙ c.unwrap-second.ensures in
    pair_event c.args.place.now.home c.args.place.now.floor c.args.self.now c.args.due.now c.unwrap-first.result
    c.unwrap-second.result c.requires.live.body c.requires.turn c.requires.kind here there

pub are_far-is_untold-requires-clause-cell : goal.are_far-is_untold-requires-clause-cell
are_far-is_untold-requires-clause-cell c =
    let here = sym c.in-Some.ensures.0 ∙ sym c.get.ensures ∙ c.unwrap-first.ensures in
    (valid_row c.args.place.now.home c.args.place.now.floor c.args.self.now c.args.due.now.first c.unwrap-first.result
    c.requires.live.place.home c.requires.live.body here).1

pub are_far-is_untold-requires-clause-other : goal.are_far-is_untold-requires-clause-other
are_far-is_untold-requires-clause-other c =
    let there = sym c.in-Some-narrow.ensures.0 ∙ sym c.get-2.ensures ∙ c.unwrap-second.ensures in
    (valid_row c.args.place.now.home c.args.place.now.floor c.args.self.now c.args.due.now.second c.unwrap-second.result
    c.requires.live.place.home c.requires.live.body there).1

pub rows_of_hit-one-requires-clause-small : goal.rows_of_hit-one-requires-clause-small
rows_of_hit-one-requires-clause-small c =
    valid_is_small c.args.place.now.home.rules (record { disk = c.in-Ok.change.first; cell = c.unwrap-first.result.cell })
    c.requires.live.place.home.checked c.in-Ok.ensures.valid.0

pub rows_of_hit-other-requires-clause-small : goal.rows_of_hit-other-requires-clause-small
rows_of_hit-other-requires-clause-small c =
    let rules = c.args.place.now.home.rules in
    let partner = c.unwrap-partner.result in
    valid_is_small rules (record { disk = partner; cell = c.unwrap-second.result.cell }) c.requires.live.place.home.checked
    (second_valid rules c.in-Ok.change partner c.in-Ok.ensures.valid c.unwrap-partner.ensures)

pub collide_and_send-requires-clause-fits : goal.collide_and_send-requires-clause-fits
collide_and_send-requires-clause-fits c =
    let home = c.args.place.now.home in
    let live = c.args.self.now in
    let due = c.args.due.now in
    let change = c.in-Ok.change in
    let here = sym c.in-Some.ensures.0 ∙ sym c.get.ensures ∙ c.unwrap-first.ensures in
    let there = sym c.in-Some-narrow.ensures.0 ∙ sym c.get-2.ensures ∙ c.unwrap-second.ensures in
    turn_fits home c.args.place.now.floor live due (Hit change) c.requires.live.place.home c.requires.live.body c.requires.turn
    (hit_comes home c.args.place.now.floor live due c.unwrap-first.result c.unwrap-second.result (Ok change) c.requires.live.body
    c.requires.kind here there c.in-Ok.ensures.exact)

pub collide_and_send-requires-clause-change : goal.collide_and_send-requires-clause-change
collide_and_send-requires-clause-change c =
    let change = c.in-Ok.change in
    let partner = c.unwrap-partner.result in
    let one = c.rows_of_hit-one.result in
    let other = c.rows_of_hit-other.result in
    change_is change partner one other c.unwrap-partner.ensures
    (moved_has c.in-Some.before c.unwrap-first.result change.first one
    (sym c.get.ensures ∙ c.unwrap-first.ensures) c.rows_of_hit-one.ensures)
    (moved_has c.in-Some-narrow.beside c.unwrap-second.result partner other
    (sym c.get-2.ensures ∙ c.unwrap-second.ensures) c.rows_of_hit-other.ensures)

pub collide_and_send-requires-clause-first : goal.collide_and_send-requires-clause-first
collide_and_send-requires-clause-first c =
    let view = c.args.self.now.view in
    let change = c.in-Ok.change in
    let p = c.unwrap-first.result in
    let both = change_of_both c.args.place.now.home.rules c.args.due.now p.disk c.unwrap-second.result.disk change
    c.in-Ok.ensures.exact in
    moved_to (map.get view change.stamp.first) c.in-Some.before p change.first c.rows_of_hit-one.result
    (sym c.get.ensures ∙ c.unwrap-first.ensures)
    (c.in-Some.ensures.0 ∙ ap (λ (s : Stamp). map.get view s.first) (sym both.stamp)) c.rows_of_hit-one.ensures

pub collide_and_send-requires-clause-second : goal.collide_and_send-requires-clause-second
collide_and_send-requires-clause-second c =
    let view = c.args.self.now.view in
    let change = c.in-Ok.change in
    let q = c.unwrap-second.result in
    let both = change_of_both c.args.place.now.home.rules c.args.due.now c.unwrap-first.result.disk q.disk change
    c.in-Ok.ensures.exact in
    moved_to (map.get view change.stamp.second) c.in-Some-narrow.beside q c.unwrap-partner.result
    c.rows_of_hit-other.result (sym c.get-2.ensures ∙ c.unwrap-second.ensures)
    (c.in-Some-narrow.ensures.0 ∙ ap (λ (s : Stamp). map.get view s.second) (sym both.stamp))
    c.rows_of_hit-other.ensures

pub collide_and_send-requires-clause-untold : goal.collide_and_send-requires-clause-untold
collide_and_send-requires-clause-untold c =
    let home = c.args.place.now.home in
    let due = c.args.due.now in
    let p = c.unwrap-first.result in
    let q = c.unwrap-second.result in
    let change = c.in-Ok.change in
    let both = change_of_both home.rules due p.disk q.disk change c.in-Ok.ensures.exact in
    let here = sym c.in-Some.ensures.0 ∙ sym c.get.ensures ∙ c.unwrap-first.ensures in
    let there = sym c.in-Some-narrow.ensures.0 ∙ sym c.get-2.ensures ∙ c.unwrap-second.ensures in
    λ far. pair_is_untold home (rows_in c.args.self.now.view) due change c.unwrap-partner.result p q both.stamp
    c.unwrap-partner.ensures here there (c.are_far-is_untold.ensures far)

pub returns-in_ok-collide_and_send-in-Ok-clause-steps : goal.returns-in_ok-collide_and_send-in-Ok-clause-steps
returns-in_ok-collide_and_send-in-Ok-clause-steps c =
    let home = c.args.place.now.home in
    let live = c.args.self.now in
    let due = c.args.due.now in
    let change = c.in-Ok.change in
    let here = sym c.in-Some.ensures.0 ∙ sym c.get.ensures ∙ c.unwrap-first.ensures in
    let there = sym c.in-Some-narrow.ensures.0 ∙ sym c.get-2.ensures ∙ c.unwrap-second.ensures in
    turn_ran home c.args.place.now.floor live due (Hit change) (run_in c.args.place.now.floor c.collide_and_send.new.self)
    c.requires.live.place.home c.requires.live.body c.requires.turn
    (hit_comes home c.args.place.now.floor live due c.unwrap-first.result c.unwrap-second.result (Ok change) c.requires.live.body
    c.requires.kind here there c.in-Ok.ensures.exact)
    c.in_ok-collide_and_send-in-Ok.ensures.run

pub returns-in-Err-clause-steps : goal.returns-in-Err-clause-steps
returns-in-Err-clause-steps c =
    let home = c.args.place.now.home in
    let live = c.args.self.now in
    let due = c.args.due.now in
    let limit = c.in-Err.field-0 in
    let here = sym c.in-Some.ensures.0 ∙ sym c.get.ensures ∙ c.unwrap-first.ensures in
    let there = sym c.in-Some-narrow.ensures.0 ∙ sym c.get-2.ensures ∙ c.unwrap-second.ensures in (
      refl,
      (
        limit,
        hit_comes home c.args.place.now.floor live due c.unwrap-first.result c.unwrap-second.result (Err limit) c.requires.live.body
            c.requires.kind here there c.in-Err.ensures.exact,
      ),
    )

pub rows_of_hit-other-requires-clause-there : goal.rows_of_hit-other-requires-clause-there
rows_of_hit-other-requires-clause-there c =
    subst (λ (o : Option Placed). IfSome o (λ p. p.cell ≡ c.unwrap-second.result.cell))
    (sym c.unwrap-second.ensures ∙ c.get-2.ensures) refl

pub unwrap-partner-requires : goal.unwrap-partner-requires
unwrap-partner-requires c =
    (change_of_both c.args.place.now.home.rules c.args.due.now c.unwrap-first.result.disk c.unwrap-second.result.disk
    c.in-Ok.change c.in-Ok.ensures.exact).second

pub rows_of_hit-one-requires-clause-there : goal.rows_of_hit-one-requires-clause-there
rows_of_hit-one-requires-clause-there c =
    subst (λ (o : Option Placed). IfSome o (λ p. p.cell ≡ c.unwrap-first.result.cell))
    (sym c.unwrap-first.ensures ∙ c.get.ensures) refl

pub returns-in_ok-collide_and_send-in-Ok-clause-live : goal.returns-in_ok-collide_and_send-in-Ok-clause-live
returns-in_ok-collide_and_send-in-Ok-clause-live c = c.in_ok-collide_and_send-in-Ok.ensures.live

pub returns-in-Err-clause-live : goal.returns-in-Err-clause-live
returns-in-Err-clause-live c = c.requires.live

pub returns-in_default-narrow-clause-steps : goal.returns-in_default-narrow-clause-steps
returns-in_default-narrow-clause-steps c = c.run_any-in_default-narrow.ensures.steps

pub returns-in_default-narrow-clause-live : goal.returns-in_default-narrow-clause-live
returns-in_default-narrow-clause-live c = c.run_any-in_default-narrow.ensures.live

pub returns-in_default-clause-steps : goal.returns-in_default-clause-steps
returns-in_default-clause-steps c = c.run_any.ensures.steps

pub returns-in_default-clause-live : goal.returns-in_default-clause-live
returns-in_default-clause-live c = c.run_any.ensures.live

pub collide_and_send-requires-clause-live : goal.collide_and_send-requires-clause-live
collide_and_send-requires-clause-live c = c.requires.live

pub apply-requires-clause-checked : goal.apply-requires-clause-checked
apply-requires-clause-checked c = c.requires.live.place.home.checked

pub run_any-requires-in_default-narrow-clause-live : goal.run_any-requires-in_default-narrow-clause-live
run_any-requires-in_default-narrow-clause-live c = c.requires.live

pub run_any-requires-in_default-narrow-clause-turn : goal.run_any-requires-in_default-narrow-clause-turn
run_any-requires-in_default-narrow-clause-turn c = c.requires.turn

pub run_any-requires-clause-live : goal.run_any-requires-clause-live
run_any-requires-clause-live c = c.requires.live

pub run_any-requires-clause-turn : goal.run_any-requires-clause-turn
run_any-requires-clause-turn c = c.requires.turn

pub rows_of_hit-one-requires-clause-some : goal.rows_of_hit-one-requires-clause-some
rows_of_hit-one-requires-clause-some c = subst (λ (o : Option Placed). IsTrue (is_some o)) (sym c.unwrap-first.ensures ∙ c.get.ensures) refl

pub rows_of_hit-other-requires-clause-some : goal.rows_of_hit-other-requires-clause-some
rows_of_hit-other-requires-clause-some c = subst (λ (o : Option Placed). IsTrue (is_some o)) (sym c.unwrap-second.ensures ∙ c.get-2.ensures) refl

pub are_far-is_untold-requires-clause-place : goal.are_far-is_untold-requires-clause-place
are_far-is_untold-requires-clause-place c = c.requires.live.place
