-- Disks that hit each other are in the box at the later base tick, and there their quadratic tells all.
use Rattle.std.proofs.lemmas.Bool.{both_ways}
use Rattle.event_rules.specs.Pairs.{IsValidPair}
use Rattle.event_rules.proofs.Approaches.{contact_fits, contact_course, never_overlapping}
use Rattle.event_rules.proofs.Separations.{chance_from, no_touch}
use Rattle.event_rules.proofs.contact_ticks.only_chance.Goals as goal
use Rattle.event_rules.proofs.contact_ticks.only_chance.Goals.{then-not-is_course-via-then-not-is_course, then-not-is_course-via-else-not-is_course+then-overlap}

pub returns-then-not-fits_the_box : goal.returns-then-not-fits_the_box
returns-then-not-fits_the_box c = λ tick before contact.
    let rules = c.args.rules.now in
    let a = c.args.a.now in
    let b = c.args.b.now in
    let pair : IsValidPair rules a b =
    record { checked = c.requires.checked; first = c.requires.first_valid; second = c.requires.second_valid } in
    both_ways c.fits_the_box.result c.if-not-fits_the_box.true (c.fits_the_box.ensures.1
    (contact_fits rules a b c.separated-s.result tick pair (c.separated-s.ensures rules pair) contact))

pub returns-then-not-is_course : goal.returns-then-not-is_course
returns-then-not-is_course c = λ tick before contact.
    let rules = c.args.rules.now in
    let a = c.args.a.now in
    let b = c.args.b.now in
    let pair : IsValidPair rules a b =
    record { checked = c.requires.checked; first = c.requires.first_valid; second = c.requires.second_valid } in
    let told = contact_course rules a b c.separated-s.result c.approach_at-approach.result tick pair
    (c.separated-s.ensures rules pair) c.approach_at-approach.ensures contact in
    elim c.then-not-is_course.branch [
      | then-not-is_course-via-then-not-is_course w ↦ both_ways c.is_course.result w.if-not-is_course.true (c.is_course.ensures.1 told.1)
      | then-not-is_course-via-else-not-is_course+then-overlap w ↦
          never_overlapping c.approach_at-approach.result.gap told.0 (w.overlap.ensures.0 w.if-overlap.true)
    ]

pub contact-requires-clause-fits : goal.contact-requires-clause-fits
contact-requires-clause-fits c =
    let rules = c.args.rules.now in
    let pair : IsValidPair rules c.args.a.now c.args.b.now =
    record { checked = c.requires.checked; first = c.requires.first_valid; second = c.requires.second_valid } in
    (c.approach_at-approach.ensures rules c.args.a.now c.args.b.now pair (c.separated-s.ensures rules pair)
    (c.fits_the_box.ensures.0 c.if-not-fits_the_box.false)).fits

pub returns-then-tick-rules : goal.returns-then-tick-rules
returns-then-tick-rules c =
    let rules = c.args.rules.now in
    let a = c.args.a.now in
    let b = c.args.b.now in
    let s = c.separated-s.result in
    let pair : IsValidPair rules a b =
    record { checked = c.requires.checked; first = c.requires.first_valid; second = c.requires.second_valid } in
    let sep = c.separated-s.ensures rules pair in
    let at = c.approach_at-approach.ensures rules a b pair sep (c.fits_the_box.ensures.0 c.if-not-fits_the_box.false) in
    chance_from rules a b s c.contact.result sep (c.contact.ensures.found s.places s.velocities s.distance at.of) c.if-tick-rules.true

pub returns-else-tick-rules : goal.returns-else-tick-rules
returns-else-tick-rules c =
    let rules = c.args.rules.now in
    let a = c.args.a.now in
    let b = c.args.b.now in
    let s = c.separated-s.result in
    let pair : IsValidPair rules a b =
    record { checked = c.requires.checked; first = c.requires.first_valid; second = c.requires.second_valid } in
    let sep = c.separated-s.ensures rules pair in
    let at = c.approach_at-approach.ensures rules a b pair sep (c.fits_the_box.ensures.0 c.if-not-fits_the_box.false) in
    no_touch rules a b s c.contact.result sep (c.contact.ensures.found s.places s.velocities s.distance at.of) c.if-tick-rules.false
