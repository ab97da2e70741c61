-- What a contact tick is, part by part.
use Rattle.std.proofs.lemmas.Bool.{both_ways}
use Rattle.event_rules.proofs.pair_events.is_contact_tick.Goals as goal

pub returns-then-have_begun : goal.returns-then-have_begun
returns-then-have_begun c =
    let begun = c.have_begun.ensures.0 c.if-have_begun.true in (
      λ yes. let h = c.touch_inside.ensures.0 yes in record {
        first_base = begun.0;
        second_base = begun.1;
        first_inside = h.0.0;
        second_inside = h.0.1;
        contact = h.1;
      },
      λ h. c.touch_inside.ensures.1 ((h.first_inside, h.second_inside), h.contact),
    )

pub returns-else-have_begun : goal.returns-else-have_begun
returns-else-have_begun c = (
  λ yes. cc,
  λ h. absurd (both_ways c.have_begun.result c.if-have_begun.false (c.have_begun.ensures.1 (h.first_base, h.second_base))),
)
