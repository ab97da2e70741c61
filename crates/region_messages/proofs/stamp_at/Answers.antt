use Rattle.std.proofs.Common.{length, refl, sym, ap}
use Rattle.std.specs.Prelude.{option_map}
use Rattle.std.proofs.lemmas.Option.{slice_get_read, slice_get_past}
use Rattle.region_view.specs.declared.rows.Message.{Message}
use Rattle.region_messages.proofs.stamp_at.Goals as goal

pub returns-in-Some : goal.returns-in-Some
returns-in-Some c =
    let messages = c.args.messages.now in
    let message = c.in-Some.message.now in
    let found = c.in-Some.ensures.lookup.3 in
    ap (option_map (λ (m : Message). m.stamp))
    (sym (slice_get_read messages (length messages) c.args.i message refl found.0 (found.1 message)))

pub returns-in-None : goal.returns-in-None
returns-in-None c =
    ap (option_map (λ (m : Message). m.stamp)) (sym (slice_get_past c.args.messages.now c.args.i c.in-None.ensures.lookup.3))
