-- The pushed fields are those of an event before the velocities.
use Rattle.std.proofs.Common.{ℕ, ◌∷◌, ◌++◌, ◌∙◌, ap, arith, decimal, length}
use Rattle.collision_report.proofs.Texts.{pushed_four}
use Rattle.collision_report.proofs.lines.event_start.Goals as goal

pub returns-clause-text : goal.returns-clause-text
returns-clause-text c =
    let s = c.args.stamp.now in
    pushed_four c.new-line.result c.push_number.new.self c.push_number_field.new.self c.push_text_field.new.self c.push_number_field-2.new.self c.push_number_field-3.new.self
    (decimal s.tick) (decimal s.round) c.args.name.now (decimal s.first) (decimal s.second)
    c.new-line.ensures c.push_number.ensures.after
    (c.push_number_field.ensures.after ∙ ap (λ (n : ℕ). c.push_number.new.self ++ (32 ∷ decimal n)) c.from.ensures)
    c.push_text_field.ensures.after
    (c.push_number_field-2.ensures.after ∙ ap (λ (n : ℕ). c.push_text_field.new.self ++ (32 ∷ decimal n)) c.from-2.ensures)
    (c.push_number_field-3.ensures.after ∙ ap (λ (n : ℕ). c.push_number_field-2.new.self ++ (32 ∷ decimal n)) c.from-3.ensures)

pub returns-clause-len : goal.returns-clause-len
returns-clause-len c =
    let none = ap length c.new-line.ensures in
    omega (arith, none, c.requires, c.push_number.ensures.len, c.push_number_field.ensures.len, c.push_text_field.ensures.len, c.push_number_field-2.ensures.len, c.push_number_field-3.ensures.len)
