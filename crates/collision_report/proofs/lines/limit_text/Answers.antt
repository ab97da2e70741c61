-- The pushed fields are the line of a limit.
use Rattle.std.proofs.Common.{ℕ, List, ◌∷◌, ◌++◌, ◌∙◌, ap, arith, codes, decimal, length}
use Rattle.collision_report.specs.Report.{kind_name}
use Rattle.collision_report.proofs.Texts.{pushed_six}
use Rattle.collision_report.proofs.lines.limit_text.Goals as goal

pub returns : goal.returns
returns c =
    let s = c.args.stamp.now in
    pushed_six c.new-line.result c.push_text.new.self c.push_text_field.new.self c.push_number_field.new.self c.push_number_field-2.new.self c.push_text_field-2.new.self
    c.push_number_field-3.new.self c.push_number_field-4.new.self c.push_newline.new.self
    (codes "limit") c.args.name.now (decimal s.tick) (decimal s.round) (kind_name s.kind) (decimal s.first) (decimal s.second)
    c.new-line.ensures c.push_text.ensures.after c.push_text_field.ensures.after c.push_number_field.ensures.after
    (c.push_number_field-2.ensures.after ∙ ap (λ (n : ℕ). c.push_number_field.new.self ++ (32 ∷ decimal n)) c.from.ensures)
    (c.push_text_field-2.ensures.after ∙ ap (λ (t : List ℕ). c.push_number_field-2.new.self ++ (32 ∷ t)) c.kind_name.ensures.name)
    (c.push_number_field-3.ensures.after ∙ ap (λ (n : ℕ). c.push_text_field-2.new.self ++ (32 ∷ decimal n)) c.from-2.ensures)
    (c.push_number_field-4.ensures.after ∙ ap (λ (n : ℕ). c.push_number_field-3.new.self ++ (32 ∷ decimal n)) c.from-3.ensures)
    c.push_newline.ensures.after

pub push_number_field-requires-3 : goal.push_number_field-requires-3
push_number_field-requires-3 c =
    let none = ap length c.new-line.ensures in
    omega (arith, none, c.requires, c.kind_name.ensures.len, c.push_text.ensures.len, c.push_text_field.ensures.len, c.push_number_field.ensures.len, c.push_number_field-2.ensures.len, c.push_text_field-2.ensures.len)

pub push_number_field-requires-4 : goal.push_number_field-requires-4
push_number_field-requires-4 c =
    let none = ap length c.new-line.ensures in
    omega (
      arith,
      none,
      c.requires,
      c.kind_name.ensures.len,
      c.push_text.ensures.len,
      c.push_text_field.ensures.len,
      c.push_number_field.ensures.len,
      c.push_number_field-2.ensures.len,
      c.push_text_field-2.ensures.len,
      c.push_number_field-3.ensures.len,
    )

pub push_newline-requires : goal.push_newline-requires
push_newline-requires c =
    let none = ap length c.new-line.ensures in
    omega (
      arith,
      none,
      c.requires,
      c.kind_name.ensures.len,
      c.push_text.ensures.len,
      c.push_text_field.ensures.len,
      c.push_number_field.ensures.len,
      c.push_number_field-2.ensures.len,
      c.push_text_field-2.ensures.len,
      c.push_number_field-3.ensures.len,
      c.push_number_field-4.ensures.len,
    )
