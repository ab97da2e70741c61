-- The pushed pieces are the line of a wall.
use Rattle.std.proofs.Common.{rules, ◌∷◌, [], decimal, codes, w64, FitsSigned}
use Rattle.std.specs.Fmt.{signed_decimal}
use Rattle.std.proofs.lemmas.Int.{to_z-of_z}
use Rattle.collision_report.proofs.Texts.{pushed_pair}
use Rattle.collision_report.proofs.lines.wall_line.Goals as goal

pub returns : goal.returns
returns c =
    let s = c.args.stamp.now in let a = c.args.disk.now in
    let ax : FitsSigned w64 a.vx = search rules in
    let ay : FitsSigned w64 a.vy = search rules in
    let pushed = simp to_z-of_z at c.push_signed_pair.ensures.after in
    pushed_pair c.event_start-line.result c.push_signed_pair.new.self c.push_newline.new.self
    (decimal s.tick) (decimal s.round ∷ codes "wall" ∷ decimal s.first ∷ decimal s.second ∷ [])
    (signed_decimal a.vx) (signed_decimal a.vy)
    c.event_start-line.ensures.text pushed c.push_newline.ensures.after
