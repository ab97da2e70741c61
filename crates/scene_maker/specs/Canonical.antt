-- The canonical text of a scene.
use Rattle.std.specs.Prelude.{ℕ, ℤ, pos, List, [], ◌++◌, codes, Option, Some, None, if◌then◌else◌}
use Rattle.std.specs.Fmt.{signed_decimal}
use Rattle.std.specs.List.{flat_map}
use Rattle.std.specs.Ordering.{int_eq}
use Rattle.text_lines.specs.Lines.{ended}
use Rattle.fixed_motion.specs.declared.rules.Rules.{Rules}
use Rattle.fixed_motion.specs.declared.disk.Disk.{Disk}
use Rattle.fixed_motion.specs.Scene.{SceneData}

-- KEY = VALUE
abbrev pub key_line : List ℕ → ℤ → List ℕ
key_line key value = ended (key ++ (codes " = " ++ signed_decimal value))

-- the rules, a line for each number
abbrev pub rules_text : Rules → List ℕ
rules_text rules =
    key_line (codes "width") rules.width
    ++ (key_line (codes "height") rules.height
    ++ (key_line (codes "diameter") rules.diameter
    ++ (key_line (codes "speed_limit") rules.speed_limit
    ++ (key_line (codes "round_limit") (pos rules.round_limit)
    ++ key_line (codes "end") (pos rules.end)))))

-- a line, if the state of all disks is asked for
abbrev pub every_text : Option ℕ → List ℕ
every_text None = []
every_text (Some ticks) = key_line (codes "every") (pos ticks)

-- the size, unless it is the rules' diameter
abbrev pub size_text : Rules → Disk → List ℕ
size_text rules disk =
    if int_eq disk.size rules.diameter then []
    else codes ", " ++ signed_decimal disk.size

-- two spaces and [X, Y, VX, VY], or [X, Y, VX, VY, SIZE],
abbrev pub row_line : Rules → Disk → List ℕ
row_line rules disk = ended (codes "  ["
    ++ (signed_decimal disk.x ++ (codes ", "
    ++ (signed_decimal disk.y ++ (codes ", "
    ++ (signed_decimal disk.vx ++ (codes ", "
    ++ (signed_decimal disk.vy ++ (size_text rules disk ++ codes "],")))))))))

-- the numbers, a line each, and the disks, a line each
abbrev pub canonical_text : SceneData → List ℕ
canonical_text scene =
    rules_text scene.rules
    ++ (every_text scene.every
    ++ (ended (codes "disks = [")
    ++ (flat_map (row_line scene.rules) scene.disks
    ++ ended (codes "]"))))
