-- The texts of the pair's run: its report, and what is written at each second tick.
use Rattle.std.specs.Prelude.{ℕ, List, ◌++◌, codes, Some}
use Rattle.fixed_motion.specs.Scene.{SceneData}
use Rattle.text_lines.specs.Lines.{ended}
use Rattle.worked_laws.specs.Pair.{pair_rules, pair_disks}

-- the line of the hit
abbrev pub hit_line : List ℕ
hit_line = ended (codes "3 0 pair 0 1 -1 0 1 0")

-- the report of the scene, as `scenes/pair.report` has it
abbrev pub pair_report : List ℕ
pair_report =
    hit_line ++ (ended (codes "done 5") ++ (ended (codes "walls 0") ++ (ended (codes "pairs 1")
    ++ (ended (codes "momentum 0 0") ++ (ended (codes "energy 2 2")
    ++ (ended (codes "disk 0 11 10 -1 0") ++ ended (codes "disk 1 19 10 1 0")))))))

-- the scene with `every = 2`, which is `scenes/states.toml`
abbrev pub states_scene : SceneData
states_scene = record { rules = pair_rules; disks = pair_disks; every = Some 2 }

-- its sums over the whole box: at tick 2 before the hit, at tick 4 after it, and at the end
abbrev pub states_sums : List ℕ
states_sums =
    ended (codes "inside 2 2 2 0 0") ++ (ended (codes "sides 2 0 0 0 0 0")
    ++ (ended (codes "inside 4 2 2 1 8") ++ (ended (codes "sides 4 0 0 0 0 0")
    ++ (ended (codes "done 5") ++ (ended (codes "walls 0") ++ (ended (codes "pairs 1")
    ++ (ended (codes "momentum 0 0") ++ (ended (codes "energy 2 2")
    ++ (ended (codes "inside 5 2 2 1 8") ++ ended (codes "sides 5 0 0 0 0 0"))))))))))
