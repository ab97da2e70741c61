-- Reports mirrored line by line.
use Rattle.std.specs.Prelude.{◌≡◌, ℕ, List, map, flat_map, codes}
use Rattle.plane_vectors.specs.declared.Vector.{Vector}
use Rattle.fixed_motion.specs.declared.rules.Rules.{Rules}
use Rattle.fixed_motion.specs.declared.disk.Disk.{Disk}
use Rattle.fixed_motion.specs.Scene.{SceneData}
use Rattle.event_stamps.specs.declared.Stamp.{Stamp}
use Rattle.event_rules.specs.declared.change.Change.{Change}
use Rattle.event_rules.specs.declared.change.Limit.{Limit}
use Rattle.event_rules.specs.declared.outcome.Spot.{Spot}
use Rattle.event_rules.specs.declared.outcome.Outcome.{Outcome}
use Rattle.event_rules.specs.Run.{IsRun}
use Rattle.collision_report.specs.declared.format.Format.{Format}
use Rattle.collision_report.specs.Lines.{wall_line, pair_line, number_line, momentum_line, energy_line, disk_line, state_line}
use Rattle.collision_report.specs.Report.{limit_line, report}
use Rattle.mirrored_runs.specs.Mirror.{Axis, mirrored, mirrored_vector, mirrored_scene, mirrored_side, mirrored_limit, mirrored_spot}

-- a line of a report, with what it says
pub data Line : Type 0 where
  WallLine : Stamp → Disk → Line
  PairLine : Stamp → Disk → Disk → Line
  StateLine : ℕ → Line
  DiskLine : ℕ → Spot → Line
  DoneLine : ℕ → Line
  LimitLine : Limit → Line
  WallsLine : ℕ → Line
  PairsLine : ℕ → Line
  MomentumLine : Vector → Line
  EnergyLine : ℕ → ℕ → Line

-- its text in the report
abbrev pub line_text : Line → List ℕ
line_text (WallLine s a) = wall_line s a
line_text (PairLine s a b) = pair_line s a b
line_text (StateLine tick) = state_line tick
line_text (DiskLine i spot) = disk_line i spot
line_text (DoneLine tick) = number_line (codes "done") tick
line_text (LimitLine limit) = limit_line limit
line_text (WallsLine count) = number_line (codes "walls") count
line_text (PairsLine count) = number_line (codes "pairs") count
line_text (MomentumLine p) = momentum_line p
line_text (EnergyLine before after) = energy_line before after

-- the line that says the same of the mirrored run: sides, places, velocities and the momentum are mirrored, and ticks,
-- rounds, numbers of disks, counts and energies are the same
abbrev pub mirrored_line : Axis → Rules → Line → Line
mirrored_line axis rules (WallLine s a) = WallLine (record s { second = mirrored_side axis s.second }) (mirrored axis rules a)
mirrored_line axis rules (PairLine s a b) = PairLine s (mirrored axis rules a) (mirrored axis rules b)
mirrored_line axis rules (DiskLine i spot) = DiskLine i (mirrored_spot axis rules spot)
mirrored_line axis rules (LimitLine limit) = LimitLine (mirrored_limit axis limit)
mirrored_line axis rules (MomentumLine p) = MomentumLine (mirrored_vector axis p)
mirrored_line axis rules line = line

-- a text of some lines, and that of the same lines, each mirrored
pub record AreMirrored (axis : Axis) (rules : Rules) (text mirror : List ℕ) : Type 0 where
  pub lines : List Line
  pub text_is : text ≡ flat_map line_text lines
  pub mirror_is : mirror ≡ flat_map line_text (map (mirrored_line axis rules) lines)

-- the report of a mirrored scene's run is the report of the scene's run, mirrored line by line
abbrev pub ReportsMirror : Type 0
ReportsMirror = (axis : Axis) (format : Format) (scene : SceneData) (changes others : List Change) (outcome end : Outcome) →
    IsRun scene changes outcome → IsRun (mirrored_scene axis scene) others end →
    AreMirrored axis scene.rules (report format scene changes outcome) (report format (mirrored_scene axis scene) others end)
