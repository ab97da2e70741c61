-- What a report in lines says, read from its text alone.
use Rattle.std.specs.Prelude.{◌≡◌, ℕ, ◌==◌, ℤ, Bool, true, false, if◌then◌else◌, List, [], ◌∷◌, map, codes, Option, Some, None, option_map}
use Rattle.std.specs.List.{slice_split, filter_map}
use Rattle.std.specs.Str.{bytes_eq}
use Rattle.std.specs.Str.Parse.{digits_value, signed_digits_value}
use Rattle.plane_vectors.specs.declared.Vector.{Vector}
use Rattle.plane_vectors.specs.Vectors.{vector}
use Rattle.fixed_motion.specs.Motion.{velocity_of}
use Rattle.fixed_motion.specs.Scene.{SceneData, IsValidScene}
use Rattle.event_stamps.specs.declared.Stamp.{Stamp}
use Rattle.event_stamps.specs.declared.Kind.{Kind}
use Rattle.event_stamps.specs.declared.Kind.TheVariants.{Cross, Wall, Pair}
use Rattle.event_rules.specs.declared.change.Change.{Change}
use Rattle.event_rules.specs.declared.change.Limit.{Limit}
use Rattle.event_rules.specs.declared.change.Limit.TheVariants.{Rounds, Speed}
use Rattle.event_rules.specs.declared.outcome.Spot.{Spot}
use Rattle.event_rules.specs.declared.outcome.Outcome.{Outcome}
use Rattle.event_rules.specs.declared.outcome.Outcome.TheVariants.{Done, Limit as Passes}
use Rattle.event_rules.specs.Run.{IsRun}
use Rattle.collision_report.specs.declared.format.Format.TheVariants.{Lines}
use Rattle.collision_report.specs.Report.{report}

-- ---- rows of fields
-- the parts of a text between bytes of one kind
abbrev pub parts_at : ℕ → List ℕ → List (List ℕ)
parts_at c text = slice_split (λ b. b == c) text

-- the fields of each line
abbrev pub fields_by_line : List ℕ → List (List (List ℕ))
fields_by_line text = map (parts_at 32) (parts_at 10 text)

-- the number that a field writes
abbrev pub number_in : List ℕ → ℕ
number_in field = digits_value 10 field

-- the number that a field writes, with its sign
abbrev pub signed_in : List ℕ → ℤ
signed_in field = signed_digits_value 10 field

-- the vector that two fields write
abbrev pub vector_in : List ℕ → List ℕ → Vector
vector_in x y = vector (signed_in x) (signed_in y)

-- the stamp that these fields write
abbrev pub stamp_in : Kind → List ℕ → List ℕ → List ℕ → List ℕ → Stamp
stamp_in kind tick round first second =
    record { tick = number_in tick; round = number_in round; kind = kind; first = number_in first; second = number_in second }

-- ---- events
-- what a report says of an event: its stamp, and the velocities after it
pub record Said : Type 0 where
  pub stamp : Stamp
  pub first : Vector
  pub second : Option Vector

-- what a report says of an event with these parts
abbrev pub said : Stamp → Vector → Option Vector → Said
said stamp first second = record { stamp = stamp; first = first; second = second }

-- what a report says of a change
abbrev pub said_of : Change → Said
said_of c = said c.stamp (velocity_of c.first) (option_map velocity_of c.second)

-- the event that a row says, if it says one
abbrev pub event_in : List (List ℕ) → Option Said
event_in (tick ∷ round ∷ kind ∷ first ∷ second ∷ vx ∷ vy ∷ []) =
    if bytes_eq kind (codes "wall") then Some (said (stamp_in Wall tick round first second) (vector_in vx vy) None) else None
event_in (tick ∷ round ∷ kind ∷ first ∷ second ∷ vx ∷ vy ∷ wx ∷ wy ∷ []) =
    if bytes_eq kind (codes "pair")
    then Some (said (stamp_in Pair tick round first second) (vector_in vx vy) (Some (vector_in wx wy))) else None
event_in row = None

-- ---- the end
-- the kind that a field names: a wall, a pair, or else a crossing
abbrev pub kind_in : List ℕ → Kind
kind_in field = if bytes_eq field (codes "wall") then Wall else if bytes_eq field (codes "pair") then Pair else Cross

-- the limit of rounds if that is the name, else of speed, at the event with this stamp
abbrev pub limit_named : List ℕ → Stamp → Limit
limit_named name s = if bytes_eq name (codes "rounds") then Rounds s else Speed s

-- the limit that a row says, if it says one
abbrev pub limit_in : List (List ℕ) → Option Limit
limit_in (word ∷ name ∷ tick ∷ round ∷ kind ∷ first ∷ second ∷ []) =
    if bytes_eq word (codes "limit") then Some (limit_named name (stamp_in (kind_in kind) tick round first second)) else None
limit_in row = None

-- a row that says that the end was reached
abbrev pub is_done : List (List ℕ) → Bool
is_done (word ∷ tick ∷ []) = bytes_eq word (codes "done")
is_done row = false

-- the spot with these numbers
abbrev pub spot : ℤ → ℤ → ℤ → ℤ → Spot
spot x y vx vy = record { x = x; y = y; vx = vx; vy = vy }

-- the spot of a disk that a row says, if it says one
abbrev pub spot_in : List (List ℕ) → Option Spot
spot_in (word ∷ number ∷ x ∷ y ∷ vx ∷ vy ∷ []) =
    if bytes_eq word (codes "disk") then Some (spot (signed_in x) (signed_in y) (signed_in vx) (signed_in vy)) else None
spot_in row = None

-- given the limit or the end that a row says: the places that the rows after it say, and how these end otherwise
abbrev pub outcome_said : Option Limit → Bool → List Spot → Option Outcome → Option Outcome
outcome_said (Some limit) done spots later = Some (Passes limit)
outcome_said None true spots later = Some (Done spots)
outcome_said None false spots later = later

-- how a run ends, by the first row that says it, if one does
abbrev pub outcome_in : List (List (List ℕ)) → Option Outcome
outcome_in [] = None
outcome_in (row ∷ rows) = outcome_said (limit_in row) (is_done row) (filter_map spot_in rows) (outcome_in rows)

-- ---- reports
-- what a report says: the events in order, and how the run ends
pub record SaidRun : Type 0 where
  pub events : List Said
  pub outcome : Option Outcome

-- what the rows of a report say
abbrev pub said_by : List (List (List ℕ)) → SaidRun
said_by rows = record { events = filter_map event_in rows; outcome = outcome_in rows }

-- what a report says, line by line
abbrev pub read_report : List ℕ → SaidRun
read_report text = said_by (fields_by_line text)

-- what is read of the report of a run is what the run does
abbrev pub ReportsReadBack : Type 0
ReportsReadBack = (scene : SceneData) (changes : List Change) (outcome : Outcome) → IsValidScene scene → IsRun scene changes outcome →
    read_report (report Lines scene changes outcome) ≡ record { events = map said_of changes; outcome = Some outcome }

-- runs with the same report, whatever their scenes are, do the same
abbrev pub ReportsSayRuns : Type 0
ReportsSayRuns = (scene other : SceneData) (changes others : List Change) (outcome end : Outcome) →
    IsValidScene scene → IsValidScene other → IsRun scene changes outcome → IsRun other others end →
    report Lines scene changes outcome ≡ report Lines other others end →
    (map said_of changes ≡ map said_of others) × (outcome ≡ end)
