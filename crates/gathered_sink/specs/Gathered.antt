-- What a sink that gathers knows, and what its calls leave.
use Rattle.std.specs.Prelude.{◌≡◌, ℕ, ◌+◌, ◌≤◌, nat_le, if◌then◌else◌, List, [], ◌++◌, length, ⊤, Option, Some, None}
use Rattle.std.specs.Io.{StartsWith}
use Rattle.std.specs.Io.KnownBytes.{append_known}
use Rattle.report_ports.specs.declared.sink.Given.{Given}
use Rattle.report_ports.specs.declared.sink.Given.TheVariants.{All as AllGiven, Failed as GiveFailed}

-- the bytes that it has taken, and those of them that the sink below has taken, if that one knows its bytes; the bytes
-- that it holds, and how many it may hold; how many of its own calls failed, and of those of the sink below; and that
-- sink itself
pub record GatheredData (S : Type 0) : Type 0 where
  pub told : Option (List ℕ)
  pub passed : Option (List ℕ)
  pub held : List ℕ
  pub room : ℕ
  pub faults : ℕ
  pub faults_below : ℕ
  pub below : S

-- known bytes are the front of other known ones, or neither are known
abbrev pub IsFront : Option (List ℕ) → Option (List ℕ) → Type 0
IsFront None None = ⊤
IsFront None (Some whole) = ⊥
IsFront (Some front) None = ⊥
IsFront (Some front) (Some whole) = StartsWith whole front

-- if nothing failed, what was taken is what the sink below has taken and what is held
abbrev pub IsWhole : {S : Type 0} → GatheredData S → Type 0
IsWhole s = (s.faults ≡ 0) × (s.faults_below ≡ 0) × (s.told ≡ append_known s.passed s.held)

-- after a failure of the sink below, that one has taken a front of it
abbrev pub IsTornBelow : {S : Type 0} → GatheredData S → Type 0
IsTornBelow s = (1 ≤ s.faults) × (1 ≤ s.faults_below) × IsFront s.passed s.told

-- after a failure nothing more is given to the sink below
abbrev pub StaysTorn : {S : Type 0} → GatheredData S → GatheredData S → Type 0
StaysTorn before after =
    1 ≤ before.faults → (after.passed ≡ before.passed) × (after.faults_below ≡ before.faults_below)

-- what is held after a piece was taken: if the piece fits, it is added to what is held; else what is held is passed on,
-- and then the piece alone is held if it fits, or else passed on too
abbrev pub held_after : ℕ → List ℕ → List ℕ → List ℕ
held_after room held piece =
    if nat_le (length held + length piece) room then held ++ piece
    else if nat_le (length piece) room then piece else []

-- what a give of the piece leaves, by its answer
abbrev pub LeavesGiven : {S : Type 0} → GatheredData S → GatheredData S → Given → List ℕ → Type 0
LeavesGiven before after AllGiven piece =
    (before.faults ≡ 0) × IsWhole after × (after.held ≡ held_after before.room before.held piece)
LeavesGiven before after GiveFailed piece = IsTornBelow after × StaysTorn before after

-- what a flush leaves, by its answer
abbrev pub LeavesFlushed : {S : Type 0} → GatheredData S → GatheredData S → Given → Type 0
LeavesFlushed before after AllGiven =
    (before.faults ≡ 0) × IsWhole after × (after.held ≡ []) × (after.passed ≡ before.told)
LeavesFlushed before after GiveFailed = IsTornBelow after × StaysTorn before after
