-- What a sink that compares has found.
use Rattle.std.specs.Prelude.{◌≡◌, ℕ, ◌≤◌, ◌<◌, List, [], ◌++◌, length, slice_get, ⊤, Option, Some, None, Result, Ok, Err}
use Rattle.report_ports.specs.Ports.{Rose}
use Rattle.report_audit.specs.declared.agreeing.Course.{Course}
use Rattle.report_audit.specs.declared.agreeing.Course.TheVariants.{Agrees, Differs, Wrong, Failed}
use Rattle.report_audit.specs.declared.verdict.NoVerdict.{NoVerdict}
use Rattle.report_audit.specs.declared.verdict.NoVerdict.TheVariants.{Unread, Unfinished}
use Rattle.report_audit.specs.Compared.{Part, lines_of, newlines}

-- the claimed source when the comparison began, the bytes of the report that were taken, how the comparison goes, and
-- how many calls failed
pub record ComparingData (C : Type 0) : Type 0 where
  pub given : C
  pub taken : List ℕ
  pub course : Course
  pub faults : ℕ

-- a report goes on, and the claimed one, of which this is left, goes on in another way or ends
abbrev pub Differ : List ℕ → Option (List ℕ) → Type 0
Differ rest None = 0 < length rest
Differ rest (Some left) = (0 < length rest) × Part rest left

-- what is so if a report, which has agreed so far, goes on with these bytes, given what is left of the claimed one
abbrev pub IsCourse : Course → List ℕ → Option (List ℕ) → Type 0
IsCourse Agrees rest left = rest ≡ []
IsCourse Differs rest left = Differ rest left × (newlines rest ≡ 0)
IsCourse Wrong rest left = Differ rest left × (0 < newlines rest)
IsCourse Failed rest left = rest ≡ []

-- how a comparison goes on if this much of a piece agrees
abbrev pub GoesOn : Course → List ℕ → Option (List ℕ) → Type 0
GoesOn Agrees rest left = rest ≡ []
GoesOn Differs rest left = Differ rest left
GoesOn Wrong rest left = ⊥
GoesOn Failed rest left = ⊤

-- the claimed source's count of faults before and after
abbrev pub CountsCourse : ℕ → ℕ → Course → Type 0
CountsCourse before after Agrees = after ≡ before
CountsCourse before after Differs = after ≡ before
CountsCourse before after Wrong = after ≡ before
CountsCourse before after Failed = (before ≤ after) × Rose before after

-- the part of a piece that was taken: all of it, or a front of it if the claimed source failed
abbrev pub Grows : Course → List ℕ → List ℕ → List ℕ → Type 0
Grows Agrees before after piece = after ≡ before ++ piece
Grows Differs before after piece = after ≡ before ++ piece
Grows Wrong before after piece = after ≡ before ++ piece
Grows Failed before after piece =
    (given : List ℕ) × (rest : List ℕ) × (piece ≡ given ++ rest) × (after ≡ before ++ given)

-- whether a line goes on after these bytes
abbrev pub IsLine : List ℕ → Course → Type 0
IsLine bytes Agrees = ⊥
IsLine bytes Differs = newlines bytes ≡ 0
IsLine bytes Wrong = 0 < newlines bytes
IsLine bytes Failed = ⊥

-- the claimed source's count of faults before and after a comparison
abbrev pub CountsJudged : {A : Type 0} → ℕ → ℕ → Result A NoVerdict → Type 0
CountsJudged before after (Ok a) = after ≡ before
CountsJudged before after (Err Unread) = (before ≤ after) × Rose before after
CountsJudged before after (Err Unfinished) = after ≡ before

-- the effect of a piece, given how the comparison went before and goes then: once a line is wrong nothing is taken
abbrev pub Advances : Course → Course → List ℕ → List ℕ → List ℕ → Type 0
Advances Agrees course before after piece = Grows course before after piece
Advances Differs course before after piece = Grows course before after piece
Advances Wrong course before after piece = (course ≡ Wrong) × (after ≡ before)
Advances Failed course before after piece = (course ≡ Failed) × (after ≡ before)

-- a piece changes neither what was given nor the count of calls that failed
abbrev pub KeepsTheRest : {C : Type 0} → ComparingData C → ComparingData C → Type 0
KeepsTheRest old new = (new.given ≡ old.given) × (new.faults ≡ old.faults)

-- each line that was told to its end is the claimed report's too
abbrev pub HasNoWrongLine : List ℕ → List ℕ → Type 0
HasNoWrongLine told claimed = (k : ℕ) → k < newlines told → slice_get (lines_of told) k ≡ slice_get (lines_of claimed) k
