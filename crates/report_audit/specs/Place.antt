-- The line that a report has reached.
use Rattle.std.specs.Prelude.{◌≡◌, ℕ, ◌+◌, ◌-◌, ◌^◌, ◌<◌, min, ◌==◌, List, [], ◌∷◌, ◌++◌, take, if◌then◌else◌, Option, Some, None}
use Rattle.report_audit.specs.declared.verdict.TheConstants.{MAX_LINE}
use Rattle.report_audit.specs.declared.verdict.Verdict.{Verdict}
use Rattle.report_audit.specs.declared.verdict.Verdict.TheVariants.{Same, Line}
use Rattle.report_audit.specs.Compared.{newlines, text_of}

-- how many lines have ended, and the line after them
pub record PlaceData : Type 0 where
  pub lines : ℕ
  pub line : List ℕ

-- the bytes after the last newline
abbrev pub open_line : List ℕ → List ℕ
open_line [] = []
open_line (b ∷ bs) = if newlines (b ∷ bs) == 0 then b ∷ bs else open_line bs

-- at the end of what agrees, in the line that goes on with these bytes
abbrev pub place_in : List ℕ → List ℕ → PlaceData
place_in agreed more =
    record { lines = min (newlines agreed) (2 ^ 128 - 1); line = take MAX_LINE (text_of (open_line agreed ++ more)) }

-- at the end of these bytes
abbrev pub place_of : List ℕ → PlaceData
place_of bytes =
    record { lines = min (newlines bytes) (2 ^ 128 - 1); line = take MAX_LINE (open_line bytes) }

-- the line goes on with these bytes, as far as it goes
abbrev pub in_line : PlaceData → List ℕ → PlaceData
in_line p more = record { lines = p.lines; line = take MAX_LINE (p.line ++ text_of more) }

-- a last line that has bytes is one more
abbrev pub last_line : List ℕ → ℕ
last_line [] = 0
last_line (b ∷ bs) = 1

-- the line, if it has bytes
abbrev pub some_line : List ℕ → Option (List ℕ)
some_line [] = None
some_line (b ∷ bs) = Some (b ∷ bs)

-- the verdict if a report that ends here is the claimed one
abbrev pub IsSame : PlaceData → Verdict → Type 0
IsSame p verdict = (p.lines < 2 ^ 128 - 1) × (verdict ≡ Same (p.lines + last_line p.line))

-- the verdict if the report ends here, and the claimed one goes on
abbrev pub IsLonger : PlaceData → Verdict → Type 0
IsLonger p verdict = (p.lines < 2 ^ 128 - 1) × (verdict ≡ Line (p.lines + 1) (some_line p.line))

-- the verdict if this line of the report isn't the claimed one
abbrev pub IsWrong : PlaceData → Verdict → Type 0
IsWrong p verdict = (p.lines < 2 ^ 128 - 1) × (verdict ≡ Line (p.lines + 1) (Some p.line))
