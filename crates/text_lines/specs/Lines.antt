-- Lines of text.
use Rattle.std.specs.Prelude.{ℕ, List, [], ◌∷◌, ◌++◌}
use Rattle.std.specs.List.{join_with_byte}

-- a text and a newline
abbrev pub ended : List ℕ → List ℕ
ended text = text ++ 10 ∷ []

-- fields with one space between them, and a newline
abbrev pub line_of : List (List ℕ) → List ℕ
line_of fields = ended (join_with_byte 32 fields)
