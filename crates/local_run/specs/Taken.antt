-- How many messages of a region a log took in.
use Rattle.std.specs.Prelude.{ℕ, ◌==◌, List, Bool, false}
use Rattle.std.specs.List.{count_by}
use Rattle.local_run.specs.declared.entry.Entry.{Entry}
use Rattle.local_run.specs.declared.entry.Entry.TheVariants.{Native, Heard}

-- whether it is a message of this region
abbrev pub is_of : ℕ → Entry → Bool
is_of q (Native action) = false
is_of q (Heard p m) = p == q

-- how many messages of this region are in a log
abbrev pub taken_of : ℕ → List Entry → ℕ
taken_of q log = count_by (is_of q) log
