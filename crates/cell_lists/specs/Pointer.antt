-- A disk or none, and whether the disk has a next one, as one number.
use Rattle.std.specs.Prelude.{ℕ, ◌%◌, ◌^◌, ◌≤◌, List, slice_index_or, Option}
use Rattle.cell_lists.specs.declared.pointer.Pointer.{Pointer}
use Rattle.cell_lists.specs.Slot.{number_of}

-- the pointer to no disk
abbrev pub no_pointer : Pointer
no_pointer = record { code = 0 }

-- the disk, or none
abbrev pub disk_of : Pointer → Option ℕ
disk_of pointer = number_of (pointer.code % 2 ^ 31)

-- it says that the disk has a next one
abbrev pub SaysMore : Pointer → Type 0
SaysMore pointer = 2 ^ 31 ≤ pointer.code

-- the pointer at an index; past the end of the list, the one to no disk
abbrev pub pointer_at : List Pointer → ℕ → Pointer
pointer_at pointers i = slice_index_or pointers i no_pointer
