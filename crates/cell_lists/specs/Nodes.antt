-- The nodes of the disks, as two lists.
use Rattle.std.specs.Prelude.{ℕ, List, map, Option}
use Rattle.cell_lists.specs.declared.chains.Node.{Node}
use Rattle.cell_lists.specs.declared.pointer.Pointer.{Pointer}

-- the cell in which each disk is listed
abbrev pub cells_of : List Node → List (Option ℕ)
cells_of nodes = map (λ l. l.cell) nodes

-- for each listed disk the pointer to the next one of its bucket
abbrev pub pointers_of : List Node → List Pointer
pointers_of nodes = map (λ l. l.next) nodes
