-- Nodes that are read and written, as the two lists that contracts see.
use Rattle.std.proofs.Common.{◌≡◌, ℕ, zero, suc, ◌+◌, ◌%◌, ◌^◌, ◌<◌, List, ◌∷◌, length, get_or, set, refl, sym, ap, subst, ◌∙◌, arith}
use Rattle.std.specs.Prelude.{Bool, Option, Some, None, IfSome, IsSome, replicate}
use Rattle.std.proofs.lemmas.List.{map-set, length-map, length-replicate, get_or_default}
use Rattle.std.proofs.lemmas.Bool.{false≢true}
use Rattle.std.proofs.Math.ListN.{get_or-map}
use Rattle.std.proofs.Math.Seq.{map-set_same}
use Rattle.cell_lists.specs.declared.chains.Node.{Node}
use Rattle.cell_lists.specs.declared.pointer.Pointer.{Pointer}
use Rattle.cell_lists.specs.Pointer.{no_pointer, pointer_at}
use Rattle.cell_lists.specs.Nodes.{pointers_of, cells_of}
use Rattle.cell_lists.specs.Chain.{ChainsData, chains_of, with_cell, at, IsCellOf, InBucket, IsLast, pointer_from, IsPointed, IsMarkedAnew, IsChained, IsLinked, IsUnlinked}
use Rattle.cell_lists.specs.Gathering.{LeadsIn}
use Rattle.cell_lists.proofs.Chaining.{within, chained_none, pointed_count, marked_count}

-- ---- what is read
pub next_read : (nodes : List Node) (i : ℕ) (node : Node) → node ≡ get_or nodes i node → node.next ≡ get_or (pointers_of nodes) i node.next
next_read nodes i node e = ap (λ (n : Node). n.next) e ∙ sym (get_or-map (λ n. n.next) nodes i node)

pub cell_read : (nodes : List Node) (i : ℕ) (node : Node) → node ≡ get_or nodes i node → node.cell ≡ get_or (cells_of nodes) i node.cell
cell_read nodes i node e = ap (λ (n : Node). n.cell) e ∙ sym (get_or-map (λ n. n.cell) nodes i node)

pub next_at : (nodes : List Node) (i : ℕ) (node : Node) → i < length nodes → node ≡ get_or nodes i node → node.next ≡ pointer_at (pointers_of nodes) i
next_at nodes i node lt e = next_read nodes i node e
    ∙ get_or_default (pointers_of nodes) i node.next no_pointer (subst (λ (n : ℕ). i < n) (sym (length-map nodes (λ n. n.next))) lt)

-- the disk to which the node of a listed disk leads
pub node_leads : (cells : List (Option ℕ)) (nodes : List Node) (disk : ℕ) (d : Node) → length nodes ≡ length cells →
    ((i cell : ℕ) → IsCellOf cells cell i → LeadsIn cells cell (i + 1) (pointer_at (pointers_of nodes) i)) → (cell : ℕ) → IsCellOf cells cell disk →
    (disk < length nodes) × LeadsIn cells cell (disk + 1) (get_or nodes disk d).next
node_leads cells nodes disk d as_many leads cell here = (
  lt,
  subst (LeadsIn cells cell (disk + 1)) (sym (next_at nodes disk node lt (get_or_default nodes disk d node lt))) (leads disk cell here),
)
  where
    node : Node
    node = get_or nodes disk d

    lt : disk < length nodes
    lt = subst (λ (n : ℕ). disk < n) (sym as_many) (within cells 1 (cell % 1) disk (cell, here, refl))

pub head_at : (heads : List Pointer) (i : ℕ) (head : Pointer) → i < length heads → head ≡ get_or heads i head → head ≡ pointer_at heads i
head_at heads i head lt e = e ∙ get_or_default heads i head no_pointer lt

-- there are as many cells as nodes
pub count_seen : (count : ℕ) (nodes : List Node) (chains : ChainsData) → chains_of count (cells_of nodes) ≡ chains →
    length nodes ≡ length chains.cells
count_seen count nodes chains seen = sym (length-map nodes (λ n. n.cell)) ∙ ap (λ (c : ChainsData). length c.cells) seen

-- a disk of a bucket has a node
pub node_there : (count len : ℕ) (nodes : List Node) (chains : ChainsData) (m b i : ℕ) → chains_of count (cells_of nodes) ≡ chains →
    len ≡ length nodes → InBucket chains.cells m b i → i < len
node_there count len nodes chains m b i seen as_many here =
    let same = count_seen count nodes chains seen in let lt = within chains.cells m b i here in omega arith

-- the disk that comes before one in a bucket has a node
pub before_within : (count m b d : ℕ) (nodes : List Node) (chains : ChainsData) (last : Option ℕ) → chains_of count (cells_of nodes) ≡ chains →
    IsLast chains.cells m b d last → IfSome last (λ p. p < length nodes)
before_within count m b d nodes chains None seen is = tt
before_within count m b d nodes chains (Some p) seen is =
    let lt = within chains.cells m b p is.1 in let same = count_seen count nodes chains seen in omega arith

-- and so has the one before that
pub second_within : (count m b d : ℕ) (nodes : List Node) (chains : ChainsData) (last second : Option ℕ) → chains_of count (cells_of nodes) ≡ chains →
    IsLast chains.cells m b d last → IfSome last (λ p. IsLast chains.cells m b p second) → IsSome last → IfSome second (λ p. p < length nodes)
second_within count m b d nodes chains None second seen is before some = absurd (false≢true some)
second_within count m b d nodes chains (Some p) second seen is before some = before_within count m b p nodes chains second seen before

-- ---- what is written
pub pointers_set : (nodes : List Node) (i : ℕ) (node : Node) (o : Pointer) → pointers_of (set nodes i (record { cell = node.cell; next = o })) ≡ set (pointers_of nodes) i o
pointers_set nodes i node o = map-set (λ n. n.next) nodes i (record { cell = node.cell; next = o })

pub cells_kept : (nodes : List Node) (i : ℕ) (node : Node) (o : Pointer) → node ≡ get_or nodes i node →
    cells_of (set nodes i (record { cell = node.cell; next = o })) ≡ cells_of nodes
cells_kept nodes i node o e = map-set_same (λ n. n.cell) nodes i (record { cell = node.cell; next = o }) node (ap (λ (n : Node). n.cell) e)

pub cells_set : (nodes : List Node) (i : ℕ) (node : Node) (o : Option ℕ) → cells_of (set nodes i (record { cell = o; next = node.next })) ≡ set (cells_of nodes) i o
cells_set nodes i node o = map-set (λ n. n.cell) nodes i (record { cell = o; next = node.next })

pub pointers_kept : (nodes : List Node) (i : ℕ) (node : Node) (o : Option ℕ) → node ≡ get_or nodes i node →
    pointers_of (set nodes i (record { cell = o; next = node.next })) ≡ pointers_of nodes
pointers_kept nodes i node o e = map-set_same (λ n. n.next) nodes i (record { cell = o; next = node.next }) node (ap (λ (n : Node). n.next) e)

-- ---- chains
pub pointed_first : (heads : List Pointer) (nodes : List Node) (b : ℕ) (before : Option ℕ) (x : Pointer) → before ≡ None →
    IsPointed heads (pointers_of nodes) b before x (set heads b x) (pointers_of nodes)
pointed_first heads nodes b before x none = rw none (refl, refl)

pub pointed_behind : (heads : List Pointer) (nodes : List Node) (b p : ℕ) (before : Option ℕ) (node : Node) (x : Pointer) → before ≡ Some p →
    IsPointed heads (pointers_of nodes) b before x heads (pointers_of (set nodes p (record { cell = node.cell; next = x })))
pointed_behind heads nodes b p before node x some = rw some (refl, pointers_set nodes p node x)

-- as many heads as there were
pub marked_heads_count : (heads nexts heads' nexts' : List Pointer) (b : ℕ) (last second : Option ℕ) (more : Bool) →
    IsMarkedAnew heads nexts b last second more heads' nexts' → length heads' ≡ length heads
marked_heads_count heads nexts heads' nexts' b last second more h = (marked_count heads nexts heads' nexts' b last second more h).0

pub linked_count : (heads nexts heads' nexts' : List Pointer) (b d : ℕ) (last : Option ℕ) → IsLinked heads nexts b d last heads' nexts' →
    length heads' ≡ length heads
linked_count heads nexts heads' nexts' b d last h =
    (pointed_count heads (set nexts d (pointer_from heads nexts b last)) heads' nexts' b last h.0 h.2).0

pub unlinked_count : (heads nexts heads' nexts' : List Pointer) (b d : ℕ) (last : Option ℕ) → IsUnlinked heads nexts b d last heads' nexts' →
    length heads' ≡ length heads
unlinked_count heads nexts heads' nexts' b d last h = (pointed_count heads nexts heads' nexts' b last (pointer_at nexts d) h).0

-- what contracts see of chains with another cell of a disk
pub seen_with_cell : (heads heads' : List Pointer) (nodes nodes' : List Node) (chains : ChainsData) (d : ℕ) (node : Node) (one o : Option ℕ) →
    chains_of (length heads) (cells_of nodes) ≡ chains → length heads' ≡ length heads → cells_of nodes' ≡ cells_of nodes → one ≡ o →
    chains_of (length heads') (cells_of (set nodes' d (record { cell = one; next = node.next }))) ≡ with_cell chains d o
seen_with_cell heads heads' nodes nodes' chains d node one o view count cells is =
    ap (λ (n : ℕ). chains_of n (cells_of (set nodes' d (record { cell = one; next = node.next })))) count
    ∙ ap (chains_of (length heads)) (cells_set nodes' d node one ∙ ap (λ (xs : List (Option ℕ)). set xs d one) cells ∙ ap (set (cells_of nodes) d) is)
    ∙ ap (λ (c : ChainsData). with_cell c d o) view

-- after a write of another cell of a disk the chains are chains, if that list of cells has such
pub chained_as : (heads : List Pointer) (nodes : List Node) (i : ℕ) (node : Node) (o : Option ℕ) → node ≡ get_or nodes i node →
    IsChained heads (pointers_of nodes) (set (cells_of nodes) i o) →
    IsChained heads (pointers_of (set nodes i (record { cell = o; next = node.next }))) (cells_of (set nodes i (record { cell = o; next = node.next })))
chained_as heads nodes i node o read chained = rw (pointers_kept nodes i node o read, cells_set nodes i node o) chained

-- ---- no disk listed
abbrev pub unlisted : Node
unlisted = record { cell = None; next = no_pointer }

pub nexts_unlisted : (n : ℕ) → pointers_of (replicate n unlisted) ≡ replicate n no_pointer
nexts_unlisted zero = refl
nexts_unlisted (suc n) = ap (λ (xs : List Pointer). no_pointer ∷ xs) (nexts_unlisted n)

pub cells_unlisted : (n : ℕ) → cells_of (replicate n unlisted) ≡ replicate n None
cells_unlisted zero = refl
cells_unlisted (suc n) = ap (λ (xs : List (Option ℕ)). None ∷ xs) (cells_unlisted n)

-- the heads and nodes with which chains begin
pub none_chained : (count room : ℕ) (heads : List Pointer) (nodes : List Node) → 0 < count → room < 2 ^ 31 →
    heads ≡ replicate count no_pointer → nodes ≡ replicate room unlisted → IsChained heads (pointers_of nodes) (cells_of nodes)
none_chained count room heads nodes some few empty none =
    rw (empty, none) (rw (nexts_unlisted room, cells_unlisted room) (chained_none count room some few))

pub none_seen : (count room : ℕ) (heads : List Pointer) (nodes : List Node) → heads ≡ replicate count no_pointer →
    nodes ≡ replicate room unlisted → chains_of (length heads) (cells_of nodes) ≡ chains_of count (replicate room None)
none_seen count room heads nodes empty none =
    rw (empty, none) (rw (cells_unlisted room, length-replicate {A = Pointer} count no_pointer) refl)

-- ---- a node that was asked for and may not exist
pub cell_got : (count : ℕ) (nodes : List Node) (chains : ChainsData) (i : ℕ) (node : Node) → chains_of count (cells_of nodes) ≡ chains →
    node ≡ get_or nodes i unlisted → node.cell ≡ at chains.cells i
cell_got count nodes chains i node seen is =
    ap (λ (n : Node). n.cell) is ∙ sym (get_or-map (λ n. n.cell) nodes i unlisted) ∙ ap (λ (c : ChainsData). at c.cells i) seen
