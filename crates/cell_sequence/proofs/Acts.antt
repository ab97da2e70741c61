-- The results of the events of a cell state, and what they change.
use Rattle.std.proofs.Common.{◌≡◌, ◌≢◌, inl, inr, ℕ, List, [], ◌∷◌, sym, ap, ◌∙◌, refl, arith}
use Rattle.std.proofs.Common.{Option, Some, None, Result, Ok, slice_get, slice_set}
use Rattle.std.specs.Prelude.{option_map, fold, ◌++◌}
use Rattle.std.proofs.lemmas.List.{map-set}
use Rattle.std.proofs.lemmas.Option.{slice_get-map, none-some}
use Rattle.fixed_motion.specs.declared.rules.Rules.{Rules}
use Rattle.fixed_motion.specs.declared.disk.Disk.{Disk}
use Rattle.fixed_motion.specs.Motion.{place_of}
use Rattle.event_stamps.specs.declared.Stamp.{Stamp}
use Rattle.event_stamps.specs.declared.Kind.{Kind}
use Rattle.event_stamps.specs.declared.Kind.TheVariants.{Cross as Crossing, Wall, Pair}
use Rattle.event_rules.specs.declared.change.Change.{Change}
use Rattle.event_rules.specs.declared.change.Limit.{Limit}
use Rattle.event_rules.specs.Effect.{applied}
use Rattle.event_rules.specs.Run.{ComesTo, partner_of, effect, set_some}
use Rattle.cell_grid.specs.Grid.{GridData, cell_at}
use Rattle.region_view.specs.declared.action.Placed.{Placed}
use Rattle.region_view.specs.declared.action.Action.{Action}
use Rattle.region_view.specs.declared.action.Action.TheVariants.{Cross, Hit}
use Rattle.region_view.specs.Acting.{ActsAs, action_of, hit_of, crossed, partner_in, disk_in}
use Rattle.region_view.specs.Acting.{redisked, recelled}
use Rattle.cell_sequence.specs.Run.{disks_of, acted, put_row}
use Rattle.cell_sequence.proofs.Lists.{get_map, set_same, set_none, get_set}

-- ---- disks of placed disks
pub disk_at : (placed : List Placed) (i : ℕ) (p : Placed) → slice_get placed i ≡ Some p →
    slice_get (disks_of placed) i ≡ Some p.disk
disk_at placed i p at = slice_get-map (λ (q : Placed). q.disk) placed i
    ∙ ap (option_map (λ (q : Placed). q.disk)) at

pub placed_at_disk : (placed : List Placed) (i : ℕ) (a : Disk) →
    slice_get (disks_of placed) i ≡ Some a → (p : Placed) × (slice_get placed i ≡ Some p)
    × (p.disk ≡ a)
placed_at_disk placed i a at = get_map (λ (q : Placed). q.disk) placed i a at

disk_in_is : (placed : List Placed) (i : ℕ) →
    disk_in (slice_get placed i) ≡ slice_get (disks_of placed) i
disk_in_is placed i = sym (slice_get-map (λ (q : Placed). q.disk) placed i)

partner_is : (placed : List Placed) (k : Kind) (i : ℕ) →
    partner_in k (slice_get placed) i ≡ partner_of k (disks_of placed) i
partner_is placed Crossing i = refl
partner_is placed Wall i = refl
partner_is placed Pair i = disk_in_is placed i

-- ---- the result of an event
hit_is : (rules : Rules) (grid : GridData) (s : Stamp) (a : Disk) (b : Option Disk) (k : Kind) →
    ¬ (k ≡ Crossing) → action_of rules grid s a b k ≡ hit_of (applied rules s a b)
hit_is rules grid s a b Crossing not = absurd (not refl)
hit_is rules grid s a b Wall not = refl
hit_is rules grid s a b Pair not = refl

-- an event that isn't a crossing has the result that it has in the state of the disks alone
pub hits_as : (rules : Rules) (grid : GridData) (placed : List Placed) (s : Stamp)
    (r : Result Action Limit) → ¬ (s.kind ≡ Crossing) →
    ActsAs rules grid (slice_get placed) s r → (q : Result Change Limit) × (r ≡ hit_of q)
    × ComesTo rules (disks_of placed) s q
hits_as rules grid placed s r not acts =
    let b = partner_in s.kind (slice_get placed) s.second in
    let q = applied rules s acts.0.disk b in (
      q,
      acts.2 ∙ hit_is rules grid s acts.0.disk b s.kind not,
      (
        acts.0.disk,
        disk_at placed s.first acts.0 acts.1,
        ap (applied rules s acts.0.disk)
            (partner_is placed s.kind s.second),
      ),
    )

crossing_is : (rules : Rules) (grid : GridData) (s : Stamp) (a : Disk) (b : Option Disk)
    (k : Kind) → k ≡ Crossing → action_of rules grid s a b k ≡ crossed rules grid s a
crossing_is rules grid s a b Crossing e = refl
crossing_is rules grid s a b Wall e = cc
crossing_is rules grid s a b Pair e = cc

-- a crossing below the round limit records the cell of the place
pub crosses_as : (rules : Rules) (grid : GridData) (placed : List Placed) (s : Stamp)
    (r : Result Action Limit) → s.kind ≡ Crossing → s.round ≢ rules.round_limit →
    ActsAs rules grid (slice_get placed) s r → (p : Placed) × (slice_get placed s.first ≡ Some p)
    × (r ≡ Ok (Cross s (cell_at grid (place_of p.disk s.tick))))
crosses_as rules grid placed s r kind below acts =
    let b = partner_in s.kind (slice_get placed) s.second in
    (acts.0, acts.1, acts.2 ∙ crossing_is rules grid s acts.0.disk b s.kind kind ∙ grind arith)

-- ---- what an action changes
abbrev pub set_all : List Placed → List (ℕ × Placed) → List Placed
set_all placed rows = fold put_row placed rows

no_disk_at : (placed : List Placed) (i : ℕ) → slice_get placed i ≡ None →
    slice_get (disks_of placed) i ≡ None
no_disk_at placed i none = slice_get-map (λ (q : Placed). q.disk) placed i
    ∙ ap (option_map (λ (q : Placed). q.disk)) none

-- a row set in a list that has a row there
set_row_disks : (later : List Placed) (j : ℕ) (d : Disk) (row : Option Placed) →
    (row ≡ None → slice_get later j ≡ None) →
    disks_of (set_all later (redisked j (Some d) row)) ≡ slice_set (disks_of later) j d
set_row_disks later j d None none =
    sym (set_none (disks_of later) j d (no_disk_at later j (none refl)))
set_row_disks later j d (Some p) none =
    map-set (λ (q : Placed). q.disk) later j (record { disk = d; cell = p.cell })

-- a crossing changes no disk
pub cross_keeps : (placed : List Placed) (s : Stamp) (cell : ℕ) →
    disks_of (acted placed (Cross s cell)) ≡ disks_of placed
cross_keeps placed s cell = by_row (slice_get placed s.first) refl
  where
    by_row : (o : Option Placed) → slice_get placed s.first ≡ o →
        disks_of (set_all placed (recelled s.first cell o)) ≡ disks_of placed
    by_row None e = refl
    by_row (Some p) e = map-set (λ (q : Placed). q.disk) placed s.first
        (record { disk = p.disk; cell = cell })
        ∙ set_same (disks_of placed) s.first p.disk (disk_at placed s.first p e)

still_none : (placed : List Placed) (i j : ℕ) (a : Disk) (o : Option Placed) →
    slice_get placed i ≡ o → slice_get placed j ≡ None →
    slice_get (set_all placed (redisked i (Some a) o)) j ≡ None
still_none placed i j a None at none = none
still_none placed i j a (Some p) at none =
    by_row (slice_get (slice_set placed i (record { disk = a; cell = p.cell })) j) refl
  where
    by_row : (o : Option Placed) →
        slice_get (slice_set placed i (record { disk = a; cell = p.cell })) j ≡ o → o ≡ None
    by_row None h = refl
    by_row (Some x) h = elim (get_set placed i j (record { disk = a; cell = p.cell }) x h) [
      | inl same ↦ absurd (none-some p (sym none ∙ ap (λ (n : ℕ). slice_get placed n) same.0 ∙ at))
      | inr other ↦ absurd (none-some x (sym none ∙ other.1))
    ]

pub fold_append : (placed : List Placed) (xs ys : List (ℕ × Placed)) →
    set_all placed (xs ++ ys) ≡ set_all (set_all placed xs) ys
fold_append placed [] ys = refl
fold_append placed (x ∷ xs) ys = fold_append (put_row placed x) xs ys

-- a collision changes the disks as it does in the state of the disks alone
pub hit_changes : (placed : List Placed) (c : Change) →
    disks_of (acted placed (Hit c)) ≡ effect (disks_of placed) c
hit_changes placed c =
    ap disks_of (fold_append placed (redisked i (Some c.first) (slice_get placed i))
    (redisked j c.second (slice_get placed j)))
    ∙ by_second c.second ∙ ap (λ (xs : List Disk). set_some xs j c.second) first
  where
    i : ℕ
    i = c.stamp.first

    j : ℕ
    j = c.stamp.second

    later : List Placed
    later = set_all placed (redisked i (Some c.first) (slice_get placed i))

    first : disks_of (set_all placed
        (redisked c.stamp.first (Some c.first) (slice_get placed c.stamp.first))) ≡ slice_set
        (disks_of placed) c.stamp.first c.first
    first = set_row_disks placed c.stamp.first c.first (slice_get placed c.stamp.first) (λ e. e)

    by_second : (o : Option Disk) →
        disks_of (set_all (set_all placed
        (redisked c.stamp.first (Some c.first) (slice_get placed c.stamp.first)))
        (redisked c.stamp.second o (slice_get placed c.stamp.second)))
        ≡ set_some (disks_of (set_all placed
        (redisked c.stamp.first (Some c.first)
        (slice_get placed c.stamp.first)))) c.stamp.second o
    by_second None = refl
    by_second (Some d) = set_row_disks
        (set_all placed (redisked c.stamp.first (Some c.first)
        (slice_get placed c.stamp.first))) c.stamp.second d (slice_get placed c.stamp.second)
        (λ none. still_none placed c.stamp.first c.stamp.second c.first
        (slice_get placed c.stamp.first) refl none)
