-- The queue stands for a view again after changes.
use Rattle.std.proofs.Common.{◌≡◌, ◌⊎◌, inl, inr, ℕ, List, [], ◌∷◌, refl, sym, ap, subst, ◌∙◌}
use Rattle.std.specs.Prelude.{Option, Some, None, option_map, ⊤, Result, Ok, Err, OnOk}
use Rattle.std.specs.List.{Contains}
use Rattle.std.specs.Ordering.{nat_cmp}
use Rattle.std.specs.FinMap as map
use Rattle.fixed_motion.specs.declared.rules.Rules.{Rules}
use Rattle.event_stamps.specs.declared.Stamp.{Stamp}
use Rattle.event_stamps.specs.Least.{IsLeast, IsLeastOf}
use Rattle.event_tree.specs.Entries.{EntriesData}
use Rattle.event_tree.specs.Keys.{Key, IsLeastKey}
use Rattle.cell_grid.specs.Grid.{GridData, IsCell}
use Rattle.cell_grid.specs.declared.grid.Strip.{Strip}
use Rattle.region_view.specs.declared.action.Placed.{Placed}
use Rattle.region_view.specs.Placing.{IsNative, IsValidPlacing}
use Rattle.region_view.specs.Views.{ViewData, rows_in}
use Rattle.region_queue.specs.declared.finder.Finder.{Finder}
use Rattle.region_view.specs.Naming.{Names, IsSameBut, IsSameButBy, IsMoved}
use Rattle.region_view.proofs.Naming.{native_stays, natives_stay}
use Rattle.region_queue.specs.Finding.{Cells, cell_in, KeepCells, AreListed, AreRelisted, AreRelistedOf, AreRetaken, AreGiven, IsFound, IsReady, Settles}
use Rattle.region_queue.specs.Queue.{QueueData, queue_of, StandsFor, IsSoundQueue}
use Rattle.region_queue.specs.Covering.{Covers, IsSettled}
use Rattle.region_queue.proofs.Covered.{covers_again}
use Rattle.region_queue.proofs.Back.{covers_back}
use Rattle.region_queue.proofs.Settled.{settled_least}
use Rattle.region_queue.proofs.Unchanged.{all_but_moved}

-- ---- lists
lists_again : (before after : ViewData) (Such : ℕ → Type 0) (old new : Cells) → AreListed before old →
    ((i : ℕ) → ¬ Such i → rows_in after i ≡ rows_in before i) → AreRelistedOf after Such old new → AreListed after new
lists_again before after Such old new listed same again i = from (again i)
  where
    from : (map.get new i ≡ cell_in after i) ⊎ ((map.get new i ≡ map.get old i) × ¬ Such i) → map.get new i ≡ cell_in after i
    from (inl now) = now
    from (inr k) = k.0 ∙ listed i ∙ sym (ap (option_map (λ (p : Placed). p.cell)) (same i k.1))

-- ---- the queue
-- if the keys cover the candidates of a view, and are settled after that, the queue stands for it
pub stands_settled : {E : Type 0} (done : Result ⊤ E) (finder : Finder) (view : ViewData) (mid new : EntriesData) →
    OnOk done (Settles finder view mid new) →
    OnOk done (AreListed view finder.lists.cells → Covers (IsFound finder view) mid.keys mid.bounds →
    StandsFor (queue_of finder.rules finder.grid finder.region finder.lists.cells new.keys new.bounds) view)
unfolding StandsFor
stands_settled (Ok done) finder view mid new settled = λ listed again. (listed, settled listed again)
stands_settled (Err e) finder view mid new settled = tt

-- after changes of some disks
pub stands_again : (finder : Finder) (before after : ViewData) (was : Cells) (ids : List ℕ) (old mid : EntriesData) →
    AreRelisted after ids was finder.lists.cells → (AreListed after finder.lists.cells → AreRetaken finder after ids old mid) →
    IsSameBut ids before after → StandsFor (queue_of finder.rules finder.grid finder.region was old.keys old.bounds) before →
    AreListed after finder.lists.cells × Covers (IsFound finder after) mid.keys mid.bounds
unfolding StandsFor
stands_again finder before after was ids old mid relisted retaken same stands = (
  listed,
  covers_again (IsNative finder.rules finder.grid finder.region (rows_in before)) (IsFound finder after) ids old mid stands.1.0
      (λ s none. natives_stay finder.rules finder.grid finder.region before after ids s same none) (retaken listed),
)
  where
    listed : AreListed after finder.lists.cells
    listed = lists_again before after (λ i. Contains ids i) was finder.lists.cells stands.0 same relisted

-- after changes of some disks that keep their cells
pub stands_struck : (finder : Finder) (before after : ViewData) (ids : List ℕ) (old mid : EntriesData) →
    (AreListed after finder.lists.cells → AreRetaken finder after ids old mid) → IsSameBut ids before after →
    KeepCells before after → StandsFor (queue_of finder.rules finder.grid finder.region finder.lists.cells old.keys old.bounds) before →
    AreListed after finder.lists.cells × Covers (IsFound finder after) mid.keys mid.bounds
unfolding StandsFor
stands_struck finder before after ids old mid retaken same kept stands =
    stands_again finder before after finder.lists.cells ids old mid (λ i. inl (stands.0 i ∙ sym (kept i))) retaken same stands

-- after an event is taken back
pub stands_back : (finder : Finder) (s : Stamp) (later view : ViewData) (was : Cells) (old mid : EntriesData) →
    AreRelistedOf view (Names s) was finder.lists.cells → IsLeast (IsFound finder view) s → AreGiven s old mid →
    IsSameButBy s later view → StandsFor (queue_of finder.rules finder.grid finder.region was old.keys old.bounds) later →
    AreListed view finder.lists.cells × Covers (IsFound finder view) mid.keys mid.bounds
unfolding StandsFor
stands_back finder s later view was old mid relisted least given same stands = (
  lists_again later view (Names s) was finder.lists.cells stands.0 same relisted,
  covers_back (IsNative finder.rules finder.grid finder.region (rows_in later)) (IsFound finder view) s old mid stands.1.0
      (λ t apart. native_stays finder.rules finder.grid finder.region later view t (λ i names. same i (apart i names))) least given,
)

-- after a disk has come to another cell
pub stands_moved : (finder : Finder) (before view : ViewData) (was : Cells) (disk : ℕ) (cell : Option ℕ) (old mid : EntriesData) →
    AreRelisted view (disk ∷ []) was finder.lists.cells → cell ≡ map.get was disk →
    (AreListed view finder.lists.cells → (before : ViewData) → IsMoved disk before view → cell ≡ cell_in before disk →
    Covers (IsFound finder before) old.keys old.bounds → Covers (IsFound finder view) mid.keys mid.bounds) →
    IsMoved disk before view → StandsFor (queue_of finder.rules finder.grid finder.region was old.keys old.bounds) before →
    AreListed view finder.lists.cells × Covers (IsFound finder view) mid.keys mid.bounds
unfolding StandsFor
stands_moved finder before view was disk cell old mid relisted at covers moved stands =
    (listed, covers listed before moved (at ∙ stands.0 disk) stands.1.0)
  where
    listed : AreListed view finder.lists.cells
    listed = lists_again before view (λ i. Contains (disk ∷ []) i) was finder.lists.cells stands.0 (all_but_moved disk before view moved) relisted

pub none_in_empty : (i : ℕ) → rows_in map.empty i ≡ None
none_in_empty i = map.get-empty nat_cmp i

pub empty_stands : (rules : Rules) (grid : GridData) (region : ℕ) → StandsFor (queue_of rules grid region map.empty [] []) map.empty
unfolding StandsFor
empty_stands rules grid region = (
  λ disk. map.get-empty nat_cmp disk ∙ sym (ap (option_map (λ (p : Placed). p.cell)) (none_in_empty disk)),
  (covers, λ key is. settled key is),
)
  where
    none : (s : Stamp) (p : Placed) → rows_in map.empty s.first ≡ Some p → ⊥
    none s p e = let never : None ≡ Some p = sym (none_in_empty s.first) ∙ e in cc

    covers : Covers (IsNative rules grid region (rows_in map.empty)) [] []
    covers = record {
      each = λ disk. record {
        named = λ s e. absurd cc;
        bound_named = λ s e. absurd cc;
        alone = λ s e not. absurd cc;
        single = λ s native not first. absurd (none s native.1.0 native.1.1);
        below = tt;
      };
      paired = λ s native pair. absurd (none s native.1.0 native.1.1);
    }

    settled : IsSettled (IsNative rules grid region (rows_in map.empty)) []
    settled None is = tt
    settled (Some s) is = let at = is.one s refl in absurd (let never = at.1 in cc)

pub stands_least : (queue : QueueData) (view : ViewData) (key : Key) → StandsFor queue view → IsLeastKey queue.keys key →
    IsLeastOf (IsNative queue.rules queue.grid queue.region (rows_in view)) key
unfolding StandsFor
stands_least queue view key stands least =
    settled_least (IsNative queue.rules queue.grid queue.region (rows_in view)) queue.keys queue.bounds key stands.1.0 stands.1.1 least

-- ---- the grid and the columns of the lists stay the same
pub sound_again : (rules : Rules) (grid : GridData) (region : ℕ) (strip : Strip) (old new : GridData) → new ≡ old →
    IsSoundQueue rules grid region strip old → IsSoundQueue rules grid region strip new
sound_again rules grid region strip old new same = subst (IsSoundQueue rules grid region strip) (sym same)

pub ready_again : (finder : Finder) (view : ViewData) (old : GridData) → finder.lists.grid ≡ old →
    IsSoundQueue finder.rules finder.grid finder.region finder.strip old → IsValidPlacing finder.rules finder.grid (rows_in view) →
    IsReady finder view
ready_again finder view old same sound valid = record {
  checked = sound.checked;
  grid = sound.grid;
  region = sound.region;
  strip = sound.strip;
  lists = same ∙ sound.lists;
  valid = valid;
}

-- the cells of a valid view are those of the grid of the lists
pub cells_listed : (rules : Rules) (grid listed : GridData) (view : ViewData) → listed ≡ grid → IsValidPlacing rules grid (rows_in view) →
    (i : ℕ) (p : Placed) → rows_in view i ≡ Some p → IsCell listed p.cell
cells_listed rules grid listed view same valid i p row = subst (λ (g : GridData). IsCell g p.cell) (sym same) (valid.cell i p row)
