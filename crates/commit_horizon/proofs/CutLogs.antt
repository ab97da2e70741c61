-- The entries of regions before a horizon, in logs of their own.
use Rattle.std.proofs.Common.{◌≡◌, inl, inr, ℕ, zero, suc, ◌+◌, ◌<◌, List, [], ◌∷◌, ◌++◌, length, get_or, set, take, drop, map}
use Rattle.std.proofs.Common.{Option, Some, None, sym, ap, ◌∙◌, subst, refl, arith}
use Rattle.std.specs.Prelude.{slice_get, IfSome}
use Rattle.std.proofs.lemmas.List.{map_more, map-append, take_more_set}
use Rattle.std.proofs.lemmas.Option.{none-some, same_Some}
use Rattle.event_stamps.specs.declared.Stamp.{Stamp}
use Rattle.event_stamps.specs.Ordered.{KeysRise}
use Rattle.event_stamps.proofs.Rising.{rises_if_from}
use Rattle.event_stamps.proofs.Parts.{rises_below, below_among, below_before, among_below}
use Rattle.region_view.specs.declared.action.Action.{Action}
use Rattle.region_messages.specs.Trails.{IsAmong}
use Rattle.cell_sequence.specs.State.{CellStateData, last_stamp}
use Rattle.local_run.specs.declared.home.Home.{Home}
use Rattle.local_run.specs.declared.entry.Entry.{Entry}
use Rattle.local_run.specs.declared.entry.Entry.TheVariants.{Native}
use Rattle.local_run.specs.Entries.{entry_stamp, entries_below}
use Rattle.local_run.specs.LocalRun.{Local, IsRight}
use Rattle.local_run.specs.Opening.{RegionData}
use Rattle.local_run.specs.Keeping.{entries_of}
use Rattle.local_run.specs.Keeping.{run_entries as entries_in_run}
use Rattle.event_log.specs.Logged.{Logged, entries_in}
use Rattle.commit_horizon.specs.Horizon.{runs_of, AllStand, AllKept, IsMerged}
use Rattle.commit_horizon.specs.Cutting.{logs_below, AllRise, SomeHasStamp, IsLatest}
use Rattle.commit_horizon.proofs.Latest.{IsStampAmong, latest_same, last_is_latest, one_latest}
use Rattle.commit_horizon.proofs.Standing.{region_on, region_at, region_is, are_standing}

-- ---- members of a list
-- each of some mapped items is the image of one item
at_mapped : {A B : Type 0} (f : A → B) (xs : List A) (y : B) → IsAmong y (map f xs) →
    (k : ℕ) × (x : A) × (slice_get xs k ≡ Some x) × (y ≡ f x)
at_mapped f [] y among = absurd among
at_mapped f (x ∷ xs) y (inl same) = (0, x, refl, same)
at_mapped f (x ∷ xs) y (inr more) =
    let later = at_mapped f xs y more in (suc later.0, later.1, later.2, later.3)

mapped_among : {A B : Type 0} (f : A → B) (xs : List A) (k : ℕ) (x : A) → slice_get xs k ≡ Some x →
    IsAmong (f x) (map f xs)
mapped_among f [] k x at = absurd (none-some x at)
mapped_among f (y ∷ ys) zero x at = inl (ap f (sym (same_Some y x at)))
mapped_among f (y ∷ ys) (suc k) x at = inr (mapped_among f ys k x at)

among_item : {A B : Type 0} (f : A → B) (xs : List A) (k : ℕ) (x : A) → k < length xs → x ≡ get_or xs k x →
    IsAmong (f x) (map f xs)
among_item f [] k x lt is = absurd (omega arith)
among_item f (y ∷ ys) zero x lt is = inl (ap f is)
among_item f (y ∷ ys) (suc k) x lt is = inr (among_item f ys k x (omega arith) is)

pub item_among : (logs : List (List Logged)) (k : ℕ) (log : List Logged) → k < length logs →
    log ≡ get_or logs k log → IsAmong (entries_in log) (map entries_in logs)
item_among logs k log lt is = among_item entries_in logs k log lt is

-- ---- what is cut off
abbrev cut_of : Stamp → RegionData → List Entry
cut_of to region = entries_below to (entries_of region)

left_as : {A : Type 0} (f : A → A) (xs : List A) (k : ℕ) (d : A) → k < length xs →
    get_or (map f (take k xs) ++ drop k xs) k d ≡ get_or xs k d
left_as f [] k d lt = absurd (omega arith)
left_as f (x ∷ xs) zero d lt = refl
left_as f (x ∷ xs) (suc k) d lt = left_as f xs k d (omega arith)

-- one log more holds what was cut off its region, which was as it was
pub one_more_cut : (raise : RegionData → RegionData) (to : Stamp) (regions items : List RegionData)
    (logs : List (List Logged)) (k : ℕ) (d : RegionData) (log : List Logged) → k < length regions →
    length logs ≡ length regions → items ≡ map raise (take k regions) ++ drop k regions →
    map entries_in (take k logs) ≡ logs_below to (take k regions) →
    entries_in log ≡ entries_below to (entries_of (get_or items k d)) →
    map entries_in (take (k + 1) (set logs k log)) ≡ logs_below to (take (k + 1) regions)
one_more_cut raise to regions items logs k d log lt count so_far cut here =
    ap (map entries_in) (take_more_set logs k log (omega arith))
    ∙ map-append entries_in (take k logs) (log ∷ [])
    ∙ (λ i. cut i ++ (here ∙ ap (λ (v : List RegionData). cut_of to (get_or v k d)) so_far
    ∙ ap (cut_of to) (left_as raise regions k d lt)) i ∷ [])
    ∙ sym (map_more (cut_of to) regions k d lt)

-- ---- the stamps of each rise
kept_rises : (to : Stamp) (home : Home) (run : Option Local) → IfSome run (IsRight home) →
    KeysRise entry_stamp (entries_below to (entries_in_run run))
kept_rises to home None right = tt
kept_rises to home (Some run) right =
    rises_below entry_stamp to run.log (rises_if_from entry_stamp run.floor run.log right.rises)

pub all_rise : (to : Stamp) (regions : List RegionData) → AllKept regions → AllRise (logs_below to regions)
all_rise to regions kept log among =
    let from = at_mapped (cut_of to) regions log among in
    subst (KeysRise entry_stamp) (sym from.3)
    (kept_rises to from.1.home from.1.run (kept from.0 from.1 from.2).run)

-- ---- the last stamp
module _ (state : CellStateData) (regions : List RegionData) (h : Stamp) (stand : AllStand state regions)
    (kept : AllKept regions) (batch : List Action) (merged : IsMerged state (runs_of regions) h batch) where
  -- what is among the batch is in a log that was cut off
  in_logs : (s : Stamp) → IsStampAmong batch s → SomeHasStamp (logs_below h regions) s
  in_logs s (x, among, is) =
      let done = merged.are x among in
      let at = region_at state regions done.home stand done.within in
      let run = runs_of regions done.home in
      let right = are_standing state regions stand kept done.home done.within in (
        entries_below h run.log,
        mapped_among (cut_of h) regions done.home (region_on state done.home run) at,
        (
          x,
          among_below entry_stamp h run.log (Native x)
              (rises_if_from entry_stamp run.floor run.log right.right.rises) done.among done.before,
          is,
        ),
      )

  in_batch : (s : Stamp) → SomeHasStamp (logs_below h regions) s → IsStampAmong batch s
  in_batch s (log, among, (x, has, is)) =
      let from = at_mapped (cut_of h) regions log among in
      let here = region_is state regions from.0 from.1 stand from.2 in
      let run = runs_of regions from.0 in
      let same : log ≡ entries_below h run.log
      = from.3 ∙ ap (cut_of h) (sym here.1) in
      let there = subst (IsAmong (Native x)) same has in (
        x,
        merged.all x (record {
          home = from.0;
          within = here.0;
          among = below_among entry_stamp h run.log (Native x) there;
          before = below_before entry_stamp h run.log (Native x) there;
        }),
        is,
      )

  -- the latest stamp of what was cut off is that of the last action of the batch
  pub last_is : (last : Option Stamp) → IsLatest (SomeHasStamp (logs_below h regions)) last →
      last ≡ last_stamp batch
  last_is last latest = one_latest (SomeHasStamp (logs_below h regions)) last (last_stamp batch) latest
      (latest_same (IsStampAmong batch) (SomeHasStamp (logs_below h regions)) (last_stamp batch) in_logs in_batch
      (last_is_latest batch merged.rise))
