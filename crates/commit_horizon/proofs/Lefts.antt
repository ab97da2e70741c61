-- What is left of logs from their heads on, and the first of all that is left.
use Rattle.std.proofs.Common.{◌≡◌, inl, inr, ℕ, zero, suc, ◌+◌, ◌<◌, ◌≤◌, List, [], ◌∷◌, ◌++◌, length, drop, set, get_or, map, get_or-set_same, get_or-set_other}
use Rattle.std.proofs.Common.{Option, Some, None, sym, ap, ◌∙◌, subst, refl, arith}
use Rattle.std.specs.Prelude.{slice_get, option_map, IfSome, IsTrue, false}
use Rattle.std.specs.Option.{IsSome, is_some}
use Rattle.std.proofs.lemmas.Bool.{cases_lt}
use Rattle.std.proofs.lemmas.List.{drop_all, get_or_past, get_or_push, get_or_append_left, get_or-map, length-map, length_push, length-set, set-set}
use Rattle.std.proofs.lemmas.Option.{none-some, same_Some}
use Rattle.event_stamps.specs.declared.Stamp.{Stamp}
use Rattle.event_stamps.specs.Order.{Before, IsInRange}
use Rattle.event_rules.specs.declared.change.Change.{Change}
use Rattle.region_view.specs.declared.action.Action.{Action}
use Rattle.region_view.specs.declared.action.Action.TheVariants.{Cross, Hit}
use Rattle.region_view.specs.Acting.{stamp_of}
use Rattle.cell_sequence.specs.Run.{hits}
use Rattle.cell_sequence.proofs.Joins.{hits_join}
use Rattle.local_run.specs.declared.entry.Entry.{Entry}
use Rattle.local_run.specs.declared.entry.Entry.TheVariants.{Native, Heard}
use Rattle.local_run.specs.Entries.{native_in}
use Rattle.local_run.proofs.Among.{same_or_other}
use Rattle.event_log.specs.Logged.{Logged, entries_in}
use Rattle.event_log.specs.Collisions.{change_in}
use Rattle.commit_horizon.specs.declared.leading.Leader.{Leader}
use Rattle.commit_horizon.specs.Merging.{Head, Heads, head_at, IsLeadingHead}
use Rattle.commit_horizon.specs.Horizon.{ActionStampsRise}
use Rattle.commit_horizon.specs.Leading.{IsLeader}
use Rattle.commit_horizon.specs.Telling.{MayBeTold}
use Rattle.commit_horizon.specs.Untold.{actions_in, left_from, StandsIn, IsNextHead, PassesCrossings, IsNextHit, BeginsInRange, AllBeginInRange, AreFirstHeads, lefts, merged_of, AllCanBeTold, CanBeTellings, AreUntold}
use Rattle.commit_horizon.proofs.Heads.{rest_at, entry_at, native_entry, native_within, below_or_last}
use Rattle.commit_horizon.proofs.Leaders.{leads_at, none_leads, stamp_there}
use Rattle.commit_horizon.proofs.MergedLists.{merge_is, within_lists, NoneBeginsBefore, GoesFirst, least_goes, nothing_left, first_can, list_can}
use Rattle.commit_horizon.proofs.Passing.{lists_still_rise, later_can, passes_one, Passed, crossings_passed}
use Rattle.commit_horizon.proofs.Tellings.{hit_there}

-- ---- the next head of a log
pub next_found : (log : List Entry) (done k : ℕ) (s : Stamp) →
    option_map stamp_of (native_in (slice_get log k)) ≡ Some s →
    actions_in (drop done log) ≡ actions_in (drop k log) →
    IsNextHead log done (Some (record { stamp = s; place = k }))
next_found log done k s is so_far = record { left = sym so_far; stands = is }

pub next_passed : (log : List Entry) (k : ℕ) → k < length log →
    option_map stamp_of (native_in (slice_get log k)) ≡ None →
    actions_in (drop k log) ≡ actions_in (drop (k + 1) log)
next_passed log k lt is = by_entry (slice_get log k) refl is
  where
    by_entry : (found : Option Entry) → slice_get log k ≡ found → option_map stamp_of (native_in found) ≡ None →
        actions_in (drop k log) ≡ actions_in (drop (k + 1) log)
    by_entry None at none = absurd (none-some (entry_at log k lt).0 (sym at ∙ (entry_at log k lt).1))
    by_entry (Some (Native y)) at none = absurd (none-some (stamp_of y) (sym none))
    by_entry (Some (Heard q m)) at none = ap actions_in (rest_at log k (Heard q m) at)

pub next_past : (log : List Entry) (done k : ℕ) → length log ≤ k →
    actions_in (drop done log) ≡ actions_in (drop k log) → IsNextHead log done None
next_past log done k le so_far = record {
  left = sym (so_far ∙ ap actions_in (drop_all k log le));
  stands = tt;
}

-- ---- the head of the next collision of a log
pub hit_found : (log : List Entry) (done k : ℕ) (change : Change) →
    Some change ≡ change_in (native_in (slice_get log k)) →
    PassesCrossings (actions_in (drop done log)) (actions_in (drop k log)) →
    IsNextHit log done (Some (record { stamp = change.stamp; place = k }))
hit_found log done k change is so_far = record {
  passed = so_far;
  stands = ap (option_map stamp_of) (hit_there (native_in (slice_get log k)) change is);
}

pub hit_passed : (log : List Entry) (done k : ℕ) → k < length log → None ≡ change_in (native_in (slice_get log k)) →
    PassesCrossings (actions_in (drop done log)) (actions_in (drop k log)) →
    PassesCrossings (actions_in (drop done log)) (actions_in (drop (k + 1) log))
hit_passed log done k lt is so_far = by_entry (slice_get log k) refl is
  where
    by_entry : (found : Option Entry) → slice_get log k ≡ found → None ≡ change_in (native_in found) →
        PassesCrossings (actions_in (drop done log)) (actions_in (drop (k + 1) log))
    by_entry None at none = absurd (none-some (entry_at log k lt).0 (sym at ∙ (entry_at log k lt).1))
    by_entry (Some (Native (Hit change))) at none = absurd (none-some change none)
    by_entry (Some (Native (Cross s cell))) at none = passes_one (Cross s cell) (actions_in (drop done log))
        (actions_in (drop k log)) (actions_in (drop (k + 1) log)) so_far
        (ap actions_in (rest_at log k (Native (Cross s cell)) at)) refl
    by_entry (Some (Heard q m)) at none = subst (PassesCrossings (actions_in (drop done log)))
        (ap actions_in (rest_at log k (Heard q m) at)) so_far

pub hit_past : (log : List Entry) (done k : ℕ) → length log ≤ k →
    PassesCrossings (actions_in (drop done log)) (actions_in (drop k log)) → IsNextHit log done None
hit_past log done k le so_far = record {
  passed = subst (PassesCrossings (actions_in (drop done log))) (ap actions_in (drop_all k log le)) so_far;
  stands = tt;
}

-- ---- the first action from a head on
-- a head with its action, and those after it
pub record Begins (log : List Entry) (head : Head) (x : Action) : Type 0 where
  pub at : native_in (slice_get log head.place) ≡ Some x
  pub stamp : stamp_of x ≡ head.stamp
  pub left : actions_in (drop head.place log) ≡ x ∷ actions_in (drop (head.place + 1) log)

pub begins : (log : List Entry) (head : Head) → StandsIn log head → (x : Action) × Begins log head x
begins log head stands = by_action (native_in (slice_get log head.place)) refl stands
  where
    by_action : (found : Option Action) → native_in (slice_get log head.place) ≡ found →
        option_map stamp_of found ≡ Some head.stamp → (x : Action) × Begins log head x
    by_action None at none = absurd (none-some head.stamp none)
    by_action (Some x) at is = (
      x,
      record {
        at = at;
        stamp = same_Some (stamp_of x) head.stamp is;
        left = ap actions_in (rest_at log head.place (Native x) (native_entry (slice_get log head.place) x at));
      },
    )

-- the stamp of the first action is in range
pub in_range : (log : List Entry) (done k : ℕ) (s : Stamp) →
    option_map stamp_of (native_in (slice_get log k)) ≡ Some s →
    actions_in (drop done log) ≡ actions_in (drop k log) → BeginsInRange (actions_in (drop done log)) → IsInRange s
in_range log done k s is so_far range =
    let head : Head = record { stamp = s; place = k } in
    let first = begins log head is in
    subst IsInRange first.1.stamp (subst BeginsInRange (so_far ∙ first.1.left) range)

-- and so is that of a collision, if all can be told
pub hit_in_range : (log : List Entry) (done k : ℕ) (change : Change) →
    Some change ≡ change_in (native_in (slice_get log k)) →
    PassesCrossings (actions_in (drop done log)) (actions_in (drop k log)) →
    AllCanBeTold (actions_in (drop done log)) → IsInRange change.stamp
hit_in_range log done k change is (gone, so_far, none) can =
    let stands = (hit_found log done k change is (gone, so_far, none)).stands in
    let first = begins log (record { stamp = change.stamp; place = k }) stands in
    subst IsInRange first.1.stamp (later_can gone first.0 (actions_in (drop (k + 1) log))
    (subst AllCanBeTold (so_far ∙ ap (λ (v : List Action). gone ++ v) first.1.left) can)).range

-- ---- all logs
pub left_at : (logs : List (List Entry)) (heads : Heads) (k : ℕ) → length heads ≡ length logs →
    get_or (lefts logs heads) k [] ≡ left_from (get_or logs k []) (head_at heads k)
left_at [] [] k same = refl
left_at [] (head ∷ heads) k same = absurd (omega (arith, same))
left_at (log ∷ logs) [] k same = absurd (omega (arith, same))
left_at (log ∷ logs) (head ∷ heads) zero same = refl
left_at (log ∷ logs) (head ∷ heads) (suc k) same = left_at logs heads k (omega (arith, same))

pub left_set : (logs : List (List Entry)) (heads : Heads) (k : ℕ) (new : Option Head) → length heads ≡ length logs →
    lefts logs (set heads k new) ≡ set (lefts logs heads) k (left_from (get_or logs k []) new)
left_set [] [] k new same = refl
left_set [] (head ∷ heads) k new same = absurd (omega (arith, same))
left_set (log ∷ logs) [] k new same = absurd (omega (arith, same))
left_set (log ∷ logs) (head ∷ heads) zero new same = refl
left_set (log ∷ logs) (head ∷ heads) (suc k) new same =
    ap (λ (v : List (List Action)). left_from log head ∷ v) (left_set logs heads k new (omega (arith, same)))

-- ---- nothing
pub none_merged : merged_of [] ≡ []
unfolding merged_of
none_merged = refl

pub nothing_untold : (first : Leader) → IsLeader [] first → AreUntold [] [] first
nothing_untold first is = record {
  count = refl;
  stand = λ k head at. absurd (none-some head at);
  leads = is;
  told = subst (CanBeTellings []) (sym none_merged) (record { merged = λ k. refl; can = tt; rise = λ k. tt });
}

-- ---- the first of all that is left
pub log_at : (logs : List (List Logged)) (k : ℕ) (log : List Logged) → k < length logs → log ≡ get_or logs k log →
    get_or (map entries_in logs) k [] ≡ entries_in log
log_at logs k log lt is = get_or-map entries_in logs k log [] lt ∙ ap entries_in (sym is)

-- the first action that is left, and the log that it is in
pub record FirstLeft (logs : List (List Entry)) (first : Leader) (log : List Entry) : Type 0 where
  pub stamp : Stamp
  pub leads : Some stamp ≡ first.stamp
  pub in_log : get_or logs first.number [] ≡ log
  pub action : Action
  pub found : native_in (slice_get log first.place) ≡ Some action

pub first_left : (logs : List (List Logged)) (heads : Heads) (first : Leader) →
    AreUntold (map entries_in logs) heads first → (first.stamp ≡ None → IsTrue false) → (log : List Logged) →
    log ≡ get_or logs first.number log → FirstLeft (map entries_in logs) first (entries_in log)
first_left logs heads first untold some log is =
    let there = stamp_there first.stamp some in
    let least = leads_at heads first there.0 untold.leads there.1 in
    let head : Head = record { stamp = there.0; place = first.place } in
    let in_log = log_at logs first.number log
    (subst (λ (n : ℕ). first.number < n) (untold.count ∙ length-map logs entries_in) least.0) is in
    let first_of = begins (entries_in log) head
    (subst (λ (es : List Entry). StandsIn es head) in_log (untold.stand first.number head least.1)) in
    record {
      stamp = there.0;
      leads = there.1;
      in_log = in_log;
      action = first_of.0;
      found = first_of.1.at;
    }

module _ (logs : List (List Entry)) (heads : Heads) (first : Leader) (untold : AreUntold logs heads first) where
  abbrev lists : List (List Action)
  lists = lefts logs heads

  -- if none leads, nothing is left
  pub none_untold : None ≡ first.stamp → merged_of lists ≡ []
  none_untold none = nothing_left lists (merged_of lists) untold.told.merged each
    where
      heads_none : IsLeadingHead heads None
      heads_none = none_leads heads first untold.leads none

      each : (k : ℕ) → get_or lists k [] ≡ []
      each k = left_at logs heads k untold.count ∙ ap (left_from (get_or logs k [])) (heads_none k)

  module _ (log : List Entry) (here : FirstLeft logs first log) where
    abbrev s : Stamp
    s = here.stamp

    abbrev x : Action
    x = here.action

    abbrev head : Head
    head = record { stamp = s; place = first.place }

    least : IsLeadingHead heads (Some (first.number, head))
    least = leads_at heads first s untold.leads here.leads

    of_head : (x : Action) × Begins log head x
    of_head = begins log head (subst (λ (es : List Entry). StandsIn es head) here.in_log (untold.stand first.number head least.1))

    -- its action is there
    pub is_there : IsSome (native_in (slice_get log first.place))
    is_there = ap is_some of_head.1.at

    pub place_within : first.place < length log
    place_within = native_within log first.place of_head.0 of_head.1.at

    abbrev rest : List Action
    rest = actions_in (drop (first.place + 1) log)

    own : get_or lists first.number [] ≡ x ∷ rest
    own = left_at logs heads first.number untold.count ∙ ap (left_from (get_or logs first.number [])) least.1
        ∙ ap (λ (es : List Entry). left_from es (Some head)) here.in_log ∙ of_head.1.left
        ∙ ap (λ (v : Action). v ∷ rest) (same_Some of_head.0 x (sym of_head.1.at ∙ here.found))

    stamp_at : stamp_of x ≡ s
    stamp_at = ap stamp_of (same_Some x of_head.0 (sym here.found ∙ of_head.1.at)) ∙ of_head.1.stamp

    none_before : NoneBeginsBefore lists x
    none_before q y ys at = by_head (head_at heads q) refl
        (sym (left_at logs heads q untold.count) ∙ at)
      where
        by_head : (found : Option Head) → head_at heads q ≡ found →
            left_from (get_or logs q []) (head_at heads q) ≡ y ∷ ys → ¬ Before (stamp_of y) (stamp_of x)
        by_head None is left = let same : [] ≡ y ∷ ys = sym (ap (left_from (get_or logs q [])) is) ∙ left in absurd cc
        by_head (Some other) is left =
            let begin = begins (get_or logs q []) other (untold.stand q other is) in
            let same : begin.0 ∷ actions_in (drop (other.place + 1) (get_or logs q [])) ≡ y ∷ ys =
            sym begin.1.left ∙ sym (ap (left_from (get_or logs q [])) is) ∙ left in
            let first_is : begin.0 ≡ y = cc in
            λ less. least.2 q other is (subst (λ (v : Stamp). Before v s)
            (sym (ap stamp_of first_is) ∙ begin.1.stamp) (subst (Before (stamp_of y)) stamp_at less))

    pub goes : GoesFirst lists first.number x rest (merged_of lists)
    goes = least_goes lists first.number x rest (merged_of lists) untold.told.merged own none_before

    -- it may be told
    pub may_be_told : MayBeTold x
    may_be_told = (first_can lists (merged_of lists) first.number x rest untold.told own).may

    within : first.number < length lists
    within = within_lists lists first.number x rest own

    -- it is the first of all
    pub is_first : merged_of lists ≡ x ∷ goes.others
    is_first = goes.first

    others_can : CanBeTellings (set lists first.number rest) goes.others
    others_can = record {
      merged = goes.merged;
      can = (subst AllCanBeTold goes.first untold.told.can).1;
      rise = lists_still_rise lists first.number rest untold.told.rise within
          (subst ActionStampsRise own (untold.told.rise first.number)).1;
    }

    -- so can the one after it
    pub next_in_range : BeginsInRange rest
    next_in_range = by_rest rest refl
      where
        by_rest : (left : List Action) → rest ≡ left → BeginsInRange left
        by_rest [] is = tt
        by_rest (y ∷ ys) is = (first_can (set lists first.number rest) goes.others first.number y ys others_can
            (get_or-set_same lists first.number rest [] (within_lists lists first.number x rest own) ∙ is)).range

    -- and all those
    pub rest_can : AllCanBeTold rest
    rest_can = subst AllCanBeTold (get_or-set_same lists first.number rest [] within)
        (list_can (set lists first.number rest) goes.others first.number others_can.merged others_can.can)

    -- with another head in its place
    module _ (new : Option Head) (stands : IfSome new (StandsIn log)) where
      abbrev later : Heads
      later = set heads first.number new

      abbrev left : List Action
      left = left_from log new

      lists_are : lefts logs later ≡ set lists first.number left
      lists_are = left_set logs heads first.number new untold.count
          ∙ ap (λ (es : List Entry). set lists first.number (left_from es new)) here.in_log

      stand : (k : ℕ) (other : Head) → head_at later k ≡ Some other → StandsIn (get_or logs k []) other
      stand k other at = elim (same_or_other k first.number) [
        | inl same ↦
            let is : new ≡ Some other = sym (get_or-set_same heads first.number new None least.0)
            ∙ sym (ap (head_at later) same) ∙ at in
            subst (λ (n : ℕ). StandsIn (get_or logs n []) other) (sym same)
            (subst (λ (es : List Entry). StandsIn es other) (sym here.in_log)
            (subst (λ (o : Option Head). IfSome o (StandsIn log)) is stands))
        | inr not ↦ untold.stand k other (sym (get_or-set_other heads first.number k new None not) ∙ at)
      ]

      module _ (xs : List Action) (can : CanBeTellings (set lists first.number left) xs) where
        left_is : merged_of (lefts logs later) ≡ xs
        left_is = ap merged_of lists_are ∙ merge_is (set lists first.number left) xs can.merged

        left_untold : (leader : Leader) → IsLeader later leader → AreUntold logs later leader
        left_untold leader is = record {
          count = length-set heads first.number new ∙ untold.count;
          stand = stand;
          leads = is;
          told = subst (CanBeTellings (lefts logs later)) (sym left_is)
              (subst (λ (v : List (List Action)). CanBeTellings v xs) (sym lists_are) can);
        }

    -- with the next head in its place
    module _ (new : Option Head) (next : IsNextHead log (first.place + 1) new) where
      tellings : CanBeTellings (set lists first.number (left_from log new)) goes.others
      tellings = subst (λ (v : List Action). CanBeTellings (set lists first.number v) goes.others) (sym next.left)
          others_can

      -- all but the first is left
      pub one_goes : merged_of lists ≡ x ∷ merged_of (lefts logs (set heads first.number new))
      one_goes = goes.first ∙ ap (λ (v : List Action). x ∷ v) (sym (left_is new next.stands goes.others tellings))

      pub still_untold : (leader : Leader) → IsLeader (set heads first.number new) leader →
          AreUntold logs (set heads first.number new) leader
      still_untold = left_untold new next.stands goes.others tellings

    -- with the head of the next collision in its place
    module _ (new : Option Head) (next : IsNextHit log (first.place + 1) new) where
      abbrev after : List Action
      after = left_from log new

      passed : Passed (set lists first.number rest) first.number after goes.others
      passed = crossings_passed next.passed.0 (set lists first.number rest) first.number after goes.others
          next.passed.2 others_can
          (get_or-set_same lists first.number rest [] within ∙ next.passed.1)

      hit_tellings : CanBeTellings (set lists first.number after) passed.others
      hit_tellings = subst (λ (v : List (List Action)). CanBeTellings v passed.others)
          (set-set lists first.number rest after) passed.tellings

      others_are : merged_of (lefts logs (set heads first.number new)) ≡ passed.others
      others_are = left_is new next.stands passed.others hit_tellings

      -- all collisions are left but it
      pub hits_go : hits (merged_of lists) ≡ hits (x ∷ []) ++ hits (merged_of (lefts logs (set heads first.number new)))
      hits_go = ap hits goes.first ∙ hits_join (x ∷ []) goes.others
          ∙ ap (λ (v : List Change). hits (x ∷ []) ++ v) (sym passed.same ∙ sym (ap hits others_are))

      pub fewer_left : length (merged_of (lefts logs (set heads first.number new))) < length (merged_of lists)
      fewer_left = omega (
        arith,
        ap (λ (v : List Action). length v) others_are,
        ap (λ (v : List Action). length v) goes.first,
        passed.fewer,
      )

      pub hits_untold : (leader : Leader) → IsLeader (set heads first.number new) leader →
          AreUntold logs (set heads first.number new) leader
      hits_untold = left_untold new next.stands passed.others hit_tellings

-- ---- logs that are taken in
pub first_heads_none : (logs : List (List Entry)) → AreFirstHeads logs 0 []
first_heads_none logs = record { count = refl; each = λ k below. absurd (omega arith) }

pub first_heads_more : (logs : List (List Entry)) (n : ℕ) (heads : Heads) (head : Option Head) →
    AreFirstHeads logs n heads → IsNextHead (get_or logs n []) 0 head → AreFirstHeads logs (n + 1) (heads ++ head ∷ [])
first_heads_more logs n heads head so_far next = record {
  count = length_push heads head ∙ ap (λ (m : ℕ). m + 1) so_far.count;
  each = λ k below. elim (below_or_last k n below) [
    | inl less ↦ subst (IsNextHead (get_or logs k []) 0)
        (sym (get_or_append_left heads (head ∷ []) None k (subst (λ (m : ℕ). k < m) (sym so_far.count) less)))
        (so_far.each k less)
    | inr same ↦ subst (λ (m : ℕ). IsNextHead (get_or logs m []) 0 (head_at (heads ++ head ∷ []) k)) (sym same)
        (subst (IsNextHead (get_or logs n []) 0) (sym (get_or_push heads head None k (so_far.count ∙ sym same))) next)
  ];
}

-- all their actions are left
all_left : (logs : List (List Entry)) (heads : Heads) → length heads ≡ length logs →
    ((k : ℕ) → k < length logs → left_from (get_or logs k []) (head_at heads k) ≡ actions_in (get_or logs k [])) →
    lefts logs heads ≡ map actions_in logs
all_left [] [] same each = refl
all_left [] (head ∷ heads) same each = absurd (omega (arith, same))
all_left (log ∷ logs) [] same each = absurd (omega (arith, same))
all_left (log ∷ logs) (head ∷ heads) same each =
    ap (λ (v : List Action). v ∷ lefts logs heads) (each zero (omega arith))
    ∙ ap (λ (v : List (List Action)). actions_in log ∷ v)
    (all_left logs heads (omega (arith, same)) (λ k lt. each (suc k) (omega (arith, lt))))

module _ (logs : List (List Entry)) (heads : Heads) (firsts : AreFirstHeads logs (length logs) heads) where
  are_left : lefts logs heads ≡ map actions_in logs
  are_left = all_left logs heads firsts.count (λ k lt. (firsts.each k lt).left)

  pub begins_as : (xs : List Action) → CanBeTellings (map actions_in logs) xs → merged_of (lefts logs heads) ≡ xs
  begins_as xs can = ap merged_of are_left ∙ merge_is (map actions_in logs) xs can.merged

  pub are_untold : (first : Leader) (xs : List Action) → CanBeTellings (map actions_in logs) xs → IsLeader heads first →
      AreUntold logs heads first
  are_untold first xs can is = record {
    count = firsts.count;
    stand = λ k head at. elim (cases_lt k (length logs)) [
      | inl lt ↦ subst (λ (o : Option Head). IfSome o (StandsIn (get_or logs k []))) at (firsts.each k lt).stands
      | inr past ↦ absurd (none-some head (sym (get_or_past heads k None (omega (arith, firsts.count, past))) ∙ at))
    ];
    leads = is;
    told = subst (CanBeTellings (lefts logs heads)) (sym (begins_as xs can))
        (subst (λ (v : List (List Action)). CanBeTellings v xs) (sym are_left) can);
  }

-- and begin in range
pub begin_in_range : (logs : List (List Entry)) (xs : List Action) → CanBeTellings (map actions_in logs) xs →
    AllBeginInRange logs
begin_in_range logs xs can k = by_left (actions_in (get_or logs k [])) refl
  where
    mapped : (logs : List (List Entry)) (k : ℕ) → get_or (map actions_in logs) k [] ≡ actions_in (get_or logs k [])
    mapped [] k = refl
    mapped (es ∷ logs) zero = refl
    mapped (es ∷ logs) (suc k) = mapped logs k

    by_left : (left : List Action) → actions_in (get_or logs k []) ≡ left → BeginsInRange left
    by_left [] is = tt
    by_left (y ∷ ys) is = (first_can (map actions_in logs) xs k y ys can (mapped logs k ∙ is)).range
