-- Crossings that are passed before it is their turn: what is merged then has the same collisions.
use Rattle.std.proofs.Common.{◌≡◌, ◌≢◌, inl, inr, ℕ, ◌<◌, ◌≤◌, List, [], ◌∷◌, ◌++◌, length, set, get_or, get_or-set_same, get_or-set_other}
use Rattle.std.proofs.Common.{sym, ap, ◌∙◌, subst, refl, arith}
use Rattle.std.proofs.lemmas.Grind.{common_steps}
use Rattle.std.proofs.lemmas.List.{set-set, set_comm, set-get_or}
use Rattle.event_stamps.specs.declared.Stamp.{Stamp}
use Rattle.event_stamps.specs.Order.{Before}
use Rattle.event_stamps.proofs.StampOrder.{before_trans}
use Rattle.event_rules.specs.declared.change.Change.{Change}
use Rattle.region_view.specs.declared.action.Action.{Action}
use Rattle.region_view.specs.declared.action.Action.TheVariants.{Cross, Hit}
use Rattle.region_view.specs.Acting.{stamp_of}
use Rattle.cell_sequence.specs.Run.{hits}
use Rattle.cell_sequence.proofs.Joins.{hits_join}
use Rattle.local_run.proofs.Among.{same_or_other}
use Rattle.commit_horizon.specs.Horizon.{ActionStampsRise}
use Rattle.commit_horizon.specs.Untold.{PassesCrossings, ActionsBeginAfter, IsMergeOf, CanBeTold, AllCanBeTold, AllListsRise, CanBeTellings}
use Rattle.commit_horizon.proofs.MergedLists.{within_lists}

-- ---- one list
pub later_can : (gone : List Action) (x : Action) (rest : List Action) → AllCanBeTold (gone ++ x ∷ rest) → CanBeTold x
later_can [] x rest can = can.0
later_can (y ∷ gone) x rest can = later_can gone x rest can.1

-- one crossing more
pub passes_one : (x : Action) (old mid new : List Action) → PassesCrossings old mid → mid ≡ x ∷ new → hits (x ∷ []) ≡ [] →
    PassesCrossings old new
passes_one x old mid new (gone, is, none) more nothing =
    (gone ++ x ∷ [], joined gone is more, hits_join gone (x ∷ []) ∙ ap (λ (v : List Change). v ++ hits (x ∷ [])) none ∙ nothing)
  where
    joined : (gone : List Action) → old ≡ gone ++ mid → mid ≡ x ∷ new → old ≡ (gone ++ x ∷ []) ++ new
    joined gone a b = grind (arith, common_steps)

-- what comes before a crossing comes before what is after it
after_passed : (y x : Action) (rest : List Action) → Before (stamp_of y) (stamp_of x) → ActionStampsRise (x ∷ rest) →
    ActionsBeginAfter y rest
after_passed y x [] before rise = tt
after_passed y x (z ∷ zs) before rise =
    before_trans (stamp_of y) (stamp_of x) (stamp_of z) before (rise.0 z (inl refl))

same_hits : (y : Action) (xs ys : List Action) → hits xs ≡ hits ys → hits (y ∷ xs) ≡ hits (y ∷ ys)
same_hits (Cross s cell) xs ys same = same
same_hits (Hit change) xs ys same = ap (λ (v : List Change). change ∷ v) same

-- ---- all lists
pub lists_still_rise : (lists : List (List Action)) (k : ℕ) (rest : List Action) → AllListsRise lists → k < length lists →
    ActionStampsRise rest → AllListsRise (set lists k rest)
lists_still_rise lists k rest rise within here q = elim (same_or_other q k) [
  | inl same ↦ subst ActionStampsRise
      (sym (ap (λ (n : ℕ). get_or (set lists k rest) n []) same ∙ get_or-set_same lists k rest [] within)) here
  | inr other ↦ subst ActionStampsRise (sym (get_or-set_other lists k q rest [] other)) (rise q)
]

-- what is merged if a list begins later
record Merged (lists : List (List Action)) (k : ℕ) (rest xs : List Action) : Type 0 where
  pub others : List Action
  pub merged : IsMergeOf (set lists k rest) others
  pub can : AllCanBeTold others
  pub same : hits others ≡ hits xs
  pub fewer : length others ≤ length xs

crossing_passed : (lists : List (List Action)) (k : ℕ) (s : Stamp) (cell : ℕ) (rest xs : List Action) →
    IsMergeOf lists xs → AllCanBeTold xs → get_or lists k [] ≡ Cross s cell ∷ rest → ActionStampsRise (Cross s cell ∷ rest) →
    Merged lists k rest xs
crossing_passed lists k s cell rest [] none can at rise =
    let same : [] ≡ Cross s cell ∷ rest = sym (none k) ∙ at in absurd cc
crossing_passed lists k s cell rest (y ∷ ys) (j, tail, there, others, more) can at rise = elim (same_or_other k j) [
  | inl same ↦
      let is : y ∷ tail ≡ Cross s cell ∷ rest = sym there ∙ sym (ap (λ (n : ℕ). get_or lists n []) same) ∙ at in
      let first : y ≡ Cross s cell = cc in
      let left : tail ≡ rest = cc in record {
        others = ys;
        merged = subst (λ (n : ℕ). IsMergeOf (set lists n rest) ys) (sym same)
            (subst (λ (v : List Action). IsMergeOf (set lists j v) ys) left more);
        can = can.1;
        same = sym (ap (λ (v : Action). hits (v ∷ ys)) first);
        fewer = omega arith;
      }
  | inr other ↦
      let apart : j ≢ k = λ e. other (sym e) in
      let passed = crossing_passed (set lists j tail) k s cell rest ys more can.1
      (get_or-set_other lists j k tail [] other ∙ at) rise in record {
        others = y ∷ passed.others;
        merged = (
          j,
          tail,
          get_or-set_other lists k j rest [] apart ∙ there,
          λ q not. begins_after y j others other q not,
          subst (λ (v : List (List Action)). IsMergeOf v passed.others) (set_comm lists j k tail rest apart) passed.merged,
        );
        can = (can.0, passed.can);
        same = same_hits y passed.others ys passed.same;
        fewer = let fewer = passed.fewer in omega arith;
      }
]
  where
    begins_after : (y : Action) (j : ℕ) → ((q : ℕ) → q ≢ j → ActionsBeginAfter y (get_or lists q [])) → k ≢ j → (q : ℕ) → q ≢ j →
        ActionsBeginAfter y (get_or (set lists k rest) q [])
    begins_after y j others other q not = elim (same_or_other q k) [
      | inl same ↦ subst (ActionsBeginAfter y) (sym (ap (λ (n : ℕ). get_or (set lists k rest) n []) same
          ∙ get_or-set_same lists k rest [] (within_lists lists k (Cross s cell) rest at)))
          (after_passed y (Cross s cell) rest (subst (ActionsBeginAfter y) at (others k other)) rise)
      | inr apart ↦ subst (ActionsBeginAfter y) (sym (get_or-set_other lists k q rest [] apart)) (others q not)
    ]

-- what can be told if a list begins later, by crossings alone
pub record Passed (lists : List (List Action)) (k : ℕ) (rest xs : List Action) : Type 0 where
  pub others : List Action
  pub tellings : CanBeTellings (set lists k rest) others
  pub same : hits others ≡ hits xs
  pub fewer : length others ≤ length xs

pub crossings_passed : (gone : List Action) (lists : List (List Action)) (k : ℕ) (rest xs : List Action) →
    hits gone ≡ [] → CanBeTellings lists xs → get_or lists k [] ≡ gone ++ rest → Passed lists k rest xs
crossings_passed [] lists k rest xs none can at = record {
  others = xs;
  tellings = subst (λ (v : List (List Action)). CanBeTellings v xs)
      (sym (ap (λ (v : List Action). set lists k v) (sym at) ∙ set-get_or lists k [])) can;
  same = refl;
  fewer = omega arith;
}
crossings_passed (Hit change ∷ gone) lists k rest xs none can at =
    let same : change ∷ hits gone ≡ [] = none in absurd cc
crossings_passed (Cross s cell ∷ gone) lists k rest xs none can at =
    let rise = subst ActionStampsRise at (can.rise k) in
    let within = within_lists lists k (Cross s cell) (gone ++ rest) at in
    let first = crossing_passed lists k s cell (gone ++ rest) xs can.merged can.can at rise in
    let more = crossings_passed gone (set lists k (gone ++ rest)) k rest first.others none (record {
      merged = first.merged;
      can = first.can;
      rise = lists_still_rise lists k (gone ++ rest) can.rise within rise.1;
    }) (get_or-set_same lists k (gone ++ rest) [] within) in
    let fewer = first.fewer in
    let fewest = more.fewer in record {
      others = more.others;
      tellings = subst (λ (v : List (List Action)). CanBeTellings v more.others) (set-set lists k (gone ++ rest) rest)
          more.tellings;
      same = more.same ∙ first.same;
      fewer = omega arith;
    }
