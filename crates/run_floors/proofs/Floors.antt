-- The states of one cell run, told apart by their floors.
use Rattle.std.proofs.Common.{◌≡◌, ℕ, List, [], ◌∷◌, ◌++◌, Option, Some, None, sym, ap, ◌∙◌, subst, refl}
use Rattle.std.specs.Prelude.{⊤, option_map, slice_get}
use Rattle.std.specs.FinMap as map
use Rattle.std.proofs.lemmas.Option.{none-some}
use Rattle.fixed_motion.specs.declared.rules.Rules.{Rules}
use Rattle.fixed_motion.specs.declared.disk.Disk.{Disk}
use Rattle.fixed_motion.specs.Scene.{SceneData, IsValidScene}
use Rattle.event_stamps.specs.declared.Stamp.{Stamp}
use Rattle.event_stamps.specs.Order.{Before, first_stamp, end_stamp}
use Rattle.event_stamps.proofs.StampOrder.{before_trans, not_before_itself}
use Rattle.cell_grid.specs.Grid.{GridData, IsGridOf}
use Rattle.region_view.specs.declared.action.Placed.{Placed}
use Rattle.region_view.specs.declared.action.Action.{Action}
use Rattle.region_view.specs.Acting.{stamp_of}
use Rattle.region_view.specs.Placing.{Placing}
use Rattle.region_view.specs.Views.{ViewData, IsViewOf}
use Rattle.region_view.proofs.Puts.{same_view}
use Rattle.cell_sequence.specs.Run.{opened, acted, CellSteps, CellRuns, IsStateCandidate}
use Rattle.cell_sequence.specs.State.{CellStateData, IsReached, IsNotBefore, last_stamp}
use Rattle.cell_sequence.specs.Laws.{ActionsRiseFrom}
use Rattle.cell_sequence.proofs.Exists.{one_action, cell_steps_begin, each_scene_cell_runs}
use Rattle.cell_sequence.proofs.Orderly.{cell_states_are_orderly}
use Rattle.cell_sequence.proofs.Hits.{stamps_rise}
use Rattle.cell_sequence.proofs.Seen.{next_actions_are_seen}
use Rattle.local_run.specs.LocalRun.{Local}
use Rattle.local_run.specs.Standing.{StandsOn}
use Rattle.run_floors.specs.Floors.{IsPast, AreOfOneRun}
use Rattle.run_floors.specs.Laws.{OneStateAtAFloor, SameFloorBeginsAlike, FloorsAloneDontTell}

-- ---- one run
pub same_run : (a : CellStateData) → AreOfOneRun a a
same_run a = record { rules = refl; grid = refl; opening = refl }

pub run_goes_on : (a b d : CellStateData) → AreOfOneRun a b → AreOfOneRun b d → AreOfOneRun a d
run_goes_on a b d one more = record {
  rules = one.rules ∙ more.rules;
  grid = one.grid ∙ more.grid;
  opening = one.opening ∙ more.opening;
}

-- both are of the run of a third state
pub of_one_run : (a b d : CellStateData) → AreOfOneRun a b → AreOfOneRun a d → AreOfOneRun b d
of_one_run a b d one other = record {
  rules = sym one.rules ∙ other.rules;
  grid = sym one.grid ∙ other.grid;
  opening = sym one.opening ∙ other.opening;
}

-- ---- one way to a floor
-- each comes before the stamp
abbrev AllBefore : Stamp → List Action → Type 0
AllBefore f [] = ⊤
AllBefore f (x ∷ xs) = Before (stamp_of x) f × AllBefore f xs

-- no event of the rows comes before the stamp
abbrev NoneBelow : Rules → GridData → List Placed → Stamp → Type 0
NoneBelow rules grid placed f = (s : Stamp) → IsStateCandidate rules grid placed s → ¬ Before s f

one_way : (rules : Rules) (grid : GridData) (placed a b : List Placed) (xs ys : List Action) (f : Stamp) →
    CellSteps rules grid placed xs a → CellSteps rules grid placed ys b → AllBefore f xs → AllBefore f ys →
    NoneBelow rules grid a f → NoneBelow rules grid b f → (xs ≡ ys) × (a ≡ b)
one_way rules grid placed a b [] [] f h k p q na nb = (refl, h ∙ sym k)
one_way rules grid placed a b [] (y ∷ ys) f h k p q na nb =
    absurd (subst (λ (v : List Placed). NoneBelow rules grid v f) h na (stamp_of y) k.0.0 q.0)
one_way rules grid placed a b (x ∷ xs) [] f h k p q na nb =
    absurd (subst (λ (v : List Placed). NoneBelow rules grid v f) k nb (stamp_of x) h.0.0 p.0)
one_way rules grid placed a b (x ∷ xs) (y ∷ ys) f h k p q na nb =
    let e : x ≡ y = one_action rules grid placed x y h.0 k.0 h.1 k.1 in
    let rest : CellSteps rules grid (acted placed x) ys b =
    subst (λ (v : Action). CellSteps rules grid (acted placed v) ys b) (sym e) k.2 in
    let both = one_way rules grid (acted placed x) a b xs ys f h.2 rest p.1 q.1 na nb in
    (let tails : xs ≡ ys = both.0 in cc, both.1)

-- actions whose stamps rise, the last of them before a stamp, all come before it
rise_before : (s f : Stamp) (xs rest : List Action) → ActionsRiseFrom s (xs ++ rest) → IsPast (last_stamp xs) f →
    AllBefore f xs
rise_before s f [] rest rise past = tt
rise_before s f (x ∷ []) rest rise past = (past, tt)
rise_before s f (x ∷ y ∷ xs) rest rise past =
    let more = rise_before (stamp_of x) f (y ∷ xs) rest rise.1 past in
    (before_trans (stamp_of x) (stamp_of y) f rise.1.0 more.0, more)

-- the actions of the cell run that led to a state at its floor come before the floor
all_before : (rules : Rules) (grid : GridData) (disks : List Disk) (placed : List Placed) (last : Option Stamp)
    (f : Stamp) → IsValidScene (record { rules = rules; disks = disks; every = None }) → IsGridOf rules grid →
    (is : IsReached rules grid disks last placed) → IsPast last f → AllBefore f is.0
all_before rules grid disks placed last f valid of is past =
    let scene : SceneData = record { rules = rules; disks = disks; every = None } in
    let run = each_scene_cell_runs scene of.0 valid of.1 in
    let there = subst (λ (g : GridData). CellRuns rules g (opened g disks) run.0 run.1) (sym of.2) run.2 in
    let begun = cell_steps_begin rules grid (opened grid disks) placed is.0 run.0 run.1 is.1 there in
    let rise = (stamps_rise scene of.0 run.0 run.1 valid of.1 run.2).0 in
    rise_before first_stamp f is.0 begun.0
    (subst (ActionsRiseFrom first_stamp) begun.1 rise)
    (subst (λ (v : Option Stamp). IsPast v f) is.2 past)

-- the last stamp and the rows are the same
same_parts : (rules : Rules) (grid : GridData) (disks : List Disk) (a b : List Placed) (m n : Option Stamp)
    (f : Stamp) → IsValidScene (record { rules = rules; disks = disks; every = None }) → IsGridOf rules grid →
    IsReached rules grid disks m a → IsReached rules grid disks n b → IsPast m f → IsPast n f →
    NoneBelow rules grid a f → NoneBelow rules grid b f → (m ≡ n) × (a ≡ b)
same_parts rules grid disks a b m n f valid of is other past past_other none none_other =
    let both = one_way rules grid (opened grid disks) a b is.0 other.0 f is.1 other.1
    (all_before rules grid disks a m f valid of is past)
    (all_before rules grid disks b n f valid of other past_other) none none_other in
    (is.2 ∙ ap last_stamp both.0 ∙ sym other.2, both.1)

pub one_state_at_a_floor : OneStateAtAFloor
one_state_at_a_floor a b at other one floor =
    let reached : IsReached a.rules a.grid a.opening b.last b.placed =
    subst (λ (r : Rules). IsReached r a.grid a.opening b.last b.placed) (sym one.rules)
    (subst (λ (g : GridData). IsReached b.rules g a.opening b.last b.placed) (sym one.grid)
    (subst (λ (ds : List Disk). IsReached b.rules b.grid ds b.last b.placed) (sym one.opening) other.is.reached)) in
    let past : IsPast b.last a.floor = subst (IsPast b.last) (sym floor) other.past in
    let none : NoneBelow a.rules a.grid b.placed a.floor =
    subst (λ (r : Rules). NoneBelow r a.grid b.placed a.floor) (sym one.rules)
    (subst (λ (g : GridData). NoneBelow b.rules g b.placed a.floor) (sym one.grid)
    (subst (NoneBelow b.rules b.grid b.placed) (sym floor) other.is.none_below)) in
    let parts = same_parts a.rules a.grid a.opening a.placed b.placed a.last b.last a.floor at.is.scene at.is.grid
    at.is.reached reached at.past past at.is.none_below none in
    λ i. record {
      rules = one.rules i;
      grid = one.grid i;
      opening = one.opening i;
      last = parts.0 i;
      placed = parts.1 i;
      floor = floor i;
    }

-- ---- regions
-- two options with the same content are the same
same_option : {A : Type 0} (a b : Option A) → ((x : A) → a ≡ Some x → b ≡ Some x) →
    ((x : A) → b ≡ Some x → a ≡ Some x) → a ≡ b
same_option None None there back = refl
same_option None (Some y) there back = back y refl
same_option (Some x) b there back = sym (there x refl)

one_view : (grid : GridData) (k : ℕ) (at : Placing) (v w : ViewData) → IsViewOf grid k at v →
    IsViewOf grid k at w → v ≡ w
one_view grid k at v w is other = same_view v w (λ i. same_option (map.get v i) (map.get w i)
    (λ p there. (other i p).1 ((is i p).0 there)) (λ p there. (is i p).1 ((other i p).0 there)))

pub same_floor_begins_alike : SameFloorBeginsAlike
same_floor_begins_alike a b k old new at other one stands again floor =
    let same = one_state_at_a_floor a b at other one (sym stands.floor ∙ sym floor ∙ again.floor) in
    let here : StandsOn a k new = subst (λ (v : CellStateData). StandsOn v k new) (sym same) again in
    let base : here.run.base ≡ stands.run.base =
    one_view a.grid k (slice_get a.placed) here.run.base stands.run.base here.base stands.base in
    record {
      alive = λ none. none-some here.run (sym none ∙ here.alive);
      begins = record {
        home = same_home (here.number ∙ sym stands.number) (here.rules ∙ sym stands.rules)
            (here.grid ∙ sym stands.grid);
        floor = floor;
        base = ap (option_map (λ (run : Local). run.base)) here.alive ∙ ap Some base
            ∙ sym (ap (option_map (λ (run : Local). run.base)) stands.alive);
      };
    }
  where
    same_home : new.home.number ≡ old.home.number → new.home.rules ≡ old.home.rules →
        new.home.grid ≡ old.home.grid → new.home ≡ old.home
    same_home number rules grid = λ i. record { number = number i; rules = rules i; grid = grid i }

-- ---- the last action's stamp as the floor
not_after : (last : Option Stamp) (s : Stamp) → ((l : Stamp) → last ≡ Some l → Before l s) → IsNotBefore last s
not_after None s before = tt
not_after (Some l) s before = λ h. not_before_itself s (before_trans s l s h (before l refl))

pub floors_alone_dont_tell : FloorsAloneDontTell
floors_alone_dont_tell state x is next =
    let orderly = cell_states_are_orderly state is in
    let seen = next_actions_are_seen state x is next in record {
      is_before = record {
        scene = is.scene;
        grid = is.grid;
        reached = is.reached;
        after_last = not_after state.last (stamp_of x)
            (λ l e. orderly.after_last l (stamp_of x) e next.0.0);
        before_end = λ h. not_before_itself (stamp_of x)
            (before_trans (stamp_of x) (end_stamp state.rules.end) (stamp_of x) (orderly.before_end (stamp_of x) next.0.0) h);
        none_below = next.0.1;
      };
      is_after = seen.leads;
      one_run = record { rules = refl; grid = refl; opening = refl };
      floor = refl;
      differ = λ same. not_before_itself (stamp_of x) (orderly.after_last (stamp_of x) (stamp_of x)
          (ap (λ (v : CellStateData). v.last) same) next.0.0);
    }
