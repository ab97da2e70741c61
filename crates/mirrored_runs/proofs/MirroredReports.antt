-- Reports mirrored: their lines, in the order of the report.
use Rattle.std.proofs.Common.{◌≡◌, ℕ, ◌+◌, ◌*◌, pos, nat_abs, Bool, List, [], ◌∷◌, ◌++◌, map, cond, append-nil, sym, ap, ◌∙◌, subst, refl, Option, Some, None}
use Rattle.std.specs.Prelude.{flat_map, fold, sum_by, count_by, is_none, is_some, ⊤}
use Rattle.std.proofs.lemmas.Grind.{flat_map-append}
use Rattle.std.proofs.lemmas.List.{map-append}
use Rattle.std.proofs.lemmas.List.Folds.{fold-map}
use Rattle.std.proofs.lemmas.List.Sums.{sum_by-cons}
use Rattle.plane_vectors.specs.declared.Vector.{Vector}
use Rattle.plane_vectors.specs.Vectors.{vector, sum}
use Rattle.fixed_motion.specs.declared.rules.Rules.{Rules}
use Rattle.fixed_motion.specs.declared.disk.Disk.{Disk}
use Rattle.fixed_motion.specs.Motion.{velocity_of}
use Rattle.fixed_motion.specs.Scene.{SceneData}
use Rattle.event_stamps.specs.declared.Stamp.{Stamp}
use Rattle.event_stamps.specs.declared.Kind.{Kind}
use Rattle.event_stamps.specs.declared.Kind.TheVariants.{Cross, Wall, Pair}
use Rattle.event_rules.specs.declared.change.Change.{Change}
use Rattle.event_rules.specs.declared.change.Limit.TheVariants.{Rounds, Speed}
use Rattle.event_rules.specs.declared.outcome.Spot.{Spot}
use Rattle.event_rules.specs.declared.outcome.Outcome.{Outcome}
use Rattle.event_rules.specs.declared.outcome.Outcome.TheVariants.{Done, Limit as Passes}
use Rattle.event_rules.specs.Laws.{last_tick}
use Rattle.event_rules.specs.Told.{HasDisksOf, IsTellable}
use Rattle.event_rules.specs.Run.{Runs, effect, spots_of}
use Rattle.event_rules.specs.Conservation.{spot_velocity, square_of, total_of, energy_of}
use Rattle.event_rules.proofs.Ran.{ran, ran_tellable}
use Rattle.event_rules.proofs.OneRun.{one_run}
use Rattle.collision_report.specs.declared.format.Format.{Format}
use Rattle.collision_report.specs.declared.format.Format.TheVariants.{Lines, Summary}
use Rattle.collision_report.specs.Lines.{event_line}
use Rattle.collision_report.specs.Blocks.{disk_lines, block, blocks, block_ticks}
use Rattle.collision_report.specs.Report.{listed, is_wall, is_pair, latest, changes_text, last_blocks, counts_text, end_block, report}
use Rattle.mirrored_runs.specs.Mirror.{Axis, LeftRight, BottomTop, mirrored, mirrored_vector, mirrored_scene, mirrored_side, mirrored_second, mirrored_if, mirrored_change, mirrored_spot, mirrored_outcome}
use Rattle.mirrored_runs.specs.Reports.{Line, WallLine, PairLine, StateLine, DiskLine, DoneLine, LimitLine, WallsLine, PairsLine, MomentumLine, EnergyLine, line_text, mirrored_line, AreMirrored, ReportsMirror}
use Rattle.alike_runs.proofs.Turned.{neg_size}
use Rattle.mirrored_runs.proofs.Mirrored.{sum_mirrored}
use Rattle.mirrored_runs.proofs.MirroredRuns.{mirrored_disks, effect_mirrored, spots_mirrored, runs_mirror}

-- ---- sums
sum_stays : {A : Type 0} (f : A → ℕ) (turn : A → A) → ((item : A) → f (turn item) ≡ f item) → (items : List A) →
    sum_by f (map turn items) ≡ sum_by f items
sum_stays f turn same [] = refl
sum_stays f turn same (item ∷ items) =
    sum_by-cons f (turn item) (map turn items) ∙ (λ i. same item i + sum_stays f turn same items i) ∙ sym (sum_by-cons f item items)

square_mirrored : (axis : Axis) (v : Vector) → square_of (mirrored_vector axis v) ≡ square_of v
square_mirrored LeftRight v = let size = neg_size v.x in λ i. size i * size i + nat_abs v.y * nat_abs v.y
square_mirrored BottomTop v = let size = neg_size v.y in λ i. nat_abs v.x * nat_abs v.x + size i * size i

none_mirrored : (axis : Axis) → mirrored_vector axis (vector (pos 0) (pos 0)) ≡ vector (pos 0) (pos 0)
none_mirrored LeftRight = refl
none_mirrored BottomTop = refl

-- items whose velocities are mirrored
module _ (axis : Axis) {A : Type 0} (velocity : A → Vector) (turn : A → A)
    (turns : (item : A) → velocity (turn item) ≡ mirrored_vector axis (velocity item)) where
  energy_stays : (items : List A) → energy_of velocity (map turn items) ≡ energy_of velocity items
  energy_stays items = sum_stays (λ (item : A). square_of (velocity item)) turn
      (λ item. ap square_of (turns item) ∙ square_mirrored axis (velocity item)) items

  -- the sum of the velocities and of one to begin with
  abbrev total_from : Vector → List A → Vector
  total_from start items = fold (λ total item. sum total (velocity item)) start items

  total_turns : (start : Vector) (items : List A) →
      total_from (mirrored_vector axis start) (map turn items) ≡ mirrored_vector axis (total_from start items)
  total_turns start [] = refl
  total_turns start (item ∷ items) =
      ap (λ (v : Vector). total_from v (map turn items))
      (ap (sum (mirrored_vector axis start)) (turns item) ∙ sum_mirrored axis start (velocity item))
      ∙ total_turns (sum start (velocity item)) items

  momentum_turns : (items : List A) → total_of velocity (map turn items) ≡ mirrored_vector axis (total_of velocity items)
  momentum_turns items =
      ap (λ (v : Vector). total_from v (map turn items)) (sym (none_mirrored axis))
      ∙ total_turns (vector (pos 0) (pos 0)) items

-- ---- texts
nothing : {axis : Axis} {rules : Rules} → AreMirrored axis rules [] []
nothing = record { lines = []; text_is = refl; mirror_is = refl }

one_line : {axis : Axis} {rules : Rules} {mirror : List ℕ} (line : Line) → mirror ≡ line_text (mirrored_line axis rules line) →
    AreMirrored axis rules (line_text line) mirror
one_line {axis} {rules} line is = record {
  lines = line ∷ [];
  text_is = sym (append-nil (line_text line));
  mirror_is = is ∙ sym (append-nil (line_text (mirrored_line axis rules line)));
}

both : {axis : Axis} {rules : Rules} {a b c d : List ℕ} → AreMirrored axis rules a b → AreMirrored axis rules c d →
    AreMirrored axis rules (a ++ c) (b ++ d)
both {axis} {rules} h k =
    let turn = mirrored_line axis rules in
    record {
      lines = h.lines ++ k.lines;
      text_is = (λ i. h.text_is i ++ k.text_is i) ∙ sym (flat_map-append line_text h.lines k.lines);
      mirror_is = (λ i. h.mirror_is i ++ k.mirror_is i) ∙ sym (flat_map-append line_text (map turn h.lines) (map turn k.lines))
          ∙ ap (flat_map line_text) (sym (map-append turn h.lines k.lines));
    }

in_lines : {axis : Axis} {rules : Rules} {text mirror : List ℕ} (format : Format) → AreMirrored axis rules text mirror →
    AreMirrored axis rules (listed format text) (listed format mirror)
in_lines Lines h = h
in_lines Summary h = nothing

-- ---- runs of changes that are told
abbrev AreTellable : List Change → Type 0
AreTellable [] = ⊤
AreTellable (c ∷ cs) = IsTellable c × AreTellable cs

tellable : (rules : Rules) (disks : List Disk) (changes : List Change) (outcome : Outcome) → Runs rules disks changes outcome → AreTellable changes
tellable rules disks [] outcome run = tt
tellable rules disks (c ∷ cs) outcome run =
    (ran_tellable rules disks c (ran rules disks c run.0.0 run.1), tellable rules (effect disks c) cs outcome run.2)

module _ (axis : Axis) (rules : Rules) where
  -- ---- what stays
  none_stays : (o : Option Disk) → is_none (mirrored_if axis rules o) ≡ is_none o
  none_stays None = refl
  none_stays (Some a) = refl

  some_stays : (o : Option Disk) → is_some (mirrored_if axis rules o) ≡ is_some o
  some_stays None = refl
  some_stays (Some a) = refl

  count_stays : (test : Change → Bool) → ((c : Change) → test (mirrored_change axis rules c) ≡ test c) → (changes : List Change) →
      count_by test (map (mirrored_change axis rules) changes) ≡ count_by test changes
  count_stays test same changes = sum_stays (λ (c : Change). cond (test c) 1 0) (mirrored_change axis rules)
      (λ c. ap (λ (p : Bool). cond p 1 0) (same c)) changes

  latest_stays : (from : ℕ) (changes : List Change) → fold latest from (map (mirrored_change axis rules) changes) ≡ fold latest from changes
  latest_stays from changes = fold-map latest (mirrored_change axis rules) from changes

  state_mirrored : (disks : List Disk) (changes : List Change) → AreTellable changes →
      fold effect (mirrored_disks axis rules disks) (map (mirrored_change axis rules) changes)
      ≡ mirrored_disks axis rules (fold effect disks changes)
  state_mirrored disks [] h = refl
  state_mirrored disks (c ∷ cs) h =
      ap (λ (xs : List Disk). fold effect xs (map (mirrored_change axis rules) cs)) (effect_mirrored axis rules disks c h.0)
      ∙ state_mirrored (effect disks c) cs h.1

  -- ---- events
  side_stands : (k : Kind) (n : ℕ) → HasDisksOf k None → mirrored_second axis k n ≡ mirrored_side axis n
  side_stands Cross n h = absurd h
  side_stands Wall n h = refl
  side_stands Pair n h = absurd h

  second_stands : (k : Kind) (n : ℕ) (b : Disk) → HasDisksOf k (Some b) → mirrored_second axis k n ≡ n
  second_stands Cross n b h = absurd h
  second_stands Wall n b h = absurd h
  second_stands Pair n b h = refl

  event_mirrored : (s : Stamp) (a : Disk) (o : Option Disk) → HasDisksOf s.kind o →
      AreMirrored axis rules (event_line (record { stamp = s; first = a; second = o }))
      (event_line (mirrored_change axis rules (record { stamp = s; first = a; second = o })))
  event_mirrored s a None h = let n = side_stands s.kind s.second h in
      one_line (WallLine s a) (λ i. line_text (WallLine (record s { second = n i }) (mirrored axis rules a)))
  event_mirrored s a (Some b) h = let n = second_stands s.kind s.second b h in
      one_line (PairLine s a b) (λ i. line_text (PairLine (record s { second = n i }) (mirrored axis rules a) (mirrored axis rules b)))

  -- ---- states
  disk_lines_mirrored : (i : ℕ) (spots : List Spot) →
      AreMirrored axis rules (disk_lines i spots) (disk_lines i (map (mirrored_spot axis rules) spots))
  disk_lines_mirrored i [] = nothing
  disk_lines_mirrored i (spot ∷ spots) = both (one_line (DiskLine i spot) refl) (disk_lines_mirrored (i + 1) spots)

  block_mirrored : (disks : List Disk) (tick : ℕ) → AreMirrored axis rules (block disks tick) (block (mirrored_disks axis rules disks) tick)
  block_mirrored disks tick = both (one_line (StateLine tick) refl)
      (subst (λ (spots : List Spot). AreMirrored axis rules (disk_lines 0 (spots_of tick disks)) (disk_lines 0 spots))
      (spots_mirrored axis rules tick disks) (disk_lines_mirrored 0 (spots_of tick disks)))

  blocks_at_mirrored : (disks : List Disk) (ticks : List ℕ) →
      AreMirrored axis rules (flat_map (block disks) ticks) (flat_map (block (mirrored_disks axis rules disks)) ticks)
  blocks_at_mirrored disks [] = nothing
  blocks_at_mirrored disks (tick ∷ ticks) = both (block_mirrored disks tick) (blocks_at_mirrored disks ticks)

  -- ---- the parts of a report
  counts_mirrored : (walls pairs : ℕ) → AreMirrored axis rules (counts_text walls pairs) (counts_text walls pairs)
  counts_mirrored walls pairs = both (one_line (WallsLine walls) refl) (one_line (PairsLine pairs) refl)

module _ (axis : Axis) (scene : SceneData) where
  changes_mirrored : (disks : List Disk) (from : ℕ) (changes : List Change) → AreTellable changes →
      AreMirrored axis scene.rules (changes_text scene disks from changes)
      (changes_text (mirrored_scene axis scene) (mirrored_disks axis scene.rules disks) from (map (mirrored_change axis scene.rules) changes))
  changes_mirrored disks from [] h = nothing
  changes_mirrored disks from (c ∷ cs) h =
      both (blocks_at_mirrored axis scene.rules disks (block_ticks scene.every scene.rules.end from c.stamp.tick))
      (both (event_mirrored axis scene.rules c.stamp c.first c.second h.0)
      (subst (λ (xs : List Disk). AreMirrored axis scene.rules (changes_text scene (effect disks c) (latest from c) cs)
      (changes_text (mirrored_scene axis scene) xs (latest from c) (map (mirrored_change axis scene.rules) cs)))
      (sym (effect_mirrored axis scene.rules disks c h.0)) (changes_mirrored (effect disks c) (latest from c) cs h.1)))

  last_tick_stays : (outcome : Outcome) → last_tick (mirrored_scene axis scene) (mirrored_outcome axis scene.rules outcome) ≡ last_tick scene outcome
  last_tick_stays (Done spots) = refl
  last_tick_stays (Passes (Rounds s)) = refl
  last_tick_stays (Passes (Speed s)) = refl

  last_blocks_mirrored : (changes : List Change) (outcome : Outcome) → AreTellable changes →
      AreMirrored axis scene.rules (last_blocks scene changes outcome)
      (last_blocks (mirrored_scene axis scene) (map (mirrored_change axis scene.rules) changes) (mirrored_outcome axis scene.rules outcome))
  last_blocks_mirrored changes outcome h =
      let state = state_mirrored axis scene.rules scene.disks changes h in
      let from = latest_stays axis scene.rules 0 changes in
      let to = last_tick_stays outcome in
      subst (AreMirrored axis scene.rules (last_blocks scene changes outcome))
      (sym (λ i. blocks scene.every scene.rules.end (state i) (from i) (to i)))
      (blocks_at_mirrored axis scene.rules (fold effect scene.disks changes)
      (block_ticks scene.every scene.rules.end (fold latest 0 changes) (last_tick scene outcome)))

  end_mirrored : (format : Format) (outcome : Outcome) (walls pairs : ℕ) →
      AreMirrored axis scene.rules (end_block format scene outcome walls pairs)
      (end_block format (mirrored_scene axis scene) (mirrored_outcome axis scene.rules outcome) walls pairs)
  end_mirrored format (Passes limit) walls pairs =
      both (one_line (LimitLine limit) refl) (counts_mirrored axis scene.rules walls pairs)
  end_mirrored format (Done spots) walls pairs =
      let momentum = momentum_turns axis spot_velocity (mirrored_spot axis scene.rules) (λ spot. refl) spots in
      let before = energy_stays axis velocity_of (mirrored axis scene.rules) (λ disk. refl) scene.disks in
      let after = energy_stays axis spot_velocity (mirrored_spot axis scene.rules) (λ spot. refl) spots in
      both (one_line (DoneLine scene.rules.end) refl)
      (both (counts_mirrored axis scene.rules walls pairs)
      (both (one_line (MomentumLine (total_of spot_velocity spots)) (λ i. line_text (MomentumLine (momentum i))))
      (both (one_line (EnergyLine (energy_of velocity_of scene.disks) (energy_of spot_velocity spots))
      (λ i. line_text (EnergyLine (before i) (after i))))
      (in_lines format (disk_lines_mirrored axis scene.rules 0 spots)))))

  report_mirrored : (format : Format) (changes : List Change) (outcome : Outcome) → AreTellable changes →
      AreMirrored axis scene.rules (report format scene changes outcome)
      (report format (mirrored_scene axis scene) (map (mirrored_change axis scene.rules) changes) (mirrored_outcome axis scene.rules outcome))
  report_mirrored format changes outcome h =
      let walls = count_stays axis scene.rules is_wall (λ c. none_stays axis scene.rules c.second) changes in
      let pairs = count_stays axis scene.rules is_pair (λ c. some_stays axis scene.rules c.second) changes in
      both (in_lines format (both (changes_mirrored scene.disks 0 changes h) (last_blocks_mirrored changes outcome h)))
      (subst (AreMirrored axis scene.rules (end_block format scene outcome (count_by is_wall changes) (count_by is_pair changes)))
      (sym (λ i. end_block format (mirrored_scene axis scene) (mirrored_outcome axis scene.rules outcome) (walls i) (pairs i)))
      (end_mirrored format outcome (count_by is_wall changes) (count_by is_pair changes)))

pub reports_mirror : ReportsMirror
reports_mirror axis format scene changes others outcome end run other =
    let same = one_run scene.rules (mirrored_disks axis scene.rules scene.disks) _ others _ end (runs_mirror axis scene changes outcome run) other in
    subst (AreMirrored axis scene.rules (report format scene changes outcome))
    (λ i. report format (mirrored_scene axis scene) (same.0 i) (same.1 i))
    (report_mirrored axis scene format changes outcome (tellable scene.rules scene.disks changes outcome run))
