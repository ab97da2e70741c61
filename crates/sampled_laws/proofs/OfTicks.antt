-- Each sample is of the state and the sums at its tick.
use Rattle.std.proofs.Common.{◌≡◌, ◌∙◌, ℕ, zero, suc, ◌+◌, ◌-◌, ◌*◌, ◌/◌, ◌<◌, ◌≤◌, min, max, Bool, true, false, cond, List, [], ◌∷◌, ◌++◌, Option, Some, None, append_assoc, ap, refl, sym, arith, le_trans}
use Rattle.std.specs.Prelude.{fold, nat_lt, take_while, flat_map, count_by}
use Rattle.std.proofs.lemmas.Grind.{flat_map-append}
use Rattle.std.proofs.lemmas.List.Sums.{take_while-cons}
use Rattle.std.proofs.Math.Nat.{div-mul-le_self, lt-div-mul-add, mul-le-mul_right}
use Rattle.fixed_motion.specs.declared.rules.Rules.{Rules}
use Rattle.fixed_motion.specs.declared.disk.Disk.{Disk}
use Rattle.fixed_motion.specs.Scene.{SceneData, IsEvery}
use Rattle.event_rules.specs.declared.change.Change.{Change}
use Rattle.event_rules.specs.Laws.{StampsRise, last_tick}
use Rattle.event_rules.specs.Run.{effect, state_at}
use Rattle.event_rules.proofs.Apart.{state_after, state_before}
use Rattle.collision_report.specs.Blocks.{block_ticks, numbers_from, times}
use Rattle.collision_report.specs.Report.{latest, is_wall, is_pair}
use Rattle.collision_report.proofs.Ticks.{Ascends, least_last, run_ascends, ticks_join}
use Rattle.collision_sums.specs.declared.sums.Sums.{Sums}
use Rattle.collision_sums.specs.Sums.{no_sums}
use Rattle.run_samples.specs.declared.sample.Sample.{Sample}
use Rattle.run_samples.specs.Samples.{summed, sums_after, sample_of, samples_of, samples_text, sampled_end}
use Rattle.sampled_laws.specs.Laws.{SamplesAreOfTicks}

-- ---- texts at some ticks that are alike
same_over : (f g : ℕ → List ℕ) (every n count : ℕ) → ((k : ℕ) → n ≤ k → k < n + count → f (k * every) ≡ g (k * every)) →
    flat_map f (times every (numbers_from n count)) ≡ flat_map g (times every (numbers_from n count))
same_over f g every n zero h = refl
same_over f g every n (suc count) h =
    let first = h n (omega arith) (omega arith) in
    let rest = same_over f g every (n + 1) count (λ k le lt. h k (omega arith) (omega arith)) in
    λ i. first i ++ rest i

same_between : (f g : ℕ → List ℕ) (every : Option ℕ) (end from to : ℕ) → IsEvery every → ((t : ℕ) → from < t → t ≤ to → f t ≡ g t) →
    flat_map f (block_ticks every end from to) ≡ flat_map g (block_ticks every end from to)
same_between f g None end from to some h = refl
same_between f g (Some every) end from to some h =
    same_over f g every (from / every + 1) (min to (end - 1) / every - from / every)
    (λ k le lt. h (k * every) (above k le) (below k le lt))
  where
    least : 1 ≤ every
    least = some.0

    above : (k : ℕ) → from / every + 1 ≤ k → from < k * every
    above k le =
        let after : from < from / every * every + every = lt-div-mul-add least in
        let more : (from / every + 1) * every ≤ k * every = mul-le-mul_right every le in
        let same : (from / every + 1) * every ≡ from / every * every + every = next (from / every) every in
        omega (arith, after, more, same)
      where
        next : (m n : ℕ) → (m + 1) * n ≡ m * n + n
        next m n = omega arith

    below : (k : ℕ) → from / every + 1 ≤ k → k < (from / every + 1) + (min to (end - 1) / every - from / every) → k * every ≤ to
    below k le lt =
        let up : k ≤ min to (end - 1) / every = omega (arith, le, lt) in
        let last : min to (end - 1) / every * every ≤ min to (end - 1) = div-mul-le_self (min to (end - 1)) every in
        let least : min to (end - 1) ≤ to = omega arith in
        le_trans (mul-le-mul_right every up) (le_trans last least)

-- ---- a run
-- the changes before a tick, from the first on
pub none_before : (c : Change) (cs : List Change) (tick : ℕ) → tick ≤ c.stamp.tick → take_while (λ (d : Change). nat_lt d.stamp.tick tick) (c ∷ cs) ≡ []
none_before c cs tick le =
    let test : nat_lt c.stamp.tick tick ≡ false = grind arith in
    take_while-cons (λ (d : Change). nat_lt d.stamp.tick tick) c cs
    ∙ ap (λ (b : Bool). cond b (c ∷ take_while (λ (d : Change). nat_lt d.stamp.tick tick) cs) []) test

pub one_before : (c : Change) (cs : List Change) (tick : ℕ) → c.stamp.tick < tick →
    take_while (λ (d : Change). nat_lt d.stamp.tick tick) (c ∷ cs) ≡ c ∷ take_while (λ (d : Change). nat_lt d.stamp.tick tick) cs
one_before c cs tick lt =
    let test : nat_lt c.stamp.tick tick ≡ true = grind arith in
    take_while-cons (λ (d : Change). nat_lt d.stamp.tick tick) c cs
    ∙ ap (λ (b : Bool). cond b (c ∷ take_while (λ (d : Change). nat_lt d.stamp.tick tick) cs) []) test

-- the sample at a tick, of a run that goes on from a state and sums
abbrev sample_from : Sample → Rules → List Disk → Sums → List Change → ℕ → List ℕ
sample_from sample rules disks sums cs tick =
    sample_of sample rules (state_at disks cs tick) (sums_after sample rules disks sums (take_while (λ c. nat_lt c.stamp.tick tick) cs)) tick

texts_from : (sample : Sample) (scene : SceneData) (disks : List Disk) (sums : Sums) (from : ℕ) (cs : List Change) (last : ℕ) →
    IsEvery scene.every → Ascends from cs last →
    samples_text sample scene disks sums from cs
    ++ samples_of sample scene.rules scene.every (fold effect disks cs) (sums_after sample scene.rules disks sums cs) (fold latest from cs) last
    ≡ flat_map (sample_from sample scene.rules disks sums cs) (block_ticks scene.every scene.rules.end from last)
texts_from sample scene disks sums from [] last some h = refl
texts_from sample scene disks sums from (c ∷ cs) last some h =
    let rules = scene.rules in let every = scene.every in let end = rules.end in let tick = c.stamp.tick in
    let next = summed sample rules disks sums c in
    let own = samples_of sample rules every disks sums from tick in
    let all = sample_from sample rules disks sums (c ∷ cs) in
    let later = samples_text sample scene (effect disks c) next (latest from c) cs in
    let left = samples_of sample rules every (fold effect (effect disks c) cs) (sums_after sample rules (effect disks c) next cs) (fold latest (latest from c) cs) last in
    let first = h.0 in
    let e : max from tick ≡ tick = omega (arith, first) in
    let earlier : own ≡ flat_map all (block_ticks every end from tick) =
    same_between (sample_of sample rules disks sums) all every end from tick some
    (λ t above le. (λ i. sample_of sample rules (sym (state_before disks c cs t le) i) (sums_after sample rules disks sums (sym (none_before c cs t le) i)) t)) in
    let rest : later ++ left ≡ flat_map (sample_from sample rules (effect disks c) next cs) (block_ticks every end tick last) =
    ap (λ (n : ℕ). samples_text sample scene (effect disks c) next n cs
    ++ samples_of sample rules every (fold effect (effect disks c) cs) (sums_after sample rules (effect disks c) next cs) (fold latest n cs) last) e
    ∙ texts_from sample scene (effect disks c) next tick cs last some h.1 in
    let same : flat_map (sample_from sample rules (effect disks c) next cs) (block_ticks every end tick last) ≡ flat_map all (block_ticks every end tick last) =
    same_between (sample_from sample rules (effect disks c) next cs) all every end tick last some
    (λ t above le. (λ i. sample_of sample rules (sym (state_after disks c cs t above) i) (sums_after sample rules disks sums (sym (one_before c cs t above) i)) t)) in
    append_assoc own later left
    ∙ (λ i. earlier i ++ (rest ∙ same) i)
    ∙ sym (flat_map-append all (block_ticks every end from tick) (block_ticks every end tick last))
    ∙ ap (flat_map all) (ticks_join every end from tick last some h.0 (least_last tick cs last h.1))

pub samples_are_of_ticks_by : StampsRise → SamplesAreOfTicks
samples_are_of_ticks_by stamps_rise sample scene changes outcome valid run =
    let sums = sums_after sample scene.rules scene.disks no_sums changes in
    let text = samples_text sample scene scene.disks no_sums 0 changes in
    let last = samples_of sample scene.rules scene.every (fold effect scene.disks changes) sums (fold latest 0 changes) (last_tick scene outcome) in
    let end = sampled_end sample scene sums outcome (count_by is_wall changes) (count_by is_pair changes) in
    sym (append_assoc text last end)
    ∙ ap (λ (v : List ℕ). v ++ end)
    (texts_from sample scene scene.disks no_sums 0 changes (last_tick scene outcome) valid.every (run_ascends stamps_rise scene changes outcome valid run))
