use Rattle.std.proofs.Common.{◌≡◌, ℕ, ◌+◌, ◌<◌, [], ◌∷◌, length, get_or, false, sym, ap, ◌∙◌, subst, ⊎_elim, arith, length-append, get_or-set_same, get_or-set_other}
use Rattle.std.specs.Prelude.{slice_get, Some}
use mathlib.Core.Logic.{dite}
use mathlib.Core.Option.{some-injective}
use native.Mathlib.Decide.{ℕ_discrete}
use lib.ListN.{get_elem?}
use Rattle.std.specs.Slots.{slots_items, slots_filled, slots_len, slots_counts, IsFull}
use Rattle.local_run.specs.Opening.{RegionData}
use Rattle.region_table.specs.Rule.{Content, IsHomeWord}
use Rattle.region_table.specs.Tables.{spent_at, ComesOfSlot}
use Rattle.region_table.proofs.Ends.{pushed_get}
use Rattle.region_table.proofs.closing.gather.Goals as goal

pub word-word-requires : goal.word-word-requires
word-word-requires c =
    let full = c.requires.full in
    let size = c.slot_count-k-end.ensures in
    let below : c.loop-k.k < slots_len c.args.closed.words = omega (arith, c.loop-k-test.true, size, full.2) in
    subst (λ words. (c.loop-k.k < slots_len words) × IsFull words) (sym c.loop-k.invariant.1) (below, full.0)

pub take-content-requires : goal.take-content-requires
take-content-requires c =
    let i = c.loop-k.invariant in
    let size = c.slot_count-k-end.ensures in
    let below : c.loop-k.k < slots_len c.loop-k.closed.slots = omega (arith, c.loop-k-test.true, size, i.2) in
    (below, i.3 c.loop-k.k (omega arith) below)

pub loop-k-preserved : goal.loop-k-preserved
loop-k-preserved c =
    let i = c.loop-k.invariant in
    let k = c.loop-k.k in
    let t = c.take-content.ensures in
    let filled = slots_filled c.loop-k.closed.slots in
    let wide = (slots_counts c.loop-k.closed.slots).1 in
    let lens = i.2 in
    let test = c.loop-k-test.true in
    let in_row : k < length filled = let size = c.slot_count-k-end.ensures in omega (arith, test, size, lens, wide) in
    let words = slots_items c.args.closed.words in
    let contents = slots_items c.args.closed.slots in
    let here : ComesOfSlot words contents c.args.rules.now c.args.grid.now c.args.floor k c.region_of-region.result = λ word content ew ec.
    let w : c.word-word.result ≡ word = some-injective _ _ (sym c.word-word.ensures ∙ (ap (λ z. get_elem? (slots_items z) k) i.1 ∙ ew)) in
    let x : c.take-content.result ≡ content = some-injective _ _ (sym t.value ∙ (ap (λ z. get_elem? z k) i.0 ∙ ec)) in
    subst {A = ℕ × Content} (λ z. (IsHomeWord z.0 → Rattle.std.specs.Prelude.IfSome z.1 (λ (found : RegionData). c.region_of-region.result ≡ found)) × ((¬ IsHomeWord z.0) → c.region_of-region.result ≡ spent_at k c.args.rules.now c.args.grid.now c.args.floor))
    (λ j. (w j, x j)) (c.region_of-region.ensures.home, c.region_of-region.ensures.out) in (
      t.others.0 ∙ i.0,
      t.others.3 ∙ i.1,
      t.others.2 ∙ i.2,
      (λ j low high. ap (λ z. get_or z j false) t.others.1 ∙ (get_or-set_other filled k j false false (λ same. absurd (omega (arith, low, same))) ∙ i.3 j (omega (arith, low)) (subst (λ z. j < z) t.others.2 high))),
      (λ j lt. ap (λ z. get_or z j false) t.others.1 ∙ dite (ℕ_discrete j k)
          (λ same. ap (λ z. get_or (Rattle.std.specs.Prelude.slice_set filled k false) z false) same ∙ get_or-set_same filled k false false in_row)
          (λ other. get_or-set_other filled k j false false other ∙ i.4 j (omega (arith, lt, other)))),
      ap length c.in-Ok.ensures.items ∙ (length-append c.loop-k.regions.items (c.region_of-region.result ∷ []) ∙ ap (λ z. z + 1) i.5),
      omega (arith, c.push.ensures.capacity, i.6),
      (λ j region e. ⊎_elim
          (λ old. i.7 j region old)
          (λ new. subst {A = ℕ × RegionData} (λ z. ComesOfSlot words contents c.args.rules.now c.args.grid.now c.args.floor z.0 z.1) (λ q. ((sym i.5 ∙ sym new.0) q, new.1 q)) here)
          (pushed_get c.loop-k.regions.items c.region_of-region.result j region (ap (λ z. slice_get z j) (sym c.in-Ok.ensures.items) ∙ e))),
    )
