-- No disk is in any bucket.
use Rattle.std.proofs.Common.{◌≡◌, ◌∙◌, ap, ℕ, ◌<◌, replicate, arith}
use Rattle.std.specs.Prelude.{None}
use Rattle.cell_lists.specs.declared.pointer.Pointer.{Pointer}
use Rattle.cell_lists.specs.Chain.{chains_of, bucket_count}
use Rattle.cell_lists.proofs.Nodes.{none_chained, none_seen}
use Rattle.cell_lists.proofs.chains.Chains.new.Goals as goal

pub invariant_of-result : goal.invariant_of-result
invariant_of-result c =
    let buckets : 0 < c.max-buckets.result = omega (arith, c.requires.some, c.max-buckets.ensures) in
    none_chained c.max-buckets.result c.args.room c.in_ok-vec.field-0.items c.in_ok-vec-2.field-0.items buckets c.requires.most
    (c.in_ok-vec.ensures.items_if_clones_equal (λ y h. h) ∙ ap (replicate {A = Pointer} c.max-buckets.result) c.none.ensures)
    (c.in_ok-vec-2.ensures.items_if_clones_equal (λ y h. h) ∙ ap (replicate c.args.room) c.none-2.ensures)

pub returns : goal.returns
returns c =
    let count : c.max-buckets.result ≡ bucket_count c.args.cell_count c.args.room = omega (arith, c.max-buckets.ensures, c.min.ensures) in
    none_seen c.max-buckets.result c.args.room c.in_ok-vec.field-0.items c.in_ok-vec-2.field-0.items
    (c.in_ok-vec.ensures.items_if_clones_equal (λ y h. h) ∙ ap (replicate {A = Pointer} c.max-buckets.result) c.none.ensures)
    (c.in_ok-vec-2.ensures.items_if_clones_equal (λ y h. h) ∙ ap (replicate c.args.room) c.none-2.ensures)
    ∙ ap (λ (n : ℕ). chains_of n (replicate c.args.room None)) count
