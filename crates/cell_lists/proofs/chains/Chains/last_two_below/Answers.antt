-- The chain ascends.
use Rattle.std.proofs.Common.{◌<◌, length, sym, subst, ◌∙◌}
use Rattle.std.specs.Prelude.{ℕ, Option, IsSomeAnd}
use Rattle.std.proofs.lemmas.Bool.{false≢true}
use Rattle.cell_lists.proofs.Firsts.{after_of, ascent, last_past, last_end, second_before}
use Rattle.cell_lists.specs.Pointer.{disk_of, SaysMore}
use Rattle.cell_lists.specs.Chain.{InBucket, IsFirst}
use Rattle.cell_lists.specs.Nodes.{pointers_of, cells_of}
use Rattle.cell_lists.proofs.Chaining.{seen, head_leads, next_leads, next_falls}
use Rattle.cell_lists.proofs.Nodes.{next_read, node_there}
use Rattle.cell_lists.proofs.chains.Chains.last_two_below.Goals as goal

pub loop-i-init : goal.loop-i-init
loop-i-init c =
    let heads = c.self.inside.heads.items in
    let nexts = pointers_of c.self.inside.nodes.items in
    record {
      next = head_leads heads nexts c.args.self.now c.args.bucket c.index-next.result.now
          (seen heads nexts (cells_of c.self.inside.nodes.items) c.args.self.now c.self.view_is c.self.invariant) c.requires c.index-next.ensures;
      last = tt;
      second_last = tt;
    }

pub loop-i-smaller : goal.loop-i-smaller
loop-i-smaller c =
    let heads = c.self.inside.heads.items in
    let nexts = pointers_of c.self.inside.nodes.items in
    let chains = c.args.self.now in
    let is = seen heads nexts (cells_of c.self.inside.nodes.items) chains c.self.view_is c.self.invariant in
    let to = sym c.get.ensures ∙ c.in-Some.is in
    let here = subst (λ (o : Option ℕ). IsFirst chains.cells chains.buckets c.args.bucket (after_of c.loop-i.last) o) to c.loop-i.invariant.next.0 in
    subst (λ (o : Option ℕ). ascent (disk_of c.index.result.now.next) < ascent o) (sym to)
    (next_falls heads nexts chains c.args.bucket c.in-Some.i (disk_of c.index.result.now.next) is here.1
    (next_leads heads nexts chains c.args.bucket c.in-Some.i c.index.result.now.next is here.1
    (next_read c.self.inside.nodes.items c.in-Some.i c.index.result.now c.index.ensures)).0)

pub loop-i-preserved : goal.loop-i-preserved
loop-i-preserved c =
    let heads = c.self.inside.heads.items in
    let nexts = pointers_of c.self.inside.nodes.items in
    let chains = c.args.self.now in
    let is = seen heads nexts (cells_of c.self.inside.nodes.items) chains c.self.view_is c.self.invariant in
    let to = sym c.get.ensures ∙ c.in-Some.is in
    let here = subst (λ (o : Option ℕ). IsFirst chains.cells chains.buckets c.args.bucket (after_of c.loop-i.last) o) to c.loop-i.invariant.next.0 in
    record {
      next = next_leads heads nexts chains c.args.bucket c.in-Some.i c.index.result.now.next is here.1
          (next_read c.self.inside.nodes.items c.in-Some.i c.index.result.now c.index.ensures);
      last = (c.if-i-disk.false, here.1);
      second_last = second_before (InBucket chains.cells chains.buckets c.args.bucket) c.loop-i.last c.args.disk c.in-Some.i here c.loop-i.invariant.last;
    }

pub returns-then-i-disk-clause-last : goal.returns-then-i-disk-clause-last
returns-then-i-disk-clause-last c =
    let chains = c.args.self.now in
    let here = subst (λ (o : Option ℕ). IsFirst chains.cells chains.buckets c.args.bucket (after_of c.loop-i.last) o) (sym c.get.ensures ∙ c.in-Some.is) c.loop-i.invariant.next.0 in
    last_past (InBucket chains.cells chains.buckets c.args.bucket) c.loop-i.last c.in-Some.i c.args.disk here c.if-i-disk.true c.loop-i.invariant.last

pub returns-then-i-disk-clause-second_last : goal.returns-then-i-disk-clause-second_last
returns-then-i-disk-clause-second_last c = c.loop-i.invariant.second_last

pub returns-then-not-has_next-clause-last : goal.returns-then-not-has_next-clause-last
returns-then-not-has_next-clause-last c =
    let chains = c.args.self.now in
    let to = sym c.get.ensures ∙ c.in-Some.is in
    let leads = c.loop-i.invariant.next in
    let here = subst (λ (o : Option ℕ). IsFirst chains.cells chains.buckets c.args.bucket (after_of c.loop-i.last) o) to leads.0 in
    let more = subst (λ (o : Option ℕ). IsSomeAnd o (λ i. (j : ℕ) × (i < j) × InBucket chains.cells chains.buckets c.args.bucket j) → SaysMore c.loop-i.next) to leads.1.1 in
    (c.if-i-disk.false, here.1, λ j above less in_bucket. false≢true (sym c.if-not-has_next.true ∙ c.has_next.ensures.1 (more (j, above, in_bucket))))

pub returns-then-not-has_next-clause-second_last : goal.returns-then-not-has_next-clause-second_last
returns-then-not-has_next-clause-second_last c =
    let chains = c.args.self.now in
    let here = subst (λ (o : Option ℕ). IsFirst chains.cells chains.buckets c.args.bucket (after_of c.loop-i.last) o) (sym c.get.ensures ∙ c.in-Some.is) c.loop-i.invariant.next.0 in
    second_before (InBucket chains.cells chains.buckets c.args.bucket) c.loop-i.last c.args.disk c.in-Some.i here c.loop-i.invariant.last

pub returns-in_default-clause-last : goal.returns-in_default-clause-last
returns-in_default-clause-last c =
    let chains = c.args.self.now in
    last_end (InBucket chains.cells chains.buckets c.args.bucket) c.loop-i.last c.args.disk
    (subst (λ (o : Option ℕ). IsFirst chains.cells chains.buckets c.args.bucket (after_of c.loop-i.last) o) (sym c.get.ensures ∙ c.in_default.is) c.loop-i.invariant.next.0)
    c.loop-i.invariant.last

pub returns-in_default-clause-second_last : goal.returns-in_default-clause-second_last
returns-in_default-clause-second_last c = c.loop-i.invariant.second_last

pub index-requires : goal.index-requires
index-requires c =
    let chains = c.args.self.now in
    let here = subst (λ (o : Option ℕ). IsFirst chains.cells chains.buckets c.args.bucket (after_of c.loop-i.last) o) (sym c.get.ensures ∙ c.in-Some.is) c.loop-i.invariant.next.0 in
    node_there (length c.self.inside.heads.items) _ c.self.inside.nodes.items chains chains.buckets c.args.bucket c.in-Some.i c.self.view_is c.self.inside.nodes.ok.0 here.1
