-- One more disk is followed in each round.
use Rattle.std.proofs.Common.{◌≡◌, ◌+◌, ◌≤◌, List, take, get_or, arith, sym, subst}
use Rattle.std.specs.Prelude.{ℕ}
use Rattle.cell_lists.proofs.Nodes.{node_leads}
use Rattle.cell_lists.proofs.Walks.{IsFollowing, following_starts, following_ends, walk_held, walk_step, walk_longer, all_taken}
use Rattle.cell_lists.proofs.chains.Chains.gather_nexts.Goals as goal

pub loop-place-init : goal.loop-place-init
loop-place-init c = record {
  room = c.requires.room;
  long = c.told-disks;
  following = following_starts c.args.self.now.cells (take c.args.heads.count c.args.disks.now) c.args.first c.args.heads.pending
      (subst (λ (n : ℕ). c.args.first ≤ n) (sym (all_taken c.args.heads.count c.args.disks.now c.requires.room c.told-disks)) c.requires.first)
      c.requires.listed c.requires.pending;
}

pub bounds-disks-place : goal.bounds-disks-place
bounds-disks-place c =
    let was = c.loop-place.invariant in
    let held = walk_held c.args.self.now.cells (take c.args.heads.count c.args.disks.now) c.args.first c.loop-place.so_far.count c.loop-place.disks
    c.loop-place.so_far.pending c.in-Some.place was.room was.long was.following c.in-Some.ensures in
    let less = held.0 in
    let room = was.room in
    omega arith

pub offset_bounds-disks-place : goal.offset_bounds-disks-place
offset_bounds-disks-place c =
    let was = c.loop-place.invariant in
    let held = walk_held c.args.self.now.cells (take c.args.heads.count c.args.disks.now) c.args.first c.loop-place.so_far.count c.loop-place.disks
    c.loop-place.so_far.pending c.in-Some.place was.room was.long was.following c.in-Some.ensures in
    let less = held.0 in
    let room = was.room in
    omega arith

pub without-so_far-requires : goal.without-so_far-requires
without-so_far-requires c =
    let was = c.loop-place.invariant in
    let held = walk_held c.args.self.now.cells (take c.args.heads.count c.args.disks.now) c.args.first c.loop-place.so_far.count c.loop-place.disks
    c.loop-place.so_far.pending c.in-Some.place was.room was.long was.following c.in-Some.ensures in
    let less = held.0 in
    let room = was.room in
    omega arith

pub loop-place-smaller : goal.loop-place-smaller
loop-place-smaller c =
    let was = c.loop-place.invariant in
    let held = walk_held c.args.self.now.cells (take c.args.heads.count c.args.disks.now) c.args.first c.loop-place.so_far.count c.loop-place.disks
    c.loop-place.so_far.pending c.in-Some.place was.room was.long was.following c.in-Some.ensures in
    let cells = c.args.self.now.cells in
    let disk = get_or c.loop-place.disks c.in-Some.place 0 in
    let nodes = c.nodes-nodes.result.now in
    let leads = node_leads cells nodes disk c.index-nodes-disks.result c.nodes-nodes.ensures.count c.nodes-nodes.ensures.after in
    let more : c.offer-so_far.result.count ≡ c.loop-place.so_far.count + 1 =
    walk_longer c.args.self.now.cells c.loop-place.so_far.count c.loop-place.disks c.in-Some.place c.offer-so_far.result.count c.offer-so_far.new.disks
    (get_or nodes disk c.index-nodes-disks.result).next was.room was.long c.offer-so_far.ensures.room c.offer-so_far.array_long held.1 (λ cell here. (leads cell here).1.0)
    c.offer-so_far.ensures.offered in
    let room = c.offer-so_far.ensures.room in
    omega arith

pub loop-place-preserved : goal.loop-place-preserved
loop-place-preserved c =
    let was = c.loop-place.invariant in
    let held = walk_held c.args.self.now.cells (take c.args.heads.count c.args.disks.now) c.args.first c.loop-place.so_far.count c.loop-place.disks
    c.loop-place.so_far.pending c.in-Some.place was.room was.long was.following c.in-Some.ensures in
    let cells = c.args.self.now.cells in
    let disk = get_or c.loop-place.disks c.in-Some.place 0 in
    let nodes = c.nodes-nodes.result.now in
    let leads = node_leads cells nodes disk c.index-nodes-disks.result c.nodes-nodes.ensures.count c.nodes-nodes.ensures.after in
    let more = (leads held.1.0 held.1.2).1.1 in
    record {
      room = c.offer-so_far.ensures.room;
      long = c.offer-so_far.array_long;
      following = subst (λ (xs : List ℕ). IsFollowing c.args.self.now.cells (take c.args.heads.count c.args.disks.now) c.args.first xs c.offer-so_far.result.pending)
          (sym c.offer-so_far.ensures.offered)
          (walk_step c.args.self.now.cells (take c.args.heads.count c.args.disks.now) c.args.first c.loop-place.so_far.count c.loop-place.disks
          c.loop-place.so_far.pending c.without-so_far.result c.offer-so_far.result.pending c.in-Some.place (get_or nodes disk c.index-nodes-disks.result).next was.room was.long was.following
          c.in-Some.ensures (λ cell here. (leads cell here).1.0) more c.without-so_far.ensures c.offer-so_far.ensures.pending);
    }

pub returns-clause-room : goal.returns-clause-room
returns-clause-room c = c.loop-place.invariant.room

pub returns-clause-followed : goal.returns-clause-followed
returns-clause-followed c =
    following_ends c.args.self.now.cells (take c.args.heads.count c.args.disks.now) c.args.first (take c.loop-place.so_far.count c.loop-place.disks)
    c.loop-place.so_far.pending c.loop-place.invariant.following c.in_default.ensures
