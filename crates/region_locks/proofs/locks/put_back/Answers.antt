use Rattle.std.proofs.Common.{List, [], ◌∷◌, length, ap, ◌∙◌, sym, subst}
use Rattle.std.proofs.lemmas.List.{length-append}
use Rattle.local_run.specs.Opening.{RegionData}
use Rattle.region_locks.specs.Holding.{AllTaken}
use Rattle.region_locks.proofs.Holds.{held_there, one_more_taken}
use Rattle.region_locks.proofs.locks.put_back.Goals as goal

pub returns-clause-kept : goal.returns-clause-kept
returns-clause-kept g c =
    let regions = c.args.regions.now.items in
    let region = c.in-Some.region in
    let fits = c.if-not-is_at.false in
    subst (AllTaken g.O.Origin.opening c.args.floor) (sym {A = List RegionData} c.in_ok-push.ensures.items)
    (one_more_taken g.O.Origin.opening c.args.floor regions region c.requires.kept (record {
      alive = c.is_at.ensures.alive fits;
      number_is = c.is_at.ensures.number fits ∙ c.len.ensures ∙ c.args.regions.now.ok.0;
      floor_is = c.is_at.ensures.floor_is fits;
      held = held_there g.O.Origin.opening c.args.region region c.requires.held c.in-Some.is;
    }))

pub returns-clause-count : goal.returns-clause-count
returns-clause-count g c =
    ap length c.in_ok-push.ensures.items ∙ length-append c.args.regions.now.items (c.in-Some.region ∷ [])
