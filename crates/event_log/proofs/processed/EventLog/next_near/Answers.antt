use Rattle.std.proofs.Common.{sym, subst, List}
use Rattle.std.specs.Prelude.{All}
use Rattle.event_log.specs.declared.heads.Head.{Head}
use Rattle.event_log.specs.Heads.{NarrowList}
use Rattle.event_log.specs.Nearness.{HasNarrow, IsFarHead, AllUpTo}
use Rattle.event_log.proofs.Near.{have_narrow, far_up_to}
use Rattle.event_log.proofs.processed.EventLog.next_near.Goals as goal

pub first_near-requires : goal.first_near-requires
first_near-requires c =
    let a = c.self.inside in
    record {
      narrow = subst (λ (hs : List Head). All (HasNarrow c.deref-2.result.now) hs) (sym c.deref.ensures.value)
          (subst (λ (narrow : NarrowList). All (HasNarrow narrow) a.heads.items) (sym c.deref-2.ensures.value)
          (have_narrow a.rows.items a.wholes.items a.heads.items c.self.invariant));
    }

pub returns-clause-far : goal.returns-clause-far
returns-clause-far c =
    let a = c.self.inside in
    let grid = c.args.grid.now in
    let rows = c.args.rows.now in
    let from = c.args.from in
    let found = c.first_near.result in
    far_up_to grid rows a.rows.items a.wholes.items a.heads.items c.args.self.now from found c.self.view_is
    (subst (λ (narrow : NarrowList). AllUpTo (IsFarHead grid rows narrow) a.heads.items from found)
    c.deref-2.ensures.value
    (subst (λ (hs : List Head). AllUpTo (IsFarHead grid rows c.deref-2.result.now) hs from found)
    c.deref.ensures.value c.first_near.ensures.far))
