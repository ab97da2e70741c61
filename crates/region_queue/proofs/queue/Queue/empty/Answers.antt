-- No disk is listed, and none has a key.
use Rattle.std.proofs.Common.{refl, sym, ap, subst}
use Rattle.std.specs.FinMap as map
use Rattle.event_tree.specs.Entries.{EntriesData}
use Rattle.cell_lists.specs.Listing.{ListsData}
use Rattle.region_queue.specs.Finding.{Cells}
use Rattle.region_queue.specs.Queue.{queue_of, StandsFor}
use Rattle.region_queue.proofs.Standing.{empty_stands}
use Rattle.region_queue.proofs.queue.Queue.empty.Goals as goal

pub returns : goal.returns
returns c =
    let rules = c.args.rules.now in
    let grid = c.args.grid.now in (
      record { rules = refl; grid = refl; region = refl },
      subst (λ (cells : Cells). StandsFor (queue_of rules grid c.args.region cells c.new-2.result.keys c.new-2.result.bounds) map.empty)
          (sym (ap (λ (l : ListsData). l.cells) c.in_ok-new.ensures))
          (subst (λ (entries : EntriesData). StandsFor (queue_of rules grid c.args.region map.empty entries.keys entries.bounds) map.empty)
          (sym c.new-2.ensures) (empty_stands rules grid c.args.region)),
    )

pub invariant_of-result : goal.invariant_of-result
invariant_of-result c = record {
  checked = c.requires.checked;
  grid = c.requires.grid;
  region = c.requires.region;
  strip = c.strip.ensures.strip;
  lists = ap (λ (l : ListsData). l.grid) c.in_ok-new.ensures;
}
