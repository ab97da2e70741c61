-- The key of the disk alone is taken again.
use Rattle.std.proofs.Common.{inr, refl, sym, ap, ◌∙◌}
use Rattle.std.proofs.lemmas.Bool.{both_ways}
use Rattle.event_tree.specs.Keys.{key_at}
use Rattle.region_queue.specs.Finding.{HasKey}
use Rattle.region_queue.proofs.Again.{retaken_one}
use Rattle.region_queue.proofs.keys.take_if_held.Goals as goal

pub returns-in_ok-take_key : goal.returns-in_ok-take_key
returns-in_ok-take_key c = λ listed.
    retaken_one c.args.finder.now c.args.view.now (HasKey c.args.keys.now c.args.disk c.args.stamp.now) c.args.disk
    c.args.keys.now c.take_key.new.keys (c.in_ok-take_key.ensures listed) (λ i such. such.0)

pub returns-else-has_stamp : goal.returns-else-has_stamp
returns-else-has_stamp c = λ listed i.
    inr (
      refl,
      λ such. both_ways c.has_stamp.result c.if-has_stamp.false
          (c.has_stamp.ensures.1 (c.key-2.ensures.value ∙ c.key.ensures ∙ ap (key_at c.args.keys.now.keys) (sym such.0) ∙ such.1)),
    )
