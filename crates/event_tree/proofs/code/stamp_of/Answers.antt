-- Each part is taken from its place.
use Rattle.std.proofs.Common.{sym, ap, ◌∙◌}
use Rattle.std.specs.Prelude.{Some}
use Rattle.event_stamps.specs.declared.Kind.{Kind}
use Rattle.event_tree.specs.Packing.{kind_of}
use Rattle.event_tree.proofs.Codes.{stamp_with, key_of_parts}
use Rattle.event_tree.proofs.code.stamp_of.Goals as goal

pub returns-clause-key : goal.returns-clause-key
returns-clause-key c =
    key_of_parts c.args.code c.ranges.code.fits c.requires
    ∙ ap (λ (kind : Kind). Some (stamp_with c.args.code kind)) (sym (c.kind_of.ensures ∙ ap kind_of c.from.ensures))
