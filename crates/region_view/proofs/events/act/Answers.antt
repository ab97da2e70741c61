-- An event that isn't a crossing is a hit.
use Rattle.std.proofs.Common.{◌≡◌, inl, inr, subst, sym, ap, ◌∙◌, Option}
use Rattle.std.specs.Prelude.{◌⊎◌}
use Rattle.fixed_motion.specs.declared.rules.Rules.{Rules}
use Rattle.fixed_motion.specs.declared.disk.Disk.{Disk}
use Rattle.event_stamps.specs.declared.Stamp.{Stamp}
use Rattle.event_stamps.specs.declared.Kind.{Kind}
use Rattle.event_stamps.specs.declared.Kind.TheVariants.{Wall, Pair}
use Rattle.event_rules.specs.Events.{IsEventOf}
use Rattle.event_rules.specs.Effect.{applied}
use Rattle.cell_grid.specs.Grid.{GridData}
use Rattle.region_view.specs.declared.action.Placed.{Placed}
use Rattle.region_view.specs.Events.{IsEventBy}
use Rattle.region_view.specs.Acting.{action_of, hit_of}
use Rattle.region_view.proofs.events.act.Goals as goal

hits : (rules : Rules) (grid : GridData) (s : Stamp) (p : Placed) (b : Option Disk) (kind : Kind) → (kind ≡ Wall) ⊎ (kind ≡ Pair) →
    IsEventBy rules grid s p b kind → IsEventOf rules s p.disk b
hits rules grid s p b kind (inl is) event = subst (IsEventBy rules grid s p b) is event
hits rules grid s p b kind (inr is) event = subst (IsEventBy rules grid s p b) is event

hit_by : (rules : Rules) (grid : GridData) (s : Stamp) (a : Disk) (b : Option Disk) (kind : Kind) → (kind ≡ Wall) ⊎ (kind ≡ Pair) →
    action_of rules grid s a b kind ≡ hit_of (applied rules s a b)
hit_by rules grid s a b kind (inl is) = ap (action_of rules grid s a b) is
hit_by rules grid s a b kind (inr is) = ap (action_of rules grid s a b) is

pub apply-requires : goal.apply-requires
apply-requires c = record {
  checked = c.requires.checked;
  first = c.requires.first;
  second = c.requires.second;
  event =
      hits c.args.rules.now c.args.grid.now c.args.stamp.now c.args.row.now _ c.args.stamp.now.kind c.in-Wall.is c.requires.event;
}

pub returns-in_ok-change-in-Wall : goal.returns-in_ok-change-in-Wall
returns-in_ok-change-in-Wall c =
    sym (
    hit_by c.args.rules.now c.args.grid.now c.args.stamp.now c.args.row.now.disk _ c.args.stamp.now.kind c.in-Wall.is
    ∙ ap hit_of (sym c.apply.ensures.exact ∙ c.in_ok-change-in-Wall.was)
    )

pub returns-in-Some : goal.returns-in-Some
returns-in-Some c =
    sym (
    ap (action_of c.args.rules.now c.args.grid.now c.args.stamp.now c.args.row.now.disk _) c.in-Cross.is ∙ c.in-Some.ensures.crossed
    )

pub returns-in-None : goal.returns-in-None
returns-in-None c =
    sym (
    ap (action_of c.args.rules.now c.args.grid.now c.args.stamp.now c.args.row.now.disk _) c.in-Cross.is ∙ c.in-None.ensures.crossed
    )
