use Rattle.std.proofs.Common.{refl}
use Rattle.event_rules.proofs.Telling.{told_none}
use Rattle.event_rules.proofs.Exists.{each_scene_runs}
use Rattle.program_modes.proofs.engines.OverRegions.run_of.Goals as goal

-- nothing was told
pub returns-in_default : goal.returns-in_default
returns-in_default g c =
    let L = g.L.Listener in
    let run = each_scene_runs c.args.scene.now c.count-count.ensures.valid in record {
      run = tt;
      cut_short = (run.0, run.1, run.2, (0, told_none L.after (L.meaning c.args.listener.now)));
      counts = refl;
    }
