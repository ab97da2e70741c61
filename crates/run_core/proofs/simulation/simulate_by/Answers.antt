use Rattle.std.proofs.Common.{◌∙◌, ℕ, [], Result, Err, None, sym, ap, subst, refl, rules}
use Rattle.std.specs.Prelude.{IfErr}
use Rattle.std.proofs.lemmas.Result.{err_from_is_err_and}
use Rattle.fixed_motion.specs.Scene.{IsValidScene}
use Rattle.cell_sequence.specs.State.{CellStateData, opening_state}
use Rattle.run_floors.specs.Floors.{AreOfOneRun}
use Rattle.run_floors.proofs.Floors.{same_run, run_goes_on}
use Rattle.run_core.proofs.SoFar.{at_start, awaits_now, all_so_far, cut_so_far, rest_told, told_on}
use Rattle.run_core.proofs.SoFar.{ends, fails, cell_at_start, cell_after, one_after, less_left, none_left, next_fails}
use Rattle.run_core.specs.declared.answers.AdvanceKind.{AdvanceKind}
use Rattle.run_core.specs.AdvancesUntold.{answer_with}
use Rattle.event_rules.specs.declared.outcome.Outcome.{Outcome}
use Rattle.event_rules.specs.declared.outcome.RunFault.{RunFault}
use Rattle.event_rules.specs.declared.outcome.RunFault.TheVariants.{Listener, NoMemory}
use Rattle.event_rules.specs.Tellings.{CountsRun, RunCutShort}
use Rattle.commit_horizon.proofs.Goes.{torn_prefix}
use Rattle.run_core.proofs.ToldOn.{fits_unheard, hits_all, torn_counts, hits_on, torn_on}
use Rattle.run_core.proofs.Untold.{batch_in, ends_else, at_fault, counts_of_err}
use Rattle.run_core.proofs.Bursting.{come_at_start, come_on, come_to_end, come_to_limit}
use Rattle.run_core.proofs.simulation.simulate_by.Goals as goal

pub returns-in_err-standing-clause-cut_short : goal.returns-in_err-standing-clause-cut_short
returns-in_err-standing-clause-cut_short g c =
    let L = g.L.Listener in
    let valid = subst IsValidScene c.scene.view_is c.scene.invariant in
    let before = L.meaning c.args.listener.now in
    let r = c.from_residual.result in
    let fault = err_from_is_err_and r c.from_residual.ensures.1 in
    at_fault (λ (v : Result Outcome RunFault). IfErr v (λ e. RunCutShort L.after L.torn c.args.scene.now e before
    before)) r fault.0 NoMemory fault.1 fault.2 (all_so_far {after = L.after} L.torn c.args.regions valid
    c.requires.asked (at_start L.torn c.args.regions valid c.requires.asked before _ _ refl refl))

pub returns-in_err-standing-clause-counts : goal.returns-in_err-standing-clause-counts
returns-in_err-standing-clause-counts g c =
    let faults = g.L.Listener.faults c.args.listener.now in
    let r = c.from_residual.result in
    let fault = err_from_is_err_and r c.from_residual.ensures.1 in
    at_fault (CountsRun {T = Outcome} faults faults) r fault.0 NoMemory fault.1 fault.2 refl

pub bursts-init : goal.bursts-init
bursts-init g c =
    let L = g.L.Listener in
    let valid = subst IsValidScene c.scene.view_is c.scene.invariant in
    let start = c.in_ok-standing.standing in
    record {
      cell = cell_at_start c.args.scene.now c.args.regions start valid c.requires.asked
          c.in_ok-standing.ensures;
      one = subst (AreOfOneRun (opening_state c.args.scene.now c.args.regions)) (sym c.in_ok-standing.ensures)
          (same_run (opening_state c.args.scene.now c.args.regions));
      of = refl;
      few = come_at_start c.args.scene.now c.args.regions (g.B.RunBurst.bursts c.args.burst.now) start c.in_ok-standing.ensures;
      heard = c.new-telling.ensures.heard;
      told = at_start L.torn c.args.regions valid c.requires.asked (L.meaning c.args.listener.now) start
          c.new-telling.result.untold c.in_ok-standing.ensures c.new-telling.ensures.untold;
      count = refl;
    }

pub work-requires : goal.work-requires
work-requires g c =
    let L = g.L.Listener in
    let valid = subst IsValidScene c.scene.view_is c.scene.invariant in
    let start = opening_state c.args.scene.now c.args.regions in (
      search rules,
      (
        λ opening given. run_goes_on opening start c.bursts.standing
            (c.requires.of opening (sym c.bursts.invariant.of ∙ given)) c.bursts.invariant.one,
        (
          c.bursts.invariant.heard,
          awaits_now L.torn c.args.regions valid c.requires.asked
              c.bursts.invariant.told L.awaits c.requires.awaited,
        ),
      ),
    )

pub returns-in_err-kind-clause-cut_short : goal.returns-in_err-kind-clause-cut_short
returns-in_err-kind-clause-cut_short g c =
    let L = g.L.Listener in
    let valid = subst IsValidScene c.scene.view_is c.scene.invariant in
    let new = L.meaning c.work.new.listener in
    let r = c.from_residual-in_err-kind.result in
    let fault = err_from_is_err_and r c.from_residual-in_err-kind.ensures.1 in
    at_fault (λ (v : Result Outcome RunFault). IfErr v (λ e. RunCutShort L.after L.torn c.args.scene.now e
    (L.meaning c.args.listener.now) new)) r fault.0 c.in_err-kind.field-0.0 fault.1 fault.2
    (cut_so_far L.torn c.args.regions valid c.requires.asked c.bursts.invariant.told new
    c.in_err-kind.field-0.0 c.in_err-kind.ensures.cut_short)

pub returns-in_err-kind-clause-counts : goal.returns-in_err-kind-clause-counts
returns-in_err-kind-clause-counts g c =
    let L = g.L.Listener in
    let mid = L.faults c.bursts.listener in
    let new = L.faults c.work.new.listener in
    let r = c.from_residual-in_err-kind.result in
    let fault = err_from_is_err_and r c.from_residual-in_err-kind.ensures.1 in
    at_fault (CountsRun {T = Outcome} (L.faults c.args.listener.now) new) r fault.0 c.in_err-kind.field-0.0
    fault.1 fault.2 (subst (λ (old : ℕ). CountsRun {T = Outcome} old new (Err c.in_err-kind.field-0.0))
    c.bursts.invariant.count (counts_of_err (AdvanceKind × CellStateData) Outcome mid new
    c.in_err-kind.field-0.0 c.in_err-kind.ensures.counts))

pub tell_rest-requires : goal.tell_rest-requires
tell_rest-requires g c =
    let L = g.L.Listener in
    let valid = subst IsValidScene c.scene.view_is c.scene.invariant in
    let batch = c.work.new.telling.untold in
    let told = told_on L.torn c.args.regions valid c.requires.asked c.bursts.invariant.told
    (L.meaning c.work.new.listener) c.in_ok-kind.ensures.told c.in_ok-kind.ensures.advances batch
    (batch_in c.in_ok-kind.kind batch) in
    fits_unheard L.after L.awaits batch c.work.new.telling.fault (L.meaning c.work.new.listener)
    c.in_ok-kind.ensures.heard
    (awaits_now L.torn c.args.regions valid c.requires.asked told L.awaits c.requires.awaited)

pub returns-in_err-tell_rest-clause-cut_short : goal.returns-in_err-tell_rest-clause-cut_short
returns-in_err-tell_rest-clause-cut_short g c =
    let L = g.L.Listener in
    let valid = subst IsValidScene c.scene.view_is c.scene.invariant in
    let batch = c.work.new.telling.untold in
    let told = told_on L.torn c.args.regions valid c.requires.asked c.bursts.invariant.told
    (L.meaning c.work.new.listener) c.in_ok-kind.ensures.told c.in_ok-kind.ensures.advances batch
    (batch_in c.in_ok-kind.kind batch) in
    let new = L.meaning c.tell_rest.new.listener in
    let torn = torn_on L.after L.torn batch _ c.work.new.telling.fault _ (L.meaning c.work.new.listener) new
    (L.faults c.work.new.listener) (L.faults c.tell_rest.new.listener) c.in_err-tell_rest.ensures.refused
    c.in_ok-kind.ensures.heard _ refl in
    let r = c.from_residual-in_err-tell_rest.result in
    let fault = err_from_is_err_and r c.from_residual-in_err-tell_rest.ensures.1 in
    at_fault (λ (v : Result Outcome RunFault). IfErr v (λ e. RunCutShort L.after L.torn c.args.scene.now e
    (L.meaning c.args.listener.now) new)) r fault.0 Listener fault.1 fault.2
    (cut_so_far L.torn c.args.regions valid c.requires.asked told new Listener
    (torn_prefix L.after L.torn batch (L.meaning c.work.new.listener) new (L.faults c.work.new.listener)
    (L.faults c.tell_rest.new.listener) torn))

pub returns-in_err-tell_rest-clause-counts : goal.returns-in_err-tell_rest-clause-counts
returns-in_err-tell_rest-clause-counts g c =
    let L = g.L.Listener in
    let batch = c.work.new.telling.untold in
    let new = L.meaning c.tell_rest.new.listener in
    let torn = torn_on L.after L.torn batch _ c.work.new.telling.fault _ (L.meaning c.work.new.listener) new
    (L.faults c.work.new.listener) (L.faults c.tell_rest.new.listener) c.in_err-tell_rest.ensures.refused
    c.in_ok-kind.ensures.heard _ refl in
    let r = c.from_residual-in_err-tell_rest.result in
    let fault = err_from_is_err_and r c.from_residual-in_err-tell_rest.ensures.1 in
    at_fault (CountsRun {T = Outcome} (L.faults c.args.listener.now) (L.faults c.tell_rest.new.listener)) r fault.0
    Listener fault.1 fault.2
    (subst (λ (old : ℕ). CountsRun {T = Outcome} old (L.faults c.tell_rest.new.listener) (Err Listener))
    (c.in_ok-kind.ensures.counts ∙ c.bursts.invariant.count)
    (torn_counts L.after L.torn Outcome batch (L.meaning c.work.new.listener) new (L.faults c.work.new.listener)
    (L.faults c.tell_rest.new.listener) torn))

pub returns-in_err-spots-clause-cut_short :
    goal.returns-in_err-spots-clause-cut_short
returns-in_err-spots-clause-cut_short g c =
    let L = g.L.Listener in
    let valid = subst IsValidScene c.scene.view_is c.scene.invariant in
    let batch = c.work.new.telling.untold in
    let told = told_on L.torn c.args.regions valid c.requires.asked c.bursts.invariant.told
    (L.meaning c.work.new.listener) c.in_ok-kind.ensures.told c.in_ok-kind.ensures.advances batch
    (batch_in c.in_ok-kind.kind batch) in
    let new = L.meaning c.tell_rest.new.listener in
    let whole = hits_on L.after L.torn batch [] c.work.new.telling.fault None (L.meaning c.work.new.listener) new
    (L.faults c.work.new.listener) (L.faults c.tell_rest.new.listener) c.in_ok-tell_rest.ensures.told
    c.in_ok-kind.ensures.heard refl in
    let rest = hits_all L.after L.torn batch [] (L.meaning c.work.new.listener) new (L.faults c.work.new.listener)
    (L.faults c.tell_rest.new.listener) whole refl in
    let r = c.from_residual-in_err-spots.result in
    let fault = err_from_is_err_and r c.from_residual-in_err-spots.ensures.1 in
    at_fault (λ (v : Result Outcome RunFault). IfErr v (λ e. RunCutShort L.after L.torn c.args.scene.now e
    (L.meaning c.args.listener.now) new)) r fault.0 NoMemory fault.1 fault.2
    (all_so_far L.torn c.args.regions valid c.requires.asked
    (rest_told L.torn c.args.regions valid c.requires.asked told new rest))

pub returns-in-bursts-clause-run : goal.returns-in-bursts-clause-run
returns-in-bursts-clause-run g c =
    let L = g.L.Listener in
    let valid = subst IsValidScene c.scene.view_is c.scene.invariant in
    let batch = c.work.new.telling.untold in
    let told = told_on L.torn c.args.regions valid c.requires.asked c.bursts.invariant.told
    (L.meaning c.work.new.listener) c.in_ok-kind.ensures.told c.in_ok-kind.ensures.advances batch
    (batch_in c.in_ok-kind.kind batch) in
    let new = L.meaning c.tell_rest.new.listener in
    let whole = hits_on L.after L.torn batch [] c.work.new.telling.fault None (L.meaning c.work.new.listener) new
    (L.faults c.work.new.listener) (L.faults c.tell_rest.new.listener) c.in_ok-tell_rest.ensures.told
    c.in_ok-kind.ensures.heard refl in
    let rest = hits_all L.after L.torn batch [] (L.meaning c.work.new.listener) new (L.faults c.work.new.listener)
    (L.faults c.tell_rest.new.listener) whole refl in
    ends L.torn c.args.regions valid c.requires.asked told new rest c.in_ok-spots.spots
    (none_left c.in_ok-kind.ensures.advances (ap (λ (v : AdvanceKind). answer_with v batch)
    (ends_else c.in_ok-kind.kind c.in_default.not-Raised c.in_default-kind.not-Limit)))
    c.in_ok-spots.ensures

pub returns-in-Limit-clause-run : goal.returns-in-Limit-clause-run
returns-in-Limit-clause-run g c =
    let L = g.L.Listener in
    let valid = subst IsValidScene c.scene.view_is c.scene.invariant in
    let batch = c.work.new.telling.untold in
    let told = told_on L.torn c.args.regions valid c.requires.asked c.bursts.invariant.told
    (L.meaning c.work.new.listener) c.in_ok-kind.ensures.told c.in_ok-kind.ensures.advances batch
    (batch_in c.in_ok-kind.kind batch) in
    let new = L.meaning c.tell_rest.new.listener in
    let whole = hits_on L.after L.torn batch [] c.work.new.telling.fault None (L.meaning c.work.new.listener) new
    (L.faults c.work.new.listener) (L.faults c.tell_rest.new.listener) c.in_ok-tell_rest.ensures.told
    c.in_ok-kind.ensures.heard refl in
    let rest = hits_all L.after L.torn batch [] (L.meaning c.work.new.listener) new (L.faults c.work.new.listener)
    (L.faults c.tell_rest.new.listener) whole refl in
    fails L.torn c.args.regions valid c.requires.asked told new rest c.in-Limit.limit
    (next_fails c.in_ok-kind.ensures.advances (ap (λ (v : AdvanceKind). answer_with v batch) c.in-Limit.is))

pub bursts-smaller : goal.bursts-smaller
bursts-smaller g c = less_left c.bursts.invariant.cell c.in_ok-kind.ensures.advances
    (ap (λ (v : AdvanceKind). answer_with v c.work.new.telling.untold) c.in-Raised.is)

pub bursts-preserved : goal.bursts-preserved
bursts-preserved g c =
    let L = g.L.Listener in
    let valid = subst IsValidScene c.scene.view_is c.scene.invariant in
    let batch = c.work.new.telling.untold in
    record {
      cell = cell_after c.in_ok-kind.ensures.advances;
      one = run_goes_on (opening_state c.args.scene.now c.args.regions) c.bursts.standing c.in_ok-kind.left
          c.bursts.invariant.one (one_after c.in_ok-kind.ensures.advances);
      of = c.work.ensures.once.0 ∙ c.bursts.invariant.of;
      few = come_on c.bursts.invariant.few c.in_ok-kind.ensures.advances (ap (λ (v : AdvanceKind). answer_with v batch) c.in-Raised.is)
          c.work.ensures.once.1;
      heard = c.in_ok-kind.ensures.heard;
      told = told_on L.torn c.args.regions valid c.requires.asked c.bursts.invariant.told
          (L.meaning c.work.new.listener) c.in_ok-kind.ensures.told c.in_ok-kind.ensures.advances batch
          (batch_in c.in_ok-kind.kind batch);
      count = c.in_ok-kind.ensures.counts ∙ c.bursts.invariant.count;
    }

pub returns-in-bursts-clause-few_bursts : goal.returns-in-bursts-clause-few_bursts
returns-in-bursts-clause-few_bursts g c =
    let batch = c.work.new.telling.untold in
    come_to_end c.bursts.invariant.few c.in_ok-kind.ensures.advances (ap (λ (v : AdvanceKind). answer_with v batch)
    (ends_else c.in_ok-kind.kind c.in_default.not-Raised c.in_default-kind.not-Limit))
    c.work.ensures.once.1 c.in_ok-spots.spots c.in_ok-spots.ensures

pub returns-in-Limit-clause-few_bursts : goal.returns-in-Limit-clause-few_bursts
returns-in-Limit-clause-few_bursts g c =
    let batch = c.work.new.telling.untold in
    come_to_limit c.bursts.invariant.few c.in_ok-kind.ensures.advances (ap (λ (v : AdvanceKind). answer_with v batch) c.in-Limit.is)
    c.work.ensures.once.1
