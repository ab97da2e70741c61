use Rattle.std.proofs.Common.{Result, [], None, Some, refl, ◌∙◌, subst}
use Rattle.std.specs.Prelude.{IfErr}
use Rattle.std.proofs.lemmas.Result.{err_from_is_err_and}
use Rattle.event_rules.specs.declared.outcome.RunFault.{RunFault}
use Rattle.event_rules.specs.declared.outcome.RunFault.TheVariants.{Listener, NoMemory}
use Rattle.event_rules.specs.Tellings.{CountsRun}
use Rattle.cell_sequence.specs.State.{CellStateData}
use Rattle.commit_horizon.specs.Horizon.{runs_of}
use Rattle.commit_horizon.specs.Telling.{HitsCutShort}
use Rattle.commit_horizon.proofs.Goes.{still_awaited, tells_further, torn_prefix}
use Rattle.run_core.specs.declared.answers.AdvanceKind.{AdvanceKind}
use Rattle.run_core.specs.Standing.{GoesOnTo}
use Rattle.run_core.proofs.ToldOn.{fits_unheard, hits_all, hits_cut, hits_on, torn_on}
use Rattle.run_core.proofs.Untold.{at_fault}
use Rattle.run_core.proofs.simulation.work.Goals as goal

pub tell_rest-requires : goal.tell_rest-requires
tell_rest-requires g c =
    let L = g.L.Listener in
    let was = c.args.telling.now in
    let old = L.meaning c.args.listener.now in
    still_awaited L.after L.torn L.awaits was.untold c.work.new.beside.untold was.fault c.work.new.beside.fault old
    (L.meaning c.work.new.lent) (L.faults c.args.listener.now) (L.faults c.work.new.lent)
    (fits_unheard L.after L.awaits was.untold was.fault old c.requires.heard c.requires.awaited) c.work.ensures.beside

pub returns-in_err-tell_rest-in-Ok-clause-cut_short : goal.returns-in_err-tell_rest-in-Ok-clause-cut_short
returns-in_err-tell_rest-in-Ok-clause-cut_short g c =
    let L = g.L.Listener in
    let untold = c.args.telling.now.untold in
    let old = L.meaning c.args.listener.now in
    let new = L.meaning c.tell_rest.new.listener in
    let f = L.faults c.args.listener.now in
    let h = L.faults c.tell_rest.new.listener in
    let before = c.args.telling.now.fault in
    let left = c.tell_rest.new.self.untold in
    let deaf = c.in_err-tell_rest-in-Ok.field-0.0 in
    let on = tells_further L.after L.torn untold c.work.new.beside.untold left before c.work.new.beside.fault (Some deaf)
    old (L.meaning c.work.new.lent) new f (L.faults c.work.new.lent) h c.work.ensures.beside
    c.in_err-tell_rest-in-Ok.ensures.refused in
    let r = c.from_residual.result in
    let fault = err_from_is_err_and r c.from_residual.ensures.1 in
    at_fault (λ (v : Result (AdvanceKind × CellStateData) RunFault). IfErr v (λ e. HitsCutShort L.after L.torn untold e
    old new)) r fault.0 Listener fault.1 fault.2 (torn_prefix L.after L.torn untold old new f h
    (torn_on L.after L.torn untold left before (Some deaf) old new f h on c.requires.heard deaf refl))

pub returns-in_err-advanced-in-Ok-clause-cut_short : goal.returns-in_err-advanced-in-Ok-clause-cut_short
returns-in_err-advanced-in-Ok-clause-cut_short g c =
    let L = g.L.Listener in
    let untold = c.args.telling.now.untold in
    let old = L.meaning c.args.listener.now in
    let new = L.meaning c.tell_rest.new.listener in
    let f = L.faults c.args.listener.now in
    let h = L.faults c.tell_rest.new.listener in
    let before = c.args.telling.now.fault in
    let on = tells_further L.after L.torn untold c.work.new.beside.untold [] before c.work.new.beside.fault None
    old (L.meaning c.work.new.lent) new f (L.faults c.work.new.lent) h c.work.ensures.beside
    c.in_ok-tell_rest-in-Ok.ensures.told in
    let r = c.from_residual-in_err-advanced-in-Ok.result in
    let fault = err_from_is_err_and r c.from_residual-in_err-advanced-in-Ok.ensures.1 in
    at_fault (λ (v : Result (AdvanceKind × CellStateData) RunFault). IfErr v (λ e. HitsCutShort L.after L.torn untold e
    old new)) r fault.0 NoMemory fault.1 fault.2 (hits_cut L.after L.torn untold [] old new f h
    (hits_on L.after L.torn untold [] before None old new f h on c.requires.heard refl))

pub returns-in_err-advanced-in-Ok-clause-counts : goal.returns-in_err-advanced-in-Ok-clause-counts
returns-in_err-advanced-in-Ok-clause-counts g c =
    let L = g.L.Listener in
    let untold = c.args.telling.now.untold in
    let old = L.meaning c.args.listener.now in
    let new = L.meaning c.tell_rest.new.listener in
    let f = L.faults c.args.listener.now in
    let h = L.faults c.tell_rest.new.listener in
    let before = c.args.telling.now.fault in
    let on = tells_further L.after L.torn untold c.work.new.beside.untold [] before c.work.new.beside.fault None
    old (L.meaning c.work.new.lent) new f (L.faults c.work.new.lent) h c.work.ensures.beside
    c.in_ok-tell_rest-in-Ok.ensures.told in
    let r = c.from_residual-in_err-advanced-in-Ok.result in
    let fault = err_from_is_err_and r c.from_residual-in_err-advanced-in-Ok.ensures.1 in
    at_fault (CountsRun {T = AdvanceKind × CellStateData} f h) r fault.0 NoMemory fault.1 fault.2
    (hits_on L.after L.torn untold [] before None old new f h on c.requires.heard refl).3

pub returns-in_ok-advanced-in-Ok-clause-advances : goal.returns-in_ok-advanced-in-Ok-clause-advances
returns-in_ok-advanced-in-Ok-clause-advances g c =
    let inside = c.worked.inside in
    let goes = subst (GoesOnTo inside.earlier inside.last inside.floor inside.regions.items)
    (c.worked.view_is ∙ c.in-Ok.ensures.state) c.worked.invariant in (
      runs_of inside.regions.items,
      c.in_ok-advanced-in-Ok.ensures c.args.standing inside.floor goes,
    )

pub returns-in_ok-advanced-in-Ok-clause-told : goal.returns-in_ok-advanced-in-Ok-clause-told
returns-in_ok-advanced-in-Ok-clause-told g c =
    let L = g.L.Listener in
    let untold = c.args.telling.now.untold in
    let old = L.meaning c.args.listener.now in
    let new = L.meaning c.tell_rest.new.listener in
    let f = L.faults c.args.listener.now in
    let h = L.faults c.tell_rest.new.listener in
    let before = c.args.telling.now.fault in
    let on = tells_further L.after L.torn untold c.work.new.beside.untold [] before c.work.new.beside.fault None
    old (L.meaning c.work.new.lent) new f (L.faults c.work.new.lent) h c.work.ensures.beside
    c.in_ok-tell_rest-in-Ok.ensures.told in
    hits_all L.after L.torn untold [] old new f h
    (hits_on L.after L.torn untold [] before None old new f h on c.requires.heard refl) refl

pub returns-in_ok-advanced-in-Ok-clause-counts : goal.returns-in_ok-advanced-in-Ok-clause-counts
returns-in_ok-advanced-in-Ok-clause-counts g c =
    let L = g.L.Listener in
    let untold = c.args.telling.now.untold in
    let old = L.meaning c.args.listener.now in
    let new = L.meaning c.tell_rest.new.listener in
    let f = L.faults c.args.listener.now in
    let h = L.faults c.tell_rest.new.listener in
    let before = c.args.telling.now.fault in
    let on = tells_further L.after L.torn untold c.work.new.beside.untold [] before c.work.new.beside.fault None
    old (L.meaning c.work.new.lent) new f (L.faults c.work.new.lent) h c.work.ensures.beside
    c.in_ok-tell_rest-in-Ok.ensures.told in
    (hits_on L.after L.torn untold [] before None old new f h on c.requires.heard refl).3

pub returns-in-Some-clause-cut_short : goal.returns-in-Some-clause-cut_short
returns-in-Some-clause-cut_short g c =
    let L = g.L.Listener in
    let untold = c.args.telling.now.untold in
    let old = L.meaning c.args.listener.now in
    let new = L.meaning c.work.new.lent in
    let f = L.faults c.args.listener.now in
    let h = L.faults c.work.new.lent in
    torn_prefix L.after L.torn untold old new f h
    (torn_on L.after L.torn untold c.work.new.beside.untold c.args.telling.now.fault c.work.new.beside.fault old new
    f h c.work.ensures.beside c.requires.heard c.in-Some.field-0 c.in-Some.is)

pub returns-in-None-clause-cut_short : goal.returns-in-None-clause-cut_short
returns-in-None-clause-cut_short g c =
    let L = g.L.Listener in
    let untold = c.args.telling.now.untold in
    let old = L.meaning c.args.listener.now in
    let new = L.meaning c.work.new.lent in
    let f = L.faults c.args.listener.now in
    let h = L.faults c.work.new.lent in
    hits_cut L.after L.torn untold c.work.new.beside.untold old new f h
    (hits_on L.after L.torn untold c.work.new.beside.untold c.args.telling.now.fault c.work.new.beside.fault old new
    f h c.work.ensures.beside c.requires.heard c.in-None.is)
