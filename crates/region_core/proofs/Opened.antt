-- A region with an empty log.
use Rattle.std.proofs.Common.{◌≡◌, ℕ, zero, suc, List, [], replicate, refl, sym, ap, ◌∙◌, subst}
use Rattle.std.proofs.lemmas.List.{length-replicate}
use Rattle.event_stamps.specs.declared.Stamp.{Stamp}
use Rattle.event_stamps.specs.Order.{Before, end_stamp}
use Rattle.region_view.specs.Placing.{IsValidPlacing}
use Rattle.region_view.specs.Views.{ViewData, rows_in}
use Rattle.region_queue.specs.Queue.{IsOf, StandsFor}
use Rattle.local_run.specs.declared.home.Home.{Home}
use Rattle.event_log.specs.Logged.{Logged, entries_in, backs_in}
use Rattle.event_log.specs.Undoing.{undone}
use Rattle.event_log.specs.Traced.{IsTraced}
use Rattle.region_core.proofs.Traced.{has_trace}
use Rattle.region_core.specs.declared.live.Live.{Live}
use Rattle.local_run.specs.LocalRun.{Local, now_of, IsRight}
use Rattle.local_run.proofs.Opened.{no_trail, empty_run, empty_right}
use Rattle.region_parts.specs.Inbox.{InboxData, empty_inbox, taken_from}
use Rattle.region_core.specs.Live.{base_in, run_in, HasTrace, IsInbox, IsOutbox, IsBodyOf}

none_taken : (n q : ℕ) → taken_from (empty_inbox n) q ≡ 0
none_taken zero q = refl
none_taken (suc n) zero = refl
none_taken (suc n) (suc q) = none_taken n q

-- an empty log begins in the newest view
pub opened_base : (base : ViewData) (live : Live) → live.log ≡ [] → live.view ≡ base → base_in live ≡ base
opened_base base live log view = ap (λ (es : List Logged). undone live.view (backs_in es)) log ∙ view

-- what a body with an empty log keeps
opened_there : (home : Home) (floor : Stamp) (live : Live) →
    IsValidPlacing home.rules home.grid (rows_in (base_in live)) → ¬ Before (end_stamp home.rules.end) floor →
    live.log ≡ [] → live.inbox ≡ empty_inbox home.grid.regions →
    live.sent.items ≡ replicate home.grid.regions [] → HasTrace live →
    IsOf live.queue home.rules home.grid home.number → StandsFor live.queue (base_in live) →
    IsBodyOf home floor live
unfolding empty_run
opened_there home floor live valid in_time log inbox sent traced queue stands = record {
  right = subst (IsRight home) run (empty_right home floor (base_in live) valid in_time);
  inbox = subst (λ (es : List Logged). IsInbox home (entries_in es) live.inbox) (sym log)
      (subst (IsInbox home []) (sym inbox) record {
        regions = simp length-replicate;
        counts = simp length-replicate;
        taken = λ q lt. none_taken home.grid.regions q;
      });
  sent = subst (λ (es : List Logged). IsOutbox home (base_in live) (entries_in es) live.sent.items) (sym log)
      (subst (IsOutbox home (base_in live) []) (sym sent) record {
        regions = simp length-replicate;
        each = λ q lt linked. no_trail home.grid.regions q;
      });
  traced = traced;
  queue = queue;
  stands = subst (λ (r : Local). StandsFor live.queue (now_of r).view) run stands;
}
  where
    run : empty_run home.grid.regions floor (base_in live) ≡ run_in floor live
    run = λ i. record {
      floor = floor;
      base = base_in live;
      heard = ap (λ (x : InboxData). x.heard) (sym inbox) i;
      log = ap entries_in (sym log) i;
    }

-- the same, given what it opens with
pub opened_is : (home : Home) (floor : Stamp) (base : ViewData) (live : Live) →
    IsValidPlacing home.rules home.grid (rows_in base) → ¬ Before (end_stamp home.rules.end) floor →
    live.log ≡ [] → live.view ≡ base → live.inbox ≡ empty_inbox home.grid.regions →
    live.sent.items ≡ replicate home.grid.regions [] →
    IsOf live.queue home.rules home.grid home.number → StandsFor live.queue base →
    IsBodyOf home floor live
opened_is home floor base live valid in_time log view inbox sent queue stands =
    let first : base ≡ base_in live = sym (opened_base base live log view) in
    let traced : IsTraced base live.view live.log =
    subst (IsTraced base live.view) (sym log) (record { forth = sym view; back = tt }) in
    opened_there home floor live
    (subst (λ (v : ViewData). IsValidPlacing home.rules home.grid (rows_in v)) first valid)
    in_time log inbox sent (has_trace base live traced) queue
    (subst (StandsFor live.queue) first stands)
