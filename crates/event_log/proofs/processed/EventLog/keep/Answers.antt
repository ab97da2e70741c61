use Rattle.std.proofs.Common.{◌≡◌, ◌<◌, ◌++◌, [], ◌∷◌, List, length, ap, ◌∙◌, rules, arith, refl}
use Rattle.local_run.specs.declared.entry.TheConstants.{MAX_ENTRIES}
use Rattle.event_log.specs.declared.heads.Head.{Head}
use Rattle.event_log.specs.Logged.{Logged}
use Rattle.event_log.specs.Heads.{log_of, logged}
use Rattle.event_log.proofs.Laid.{IsNext, pushed_log, pushed_laid, still_laid}
use Rattle.event_log.proofs.Alike.{placed_at}
use Rattle.event_log.proofs.Read.{rows_fit, wholes_fit, count_is}
use Rattle.event_log.proofs.processed.EventLog.keep.Goals as goal

pub overflow_cast-head : goal.overflow_cast-head
overflow_cast-head c =
    let a = c.self.inside in
    let rows_count : c.len.result ≡ length a.rows.items = search rules in
    let few = rows_fit a.rows.items a.wholes.items a.heads.items c.self.invariant in
    omega arith

pub overflow_cast-head-2 : goal.overflow_cast-head-2
overflow_cast-head-2 c =
    let a = c.self.inside in
    let wholes_count : c.len-2.result ≡ length a.wholes.items = search rules in
    let few = wholes_fit a.rows.items a.wholes.items a.heads.items c.self.invariant in
    omega arith

pub invariant_of-self-2 : goal.invariant_of-self-2
invariant_of-self-2 c =
    let a = c.self.inside in
    let head : Head = record {
      stamp = c.args.stamp;
      cell = c.args.cell;
      row = c.len.result;
      whole = c.len-2.result;
      form = c.args.form;
    } in
    let next : IsNext a.rows.items a.wholes.items c.args.rows.now head = record {
      row = search rules;
      whole = search rules;
      count = c.requires.rows;
      narrow = c.requires.narrow;
      order = c.requires.order;
    } in
    let count = count_is a.rows.items a.wholes.items a.heads.items c.args.self.now c.self.view_is in
    let room : length a.heads.items < MAX_ENTRIES = let most = c.requires.room in omega arith in
    rw (c.push_rows.ensures, c.in_ok-reserve-2.ensures.items, c.push_reserved.ensures.items, c.in_ok-reserve.ensures.items)
    (pushed_laid a.rows.items a.wholes.items a.heads.items c.args.rows.now head c.self.invariant next room)

pub returns-clause-pushed : goal.returns-clause-pushed
returns-clause-pushed c =
    let a = c.self.inside in
    let head : Head = record {
      stamp = c.args.stamp;
      cell = c.args.cell;
      row = c.len.result;
      whole = c.len-2.result;
      form = c.args.form;
    } in
    let next : IsNext a.rows.items a.wholes.items c.args.rows.now head = record {
      row = search rules;
      whole = search rules;
      count = c.requires.rows;
      narrow = c.requires.narrow;
      order = c.requires.order;
    } in
    let rows = rw c.in_ok-reserve-2.ensures.items at c.push_rows.ensures in
    let heads = c.push_reserved.ensures.items ∙ ap (λ (hs : List Head). hs ++ head ∷ []) c.in_ok-reserve.ensures.items in
    (λ i. log_of (rows i) a.wholes.items (heads i))
    ∙ pushed_log a.rows.items a.wholes.items a.heads.items c.args.rows.now head c.self.invariant next
    ∙ ap (λ (l : List Logged). l ++ logged c.args.rows.now [] (placed_at 0 0 head) ∷ []) c.self.view_is

pub invariant_of-self : goal.invariant_of-self
invariant_of-self c =
    let a = c.self.inside in
    still_laid a.rows.items a.rows.items a.wholes.items a.heads.items c.reserve.new.self.items refl
    c.in_err-reserve.ensures.items c.self.invariant

pub invariant_of-self-in_err-reserve-2 : goal.invariant_of-self-in_err-reserve-2
invariant_of-self-in_err-reserve-2 c =
    let a = c.self.inside in
    still_laid a.rows.items c.reserve-2.new.self.items a.wholes.items a.heads.items
    c.reserve.new.self.items c.in_err-reserve-2.ensures.items c.in_ok-reserve.ensures.items c.self.invariant
