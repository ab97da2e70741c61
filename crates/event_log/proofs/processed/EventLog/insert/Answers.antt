use Rattle.std.proofs.Common.{◌≡◌, ◌<◌, ◌≤◌, ◌++◌, ℕ, List, length, take, drop, map, ap, ◌∙◌, rules, arith, sym, subst, refl}
use Rattle.std.specs.List.{insert}
use Rattle.std.proofs.lemmas.List.{with_items_is}
use Rattle.local_run.specs.declared.entry.TheConstants.{MAX_ENTRIES}
use Rattle.event_log.specs.declared.heads.Head.{Head}
use Rattle.event_log.specs.declared.heads.Form.TheVariants.{Whole}
use Rattle.event_log.specs.Logged.{Logged}
use Rattle.event_log.specs.Heads.{edge_of, row_place, whole_place, whole_size, raised_head, log_of, AreLaid}
use Rattle.event_log.proofs.Cuts.{edge_within}
use Rattle.event_log.proofs.Laid.{inserted_log, inserted_laid, length_raised, with_whole, still_laid}
use Rattle.event_log.proofs.Read.{row_edge_fits, whole_edge_fits, place_fits, count_is}
use Rattle.event_log.proofs.processed.EventLog.insert.Goals as goal

pub overflow_cast-head : goal.overflow_cast-head
overflow_cast-head c =
    let a = c.self.inside in
    let rows_count : c.len.result ≡ length a.rows.items = search rules in
    let row = c.edge-row.ensures.row
    ∙ (λ i. edge_of row_place (rows_count i) (c.deref.ensures.value i) c.args.at) in
    let few = row_edge_fits a.rows.items a.wholes.items a.heads.items c.args.at c.self.invariant in
    omega arith

pub overflow_cast-head-2 : goal.overflow_cast-head-2
overflow_cast-head-2 c =
    let a = c.self.inside in
    let wholes_count : c.len-2.result ≡ length a.wholes.items = search rules in
    let whole = c.edge-row.ensures.whole
    ∙ (λ i. edge_of whole_place (wholes_count i) (c.deref.ensures.value i) c.args.at) in
    let few = whole_edge_fits a.rows.items a.wholes.items a.heads.items c.args.at c.self.invariant in
    omega arith

pub insert-requires : goal.insert-requires
insert-requires c =
    let a = c.self.inside in
    let wholes_count : c.len-2.result ≡ length a.wholes.items = search rules in
    let whole = c.edge-row.ensures.whole
    ∙ (λ i. edge_of whole_place (wholes_count i) (c.deref.ensures.value i) c.args.at) in
    let within = edge_within whole_place whole_size 0 (length a.wholes.items) c.args.at a.heads.items
    c.self.invariant.whole_cut in
    omega arith

pub raise_from-requires-clause-room : goal.raise_from-requires-clause-room
raise_from-requires-clause-room c =
    let a = c.self.inside in
    let heads : c.deref_mut.result.now ≡ a.heads.items =
    c.deref_mut.ensures.value ∙ c.in_ok-reserve.ensures.items in
    rw heads (λ k d lt. place_fits a.rows.items a.wholes.items a.heads.items k d c.self.invariant lt)

pub invariant_of-self-2 : goal.invariant_of-self-2
invariant_of-self-2 c =
    let a = c.self.inside in
    let x : Logged = (c.args.entry.now, c.args.back.now) in
    let rows_count : c.len.result ≡ length a.rows.items = search rules in
    let wholes_count : c.len-2.result ≡ length a.wholes.items = search rules in
    let row = c.edge-row.ensures.row
    ∙ (λ i. edge_of row_place (rows_count i) (c.deref.ensures.value i) c.args.at) in
    let whole = c.edge-row.ensures.whole
    ∙ (λ i. edge_of whole_place (wholes_count i) (c.deref.ensures.value i) c.args.at) in
    let wholes = c.in_ok-insert.ensures.items ∙ ap (λ (n : ℕ). insert a.wholes.items n x) whole in
    let before = c.deref_mut.ensures.value ∙ c.in_ok-reserve.ensures.items in
    let raised_heads = with_items_is c.reserve.new.self c.raise_from.new.heads
    (ap length c.raise_from.ensures ∙ length_raised c.args.at c.deref_mut.result.now ∙ c.deref_mut.ensures.len)
    ∙ c.raise_from.ensures ∙ ap (λ (hs : List Head). take c.args.at hs ++ map raised_head (drop c.args.at hs)) before in
    let heads : c.insert-2.new.self.items
    ≡ with_whole a.rows.items a.wholes.items a.heads.items c.args.at c.stamp.result =
    rw (c.insert-2.ensures.items, c.unwrap.ensures) (λ i. insert (raised_heads i) c.args.at (record {
      stamp = c.stamp.result;
      cell = 0;
      row = row i;
      whole = whole i;
      form = Whole;
    })) in
    let count = count_is a.rows.items a.wholes.items a.heads.items c.args.self.now c.self.view_is in
    let room : length a.heads.items < MAX_ENTRIES = let most = c.requires.room in omega arith in
    let place : c.args.at ≤ length a.heads.items = let at = c.requires.place in omega arith in
    rw (wholes, heads) (inserted_laid a.rows.items a.wholes.items a.heads.items c.args.at x c.stamp.result
    c.self.invariant place c.stamp.ensures room)

pub returns-clause-inserted : goal.returns-clause-inserted
returns-clause-inserted c =
    let a = c.self.inside in
    let x : Logged = (c.args.entry.now, c.args.back.now) in
    let rows_count : c.len.result ≡ length a.rows.items = search rules in
    let wholes_count : c.len-2.result ≡ length a.wholes.items = search rules in
    let row = c.edge-row.ensures.row
    ∙ (λ i. edge_of row_place (rows_count i) (c.deref.ensures.value i) c.args.at) in
    let whole = c.edge-row.ensures.whole
    ∙ (λ i. edge_of whole_place (wholes_count i) (c.deref.ensures.value i) c.args.at) in
    let wholes = c.in_ok-insert.ensures.items ∙ ap (λ (n : ℕ). insert a.wholes.items n x) whole in
    let before = c.deref_mut.ensures.value ∙ c.in_ok-reserve.ensures.items in
    let raised_heads = with_items_is c.reserve.new.self c.raise_from.new.heads
    (ap length c.raise_from.ensures ∙ length_raised c.args.at c.deref_mut.result.now ∙ c.deref_mut.ensures.len)
    ∙ c.raise_from.ensures ∙ ap (λ (hs : List Head). take c.args.at hs ++ map raised_head (drop c.args.at hs)) before in
    let heads : c.insert-2.new.self.items
    ≡ with_whole a.rows.items a.wholes.items a.heads.items c.args.at c.stamp.result =
    rw (c.insert-2.ensures.items, c.unwrap.ensures) (λ i. insert (raised_heads i) c.args.at (record {
      stamp = c.stamp.result;
      cell = 0;
      row = row i;
      whole = whole i;
      form = Whole;
    })) in
    let count = count_is a.rows.items a.wholes.items a.heads.items c.args.self.now c.self.view_is in
    let place : c.args.at ≤ length a.heads.items = let at = c.requires.place in omega arith in
    (λ i. log_of a.rows.items (wholes i) (heads i))
    ∙ inserted_log a.rows.items a.wholes.items a.heads.items c.args.at x c.stamp.result c.self.invariant place
    ∙ ap (λ (l : List Logged). insert l c.args.at x) c.self.view_is

pub insert-requires-2 : goal.insert-requires-2
insert-requires-2 c =
    let a = c.self.inside in
    let count = count_is a.rows.items a.wholes.items a.heads.items c.args.self.now c.self.view_is in
    let kept = ap length c.in_ok-reserve.ensures.items in
    let held = c.reserve.new.self.ok.0 in
    let at = c.requires.place in
    omega arith

pub raise_from-requires-clause-place : goal.raise_from-requires-clause-place
raise_from-requires-clause-place c =
    let a = c.self.inside in
    let count = count_is a.rows.items a.wholes.items a.heads.items c.args.self.now c.self.view_is in
    let heads = ap length (c.deref_mut.ensures.value ∙ c.in_ok-reserve.ensures.items) in
    let at = c.requires.place in
    omega arith

pub invariant_of-self-in_err-insert : goal.invariant_of-self-in_err-insert
invariant_of-self-in_err-insert c =
    let rows = c.self.inside.rows.items in
    subst (λ (wholes : List Logged). AreLaid rows wholes c.reserve.new.self.items)
    (sym c.in_err-insert.ensures.items)
    (subst (AreLaid rows c.self.inside.wholes.items) (sym c.in_ok-reserve.ensures.items) c.self.invariant)

pub invariant_of-self : goal.invariant_of-self
invariant_of-self c =
    let a = c.self.inside in
    still_laid a.rows.items a.rows.items a.wholes.items a.heads.items c.reserve.new.self.items refl
    c.in_err-reserve.ensures.items c.self.invariant
