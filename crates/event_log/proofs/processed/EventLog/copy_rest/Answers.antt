use Rattle.std.proofs.Common.{◌≡◌, ◌++◌, List, [], ◌∷◌, length, drop, map, ap, ◌∙◌, refl, rules, arith}
use Rattle.std.proofs.lemmas.List.{with_items_is, length-map}
use Rattle.event_log.specs.declared.heads.Head.{Head}
use Rattle.event_log.specs.Logged.{Logged}
use Rattle.event_log.specs.Heads.{NarrowList, edge_of, row_place, whole_place, row_size, whole_size, lowered, log_of, AreLaid}
use Rattle.event_log.proofs.Cuts.{edge_within}
use Rattle.event_log.proofs.Laid.{dropped_log, dropped_laid}
use Rattle.event_log.proofs.Read.{row_edge_fits, whole_edge_fits, not_below, count_is}
use Rattle.event_log.proofs.processed.EventLog.copy_rest.Goals as goal

nothing : {A : Type 0} (xs : List A) → 0 ≡ length xs → xs ≡ []
nothing [] none = refl
nothing (x ∷ xs) none = absurd (omega arith)

-- a log without entries has no heads, and nothing is laid
record HasNothing (rows : NarrowList) (wholes : List Logged) (heads : List Head) : Type 0 where
  pub no_row : rows ≡ []
  pub no_whole : wholes ≡ []
  pub no_head : heads ≡ []

has_nothing : (rows : NarrowList) (wholes : List Logged) (heads : List Head) (log : List Logged) →
    AreLaid rows wholes heads → log_of rows wholes heads ≡ log → log ≡ [] → HasNothing rows wholes heads
has_nothing rows wholes [] log laid is none = record {
  no_row = nothing rows laid.row_cut;
  no_whole = nothing wholes laid.whole_cut;
  no_head = refl;
}
has_nothing rows wholes (h ∷ heads) log laid is none = absurd cc

pub rest_of-heads-requires : goal.rest_of-heads-requires
rest_of-heads-requires c =
    let a = c.self.inside in
    let count = count_is a.rows.items a.wholes.items a.heads.items c.args.self.now c.self.view_is in
    let here = ap length c.deref-2.ensures.value in
    let place = c.requires in
    omega arith

pub rest_of-rows-requires : goal.rest_of-rows-requires
rest_of-rows-requires c =
    let a = c.self.inside in
    let rows_count : c.len.result ≡ length a.rows.items = search rules in
    let row = c.edge-row.ensures.row
    ∙ (λ i. edge_of row_place (rows_count i) (c.deref.ensures.value i) c.args.from) in
    rw (row, c.deref-3.ensures.value)
    (edge_within row_place row_size 0 (length a.rows.items) c.args.from a.heads.items c.self.invariant.row_cut)

pub rest_of-wholes-requires : goal.rest_of-wholes-requires
rest_of-wholes-requires c =
    let a = c.self.inside in
    let wholes_count : c.len-2.result ≡ length a.wholes.items = search rules in
    let whole = c.edge-row.ensures.whole
    ∙ (λ i. edge_of whole_place (wholes_count i) (c.deref.ensures.value i) c.args.from) in
    rw (whole, c.deref-4.ensures.value)
    (edge_within whole_place whole_size 0 (length a.wholes.items) c.args.from a.heads.items
    c.self.invariant.whole_cut)

pub overflow_cast-row : goal.overflow_cast-row
overflow_cast-row c =
    let a = c.self.inside in
    let rows_count : c.len.result ≡ length a.rows.items = search rules in
    let row = c.edge-row.ensures.row
    ∙ (λ i. edge_of row_place (rows_count i) (c.deref.ensures.value i) c.args.from) in
    let few = row_edge_fits a.rows.items a.wholes.items a.heads.items c.args.from c.self.invariant in
    omega arith

pub overflow_cast-whole : goal.overflow_cast-whole
overflow_cast-whole c =
    let a = c.self.inside in
    let wholes_count : c.len-2.result ≡ length a.wholes.items = search rules in
    let whole = c.edge-row.ensures.whole
    ∙ (λ i. edge_of whole_place (wholes_count i) (c.deref.ensures.value i) c.args.from) in
    let few = whole_edge_fits a.rows.items a.wholes.items a.heads.items c.args.from c.self.invariant in
    omega arith

pub lower-requires : goal.lower-requires
lower-requires c =
    let a = c.self.inside in
    let b = c.into.inside in
    let rows_count : c.len.result ≡ length a.rows.items = search rules in
    let wholes_count : c.len-2.result ≡ length a.wholes.items = search rules in
    let row = c.edge-row.ensures.row
    ∙ (λ i. edge_of row_place (rows_count i) (c.deref.ensures.value i) c.args.from) in
    let whole = c.edge-row.ensures.whole
    ∙ (λ i. edge_of whole_place (wholes_count i) (c.deref.ensures.value i) c.args.from) in
    let none = has_nothing b.rows.items b.wholes.items b.heads.items c.truncate.new.self c.into.invariant c.into.view_is
    c.truncate.ensures in
    let added : c.extend_from_slice-3.new.self.items ≡ c.reserve.new.self.items ++ c.rest_of-heads.result.now =
    rw (c.extend_from_slice-3.ensures.items, c.unwrap-2.ensures) refl in
    let heads : c.deref_mut.result.now ≡ drop c.args.from a.heads.items =
    c.deref_mut.ensures.value ∙ added ∙ (λ i. (c.in_ok-reserve.ensures.items ∙ none.no_head) i
    ++ (c.rest_of-heads.ensures ∙ ap (drop c.args.from) c.deref-2.ensures.value) i) in
    record {
      places = rw (row, whole, heads) (λ k d lt. not_below a.rows.items a.wholes.items a.heads.items c.args.from k d
          c.self.invariant lt);
    }

pub invariant_of-into-2 : goal.invariant_of-into-2
invariant_of-into-2 c =
    let a = c.self.inside in
    let b = c.into.inside in
    let r = c.edge-row.result.0 in
    let w = c.edge-row.result.1 in
    let rows_count : c.len.result ≡ length a.rows.items = search rules in
    let wholes_count : c.len-2.result ≡ length a.wholes.items = search rules in
    let row = c.edge-row.ensures.row
    ∙ (λ i. edge_of row_place (rows_count i) (c.deref.ensures.value i) c.args.from) in
    let whole = c.edge-row.ensures.whole
    ∙ (λ i. edge_of whole_place (wholes_count i) (c.deref.ensures.value i) c.args.from) in
    let none = has_nothing b.rows.items b.wholes.items b.heads.items c.truncate.new.self c.into.invariant c.into.view_is
    c.truncate.ensures in
    let rows_added : c.extend_from_slice-2.new.self.items ≡ c.reserve-2.new.self.items ++ c.rest_of-rows.result.now =
    rw (c.extend_from_slice-2.ensures.items, c.unwrap.ensures) refl in
    let rows = rows_added ∙ (λ i. (c.in_ok-reserve-2.ensures.items ∙ none.no_row) i
    ++ (c.rest_of-rows.ensures ∙ (λ j. drop (row j) (c.deref-3.ensures.value j))) i) in
    let wholes = c.in_ok-extend_from_slice.ensures.items ∙ (λ i. none.no_whole i
    ++ (c.rest_of-wholes.ensures ∙ (λ j. drop (whole j) (c.deref-4.ensures.value j))) i) in
    let added : c.extend_from_slice-3.new.self.items ≡ c.reserve.new.self.items ++ c.rest_of-heads.result.now =
    rw (c.extend_from_slice-3.ensures.items, c.unwrap-2.ensures) refl in
    let before = added ∙ (λ i. (c.in_ok-reserve.ensures.items ∙ none.no_head) i
    ++ (c.rest_of-heads.ensures ∙ ap (drop c.args.from) c.deref-2.ensures.value) i) in
    let heads = with_items_is c.extend_from_slice-3.new.self c.lower.new.heads
    (ap length c.lower.ensures ∙ length-map c.deref_mut.result.now (lowered r w) ∙ c.deref_mut.ensures.len)
    ∙ c.lower.ensures
    ∙ (λ i. map (lowered (row i) (whole i)) ((c.deref_mut.ensures.value ∙ before) i)) in
    rw (rows, wholes, heads)
    (dropped_laid a.rows.items a.wholes.items a.heads.items c.args.from c.self.invariant)

pub returns : goal.returns
returns c =
    let a = c.self.inside in
    let b = c.into.inside in
    let r = c.edge-row.result.0 in
    let w = c.edge-row.result.1 in
    let rows_count : c.len.result ≡ length a.rows.items = search rules in
    let wholes_count : c.len-2.result ≡ length a.wholes.items = search rules in
    let row = c.edge-row.ensures.row
    ∙ (λ i. edge_of row_place (rows_count i) (c.deref.ensures.value i) c.args.from) in
    let whole = c.edge-row.ensures.whole
    ∙ (λ i. edge_of whole_place (wholes_count i) (c.deref.ensures.value i) c.args.from) in
    let none = has_nothing b.rows.items b.wholes.items b.heads.items c.truncate.new.self c.into.invariant c.into.view_is
    c.truncate.ensures in
    let rows_added : c.extend_from_slice-2.new.self.items ≡ c.reserve-2.new.self.items ++ c.rest_of-rows.result.now =
    rw (c.extend_from_slice-2.ensures.items, c.unwrap.ensures) refl in
    let rows = rows_added ∙ (λ i. (c.in_ok-reserve-2.ensures.items ∙ none.no_row) i
    ++ (c.rest_of-rows.ensures ∙ (λ j. drop (row j) (c.deref-3.ensures.value j))) i) in
    let wholes = c.in_ok-extend_from_slice.ensures.items ∙ (λ i. none.no_whole i
    ++ (c.rest_of-wholes.ensures ∙ (λ j. drop (whole j) (c.deref-4.ensures.value j))) i) in
    let added : c.extend_from_slice-3.new.self.items ≡ c.reserve.new.self.items ++ c.rest_of-heads.result.now =
    rw (c.extend_from_slice-3.ensures.items, c.unwrap-2.ensures) refl in
    let before = added ∙ (λ i. (c.in_ok-reserve.ensures.items ∙ none.no_head) i
    ++ (c.rest_of-heads.ensures ∙ ap (drop c.args.from) c.deref-2.ensures.value) i) in
    let heads = with_items_is c.extend_from_slice-3.new.self c.lower.new.heads
    (ap length c.lower.ensures ∙ length-map c.deref_mut.result.now (lowered r w) ∙ c.deref_mut.ensures.len)
    ∙ c.lower.ensures
    ∙ (λ i. map (lowered (row i) (whole i)) ((c.deref_mut.ensures.value ∙ before) i)) in
    (λ i. log_of (rows i) (wholes i) (heads i))
    ∙ dropped_log a.rows.items a.wholes.items a.heads.items c.args.from c.self.invariant
    ∙ ap (drop c.args.from) c.self.view_is
