use Rattle.std.proofs.Common.{◌≡◌, ℕ, ◌-◌, List, length, take, slice_get, sym, ap, ◌∙◌, rules, arith, Option, Some, None, vec_len}
use Rattle.std.specs.Prelude.{option_map}
use Rattle.std.proofs.lemmas.Option.{none-some, same_Some, slice_get-map}
use Rattle.region_view.specs.Setting.{RowList}
use Rattle.local_run.specs.declared.entry.Entry.{Entry}
use Rattle.event_log.specs.Logged.{Logged, entries_in, backs_in}
use Rattle.event_log.proofs.Read.{count_is}
use Rattle.event_log.proofs.Counted.{some_there, none_there, nothing_to_take, nothing_last}
use Rattle.event_log.proofs.processed.EventLog.drop_last.Goals as goal

item_is : (o : Option Logged) (e : Entry) (back : RowList) → option_map (λ (l : Logged). l.0) o ≡ Some e →
    option_map (λ (l : Logged). l.1) o ≡ Some back → Some (e, back) ≡ o
item_is None e back he hb = absurd (none-some e he)
item_is (Some l) e back he hb =
    let entry = same_Some l.0 e he in
    let rows = same_Some l.1 back hb in
    λ i. Some (sym entry i, sym rows i)

-- an entry and the rows that lead back over it are an item of the log
both_are : (log : List Logged) (i : ℕ) (e : Entry) (back : RowList) → slice_get (entries_in log) i ≡ Some e →
    slice_get (backs_in log) i ≡ Some back → Some (e, back) ≡ slice_get log i
both_are log i e back he hb =
    item_is (slice_get log i) e back (sym (slice_get-map (λ (l : Logged). l.0) log i) ∙ he)
    (sym (slice_get-map (λ (l : Logged). l.1) log i) ∙ hb)

pub returns-clause-log : goal.returns-clause-log
returns-clause-log c =
    let a = c.self.inside in
    let count = count_is a.rows.items a.wholes.items a.heads.items c.args.self.now c.self.view_is in
    let all : c.len-last.result ≡ length a.heads.items = search rules in
    let last : c.len-last.result - 1 ≡ length c.args.self.now - 1 = omega arith in
    c.truncate.ensures ∙ ap (λ (n : ℕ). take n c.args.self.now) last

pub returns-clause-last : goal.returns-clause-last
returns-clause-last c =
    let a = c.self.inside in
    let count = count_is a.rows.items a.wholes.items a.heads.items c.args.self.now c.self.view_is in
    let all : c.len-last.result ≡ length a.heads.items = search rules in
    let last : c.len-last.result - 1 ≡ length c.args.self.now - 1 = omega arith in
    both_are c.args.self.now (c.len-last.result - 1) c.entry.result c.back.result c.entry.ensures c.back.ensures
    ∙ ap (slice_get c.args.self.now) last

pub truncate-requires : goal.truncate-requires
truncate-requires c =
    let a = c.self.inside in
    let count = count_is a.rows.items a.wholes.items a.heads.items c.args.self.now c.self.view_is in
    let all : c.len-last.result ≡ length a.heads.items = search rules in
    record { place = omega arith }

pub entry-requires : goal.entry-requires
entry-requires c =
    let a = c.self.inside in
    let count = count_is a.rows.items a.wholes.items a.heads.items c.args.self.now c.self.view_is in
    let some = some_there c.is_empty.result (vec_len a.heads) c.is_empty.ensures c.if-is_empty.false in
    record { within = omega (arith, a.heads.ok.0, c.len-last.ensures) }

pub back-requires : goal.back-requires
back-requires c =
    let a = c.self.inside in
    let count = count_is a.rows.items a.wholes.items a.heads.items c.args.self.now c.self.view_is in
    let some = some_there c.is_empty.result (vec_len a.heads) c.is_empty.ensures c.if-is_empty.false in
    record { within = omega (arith, a.heads.ok.0, c.len-last.ensures) }

pub returns-then-is_empty-clause-log : goal.returns-then-is_empty-clause-log
returns-then-is_empty-clause-log c =
    let a = c.self.inside in
    let count = count_is a.rows.items a.wholes.items a.heads.items c.args.self.now c.self.view_is in
    let none = none_there c.is_empty.result (vec_len a.heads) c.is_empty.ensures c.if-is_empty.true in
    nothing_to_take c.args.self.now (omega (arith, a.heads.ok.0))

pub returns-then-is_empty-clause-last : goal.returns-then-is_empty-clause-last
returns-then-is_empty-clause-last c =
    let a = c.self.inside in
    let count = count_is a.rows.items a.wholes.items a.heads.items c.args.self.now c.self.view_is in
    let none = none_there c.is_empty.result (vec_len a.heads) c.is_empty.ensures c.if-is_empty.true in
    nothing_last c.args.self.now (omega (arith, a.heads.ok.0))
