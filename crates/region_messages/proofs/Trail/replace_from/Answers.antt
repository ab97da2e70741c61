use Rattle.std.proofs.Common.{◌≡◌, ◌∙◌, ◌-◌, Bool, true, false, List, ◌++◌, length, take, drop, sym, ap, subst, Result, Ok, Err}
use Rattle.std.specs.Prelude.{if◌then◌else◌, is_ok, OnOk, OnErr}
use Rattle.std.proofs.lemmas.List.{take_rest}
use Rattle.region_view.specs.declared.rows.Message.{Message}
use Rattle.region_messages.specs.Trails.{Rises, below, from}
use Rattle.region_messages.proofs.Parts.{rises_replaced}
use Rattle.region_messages.proofs.Trail.replace_from.Goals as goal

either : (b : Bool) (kept all : List Message) → Rises kept → Rises all →
    Rises (if b then all else kept)
either true kept all rk ra = ra
either false kept all rk ra = rk

pub invariant_of-self : goal.invariant_of-self
invariant_of-self c =
    let t = c.args.at in
    let start = c.count_below-start.result in
    let own = c.self.inside.messages.items in
    let others = c.other.inside.messages.items in
    let kept : own ≡ below t c.args.self.now = c.self.view_is ∙ c.cut_from.ensures in
    let more : take (length c.deref-2.result.now - start) (drop start c.deref-2.result.now)
    ≡ from t others = take_rest c.deref-2.result.now start
    ∙ ap (drop start) (c.deref-2.ensures.value ∙ sym c.deref.ensures.value)
    ∙ c.count_below-start.ensures.from ∙ ap (from t) c.deref.ensures.value in
    let all = ap (λ (v : List Message). own ++ v) more
    ∙ ap (λ (v : List Message). v ++ from t others) kept in
    subst Rises (sym c.extend_from_slice.ensures.items)
    (either (is_ok c.extend_from_slice.result) _ _ c.self.invariant
    (subst Rises (sym all) (rises_replaced t c.args.self.now others
    (subst Rises kept c.self.invariant) c.other.invariant)))

-- either all was taken or nothing: what is there after an `Ok`, and after an `Err`
all_taken : {T E : Type 0} (r : Result T E) (now kept all wanted : List Message) →
    now ≡ (if is_ok r then all else kept) → all ≡ wanted → OnOk r (now ≡ wanted)
all_taken (Ok x) now kept all wanted is same = is ∙ same
all_taken (Err e) now kept all wanted is same = tt

none_taken : {T E : Type 0} (r : Result T E) (now kept all wanted : List Message) →
    now ≡ (if is_ok r then all else kept) → kept ≡ wanted → OnErr r (now ≡ wanted)
none_taken (Ok x) now kept all wanted is same = tt
none_taken (Err e) now kept all wanted is same = is ∙ same

pub returns-clause-replaced : goal.returns-clause-replaced
returns-clause-replaced c =
    let t = c.args.at in
    let start = c.count_below-start.result in
    let own = c.self.inside.messages.items in
    let others = c.other.inside.messages.items in
    let kept : own ≡ below t c.args.self.now = c.self.view_is ∙ c.cut_from.ensures in
    let more : take (length c.deref-2.result.now - start) (drop start c.deref-2.result.now)
    ≡ from t c.args.other.now = take_rest c.deref-2.result.now start
    ∙ ap (drop start) (c.deref-2.ensures.value ∙ sym c.deref.ensures.value)
    ∙ c.count_below-start.ensures.from ∙ ap (from t) (c.deref.ensures.value ∙ c.other.view_is) in
    all_taken c.extend_from_slice.result _ _ _ _ c.extend_from_slice.ensures.items (λ i. kept i ++ more i)

pub returns-clause-cut : goal.returns-clause-cut
returns-clause-cut c = none_taken c.extend_from_slice.result _ _ _ _ c.extend_from_slice.ensures.items
    (c.self.view_is ∙ c.cut_from.ensures)
