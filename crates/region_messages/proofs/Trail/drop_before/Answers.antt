use Rattle.std.proofs.Common.{◌≡◌, ℕ, ◌-◌, ◌≤◌, ◌∙◌, List, length, take, drop, sym, ap, subst, arith, length-drop, take_all}
use lib.Seq.{paste}
use Rattle.std.proofs.lemmas.List.Edits.{take-paste}
use Rattle.std.specs.Vec.{vec_len}
use Rattle.event_stamps.proofs.Parts.{rises_from}
use Rattle.event_stamps.proofs.Rising.{rises_if_from}
use Rattle.region_messages.specs.Trails.{Rises, from, message_key}
use Rattle.region_messages.proofs.Trail.drop_before.Goals as goal

-- the items from a place on, moved to the front
moved_to_front : {A : Type 0} (xs : List A) (n rest len : ℕ) → n ≤ length xs → len ≡ length xs → rest ≡ len - n →
    take rest (paste xs 0 (drop n xs) (len - n)) ≡ drop n xs
moved_to_front xs n rest len within whole is =
    let left = length-drop n xs in
    ap (λ k. take rest (paste xs 0 (drop n xs) k)) (sym is)
    ∙ ap (λ k. take k (paste xs 0 (drop n xs) rest)) (omega arith)
    ∙ take-paste xs 0 (drop n xs) rest (omega arith) (omega arith)
    ∙ take_all rest (drop n xs) (omega arith)

pub returns : goal.returns
returns c =
    let trail = c.self.inside.messages in
    let dropped = c.count_below-dropped.result in
    let long = trail.ok.0 in
    let within = c.count_below-dropped.ensures.within in
    let whole = ap length c.deref.ensures.value in
    c.truncate.ensures.items ∙ ap (take (c.len.result - dropped)) c.copy_within.ensures.items
    ∙ moved_to_front trail.items dropped (c.len.result - dropped) (vec_len trail) (omega arith) (omega arith)
    (ap (λ n. n - dropped) c.len.ensures)
    ∙ ap (drop dropped) (sym c.deref.ensures.value)
    ∙ c.count_below-dropped.ensures.from ∙ ap (from c.args.at) (c.deref.ensures.value ∙ c.self.view_is)

pub invariant_of-self : goal.invariant_of-self
invariant_of-self c =
    subst Rises (sym (returns c)) (rises_if_from message_key c.args.at (from c.args.at c.args.self.now)
    (rises_from message_key c.args.at c.args.self.now (subst Rises c.self.view_is c.self.invariant)))
