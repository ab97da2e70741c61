use Rattle.std.proofs.Common.{◌≡◌, ◌++◌, ◌∷◌, take, drop, ◌∙◌, sym, ap, subst}
use Rattle.region_messages.specs.Trails.{Rises, IsFree, with_message, below, from}
use Rattle.region_messages.proofs.Inserted.{rises_with}
use Rattle.region_messages.proofs.Trail.insert.Goals as goal

pub invariant_of-self-2 : goal.invariant_of-self-2
invariant_of-self-2 c =
    let m = c.args.message in
    let ms = c.self.inside.messages.items in
    let place = c.count_below-place.result in
    let first : take place ms ≡ below m.stamp ms = ap (take place) (sym c.deref.ensures.value)
    ∙ c.count_below-place.ensures.below ∙ ap (below m.stamp) c.deref.ensures.value in
    let rest : drop place ms ≡ from m.stamp ms = ap (drop place) (sym c.deref.ensures.value)
    ∙ c.count_below-place.ensures.from ∙ ap (from m.stamp) c.deref.ensures.value in
    let parts : take place ms ++ m ∷ drop place ms ≡ with_message m ms = λ i. first i ++ m ∷ rest i in
    subst Rises (sym (c.in_ok-insert.ensures.items ∙ parts))
    (rises_with m ms c.self.invariant (subst (IsFree m.stamp) (sym c.self.view_is) c.requires))

pub returns-clause-inserted : goal.returns-clause-inserted
returns-clause-inserted c =
    let m = c.args.message in
    let ms = c.self.inside.messages.items in
    let place = c.count_below-place.result in
    let first : take place ms ≡ below m.stamp ms = ap (take place) (sym c.deref.ensures.value)
    ∙ c.count_below-place.ensures.below ∙ ap (below m.stamp) c.deref.ensures.value in
    let rest : drop place ms ≡ from m.stamp ms = ap (drop place) (sym c.deref.ensures.value)
    ∙ c.count_below-place.ensures.from ∙ ap (from m.stamp) c.deref.ensures.value in
    let parts : take place ms ++ m ∷ drop place ms ≡ with_message m ms = λ i. first i ++ m ∷ rest i in
    c.in_ok-insert.ensures.items ∙ parts ∙ ap (with_message m) c.self.view_is

pub invariant_of-self : goal.invariant_of-self
invariant_of-self c = subst Rises (sym c.in_err-insert.ensures.items) c.self.invariant
