-- Steps of a run, and one more.
use Rattle.std.proofs.Common.{◌≡◌, List, [], ◌∷◌, ◌++◌, subst, refl, Ok}
use Rattle.fixed_motion.specs.declared.rules.Rules.{Rules}
use Rattle.fixed_motion.specs.declared.disk.Disk.{Disk}
use Rattle.event_rules.specs.declared.change.Change.{Change}
use Rattle.event_rules.specs.Run.{IsNext, ComesTo, effect, Steps}

pub one_more : (rules : Rules) (state mid : List Disk) (cs : List Change) (c : Change) →
    Steps rules state cs mid → IsNext rules mid c.stamp → ComesTo rules mid c.stamp (Ok c) →
    Steps rules state (cs ++ c ∷ []) (effect mid c)
one_more rules state mid [] c h n r =
    let same : mid ≡ state = h in
    subst (λ (v : List Disk). Steps rules v (c ∷ []) (effect mid c)) same (n, r, refl)
one_more rules state mid (x ∷ xs) c h n r =
    (h.0, h.1, one_more rules (effect state x) mid xs c h.2 n r)
