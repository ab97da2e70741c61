-- How the telling of untold actions goes on.
use Rattle.std.specs.Prelude.{◌≡◌, ℕ, ◌≤◌, List, ◌++◌, ◌∷◌, ⊤, Option, None, Some}
use Rattle.report_ports.specs.Ports.{Rose}
use Rattle.event_rules.specs.declared.change.Change.{Change}
use Rattle.event_rules.specs.declared.listener.Deaf.{Deaf}
use Rattle.event_rules.specs.Told.{Told, Torn, AwaitsAll}
use Rattle.region_view.specs.declared.action.Action.{Action}
use Rattle.region_view.specs.declared.action.Action.TheVariants.{Hit}
use Rattle.cell_sequence.specs.Run.{hits}

-- some first ones of the untold actions are gone, exactly their collisions were told, in order, and the others are left
abbrev pub TellsFirst : {M : Type 0} → (M → Change → M) → List Action → Option M → ℕ → List Action → Option M → ℕ → Type 0
TellsFirst after old m f new n g =
    (gone : List Action) × (old ≡ gone ++ new) × Told after m (hits gone) n × (g ≡ f)

-- some first collisions of the untold actions were told, in order, and the others are left
abbrev pub TellsHits : {M : Type 0} → (M → Change → M) → List Action → Option M → ℕ → List Action → Option M → ℕ → Type 0
TellsHits after old m f new n g =
    (gone : List Change) × (hits old ≡ gone ++ hits new) × Told after m gone n × (g ≡ f)

-- the collisions of some first ones were told, in order, and the collision that follows them was refused
abbrev pub TellsTorn : {M : Type 0} → (M → Change → M) → (M → Change → M → Type 0) → List Action → Option M → ℕ →
    Option M → ℕ → Type 0
TellsTorn {M} after torn old m f n g =
    (gone : List Action) × (change : Change) × (rest : List Action) × (old ≡ gone ++ Hit change ∷ rest)
    × ((mid : Option M) × Told after m (hits gone) mid × Torn torn mid change n) × (f ≤ g) × Rose f g

-- the result of telling some of the untold actions, while a refusal is kept: once there is one, nothing is told
abbrev pub TellsOn : {M : Type 0} → (M → Change → M) → (M → Change → M → Type 0) →
    List Action → Option Deaf → Option M → ℕ → List Action → Option Deaf → Option M → ℕ → Type 0
TellsOn after torn old None m f new None n g = TellsHits after old m f new n g
TellsOn after torn old None m f new (Some deaf) n g = TellsTorn after torn old m f n g
TellsOn after torn old (Some deaf) m f new None n g = ⊥
TellsOn after torn old (Some deaf) m f new (Some kept) n g = (n ≡ m) × (g ≡ f)

-- unless a refusal is kept, each collision of the untold actions is awaited once those before it were told
abbrev pub AwaitsUntold : {M : Type 0} → (M → Change → M) → (M → Change → Type 0) → List Action → Option Deaf →
    Option M → Type 0
AwaitsUntold after awaits untold None m = AwaitsAll after awaits m (hits untold)
AwaitsUntold after awaits untold (Some deaf) m = ⊤
