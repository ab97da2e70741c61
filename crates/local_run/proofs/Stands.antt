-- A region that begins as one that stood on a state stands on it too.
use Rattle.std.proofs.Common.{◌≡◌, ◌≢◌, Option, Some, None, slice_get, refl, sym, ap, ◌∙◌, subst}
use Rattle.std.specs.Prelude.{option_map}
use Rattle.std.proofs.lemmas.Option.{same_Some}
use Rattle.region_view.specs.Views.{IsViewOf}
use Rattle.local_run.specs.declared.home.Home.{Home}
use Rattle.local_run.specs.LocalRun.{Local}
use Rattle.local_run.specs.Begun.{BegunStillStand}

some_there : {A : Type 0} (o : Option A) → o ≢ None → (x : A) × (o ≡ Some x)
some_there None alive = absurd (alive refl)
some_there (Some x) alive = (x, refl)

pub begun_still_stand : BegunStillStand
begun_still_stand state k old new stands begins alive =
    let run = some_there new.run alive in
    let base : stands.run.base ≡ run.0.base = same_Some stands.run.base run.0.base
    (sym (ap (option_map (λ (v : Local). v.base)) stands.alive) ∙ sym begins.base
    ∙ ap (option_map (λ (v : Local). v.base)) run.1) in
    record {
      run = run.0;
      alive = run.1;
      number = ap (λ (home : Home). home.number) begins.home ∙ stands.number;
      rules = ap (λ (home : Home). home.rules) begins.home ∙ stands.rules;
      grid = ap (λ (home : Home). home.grid) begins.home ∙ stands.grid;
      floor = begins.floor ∙ stands.floor;
      base = subst (IsViewOf state.grid k (slice_get state.placed)) base stands.base;
    }
