-- The pair's run has one event, with no other beside it.
use Rattle.std.proofs.Common.{◌≡◌, ℕ, zero, suc, [], ◌∷◌, slice_get, refl}
use Rattle.alike_runs.specs.Renumbered.{IsRenumbered, EachHasItsDisksAlone}
use Rattle.worked_laws.specs.Pair.{pair_rules, pair_disks, the_hit, pair_end}
use Rattle.worked_laws.specs.Others.{exchanged_disks, exchanged}
use Rattle.worked_laws.proofs.PairRun.{pair_run, only_candidate}
use Rattle.worked_laws.proofs.alike.the_exchanged_pair_runs_alike.Goals as goal

twice : (i : ℕ) → exchanged (exchanged i) ≡ i
twice zero = refl
twice (suc zero) = refl
twice (suc (suc i)) = refl

renumbered : IsRenumbered exchanged exchanged pair_disks exchanged_disks
renumbered = record { there = twice; back = twice; same = same }
  where
    same : (i : ℕ) → slice_get exchanged_disks (exchanged i) ≡ slice_get pair_disks i
    same zero = refl
    same (suc zero) = refl
    same (suc (suc i)) = refl

by_themselves : EachHasItsDisksAlone pair_rules pair_disks (the_hit ∷ [])
by_themselves = (λ t candidate tick round kind i mine other. only_candidate t candidate, tt)

pub returns : goal.returns
returns c others outcome run =
    let alike = c.renumbered_runs_go_alike.ensures exchanged exchanged pair_rules pair_disks exchanged_disks renumbered (the_hit ∷ []) others pair_end outcome
    pair_run by_themselves run in
    (alike.count, (alike.states 4).same 1, (alike.spots_there, alike.done, alike.ends.same 1, alike.ends.same 0))
