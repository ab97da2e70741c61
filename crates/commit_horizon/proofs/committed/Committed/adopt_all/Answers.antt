use Rattle.std.proofs.Common.{◌≡◌, List, length, sym, ap, ◌∙◌, subst}
use Rattle.std.proofs.lemmas.List.{take_at}
use Rattle.local_run.specs.Opening.{RegionData}
use Rattle.commit_horizon.specs.Horizon.{AllStand}
use Rattle.commit_horizon.specs.Commits.{AllAdopted}
use Rattle.commit_horizon.proofs.committed.Committed.adopt_all.Goals as goal

pub renew_all-requires : goal.renew_all-requires
renew_all-requires c = ap length c.deref_mut.ensures.value ∙ c.requires

pub returns-clause-adopted : goal.returns-clause-adopted
returns-clause-adopted c =
    let state = c.args.self.now in
    let given = c.args.given in
    let new = c.renew_all.new.regions in
    let adopted : AllAdopted state given.items new = subst (λ (v : List RegionData). AllAdopted state v new)
    c.deref_mut.ensures.value c.in_ok-renew_all.ensures.adopted in
    subst (AllAdopted state given.items)
    (sym (take_at new _ given.len (adopted.count ∙ sym given.ok.0))) adopted

pub returns-clause-stand : goal.returns-clause-stand
returns-clause-stand c =
    let given = c.args.given in
    let new = c.renew_all.new.regions in
    let count : length new ≡ given.len
    = c.in_ok-renew_all.ensures.adopted.count ∙ ap length c.deref_mut.ensures.value ∙ sym given.ok.0 in
    subst (AllStand c.args.self.now) (sym (take_at new _ given.len count)) c.in_ok-renew_all.ensures.stand
