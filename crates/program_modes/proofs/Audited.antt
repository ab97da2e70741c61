-- How the parts of an audit go together.
use Rattle.std.proofs.Common.{◌≡◌, ℕ, List, [], ap, ◌∙◌, subst, refl, Option, Some, None, Ok, Err}
use Rattle.std.specs.Prelude.{IfOk, Result}
use Rattle.report_audit.specs.Parting.{all_left, front_of, rest_of, front_of_known, rest_of_known}
use Rattle.report_audit.specs.Stages.{left_in, coming_in}
use Rattle.report_audit.specs.declared.parted.Stage.{Stage}
use Rattle.fixed_motion.specs.Scene.{SceneData}
use Rattle.report_audit.specs.Compared.{Compares, IsVerdict, LeavesNone}
use Rattle.report_audit.specs.declared.verdict.Verdict.{Verdict}
use Rattle.report_audit.specs.declared.verdict.Verdict.TheVariants.{Same, Line}
use Rattle.report_audit.proofs.Fronts.{turned_leaves_nothing}
use Rattle.program_modes.specs.declared.auditing.AuditFault.{AuditFault}
use Rattle.program_modes.specs.declared.auditing.AuditFault.TheVariants.{Scene, ReadFault, NoMemory}
use Rattle.program_modes.specs.Audits.{HasRead, ComparesRun, IsUnrefused, IsAudit, IsAudited, IsClaimedOf, IsRead, Empties, CountsAudit}

-- what is left of known bytes after it is turned
pub claimed_left : (old front front' coming coming' told : Option (List ℕ)) (scene : SceneData) →
    front ≡ front_of_known old → coming ≡ rest_of_known old → coming' ≡ coming → HasRead front front' scene →
    ((bytes : List ℕ) → front' ≡ Some [] → coming' ≡ Some bytes → told ≡ Some bytes) →
    (bytes : List ℕ) → old ≡ Some bytes → told ≡ Some (rest_of bytes)
claimed_left old front front' coming coming' told scene is comes same reads turned bytes e =
    turned (rest_of bytes) (reads.1 (front_of bytes) (is ∙ ap front_of_known e)) (same ∙ comes ∙ ap rest_of_known e)

-- a verdict is right about some claimed report
some_claimed : (report : List ℕ) (told after : Option (List ℕ)) (v : Verdict) → Compares report told after v →
    (claimed : List ℕ) × IsVerdict report claimed v
some_claimed report None after v h = h
some_claimed report (Some cs) None v h = absurd h
some_claimed report (Some cs) (Some xs) v h = (cs, h.0)

compared : (report bytes : List ℕ) (told after : Option (List ℕ)) (v : Verdict) → told ≡ Some bytes →
    Compares report told after v → (xs : List ℕ) × (after ≡ Some xs) × IsVerdict report bytes v × LeavesNone v xs
compared report bytes None after v e h = absurd (let same : None ≡ Some bytes = e in cc)
compared report bytes (Some cs) None v e h = absurd h
compared report bytes (Some cs) (Some xs) v e h =
    let same : cs ≡ bytes = cc in
    (xs, refl, subst (λ (l : List ℕ). IsVerdict report l v) same h.0, h.1)

of_claimed : (report : List ℕ) (old told after : Option (List ℕ)) (v : Verdict) →
    ((bytes : List ℕ) → old ≡ Some bytes → told ≡ Some (rest_of bytes)) → Compares report told after v →
    (claimed : List ℕ) × IsClaimedOf old claimed × IsVerdict report claimed v
of_claimed report None told after v rest h = let is = some_claimed report told after v h in (is.0, tt, is.1)
of_claimed report (Some bytes) told after v rest h =
    (rest_of bytes, refl, (compared report (rest_of bytes) told after v (rest bytes refl) h).2)

pub audited : (old front front' told after : Option (List ℕ)) (scene : SceneData) (v : Verdict) →
    front ≡ front_of_known old → HasRead front front' scene →
    ((bytes : List ℕ) → old ≡ Some bytes → told ≡ Some (rest_of bytes)) → ComparesRun scene told after v → IsAudited old v
audited old front front' told after scene v is reads rest h =
    let own = subst (λ (f : Option (List ℕ)). HasRead f front' scene) is reads in
    let claimed = of_claimed h.0 old told after v rest h.2 in
    (scene, h.0, claimed.0, own.0, h.1, claimed.1, claimed.2)

-- if the texts are the same, nothing is left
read_to_end : (v : Verdict) (stage : Stage) (ahead : List ℕ) (left : Option (List ℕ)) (xs : List ℕ) →
    coming_in stage (all_left ahead left) ≡ None → left_in stage (all_left ahead left) ≡ Some xs → LeavesNone v xs →
    IsRead v left
read_to_end (Same lines) stage ahead left xs last e none =
    turned_leaves_nothing stage ahead left last (e ∙ ap Some none)
read_to_end (Line number expected) stage ahead left xs last e none = tt

pub emptied : (scene : SceneData) (old told : Option (List ℕ)) (stage : Stage) (ahead : List ℕ) (left : Option (List ℕ))
    (v : Verdict) → coming_in stage (all_left ahead left) ≡ None →
    ((bytes : List ℕ) → old ≡ Some bytes → told ≡ Some (rest_of bytes)) →
    ComparesRun scene told (left_in stage (all_left ahead left)) v → Empties old left (Ok v)
emptied scene None told stage ahead left v last rest h = tt
emptied scene (Some bytes) told stage ahead left v last rest h =
    let is = compared h.0 (rest_of bytes) told (left_in stage (all_left ahead left)) v (rest bytes refl) h.2 in
    read_to_end v stage ahead left is.0 last is.1 is.3

-- if there is no verdict, nothing is said of what the source has left
pub unread_empties : (old left : Option (List ℕ)) (fault : AuditFault) → Empties old left (Err fault)
unread_empties None left fault = tt
unread_empties (Some bytes) left fault = tt

-- ---- the answer, a verdict or none
pub answered : (old front front' told after : Option (List ℕ)) (scene : SceneData) (r : Result Verdict AuditFault) →
    front ≡ front_of_known old → HasRead front front' scene →
    ((bytes : List ℕ) → old ≡ Some bytes → told ≡ Some (rest_of bytes)) → IfOk r (ComparesRun scene told after) →
    IsUnrefused r → IsAudit old r
answered old front front' told after scene (Ok v) is reads rest h unrefused =
    audited old front front' told after scene v is reads rest h
answered old front front' told after scene (Err (Scene fault)) is reads rest h unrefused = absurd unrefused
answered old front front' told after scene (Err ReadFault) is reads rest h unrefused = tt
answered old front front' told after scene (Err NoMemory) is reads rest h unrefused = tt

pub answer_empties : (scene : SceneData) (old told : Option (List ℕ)) (stage : Stage) (ahead : List ℕ)
    (left : Option (List ℕ)) (r : Result Verdict AuditFault) → coming_in stage (all_left ahead left) ≡ None →
    ((bytes : List ℕ) → old ≡ Some bytes → told ≡ Some (rest_of bytes)) →
    IfOk r (ComparesRun scene told (left_in stage (all_left ahead left))) → Empties old left r
answer_empties scene old told stage ahead left (Ok v) last rest h = emptied scene old told stage ahead left v last rest h
answer_empties scene old told stage ahead left (Err fault) last rest h = unread_empties old left fault

pub counted_since : (first before after : ℕ) (r : Result Verdict AuditFault) → before ≡ first →
    CountsAudit before after r → CountsAudit first after r
counted_since first before after r e h = subst (λ (n : ℕ). CountsAudit n after r) e h
