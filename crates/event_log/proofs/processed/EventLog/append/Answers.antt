use Rattle.std.proofs.Common.{◌≡◌, ◌++◌, ◌∷◌, [], List, length, take, ap, ◌∙◌, refl, ◌≤◌, ℕ, sym, subst, arith, length-append}
use Rattle.event_log.specs.Logged.{Logged}
use Rattle.region_view.specs.Setting.{RowList}
use Rattle.event_log.proofs.processed.EventLog.append.Goals as goal

-- what was pushed is gone again
without_last : (log : List Logged) (l : Logged) → take (length log) (log ++ l ∷ []) ≡ log
without_last [] l = refl
without_last (x ∷ log) l = ap (λ (rest : List Logged). x ∷ rest) (without_last log l)

pub returns-in-Err-clause-log_unchanged : goal.returns-in-Err-clause-log_unchanged
returns-in-Err-clause-log_unchanged c =
    c.truncate.ensures
    ∙ (λ i. take (c.len-count.ensures i) (c.in_ok-push.ensures.pushed i))
    ∙ without_last c.args.self.now _

few : (log : List Logged) (l : Logged) → length log ≤ length (log ++ l ∷ [])
few log l = omega (arith, length-append log (l ∷ []))

pub truncate-requires : goal.truncate-requires
truncate-requires c = record {
  place = subst (λ (new : List Logged). c.len-count.result ≤ length new) (sym c.in_ok-push.ensures.pushed)
      (subst (λ (n : ℕ). n ≤ length (c.args.self.now ++ (c.args.entry.now, c.rows_before.result) ∷ [])) (sym c.len-count.ensures) (few c.args.self.now (c.args.entry.now, c.rows_before.result)));
}

pub returns-in-Ok-clause-log : goal.returns-in-Ok-clause-log
returns-in-Ok-clause-log c = c.in_ok-push.ensures.pushed
    ∙ ap (λ (back : RowList). c.args.self.now ++ (c.args.entry.now, back) ∷ []) c.rows_before.ensures
