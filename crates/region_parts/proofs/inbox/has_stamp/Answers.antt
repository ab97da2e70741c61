use Rattle.std.proofs.Common.{Option, sym, ap, subst, ◌∙◌}
use Rattle.std.specs.Borrow.{Bor}
use Rattle.std.specs.Prelude.{◌↔◌, IsTrue, option_copied}
use Rattle.std.proofs.lemmas.Bool.{false≢true}
use Rattle.region_view.specs.declared.rows.Message.{Message}
use Rattle.region_messages.proofs.Same.{stamp_decides}
use Rattle.region_parts.specs.Inbox.{HasStamp}
use Rattle.region_parts.proofs.inbox.has_stamp.Goals as goal

pub returns-in-Some : goal.returns-in-Some
returns-in-Some c =
    let decides = stamp_decides c.in-Some.message.now.stamp c.args.stamp.now in
    subst (λ (o : Option Message). IsTrue c.eq.result ↔ HasStamp o c.args.stamp.now)
    (sym (ap (λ (o : Option (Bor Message)). option_copied o) c.in-Some.is))
    (λ same. decides.0 (sym c.eq.ensures ∙ same), λ same. c.eq.ensures ∙ decides.1 same)

pub returns-in-None : goal.returns-in-None
returns-in-None c = (
  λ never. absurd (false≢true never),
  λ has. absurd (subst (λ (o : Option Message). HasStamp o c.args.stamp.now)
      (ap (λ (o : Option (Bor Message)). option_copied o) c.in-None.is) has),
)
