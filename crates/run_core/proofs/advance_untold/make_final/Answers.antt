use Rattle.std.proofs.Common.{sym, ◌∙◌}
use Rattle.run_core.proofs.Untold.{state_with, made_at_once, none_made, mid_itself, made_later, if_ok_goes}
use Rattle.run_core.proofs.advance_untold.make_final.Goals as goal

pub commit_cutting-requires-clause-stand : goal.commit_cutting-requires-clause-stand
commit_cutting-requires-clause-stand c =
    let state = c.requires.stand.0 in
    let of = c.requires.stand.1 in
    let given = c.args.regions.now in (
      state,
      state_with c.args.earlier.now c.rules.result.now state.floor given given state c.rules.ensures.value of of.stand,
    )

pub returns-then-is_some : goal.returns-then-is_some
returns-then-is_some c = λ state of.
    let given = c.args.regions.now in
    made_at_once state given of.is c.in_ok-at_once.at_once c.commit_cutting.new.untold c.commit_cutting.new.regions
    (c.in_ok-at_once.ensures state
    (state_with c.args.earlier.now c.rules.result.now state.floor given given state c.rules.ensures.value of of.stand))
    (sym c.if-is_some.true ∙ c.is_some.ensures)

pub agree_and_make-requires : goal.agree_and_make-requires
agree_and_make-requires c =
    let state = c.requires.stand.0 in
    let of = c.requires.stand.1 in
    let earlier = c.args.earlier.now in
    let given = c.args.regions.now in
    let made = c.in_ok-at_once.at_once in
    let batch = c.commit_cutting.new.untold in
    let left = c.commit_cutting.new.regions in
    let final = c.in_ok-at_once.ensures state
    (state_with earlier c.rules.result.now state.floor given given state c.rules.ensures.value of of.stand) in
    let not = sym c.if-is_some.false ∙ c.is_some.ensures in record {
      stand = (_, mid_itself state given made batch left final not earlier given of);
      told = none_made state given made batch left final not;
    }

pub returns : goal.returns
returns c = if_ok_goes c.agree_and_make.result (λ advanced parts state of.
    let earlier = c.args.earlier.now in
    let given = c.args.regions.now in
    let made = c.in_ok-at_once.at_once in
    let batch = c.commit_cutting.new.untold in
    let left = c.commit_cutting.new.regions in
    let final = c.in_ok-at_once.ensures state
    (state_with earlier c.rules.result.now state.floor given given state c.rules.ensures.value of of.stand) in
    let not = sym c.if-is_some.false ∙ c.is_some.ensures in
    made_later state given of.is made batch left final not advanced.0 c.agree_and_make.new.untold advanced.1
    c.agree_and_make.new.regions
    (parts final.new (mid_itself state given made batch left final not earlier given of)))
    c.agree_and_make.ensures
