use Rattle.std.proofs.Common.{sym, ◌∙◌}
use Rattle.run_core.proofs.Untold.{state_with, first_made, none_made, mid_comes, second_made, if_ok_goes}
use Rattle.run_core.proofs.advance_untold.agree_and_make.Goals as goal

pub none_is_spent-requires : goal.none_is_spent-requires
none_is_spent-requires c = (c.requires.stand.0, c.requires.stand.1.stand)

pub agree-requires : goal.agree-requires
agree-requires c =
    let of = c.requires.stand.1 in
    (c.requires.stand.0, record { grid_is = of.grid_is ∙ sym c.grid.ensures.value; stand = of.stand })

pub commit_cutting-requires-clause-stand : goal.commit_cutting-requires-clause-stand
commit_cutting-requires-clause-stand c =
    let state = c.requires.stand.0 in
    let of = c.requires.stand.1 in
    let heard = c.in_ok-agree.ensures state
    (record { grid_is = of.grid_is ∙ sym c.grid.ensures.value; stand = of.stand }) in (
      state,
      state_with c.args.earlier.now c.rules.result.now state.floor c.args.regions.now c.agree.new.regions state
          c.rules.ensures.value of heard.stand,
    )

pub returns-then-is_some : goal.returns-then-is_some
returns-then-is_some c = λ state of.
    let given = c.args.regions.now in
    let heard = c.agree.new.regions in
    let agrees = c.in_ok-agree.ensures state
    (record { grid_is = of.grid_is ∙ sym c.grid.ensures.value; stand = of.stand }) in
    first_made state given heard of.stand c.none_is_spent.ensures agrees.agree c.in_ok-made.made
    c.commit_cutting.new.untold c.commit_cutting.new.regions (c.in_ok-made.ensures state
    (state_with c.args.earlier.now c.rules.result.now state.floor given heard state c.rules.ensures.value of
    agrees.stand)) (sym c.if-is_some.true ∙ c.is_some.ensures)

pub make_event-requires : goal.make_event-requires
make_event-requires c =
    let state = c.requires.stand.0 in
    let of = c.requires.stand.1 in
    let earlier = c.args.earlier.now in
    let given = c.args.regions.now in
    let heard = c.agree.new.regions in
    let made = c.in_ok-made.made in
    let batch = c.commit_cutting.new.untold in
    let left = c.commit_cutting.new.regions in
    let agrees = c.in_ok-agree.ensures state
    (record { grid_is = of.grid_is ∙ sym c.grid.ensures.value; stand = of.stand }) in
    let final = c.in_ok-made.ensures state
    (state_with earlier c.rules.result.now state.floor given heard state c.rules.ensures.value of agrees.stand) in
    let not = sym c.if-is_some.false ∙ c.is_some.ensures in record {
      stand = (_, mid_comes state heard made batch left final not earlier given of);
      told = none_made state heard made batch left final not;
    }

pub returns : goal.returns
returns c = if_ok_goes c.make_event.result (λ advanced event state of.
    let earlier = c.args.earlier.now in
    let given = c.args.regions.now in
    let heard = c.agree.new.regions in
    let made = c.in_ok-made.made in
    let batch = c.commit_cutting.new.untold in
    let left = c.commit_cutting.new.regions in
    let agrees = c.in_ok-agree.ensures state
    (record { grid_is = of.grid_is ∙ sym c.grid.ensures.value; stand = of.stand }) in
    let final = c.in_ok-made.ensures state
    (state_with earlier c.rules.result.now state.floor given heard state c.rules.ensures.value of agrees.stand) in
    let not = sym c.if-is_some.false ∙ c.is_some.ensures in
    second_made state given heard of.stand c.none_is_spent.ensures agrees.agree made batch left final not advanced.0
    c.make_event.new.untold advanced.1 c.make_event.new.regions
    (event final.new (mid_comes state heard made batch left final not earlier given of)))
    c.make_event.ensures
