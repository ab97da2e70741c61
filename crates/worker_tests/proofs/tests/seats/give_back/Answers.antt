use Rattle.std.proofs.Common.{[], ap, ◌∙◌, refl}
use Rattle.region_table.specs.Rule.{slots_of}
use Rattle.region_table.proofs.Slots.{slots_without, one_left}
use Rattle.worker_tests.proofs.tests.seats.give_back.Goals as goal

pub returns-clause-idle : goal.returns-clause-idle
returns-clause-idle c =
    ap (λ s. slots_of s.view.held) c.put_back.ensures.puts
    ∙ (slots_without c.args.region c.args.seat.now.view.held
    ∙ one_left c.args.region (slots_of c.args.seat.now.view.held) [] c.requires.out refl)
