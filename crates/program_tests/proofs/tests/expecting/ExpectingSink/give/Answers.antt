-- The piece is what the text goes on with, so no other byte comes.
use Rattle.std.proofs.Common.{◌∙◌, true≢false, sym}
use Rattle.program_tests.proofs.Expected.{stands_next, takes_next}
use Rattle.program_tests.proofs.tests.expecting.ExpectingSink.give.Goals as goal

pub unreachable-requires : goal.unreachable-requires
unreachable-requires c = let sink = c.args.self.now in
    true≢false (sym (stands_next sink.want.items c.deref.result.now c.args.piece.now sink.at c.deref.ensures.value sink.within
    c.requires.allowed c.starts_with.result c.starts_with.ensures.value) ∙ c.if-not-starts_with.true)

pub returns-clause-gives : goal.returns-clause-gives
returns-clause-gives c = let sink = c.args.self.now in takes_next sink.want.items c.args.piece.now sink.at sink.within c.requires.allowed
