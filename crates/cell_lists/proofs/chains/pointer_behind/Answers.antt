-- The pointer that was read is the one at that place.
use Rattle.std.proofs.Common.{◌≡◌, ◌<◌, length, sym, subst}
use Rattle.std.specs.Prelude.{ℕ, Option, IfSome}
use Rattle.cell_lists.specs.Chain.{pointer_from}
use Rattle.cell_lists.specs.Nodes.{pointers_of}
use Rattle.cell_lists.proofs.Nodes.{head_at, next_at}
use Rattle.cell_lists.proofs.chains.pointer_behind.Goals as goal

pub returns-in-None : goal.returns-in-None
returns-in-None c =
    subst (λ (o : Option ℕ). c.index.result.now ≡ pointer_from c.args.heads.now.items (pointers_of c.args.nodes.now.items) c.args.bucket o) (sym c.in-None.is)
    (head_at c.args.heads.now.items c.args.bucket c.index.result.now c.requires.bucket c.index.ensures)

pub returns-in-Some : goal.returns-in-Some
returns-in-Some c =
    subst (λ (o : Option ℕ). c.index-in-Some.result.now.next ≡ pointer_from c.args.heads.now.items (pointers_of c.args.nodes.now.items) c.args.bucket o) (sym c.in-Some.is)
    (next_at c.args.nodes.now.items c.in-Some.p c.index-in-Some.result.now
    (subst (λ (o : Option ℕ). IfSome o (λ p. p < length c.args.nodes.now.items)) c.in-Some.is c.requires.before) c.index-in-Some.ensures)
