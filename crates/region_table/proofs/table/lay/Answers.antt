use Rattle.std.proofs.Common.{◌≡◌, length, map, take, replicate, ap, ◌∙◌, sym, arith}
use Rattle.std.specs.Prelude.{Some}
use Rattle.std.proofs.lemmas.List.{take-replicate, length-map, length-replicate}
use Rattle.region_table.proofs.Seats.{opens}
use Rattle.region_table.proofs.table.lay.Goals as goal

pub new-requires : goal.new-requires
new-requires c =
    let same = ap (λ v. v.items) c.of-about.ensures in
    let size : c.len.result ≡ length c.args.regions.items = omega (arith, c.len.ensures, c.args.regions.ok.0) in
    opens c.of-about.result.value.items _ _
    (ap (λ n. take n (replicate 64 0)) size ∙ (take-replicate (length c.args.regions.items) 64 0 c.requires.few ∙ ap (λ z. replicate (length z) 0) (sym same)))
    (c.in_ok-contents.ensures ∙ ap (λ z. map Some z) (sym same))

-- as many words and slots as regions
pub returns-in-Ok-clause-counts : goal.returns-in-Ok-clause-counts
returns-in-Ok-clause-counts c =
    let regions = c.args.regions.items in
    let size : c.len.result ≡ length regions = omega (arith, c.len.ensures, c.args.regions.ok.0) in (
      c.in-Ok.ensures.ok.0 ∙ ap (λ n. length (take n (replicate 64 0))) size
          ∙ ap length (take-replicate (length regions) 64 0 c.requires.few) ∙ length-replicate (length regions) 0,
      c.in-Ok.ensures.ok.1 ∙ ap length c.in_ok-contents.ensures ∙ length-map regions Some,
    )
