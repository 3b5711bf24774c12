-- `sums::sum_column` meets its contract, by the invariant that stands in Invariants.antt.
use Rattle.std.proofs.Common.{ap, ◌∙◌, arith}
use Rattle.prepare.specs.Preparing.{pair_in}
use Rattle.prepare.proofs.Summing.{column_next}
use Rattle.prepare.proofs.sums.sum_column.Goals as goal

-- the sum of station k is that of the next station and one pair more
pub loop-k-preserved : goal.loop-k-preserved
loop-k-preserved c =
    let pair = c.pair-sum.ensures in
    let fields = c.args.fields.now in
    column_next _ _ _ _ _ _ _ c.loop-k.invariant (omega arith)
    (omega (arith, c.requires.1, c.args.fields.now.given.trains))
    c.place_of_sum.ensures.0 c.place_of_sum.ensures.1
    (pair.0 ∙ ap (pair_in fields.m fields.passengers.now _) c.reaches-to.ensures) pair.1
