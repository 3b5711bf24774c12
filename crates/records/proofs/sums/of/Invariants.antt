-- `sums::of` meets its contract: the two sums are those of the places behind the ones left. Assumes nothing.
use Rattle.records.proofs.Weighing.{Worked}
use Rattle.records.proofs.sums.of.Given as goal

abbrev pub invariant-loop-number : goal.invariant-loop-number
invariant-loop-number g l = Worked g.T.Number.value l.list l.number-iterator.iter.rest.now l.sum.total l.sum.tail
