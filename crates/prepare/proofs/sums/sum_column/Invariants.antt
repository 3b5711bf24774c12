-- `sums::sum_column` meets its contract. Invariant: the columns before stand, and in this one the sums of the stations
-- from k + 1 on.
use Rattle.prepare.specs.FieldsHeld.{pairs_held}
use Rattle.prepare.proofs.Summing.{ColumnTo}
use Rattle.prepare.proofs.sums.sum_column.Given as goal

abbrev pub invariant-loop-k : goal.invariant-loop-k
invariant-loop-k l = ColumnTo (pairs_held l.fields) l.train.0 l.sums l.sum l.k
