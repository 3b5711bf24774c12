-- `sums::sum_columns` meets its contract. Invariant: the columns before i are summed.
use Rattle.std.proofs.Common.{◌-◌}
use Rattle.prepare.specs.Prepared.{HoldsSums}
use Rattle.prepare.specs.FieldsHeld.{pairs_held}
use Rattle.prepare.proofs.sums.sum_columns.Given as goal

abbrev pub invariant-loop-i : goal.invariant-loop-i
invariant-loop-i l = HoldsSums (l.i - 1) (pairs_held l.fields) l.sums
