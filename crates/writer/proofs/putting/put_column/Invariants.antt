-- The places passed are put.
use Rattle.writer.specs.Putting.{ColumnPut}
use Rattle.writer.proofs.putting.put_column.Given as goal

abbrev pub invariant-loop-k : goal.invariant-loop-k
invariant-loop-k l = ColumnPut l.initial.sheet l.column l.k l.list l.sheet
