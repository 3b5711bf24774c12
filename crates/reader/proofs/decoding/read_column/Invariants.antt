-- The places passed are filled.
use Rattle.lists.specs.Filled.{Filled}
use Rattle.sheet.specs.Format.{entry}
use Rattle.reader.proofs.decoding.read_column.Given as goal

abbrev pub invariant-loop-k : goal.invariant-loop-k
invariant-loop-k l = Filled 0 (entry l.sheet l.column) l.k l.initial.list l.list
