-- `fill_row` meets its contract. Invariant: the cells from j on are filled.
use Rattle.std.proofs.Common.{length}
use Rattle.rows.proofs.Filling.{FilledFrom}
use Rattle.rows.proofs.fill_row.Given as goal

abbrev pub invariant-loop-j : goal.invariant-loop-j
invariant-loop-j l = FilledFrom l.first.0 (length l.initial.row) l.costs l.diagonal l.row l.next l.j
