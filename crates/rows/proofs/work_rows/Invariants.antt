-- `work_rows` meets its contract. Invariant: the rows after i are worked.
use Rattle.cells.specs.Held.{book_held}
use Rattle.rows.proofs.Working.{WorkedTo}
use Rattle.rows.proofs.work_rows.Given as goal

abbrev pub invariant-loop-i : goal.invariant-loop-i
invariant-loop-i l = WorkedTo (book_held l.book) l.fn.last.0 l.initial.cells l.cells l.diagonal l.i
