-- `follow` meets its contract. Invariant: the trains before station i have decided and arrived, on the run that begins
-- with `first`.
use Rattle.cells.specs.Held.{book_held, table_held}
use Rattle.walk.proofs.Walks.{Walking}
use Rattle.walk.proofs.follow.Given as goal

abbrev pub invariant-loop-i : goal.invariant-loop-i
invariant-loop-i l =
    Walking (book_held l.book) (table_held l.table) l.decisions l.delays l.costs l.first.0 l.i
