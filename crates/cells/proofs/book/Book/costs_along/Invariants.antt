-- `book::Book::costs_along` meets its contract. Invariant: the stations before i are done, on the run that begins at
-- `from`.
use Rattle.cells.proofs.Along.{CostsTo}
use Rattle.cells.proofs.book.Book.costs_along.Given as goal

abbrev pub invariant-loop-i : goal.invariant-loop-i
invariant-loop-i l = CostsTo l.self.sums.m l.from.0 l.self.timing.now l.self.sums.list.now l.costs l.late l.boarded l.i
