-- The book and the table that values of the code hold. Document 01, "The working cells".
--   book_held b    what cells are worked from, of its times and sums
--   table_held t   the table that the cells hold that are lent to be read
-- Assumes nothing.
use Rattle.line.specs.Cells.{Table, Book}
use Rattle.cells.specs.declared.place.Table.{Table as Lent}
use Rattle.cells.specs.declared.book.Book.{Book as Holder}
use Rattle.cells.specs.Place.{table_of}
use Rattle.cells.specs.Book.{book_in}

abbrev pub book_held : Holder → Book
book_held b = book_in b.sums.m b.timing.now b.sums.list.now

abbrev pub table_held : Lent → Table
table_held t = table_of t.m t.cells.now
