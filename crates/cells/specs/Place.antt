-- Where the working cells stand. Document 01, "The working cells". Cell (k, l), of the run that begins with train k and
-- of station l, is in use where 1 ≤ k ≤ l ≤ m; places count from 0.
--   cell_count                    how many working cells are lent
--   place m k l                   where cell (k, l) of a line of m trains stands
--   table_of m cells              the table that a list of cells holds for m trains
--   InRow m k p                   p is the place of a cell in use of row k
--   InUse m t p                   p is the place of a cell in use of rows 1 to t
--   RowsWorked B t before after   rows 1 to t are worked anew and nothing else is written
-- Assumes nothing.
use Rattle.std.specs.Prelude.{ℕ, ◌+◌, ◌-◌, ◌*◌, ◌≤◌, ◌≡◌, List, length, get_or}
use Rattle.lists.specs.Choice.{if_below}
use Rattle.line.specs.Cells.{Table, Book, Worked}

abbrev pub cell_count : ℕ
cell_count = 4096

-- Cell (k, l) stands at 64(k-1)+(l-1), whatever the number of trains.
unfoldable pub place : ℕ → ℕ → ℕ → ℕ
place m k l = 64 * (k - 1) + (l - 1)

-- For l = m + 1 the value is 0 and isn't stored: what stands after a row is no cell of it.
unfoldable pub table_of : ℕ → List ℕ → Table
table_of m cells k l = if_below m l 0 (get_or cells (place m k l) 0)

pub record InRow (m k p : ℕ) : Type 0 where
  pub column : ℕ
  pub run : k ≤ column
  pub last : column ≤ m
  pub stands : p ≡ place m k column

pub record InUse (m t p : ℕ) : Type 0 where
  pub row : ℕ
  pub least : 1 ≤ row
  pub most : row ≤ t
  pub cell : InRow m row p

-- Rows 1 to t are worked from the later rows as they stand. Other places are never written.
pub record RowsWorked (B : Book) (t : ℕ) (before after : List ℕ) : Type 0 where
  pub long : length after ≡ length before
  pub worked : Worked B t (table_of B.trains before) (table_of B.trains after)
  pub others : (p : ℕ) → ¬ (InUse B.trains t p) → get_or after p 0 ≡ get_or before p 0
