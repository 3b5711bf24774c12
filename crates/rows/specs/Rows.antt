-- What the steps of working rows need and leave. Document 01, "The working cells". Rows, trains and stations count
-- from 1, places of a list from 0.
--   Diagonal              the first cells of the rows after t
--   ceiling               more than any row can come to
--   RowRoom, RowFilled    what filling a row needs and leaves
--   RowGiven, RowWorked   what working row k needs and leaves
--   RowsGiven             what working rows 1 to t needs; what it leaves is RowsWorked (cells/specs/Place)
-- Assumes nothing.
use Rattle.std.specs.Prelude.{ℕ, ◌+◌, ◌*◌, ◌≤◌, ◌<◌, ◌≡◌, List, length, get_or}
use Rattle.lists.specs.Run.{nth}
use Rattle.line.specs.Cells.{Book, excess_on, keep_cost, lesser}
use Rattle.line.specs.Ranges.{limit}
use Rattle.cells.specs.Place.{cell_count, table_of, InRow}
use Rattle.cells.specs.declared.costs.Costs.{Costs}
use Rattle.cells.specs.Costs.{excess_in, keep_in, go_in}

-- by station l, cell (l, l), for the rows after t; up to t as it was
pub record Diagonal (m t : ℕ) (cells before after : List ℕ) : Type 0 where
  pub held : (l : ℕ) → t < l → l ≤ m → nth after l ≡ table_of m cells l l
  pub rest : (l : ℕ) → 1 ≤ l → l ≤ t → nth after l ≡ nth before l

-- more than any row can come to
abbrev pub ceiling : ℕ
ceiling = 64 * limit

-- row k of n cells: stations of the line, and numbers that can be added
pub record RowRoom (k n : ℕ) (costs : Costs) (diagonal : List ℕ) : Type 0 where
  pub first : 1 ≤ k
  pub last : k + n ≤ 65
  pub small : (l : ℕ) → k ≤ l → l < k + n
      → (keep_in costs l ≤ limit) × (go_in costs l ≤ limit) × (nth diagonal l ≤ ceiling)

-- each cell is the lesser choice, the cell after the last being 0
pub record RowFilled (k : ℕ) (costs : Costs) (diagonal before after : List ℕ) : Type 0 where
  pub long : length after ≡ length before
  pub cells : (j : ℕ) → j < length after
      → get_or after j 0
      ≡ lesser (excess_in costs (k + j)) (keep_in costs (k + j) + get_or after (j + 1) 0)
      (go_in costs (k + j) + nth diagonal (k + j))
  pub most : get_or after 0 0 ≤ ceiling

-- what row k is worked from beside a book, over the cells on the diagonal of the later rows
pub record RowGiven (m k : ℕ) (cells diagonal : List ℕ) : Type 0 where
  pub first : 1 ≤ k
  pub last : k ≤ m
  pub long : length cells ≡ cell_count
  pub most : (l : ℕ) → 1 ≤ l → l ≤ m → nth diagonal l ≤ ceiling

-- row k is worked, x being its first cell, and no other place is written
pub record RowWorked (B : Book) (k : ℕ) (diagonal before after : List ℕ) (x : ℕ) : Type 0 where
  pub long : length after ≡ length before
  pub cells : (l : ℕ) → k ≤ l → l ≤ B.trains
      → table_of B.trains after k l
      ≡ lesser (excess_on B.running k l) (keep_cost B (table_of B.trains after) k l)
      (B.period l * B.aboard k l + nth diagonal l)
  pub first : x ≡ table_of B.trains after k k
  pub most : x ≤ ceiling
  pub others : (p : ℕ) → ¬ (InRow B.trains k p) → get_or after p 0 ≡ get_or before p 0

-- what the rows from t down are worked from beside a book, the cells on the diagonal of later rows being at most the
-- limit
pub record RowsGiven (m t : ℕ) (cells : List ℕ) : Type 0 where
  pub last : t ≤ m
  pub long : length cells ≡ cell_count
  pub later : (l : ℕ) → t < l → l ≤ m → table_of m cells l l ≤ limit
