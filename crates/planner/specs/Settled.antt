-- What the work on accepted numbers leaves, in a plan and in a report. Document 01, "Four operations", report: rows 1
-- to that train are worked anew from the later rows as they stand; decisions follow by comparing the two choices in the
-- cells, and delays by following them; the total is cell (1, 1). In a plan that train is the last.
--   Settled B t before after n   that, for rows 1 to t of the book B, n being the total
-- Assumes nothing.
use Rattle.std.specs.Prelude.{ℕ, ◌≡◌}
use Rattle.line.specs.Cells.{Book}
use Rattle.cells.specs.Place.{table_of, RowsWorked}
use Rattle.walk.specs.Walked.{Walked}
use Rattle.planner.specs.Buffers.{Buffers}

pub record Settled (B : Book) (t : ℕ) (before after : Buffers) (n : ℕ) : Type 0 where
  pub cells : RowsWorked B t before.cells after.cells
  pub walked : Walked B (table_of B.trains after.cells) after.decisions after.delays
  pub total : n ≡ table_of B.trains after.cells 1 1
