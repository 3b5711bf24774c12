-- What cells are worked from: the times of a line and the sums of those who leave. Document 01, "The working cells".
--   book_in m timing sums      the book that they make for m trains
--   BookGiven m timing sums    their numbers are in range
-- Assumes nothing.
use Rattle.std.specs.Prelude.{ℕ, ◌≤◌, List}
use Rattle.line.specs.Cells.{Book}
use Rattle.cells.specs.declared.timing.Timing.{Timing}
use Rattle.cells.specs.Timing.{period_in, running_in, TimingGiven}
use Rattle.cells.specs.Sums.{leaving_in, aboard_in, SumsGiven}

abbrev pub book_in : ℕ → Timing → List ℕ → Book
book_in m timing sums =
    record {
      trains = m;
      running = running_in timing;
      period = period_in timing;
      leaving = leaving_in sums;
      aboard = aboard_in m sums;
    }

pub record BookGiven (m : ℕ) (timing : Timing) (sums : List ℕ) : Type 0 where
  pub some : 1 ≤ m
  pub times : TimingGiven m timing
  pub leavers : SumsGiven m sums
