-- How large what is given and what is worked can be: times and sums that are given make a book in range, and so every
-- worked cell is at most the limit.
-- Assumes nothing.
use Rattle.std.proofs.Common.{List, inl, inr, ℕ, ◌≤◌, le_trans, le_of_eq, arith}
use Rattle.std.proofs.lemmas.Bool.{cases_lt}
use Rattle.line.specs.Ranges.{limit, RunningInRange, BookInRange}
use Rattle.line.proofs.Bounds as bounds
use Rattle.cells.specs.Place.{table_of, RowsWorked}
use Rattle.cells.specs.declared.timing.Timing.{Timing}
use Rattle.cells.specs.Timing.{running_in, TimingGiven}
use Rattle.cells.specs.Sums.{boarded_in}
use Rattle.cells.specs.Book.{book_in, BookGiven}
use Rattle.cells.specs.Limits.{LaterInRange, CellsInRange}
use Rattle.cells.proofs.Places.{table_past}
use Rattle.cells.proofs.Leavers.{aboard_le}

pub running_in_range : (m : ℕ) (timing : Timing) → TimingGiven m timing → RunningInRange m (running_in timing)
running_in_range m timing given =
    record { trains = given.trains; arrive = λ i x a b. omega (arith, given.source i a b) }

module _ (m : ℕ) (timing : Timing) (sums : List ℕ) (given : BookGiven m timing sums) where
  pub book_in_range : BookInRange (book_in m timing sums)
  unfolding boarded_in
  book_in_range =
      record {
        running = running_in_range m timing given.times;
        period = λ s a b. given.times.period s (omega arith) b;
        leaving = given.leavers.most;
        aboard = λ k l a b c. aboard_le m sums given.leavers k l a (omega arith) c;
      }

  -- worked rows are in range by themselves, later rows if they were
  pub worked_in_range : (t : ℕ) (before after : List ℕ) → RowsWorked (book_in m timing sums) t before after
      → LaterInRange m t before → CellsInRange m after
  worked_in_range t before after W later k l a b c = elim (cases_lt t k) [
    | inl u ↦ le_trans (le_of_eq (W.worked.stand k l u b c)) (later k l u b c)
    | inr u ↦ bounds.cell_le _ book_in_range k a t _ _ W.worked u l b c
  ]

-- a cell in use, or 0 past the last column
pub cell_le : (m : ℕ) (cells : List ℕ) → CellsInRange m cells → (k l : ℕ) → 1 ≤ k → k ≤ l → table_of m cells k l ≤ limit
cell_le m cells range k l a b = elim (cases_lt m l) [
  | inl past ↦ omega (arith, table_past m cells k l past)
  | inr h ↦ range k l a b h
]
