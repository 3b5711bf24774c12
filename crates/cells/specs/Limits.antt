-- Whether the cells in use of later rows are within document 01's limit. Document 01, "Numbers of refusal, in the order
-- of checking": 12.
--   LaterInRange m t cells     every cell in use of the rows after t is at most the limit
--   CellsInRange m cells       every cell in use is
--   cell_verdict m cells k l   12 for cell (k, l) of a line of m trains
--   row_verdict m cells k      12 for the cells in use of row k
--   later_verdict m cells i    12 for the rows after train i, the first first
--   FirstOver m i cells k      row k is the first after train i with a cell in use over the limit
-- Assumes nothing.
use Rattle.std.specs.Prelude.{ℕ, ◌+◌, ◌-◌, ◌≤◌, ◌<◌, List, [], ◌∷◌}
use Rattle.terms.specs.declared.ReportFault.TheVariants.{CellOverLimit}
use Rattle.terms.specs.declared.Refusal.TheVariants.{OfReport}
use Rattle.terms.specs.Verdict.{Verdict, refuse◌when◌below◌, verdict_of, first_of}
use Rattle.terms.specs.Refusal.{train}
use Rattle.line.specs.Ranges.{limit}
use Rattle.cells.specs.Place.{table_of}

abbrev pub LaterInRange : ℕ → ℕ → List ℕ → Type 0
LaterInRange m t cells = (k l : ℕ) → t < k → k ≤ l → l ≤ m → table_of m cells k l ≤ limit

abbrev pub CellsInRange : ℕ → List ℕ → Type 0
CellsInRange m cells = LaterInRange m 0 cells

unfoldable pub cell_verdict : ℕ → List ℕ → ℕ → ℕ → Verdict
cell_verdict m cells k l =
    verdict_of ((refuse (OfReport (CellOverLimit (train k))) when limit below table_of m cells k l) ∷ [])

unfoldable pub row_verdict : ℕ → List ℕ → ℕ → Verdict
row_verdict m cells k = first_of (cell_verdict m cells k) k (m + 1 - k)

-- a cell in use in a row after the train is over 1,916,928,000,000; the place is the first such row
unfoldable pub later_verdict : ℕ → List ℕ → ℕ → Verdict
later_verdict m cells i = first_of (row_verdict m cells) (i + 1) (m - i)

-- what 12 and its place are for, as plain facts
pub record FirstOver (m i : ℕ) (cells : List ℕ) (k : ℕ) : Type 0 where
  pub after : i < k
  pub column : ℕ
  pub in_row : k ≤ column
  pub last : column ≤ m
  pub over : limit < table_of m cells k column
  -- no row between the train and k has such a cell
  pub first : (j l : ℕ) → i < j → j < k → j ≤ l → l ≤ m → table_of m cells j l ≤ limit
