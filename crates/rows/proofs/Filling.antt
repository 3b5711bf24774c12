-- A row of cells filled from its last cell back. Places of the row count from 0; its cell j is that of station k + j.
--   FilledFrom   the cells from j on are filled, the first of them being `next`
-- Assumes nothing.
use Rattle.std.proofs.Common.{◌≡◌, List, ℕ, ◌+◌, ◌-◌, ◌*◌, ◌≤◌, ◌<◌, length, get_or}
use Rattle.lists.specs.Run.{nth}
use Rattle.line.specs.Cells.{lesser}
use Rattle.line.specs.Ranges.{limit}
use Rattle.cells.specs.declared.costs.Costs.{Costs}
use Rattle.cells.specs.Costs.{excess_in, keep_in, go_in}

module _ (k n : ℕ) (costs : Costs) (diagonal : List ℕ) where
  -- cell j by the cell after it
  abbrev cell_from : ℕ → ℕ → ℕ
  cell_from j next =
      lesser (excess_in costs (k + j)) (keep_in costs (k + j) + next) (go_in costs (k + j) + nth diagonal (k + j))

  pub record FilledFrom (row : List ℕ) (next j : ℕ) : Type 0 where
    pub long : length row ≡ n
    pub here : next ≡ get_or row j 0
    pub small : next ≤ (n - j) * limit
    pub cells : (i : ℕ) → j ≤ i → i < n → get_or row i 0 ≡ cell_from i (get_or row (i + 1) 0)
