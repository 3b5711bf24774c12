-- What the steps of plan and report need; what the work on the cells leaves is Settled, what is put into the sheet
-- DelayReplaced (sheet/specs/Accepted).
--   Workable m t b    the later rows allow the work on rows 1 to t
--   DelayRoom s i v   the field of train i's source delay lies in the sheet s, and v fits it
-- Assumes nothing.
use Rattle.std.specs.Prelude.{ℕ, ◌+◌, ◌-◌, ◌*◌, ◌≤◌, List}
use Rattle.bits.specs.Field.{Within}
use Rattle.sheet.specs.Format.{delay_column}
use Rattle.cells.specs.Limits.{LaterInRange}
use Rattle.planner.specs.Buffers.{Buffers, RightLengths}

-- the rows of trains 1 to t can be worked: every cell in use of the later rows is at most the limit
pub record Workable (m t : ℕ) (b : Buffers) : Type 0 where
  pub last : t ≤ m
  pub lengths : RightLengths b
  pub later : LaterInRange m t b.cells

pub record DelayRoom (s : List ℕ) (i v : ℕ) : Type 0 where
  pub least : 1 ≤ i
  pub within : Within s (delay_column.first + delay_column.step * (i - 1)) delay_column.width
  pub small : v ≤ 1440
