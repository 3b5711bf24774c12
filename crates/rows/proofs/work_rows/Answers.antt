-- `work_rows` meets its contract, by the invariant that stands in Invariants.antt.
use Rattle.std.proofs.Common.{arith}
use Rattle.rows.proofs.Working.{worked_start, worked_back, worked_end}
use Rattle.rows.proofs.work_rows.Goals as goal

-- no row is worked yet
pub loop-i-init : goal.loop-i-init
loop-i-init c =
    let held = rw (c.new-table.ensures.m, c.new-table.ensures.cells) at c.diagonal_after.ensures in
    worked_start _ _ _ _ (omega arith) held c.requires.later

-- one row more
pub loop-i-preserved : goal.loop-i-preserved
loop-i-preserved c =
    worked_back _ _ _ _ _ _ _ _ c.loop-i.invariant c.args.book.now.given.times.trains (omega arith)
    c.requires.last c.work_row-cell.ensures _ (rw c.leaves.ensures at c.index.ensures)

-- no row is left
pub returns : goal.returns
returns c = worked_end _ _ _ _ _ _ c.loop-i.invariant (omega arith)
