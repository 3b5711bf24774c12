-- `limits::check_row` meets its contract, by the invariant that stands in Invariants.antt.
use Rattle.std.proofs.Common.{refl, arith}
use Rattle.terms.proofs.Checks.{search_first, search_next, search_last, miss, no_more}
use Rattle.cells.specs.Limits.{cell_verdict, row_verdict}
use Rattle.cells.proofs.limits.check_row.Goals as goal

pub loop-l-init : goal.loop-l-init
loop-l-init c = rw c.leaves-l.ensures (search_first _ _ _)

-- a cell within the limit passes: the columns after it are still to be checked
pub loop-l-preserved : goal.loop-l-preserved
unfolding cell_verdict
loop-l-preserved c =
    search_next _ _ _ c.loop-l.invariant (omega arith) refl
    (miss _ _ _ _ _ (omega (arith, c.cell_at.ensures)) no_more)

-- the last cell passed
pub returns-else-cell_at-gt-LIMIT : goal.returns-else-cell_at-gt-LIMIT
unfolding cell_verdict row_verdict
returns-else-cell_at-gt-LIMIT c =
    search_last _ _ _ c.loop-l.invariant (omega arith) refl
    (miss _ _ _ _ _ (omega (arith, c.cell_at.ensures)) no_more)
