-- `limits::check_rows_after` meets its contract. Invariant: the rows from k on are still to be checked.
use Rattle.std.proofs.Common.{◌+◌, ◌-◌}
use Rattle.terms.proofs.Checks.{Searching}
use Rattle.cells.specs.Limits.{row_verdict}
use Rattle.cells.proofs.limits.check_rows_after.Given as goal

abbrev pub invariant-loop-k : goal.invariant-loop-k
invariant-loop-k l =
    Searching (row_verdict l.table.m l.table.cells.now) (l.fn.train.0 + 1) (l.table.m - l.fn.train.0) l.k
