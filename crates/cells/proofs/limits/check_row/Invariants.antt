-- `limits::check_row` meets its contract. Invariant: the cells from column l on are still to be checked.
use Rattle.std.proofs.Common.{◌+◌, ◌-◌}
use Rattle.terms.proofs.Checks.{Searching}
use Rattle.cells.specs.Limits.{cell_verdict}
use Rattle.cells.proofs.limits.check_row.Given as goal

abbrev pub invariant-loop-l : goal.invariant-loop-l
invariant-loop-l l =
    Searching (cell_verdict l.table.m l.table.cells.now l.first.0) l.first.0 (l.table.m + 1 - l.first.0) l.l
