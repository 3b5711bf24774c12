-- `limits::check_rows_after` meets its contract, by the invariant that stands in Invariants.antt.
use Rattle.std.proofs.Common.{◌≡◌, arith, rules}
use Rattle.terms.proofs.Checks.{search_first, search_next, search_stop, search_end, search_last}
use Rattle.cells.specs.Limits.{later_verdict}
use Rattle.cells.proofs.limits.check_rows_after.Goals as goal

pub loop-k-init : goal.loop-k-init
loop-k-init c = search_first _ _ _

-- a row was refused: it is the first
pub returns-in_err-check_row : goal.returns-in_err-check_row
unfolding later_verdict
returns-in_err-check_row c =
    let same : c.from_residual.result ≡ c.check_row.result = search rules in
    rw same (search_stop _ _ _ c.loop-k.invariant (omega arith) c.in_err-check_row.was c.check_row.ensures)

-- it passed: the rows after it are still to be checked
pub loop-k-preserved : goal.loop-k-preserved
loop-k-preserved c =
    search_next _ _ _ c.loop-k.invariant (omega arith) c.in_ok-check_row.was c.check_row.ensures

-- the last row passed
pub returns-in_ok-check_row : goal.returns-in_ok-check_row
unfolding later_verdict
returns-in_ok-check_row c =
    search_last _ _ _ c.loop-k.invariant (omega arith) c.in_ok-check_row.was c.check_row.ensures

-- there is none
pub returns : goal.returns
unfolding later_verdict
returns c = search_end _ _ _ c.loop-k.invariant (omega arith)
