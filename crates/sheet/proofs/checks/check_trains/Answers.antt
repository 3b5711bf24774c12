-- `checks::check_trains` meets its contract, by the invariant that stands in Invariants.antt.
use Rattle.std.proofs.Common.{◌≡◌, arith, rules}
use Rattle.terms.proofs.Checks.{search_next, search_stop, search_last}
use Rattle.sheet.proofs.checks.check_trains.Goals as goal

-- a train was refused: it is the first
pub returns-in_err-check_train : goal.returns-in_err-check_train
returns-in_err-check_train c =
    let same : c.from_residual.result ≡ c.check_train.result = search rules in
    rw same (search_stop _ _ _ c.loop-i.invariant (omega arith) c.in_err-check_train.was c.check_train.ensures)

-- it passed: the trains after it are still to be checked
pub loop-i-preserved : goal.loop-i-preserved
loop-i-preserved c =
    search_next _ _ _ c.loop-i.invariant (omega arith) c.in_ok-check_train.was c.check_train.ensures

-- the last train passed
pub returns-in_ok-check_train : goal.returns-in_ok-check_train
returns-in_ok-check_train c =
    search_last _ _ _ c.loop-i.invariant (omega arith) c.in_ok-check_train.was c.check_train.ensures
