-- `checking::check_own` meets its contract: what is said of train and delay, else of the rows after the train.
use Rattle.std.proofs.Common.{◌≡◌, sym, ◌∙◌, rules}
use Rattle.terms.proofs.Checks.{passed_of_fine, then_stop, then_pass}
use Rattle.planner.specs.ReportChecks.{report_checks, own_verdict}
use Rattle.planner.proofs.checking.check_own.Goals as goal

-- train or delay is refused
pub returns-in_err-check_reported : goal.returns-in_err-check_reported
unfolding own_verdict
returns-in_err-check_reported c =
    let same : c.from_residual.result ≡ c.check_reported.result = search rules in
    rw same (then_stop _ _ c.in_err-check_reported.was c.check_reported.ensures)

-- the train is one of the line's
pub check_rows_after-requires : goal.check_rows_after-requires
unfolding report_checks
check_rows_after-requires c =
    (passed_of_fine _ (sym c.check_reported.ensures ∙ c.in_ok-check_reported.was)).1.0

-- both pass: the rows decide
pub returns : goal.returns
unfolding own_verdict
returns c = then_pass _ _ _ (sym c.check_reported.ensures ∙ c.in_ok-check_reported.was) c.check_rows_after.ensures
