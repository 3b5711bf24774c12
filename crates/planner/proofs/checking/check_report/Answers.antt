-- `checking::check_report` meets its contract: what the earlier checks and the sheet say, then the report's own.
use Rattle.std.proofs.Common.{◌≡◌, refl, sym, ◌∙◌, arith, Err, rules}
use Rattle.terms.proofs.Checks.{then_stop, then_pass, then_fine, then_nothing, then_assoc}
use Rattle.terms.proofs.Answers.{refused_answer}
use Rattle.sheet.specs.Checks.{sheet_verdict}
use Rattle.sheet.proofs.Facts.{accepted_of_fine}
use Rattle.prepare.proofs.Prepares.{prepared_refused, prepared_same}
use Rattle.planner.proofs.Taken.{taken_fine, taken_trains}
use Rattle.planner.proofs.checking.check_report.Goals as goal

-- the sheet or an earlier check refused
pub returns-in_err-head : goal.returns-in_err-head
returns-in_err-head c =
    let same : c.from_residual.result ≡ c.prepare.result = search rules in
    let checked = c.prepare.ensures in
    let refused = refused_answer _ _ (sym c.in_err-head.was ∙ checked.answer) in
    prepared_same (then_stop _ _ refused refl ∙ then_assoc _ (sheet_verdict _) _) (sym same) checked

-- the cells have their length, and the sheet has at most 64 trains
pub new-table-requires : goal.new-table-requires
new-table-requires c =
    let checked = c.prepare.ensures in
    let answer = c.in_ok-head.was in
    let both = then_fine _ (sheet_verdict _) (taken_fine checked answer) in
    let few = (accepted_of_fine _ both.1).numbers.trains_most in
    (omega (arith, few, taken_trains checked answer), c.requires both.0)

-- the report is refused
pub returns-in_err-check_own : goal.returns-in_err-check_own
returns-in_err-check_own c =
    let same : c.from_residual-in_err-check_own.result ≡ Err c.in_err-check_own.field-0.0 = search rules in
    let checked = c.prepare.ensures in
    let answer = c.in_ok-head.was in
    let table = c.new-table.ensures in
    let own = rw (table.m, table.cells, taken_trains checked answer) at c.check_own.ensures in
    let refused = sym c.in_err-check_own.was ∙ own in
    rw same
    (prepared_refused _ _ _ _ _
    (then_pass _ _ _ (taken_fine checked answer) refused ∙ then_assoc _ (sheet_verdict _) _))

-- it is accepted
pub returns : goal.returns
returns c =
    let checked = c.prepare.ensures in
    let answer = c.in_ok-head.was in
    let table = c.new-table.ensures in
    let own = rw (table.m, table.cells, taken_trains checked answer) at c.check_own.ensures in
    let fine = sym own ∙ c.in_ok-check_own.was in
    prepared_same (then_nothing _ _ fine ∙ then_assoc _ (sheet_verdict _) _) answer checked
