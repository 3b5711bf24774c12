-- `report` meets its contract: the checks, then the new delay into sheet and times, and the work from its train down.
use Rattle.std.proofs.Common.{refl, sym, ◌∙◌, arith}
use Rattle.terms.proofs.Checks.{refused_not_fine}
use Rattle.sheet.specs.Format.{trains_of}
use Rattle.sheet.specs.Accepted.{AcceptedSheet}
use Rattle.terms.proofs.Answers.{refused_answer}
use Rattle.planner.specs.Buffers.{buffers, RightLengths}
use Rattle.planner.specs.ReportChecks.{Reportable}
use Rattle.planner.specs.Report.{report_verdict}
use Rattle.planner.proofs.Refusals.{cells_of_fine, right_or_unwritten, after_lengths_verdict}
use Rattle.planner.proofs.Refusals.{accepted_of_report}
use Rattle.planner.proofs.Taken.{after_same, taken_fine, taken_trains}
use Rattle.planner.proofs.Replacing.{delay_room, replaced_given, timed_settled}
use Rattle.planner.proofs.Outcome.{outcome_accepted, outcome_refused, refused_for}
use Rattle.planner.proofs.report.Goals as goal
use Rattle.planner.proofs.report.Goals.{In-Ok}

-- the checks passed: the buffers have the right lengths, the sheet is accepted and so is the report
passed : (c : In-Ok) →
    let start = c.args in
    RightLengths (buffers c.args.cells.now c.args.decisions.now c.args.delays.now) × AcceptedSheet start.sheet.now
    × Reportable (trains_of start.sheet.now) start.delay.train.0 start.delay.minutes start.cells.now
unfolding report_verdict
passed c =
    accepted_of_report _ _ _ (buffers c.args.cells.now c.args.decisions.now c.args.delays.now)
    (taken_fine (after_same _ c.check_buffers-lengths.ensures c.check_report.ensures) c.in-Ok.is)

-- lengths that pass are right
pub check_report-requires : goal.check_report-requires
check_report-requires c fine = cells_of_fine _ _ _ (sym c.check_buffers-lengths.ensures ∙ fine)

-- the train is one of the sheet's, so that its field lies in the sheet and it has a number to replace
pub replace_delay-requires : goal.replace_delay-requires
replace_delay-requires c =
    let ok = passed (goal.at.replace_delay-requires c).In-Ok in (
      delay_room _ _ _ ok.1 ok.2.least ok.2.most ok.2.delay,
      omega (arith, ok.2.most, ok.1.numbers.trains_most),
    )

-- the later rows allow the work
pub settle-requires : goal.settle-requires
settle-requires c =
    let checked = after_same _ c.check_buffers-lengths.ensures c.check_report.ensures in
    let answer = c.in-Ok.is in
    let fine = taken_fine checked answer in
    let trains = taken_trains checked answer in
    let ok = passed (goal.at.settle-requires c).In-Ok in
    let report = ok.2 in (
      record { last = omega (arith, report.most, trains); lengths = ok.0; later = rw trains report.later },
      replaced_given _ _ _ ok.1 report.least report.most report.delay _ c.replace_delay.ensures.sheet _ _ _ _
          c.replace_delay.ensures.times c.replace_delay.ensures.here trains (checked.times fine)
          (checked.leavers fine),
    )

-- refused
pub returns-in-Err : goal.returns-in-Err
unfolding report_verdict
returns-in-Err c =
    let lent = buffers c.args.cells.now c.args.decisions.now c.args.delays.now in
    let left = c.refuse.ensures in
    let checked = after_same _ c.check_buffers-lengths.ensures c.check_report.ensures in
    let verdict = refused_answer _ _ (sym c.in-Err.is ∙ checked.answer) in
    rw left.0
    (record {
      outcome = outcome_refused _ _ lent _ _ (sym verdict)
          (refused_for _ lent _ (right_or_unwritten lent (after_lengths_verdict _ _ _ _) _ verdict) left.1 left.2
          refl);
      kept = λ r e. refl;
    })

-- accepted: what is settled on the times with the new delay is settled for the line of the sheet as it stands
pub returns-in-Ok : goal.returns-in-Ok
unfolding report_verdict
returns-in-Ok c =
    let checked = after_same _ c.check_buffers-lengths.ensures c.check_report.ensures in
    let answer = c.in-Ok.is in
    let fine = taken_fine checked answer in
    let ok = passed (goal.at.returns-in-Ok c).In-Ok in
    let report = ok.2 in
    let lent = buffers c.args.cells.now c.args.decisions.now c.args.delays.now in
    record {
      outcome = outcome_accepted _ _ lent _ (sym fine)
          (record {
            sheet = c.replace_delay.ensures.sheet;
            settled = timed_settled _ _ _ ok.1 report.least report.most report.delay _
                c.replace_delay.ensures.sheet _ _ _ _ c.replace_delay.ensures.times c.replace_delay.ensures.here
                (taken_trains checked answer) (checked.times fine) (checked.leavers fine) lent _ _ c.settle.ensures;
          });
      kept = λ r e. refused_not_fine (sym e ∙ fine);
    }
