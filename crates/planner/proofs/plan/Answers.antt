-- `plan` meets its contract: the checks, then the work on the sheet's times and sums.
use Rattle.std.proofs.Common.{refl, sym, ◌∙◌, le_refl, arith}
use Rattle.line.specs.Line.{line_from}
use Rattle.sheet.specs.Numbers.{numbers_of}
use Rattle.sheet.specs.Checks.{sheet_verdict}
use Rattle.sheet.specs.Accepted.{AcceptedSheet}
use Rattle.terms.proofs.Answers.{refused_answer}
use Rattle.prepare.specs.LineOf.{line_of}
use Rattle.planner.specs.Buffers.{buffers, RightLengths}
use Rattle.planner.specs.Plan.{plan_verdict}
use Rattle.planner.proofs.Refusals.{right_or_unwritten, accepted_of_plan}
use Rattle.planner.proofs.Taken.{after_same, taken_fine, taken_trains, taken_given, settled_for}
use Rattle.planner.proofs.Outcome.{outcome_accepted, outcome_refused, settled_planned, refused_for}
use Rattle.planner.proofs.plan.Goals as goal
use Rattle.planner.proofs.plan.Goals.{In-Ok}

-- the checks passed: the buffers have the right lengths and the sheet is accepted
passed : (c : In-Ok) →
    RightLengths (buffers c.args.cells.now c.args.decisions.now c.args.delays.now) × AcceptedSheet c.args.sheet.now
unfolding plan_verdict
passed c =
    accepted_of_plan _ (buffers c.args.cells.now c.args.decisions.now c.args.delays.now)
    (taken_fine (after_same _ c.check_buffers-lengths.ensures c.prepare.ensures) c.in-Ok.is)

-- every row is worked, so that no later row is left to ask for
pub settle-requires : goal.settle-requires
settle-requires c =
    let checked = after_same _ c.check_buffers-lengths.ensures c.prepare.ensures in
    let answer = c.in-Ok.is in
    let fine = taken_fine checked answer in (
      record {
        last = le_refl _;
        lengths = (passed (goal.at.settle-requires c).In-Ok).0;
        later = λ k l a b d. absurd (omega arith);
      },
      taken_given _ _ _ _ (passed (goal.at.settle-requires c).In-Ok).1.numbers (taken_trains checked answer)
          (checked.times fine)
          (checked.leavers fine),
    )

-- refused
pub returns-in-Err : goal.returns-in-Err
unfolding plan_verdict
returns-in-Err c =
    let lent = buffers c.args.cells.now c.args.decisions.now c.args.delays.now in
    let left = c.refuse.ensures in
    let checked = after_same _ c.check_buffers-lengths.ensures c.prepare.ensures in
    let verdict = refused_answer _ _ (sym c.in-Err.is ∙ checked.answer) in
    rw left.0
    (outcome_refused _ _ lent _ _ (sym verdict)
    (refused_for _ lent _ (right_or_unwritten lent (sheet_verdict _) _ verdict) left.1 left.2 refl))

-- accepted: what is settled on times and sums is the plan of the sheet's line
pub returns-in-Ok : goal.returns-in-Ok
unfolding plan_verdict line_of line_from
returns-in-Ok c =
    let checked = after_same _ c.check_buffers-lengths.ensures c.prepare.ensures in
    let answer = c.in-Ok.is in
    let fine = taken_fine checked answer in
    let lent = buffers c.args.cells.now c.args.decisions.now c.args.delays.now in
    outcome_accepted _ _ lent _ (sym fine)
    (settled_planned _ _ lent _ _ (taken_trains checked answer)
    (settled_for (numbers_of _) _ _ _ (passed (goal.at.returns-in-Ok c).In-Ok).1.numbers
    (taken_trains checked answer) (checked.times fine)
    (checked.leavers fine) _ lent _ _ c.settle.ensures))
