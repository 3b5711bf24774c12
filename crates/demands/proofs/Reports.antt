-- What the reports of b7 and b8 answer after the plan of sheet B: by demand 3 what plan answers on the sheet as it then
-- stands, whose line is that of the case.
-- Assumes nothing.
use Rattle.std.proofs.Common.{◌≡◌, refl, sym, ap, subst, List, ℕ, ◌≤◌, arith}
use Rattle.lists.specs.Choice.{if_same}
use Rattle.lists.specs.Run.{run_of, listed}
use Rattle.bits.specs.Field.{bit_at, field_of}
use Rattle.terms.specs.Answer.{Answer, answer_number}
use Rattle.line.specs.Line.{Line, line_from}
use Rattle.line.specs.Alike.{LinesAlike}
use Rattle.line.specs.Answers.{PlanAnswer, CaseAnswer}
use Rattle.line.specs.Cases.{line_b, delays_b7, delays_b8}
use Rattle.line.proofs.Days.{lines_alike_trans}
use Rattle.sheet.specs.Format.{trains_of, entry}
use Rattle.sheet.specs.Numbers.{Numbers, numbers_of}
use Rattle.sheet.specs.Accepted.{SameNumbers, with_delay}
use Rattle.sheet.specs.Pairs.{fields_up_to, field_of_pair, passengers_of_pair}
use Rattle.sheet.proofs.Facts.{accepted_of_fine, fine_of_accepted}
use Rattle.sheet.proofs.Meaning.{same_both, same_sym}
use Rattle.sheet.proofs.Amend.{replaced_numbers, with_delay_same}
use Rattle.prepare.specs.LineOf.{line_of}
use Rattle.prepare.proofs.Lines.{lines_of_same}
use Rattle.planner.specs.Buffers.{Buffers, RightLengths}
use Rattle.demands.specs.Sheets.{sheet_b, Leaves, ReportAfterB4, AnswersB7, AnswersB8}
use Rattle.demands.specs.Calling.{operations}
use Rattle.demands.specs.Runs.{InRun, planned, reported, ReportInRun}
use Rattle.demands.proofs.Answered.{all_right}
use Rattle.demands.proofs.Runs.{demand_3}
use Rattle.demands.proofs.Printed.{pair_rows, lines_same, leaves}
use Rattle.demands.proofs.Sheets.{sheet_b_accepted, case_b7, case_b8, answers_b}

-- ---- the lines of the sheet after one report and after both

abbrev numbers_b7 : Numbers
numbers_b7 = with_delay (numbers_of sheet_b) 1 5

abbrev numbers_b8 : Numbers
numbers_b8 = with_delay numbers_b7 2 6

line_of_b7 : LinesAlike 1 (line_of numbers_b7) (line_b 10 delays_b7)
unfolding line_of passengers_of_pair field_of_pair fields_up_to bit_at field_of entry pair_rows listed run_of if_same
line_of_b7 = lines_same 3 10 _ _ _ _ _ _ _ _ refl refl refl refl

line_of_b8 : LinesAlike 1 (line_of numbers_b8) (line_b 10 delays_b8)
unfolding line_of passengers_of_pair field_of_pair fields_up_to bit_at field_of entry pair_rows listed run_of if_same
line_of_b8 = lines_same 3 10 _ _ _ _ _ _ _ _ refl refl refl refl

pub trains_b : trains_of sheet_b ≡ 3
unfolding bit_at field_of
trains_b = refl

-- a report of a run whose numbers then are N leaves what is printed for the line of N
module _ (N : Numbers) (M : Line) (x : CaseAnswer) (line : LinesAlike 1 (line_of N) M) (print : PlanAnswer M x) where
  report_leaves : (s : List ℕ) (i v : ℕ) (before : Buffers) (t : List ℕ) (after : Buffers) (a : Answer)
      → RightLengths before → answer_number a ≡ 0 → ReportInRun operations tt s i v before t after a
      → SameNumbers (numbers_of t) N → Leaves M.trains x after a
  report_leaves s i v before t after a right zero run same =
      leaves t M x (fine_of_accepted t run.stands)
      (lines_alike_trans 1 _ _ _ (lines_of_same _ N same) line) print before after a right (run.plan zero)

module _ (after4 : Buffers) (a4 : Answer) (t : List ℕ) (before after : Buffers) (a : Answer)
    (h : ReportAfterB4 after4 a4 t before after a) where
  run_b4 : InRun operations sheet_b before.cells
  run_b4 =
      let zero = ap answer_number (answers_b h.lent after4 a4 h.lent_right h.plan).answer in
      subst (InRun operations sheet_b) (sym h.cells) (planned tt sheet_b h.lent after4 a4 h.plan zero)

  run_b7 : InRun operations t after.cells
  run_b7 = reported tt sheet_b 1 5 before t after a run_b4 h.report

  step_b7 : ReportInRun operations tt sheet_b 1 5 before t after a
  step_b7 = demand_3.of_report_in_run tt sheet_b 1 5 before t after a run_b4 h.report

  zero_b7 : answer_number a ≡ 0
  zero_b7 = step_b7.accepts (all_right h.right) (omega arith) (omega (arith, trains_b)) (omega arith)

  same_b7 : SameNumbers (numbers_of t) numbers_b7
  same_b7 =
      replaced_numbers sheet_b t 1 5 (accepted_of_fine sheet_b sheet_b_accepted) (omega arith) (omega (arith, trains_b))
      (step_b7.field zero_b7)

pub answers_b7 : AnswersB7
unfolding line_from
answers_b7 after4 a4 t before after a h =
    report_leaves numbers_b7 _ _ line_of_b7 case_b7 sheet_b 1 5 before t after a h.right
    (zero_b7 after4 a4 t before after a h) (step_b7 after4 a4 t before after a h)
    (same_b7 after4 a4 t before after a h)

pub answers_b8 : AnswersB8
unfolding line_from
answers_b8 after4 a4 t before7 after7 a7 u before after a h cells right report =
    let run = subst (InRun operations t) (sym cells) (run_b7 after4 a4 t before7 after7 a7 h) in
    let step = demand_3.of_report_in_run tt t 2 6 before u after a run report in
    let same = same_b7 after4 a4 t before7 after7 a7 h in
    let second : 2 ≤ trains_of t = omega (arith, same.trains, trains_b) in
    let zero = step.accepts (all_right right) (omega arith) second (omega arith) in
    let ok = (step_b7 after4 a4 t before7 after7 a7 h).stands in
    let new = replaced_numbers t u 2 6 ok (omega arith) second (step.field zero) in
    report_leaves numbers_b8 _ _ line_of_b8 case_b8 t 2 6 before u after a right zero step
    (same_both _ _ (with_delay (numbers_of t) 2 6) new
    (same_sym _ _ (with_delay_same (numbers_of t) numbers_b7 2 6 same)))
