-- What plan answers on sheets A, B and B with T 13: each is accepted and its line is that of its case, by computing
-- both; what is printed for the case is then the plan.
-- Assumes nothing.
use Rattle.std.proofs.Common.{◌≡◌, refl, arith}
use Rattle.lists.specs.Choice.{if_below}
use Rattle.lists.specs.Run.{run_of, listed}
use Rattle.bits.specs.Field.{bit_at, field_of}
use Rattle.terms.specs.Verdict.{Fine, verdict_of, ◌and_then◌, first_of}
use Rattle.line.specs.Line.{line_from}
use Rattle.line.specs.Alike.{LinesAlike}
use Rattle.line.specs.Answers.{PlanAnswer}
use Rattle.line.specs.Cases.{line_a, line_b, delays_b, delays_b7, delays_b8, a as case_a, b4, b6, b7, b8}
use Rattle.line.proofs.Cases.{case_at}
use Rattle.sheet.specs.Format.{entry, bits_of, bytes_of, pairs_of}
use Rattle.sheet.specs.Numbers.{numbers_of}
use Rattle.sheet.specs.Pairs.{fields_up_to, field_of_pair, passengers_of_pair}
use Rattle.sheet.specs.Checks.{ranges_verdict, earliest_of, train_checks, train_verdict, passengers_verdict}
use Rattle.sheet.specs.Checks.{numbers_verdict, head_verdict, filling_verdict, body_verdict, sheet_verdict}
use Rattle.sheet.specs.SheetA.{sheet_a}
use Rattle.sheet.proofs.Sample.{sheet_a_accepted}
use Rattle.prepare.specs.LineOf.{line_of}
use Rattle.demands.specs.Sheets.{sheet_b, sheet_b13, AnswersA, AnswersB, AnswersB13}
use Rattle.demands.proofs.Printed.{pair_rows, lines_same, leaves}

-- ---- the sheets are accepted

both_accepted : (sheet_verdict sheet_b ≡ Fine) × (sheet_verdict sheet_b13 ≡ Fine)
unfolding sheet_verdict head_verdict ranges_verdict body_verdict numbers_verdict train_verdict train_checks earliest_of
    passengers_verdict filling_verdict verdict_of ◌and_then◌ first_of run_of if_below bit_at
    field_of entry bits_of bytes_of
    pairs_of
both_accepted = (refl, refl)

pub sheet_b_accepted : sheet_verdict sheet_b ≡ Fine
sheet_b_accepted = both_accepted.0

-- ---- and have the lines of their cases

pub line_of_sheet_a : LinesAlike 1 (line_of (numbers_of sheet_a)) line_a
unfolding line_of passengers_of_pair field_of_pair fields_up_to bit_at field_of entry pair_rows listed run_of
line_of_sheet_a = lines_same 1 10 _ _ _ _ _ _ _ _ refl refl refl refl

pub line_of_sheet_b : LinesAlike 1 (line_of (numbers_of sheet_b)) (line_b 10 delays_b)
unfolding line_of passengers_of_pair field_of_pair fields_up_to bit_at field_of entry pair_rows listed run_of
line_of_sheet_b = lines_same 3 10 _ _ _ _ _ _ _ _ refl refl refl refl

pub line_of_sheet_b13 : LinesAlike 1 (line_of (numbers_of sheet_b13)) (line_b 13 delays_b)
unfolding line_of passengers_of_pair field_of_pair fields_up_to bit_at field_of entry pair_rows listed run_of
line_of_sheet_b13 = lines_same 3 13 _ _ _ _ _ _ _ _ refl refl refl refl

-- ---- what is printed is the plan of each line

-- counted from 0 in the table
case_a_lem : PlanAnswer line_a case_a
case_a_lem = (case_at 13 (omega arith)).0

case_b4 : PlanAnswer (line_b 10 delays_b) b4
case_b4 = (case_at 4 (omega arith)).0

case_b6 : PlanAnswer (line_b 13 delays_b) b6
case_b6 = (case_at 6 (omega arith)).0

pub case_b7 : PlanAnswer (line_b 10 delays_b7) b7
case_b7 = (case_at 7 (omega arith)).0

pub case_b8 : PlanAnswer (line_b 10 delays_b8) b8
case_b8 = (case_at 8 (omega arith)).0

-- ---- the three sheets

pub answers_a : AnswersA
unfolding line_from
answers_a = leaves sheet_a line_a _ sheet_a_accepted line_of_sheet_a case_a_lem

pub answers_b : AnswersB
unfolding line_from
answers_b = leaves sheet_b (line_b 10 delays_b) _ sheet_b_accepted line_of_sheet_b case_b4

pub answers_b13 : AnswersB13
unfolding line_from
answers_b13 = leaves sheet_b13 (line_b 13 delays_b) _ both_accepted.1 line_of_sheet_b13 case_b6
