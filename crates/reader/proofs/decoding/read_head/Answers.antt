-- `read_head` meets its contract: each answer is the first check that refuses.
use Rattle.std.proofs.Common.{◌≡◌, refl, sym, ap, ap₂, ◌∙◌, arith, Err, rules}
use Rattle.terms.specs.Verdict.{Fine}
use Rattle.terms.proofs.Checks.{hit, miss, no_more, fine_of_passed, then_stop, then_pass}
use Rattle.sheet.specs.Format.{trains_of, period_of, bytes_of}
use Rattle.sheet.specs.Checks.{ranges_verdict, head_verdict}
use Rattle.sheet.proofs.Facts.{ranges_of_fine}
use Rattle.terms.proofs.Answers.{answer_refused}
use Rattle.reader.proofs.ReadingOf.{reading_accepted}
use Rattle.reader.proofs.decoding.read_head.Goals as goal
use Rattle.reader.proofs.decoding.read_head.Goals.{After-bytes-n, After-check_ranges, In_ok-check_ranges}

-- what is said of m and T is said of the sheet's
ranges : (c : After-check_ranges) →
    let s = c.args.sheet.now in
    c.check_ranges.result ≡ ranges_verdict (trains_of s) (period_of s)
ranges c =
    c.check_ranges.ensures ∙ ap₂ ranges_verdict c.field-trains.ensures c.field-period.ensures

-- m and T passed
passed : (c : In_ok-check_ranges) →
    let s = c.args.sheet.now in
    ranges_verdict (trains_of s) (period_of s) ≡ Fine
passed c =
    sym (c.check_ranges.ensures ∙ ap₂ ranges_verdict c.field-trains.ensures c.field-period.ensures)
    ∙ c.in_ok-check_ranges.was

-- the length that m demands
demanded : (c : After-bytes-n) →
    c.bytes-n.result ≡ bytes_of (trains_of c.args.sheet.now)
demanded c = c.bytes-n.ensures ∙ ap bytes_of (c.new.ensures ∙ c.field-trains.ensures)

-- the sheet is under 3 bytes
pub returns-then-sheet-lt3 : goal.returns-then-sheet-lt3
unfolding head_verdict
returns-then-sheet-lt3 c = answer_refused _ _ (then_stop _ _ refl (hit _ _ _ _ (omega arith)))

-- m or T is refused
pub returns-in_err-check_ranges : goal.returns-in_err-check_ranges
unfolding head_verdict
returns-in_err-check_ranges c =
    let refused : c.from_residual.result ≡ Err c.in_err-check_ranges.field-0.0 = search rules in
    rw refused
    (answer_refused _ _
    (then_pass _ _ _ (fine_of_passed _ (omega arith, tt))
    (then_stop _ _ refl
    (sym c.in_err-check_ranges.was ∙ ranges (goal.at.returns-in_err-check_ranges c).After-check_ranges))))

pub new-requires : goal.new-requires
new-requires c =
    omega (
      arith,
      (ranges_of_fine _ _ (passed (goal.at.new-requires c).In_ok-check_ranges)).trains_most,
      c.field-trains.ensures,
    )

-- the sheet is shorter than m demands
pub returns-then-sheet-n : goal.returns-then-sheet-n
unfolding head_verdict
returns-then-sheet-n c =
    let e = demanded (goal.at.returns-then-sheet-n c).After-bytes-n in
    answer_refused _ _
    (then_pass _ _ _ (fine_of_passed _ (omega arith, tt))
    (then_pass _ _ _ (passed (goal.at.returns-then-sheet-n c).In_ok-check_ranges)
    (hit _ _ _ _ (omega arith))))

-- it is longer
pub returns-then-n-sheet : goal.returns-then-n-sheet
unfolding head_verdict
returns-then-n-sheet c =
    let e = demanded (goal.at.returns-then-n-sheet c).After-bytes-n in
    answer_refused _ _
    (then_pass _ _ _ (fine_of_passed _ (omega arith, tt))
    (then_pass _ _ _ (passed (goal.at.returns-then-n-sheet c).In_ok-check_ranges)
    (miss _ _ _ _ _ (omega arith)
    (hit _ _ _ _ (omega arith)))))

-- nothing is refused
pub returns : goal.returns
unfolding head_verdict
returns c =
    let e = demanded (goal.at.returns c).After-bytes-n in
    reading_accepted _
    (then_pass _ _ _ (fine_of_passed _ (omega arith, tt))
    (then_pass _ _ _ (passed (goal.at.returns c).In_ok-check_ranges)
    (miss _ _ _ _ _ (omega arith)
    (miss _ _ _ _ _ (omega arith)
    no_more))))
    c.field-trains.ensures
    c.field-period.ensures
