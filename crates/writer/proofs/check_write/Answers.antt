-- `writer::check_write` meets its contract: the first check that refuses, else the verdict on the numbers.
use Rattle.std.proofs.Common.{◌≡◌, refl, sym, ap, ◌∙◌, ℕ, arith, rules}
use Rattle.terms.specs.declared.ListFault.TheVariants.{ListLength}
use Rattle.terms.specs.declared.Refusal.TheVariants.{OfList}
use Rattle.terms.specs.Verdict.{Fine}
use Rattle.terms.proofs.Checks.{unlike, fine_of_passed, then_stop, then_pass}
use Rattle.sheet.specs.Format.{pairs_of}
use Rattle.sheet.specs.Held.{lent}
use Rattle.sheet.specs.Checks.{lengths_verdict, ranges_verdict}
use Rattle.sheet.proofs.Facts.{lengths_of_fine, ranges_of_fine}
use Rattle.writer.specs.Write.{write_verdict}
use Rattle.writer.proofs.check_write.Goals as goal
use Rattle.writer.proofs.check_write.Goals.{After-check_lengths, In_ok-check_ranges}

-- m and T passed
right_ranges : (c : In_ok-check_ranges) →
    let head = c.args.head in ranges_verdict head.trains head.period ≡ Fine
right_ranges c = sym c.check_ranges.ensures ∙ c.in_ok-check_ranges.was

-- what the lengths are compared with
lengths_are : (c : After-check_lengths) →
    let m = c.args.head.trains in
    c.check_lengths.result ≡ lengths_verdict (OfList ListLength) m (pairs_of m) (lent c.args.numbers)
lengths_are c =
    c.check_lengths.ensures
    ∙ ap (λ (k : ℕ). lengths_verdict (OfList ListLength) c.args.head.trains k (lent c.args.numbers))
    (rw c.new-layout.ensures at c.pairs-pairs.ensures)

-- the output buffer has another length
pub returns-then-room-ne3907 : goal.returns-then-room-ne3907
unfolding write_verdict
returns-then-room-ne3907 c = then_stop _ _ refl (unlike _ _ _ _ (omega arith))

-- m or T is refused
pub returns-in_err-check_ranges : goal.returns-in_err-check_ranges
unfolding write_verdict
returns-in_err-check_ranges c =
    let same : c.from_residual.result ≡ c.check_ranges.result = search rules in
    rw same
    (then_pass _ _ _ (fine_of_passed _ (omega arith, tt))
    (then_stop _ _ c.in_err-check_ranges.was c.check_ranges.ensures))

pub new-layout-requires : goal.new-layout-requires
new-layout-requires c =
    (ranges_of_fine _ _ (right_ranges (goal.at.new-layout-requires c).In_ok-check_ranges)).trains_most

-- a list has another length
pub returns-in_err-check_lengths : goal.returns-in_err-check_lengths
unfolding write_verdict
returns-in_err-check_lengths c =
    let same : c.from_residual-in_err-check_lengths.result ≡ c.check_lengths.result = search rules in
    rw same
    (then_pass _ _ _ (fine_of_passed _ (omega arith, tt))
    (then_pass _ _ _ (right_ranges (goal.at.returns-in_err-check_lengths c).In_ok-check_ranges)
    (then_stop _ _ c.in_err-check_lengths.was
    (lengths_are (goal.at.returns-in_err-check_lengths c).After-check_lengths))))

-- the lists have the lengths that m demands
pub check_numbers-requires : goal.check_numbers-requires
check_numbers-requires c =
    let r = ranges_of_fine _ _ (right_ranges (goal.at.check_numbers-requires c).In_ok-check_ranges) in
    let l = lengths_of_fine _ _ _ _
    (sym (lengths_are (goal.at.check_numbers-requires c).After-check_lengths)
    ∙ c.in_ok-check_lengths.was) in
    rw c.new-layout.ensures (omega arith)

-- the lengths pass: the numbers decide
pub returns : goal.returns
unfolding write_verdict
returns c =
    then_pass _ _ _ (fine_of_passed _ (omega arith, tt))
    (then_pass _ _ _ (right_ranges (goal.at.returns c).In_ok-check_ranges)
    (then_pass _ _ _ (sym (lengths_are (goal.at.returns c).After-check_lengths) ∙ c.in_ok-check_lengths.was)
    (rw c.new-layout.ensures at c.check_numbers.ensures)))
