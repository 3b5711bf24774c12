-- `check_body` meets its contract: the lists hold the sheet's numbers, so that their verdict is the sheet's.
use Rattle.std.proofs.Common.{◌≡◌, sym, ◌∙◌, rules}
use Rattle.terms.proofs.Checks.{then_stop, then_pass}
use Rattle.sheet.specs.Format.{trains_of, passengers_of}
use Rattle.sheet.specs.Numbers.{times_of}
use Rattle.sheet.specs.Checks.{numbers_verdict, body_verdict}
use Rattle.sheet.proofs.Meaning.{verdict_same}
use Rattle.reader.proofs.Columns.{body_room}
use Rattle.reader.proofs.decoding.check_body.Goals as goal
use Rattle.reader.proofs.decoding.check_body.Goals.{After-check_numbers}

-- the verdict of the lists is that of the sheet's numbers
numbers : (c : After-check_numbers) →
    let s = c.args.sheet.now in
    c.check_numbers.result ≡ numbers_verdict (trains_of s) (times_of s) (passengers_of s)
numbers c =
    let lent = c.lists.ensures in
    rw (lent.departures, lent.driving, lent.delays, lent.passengers) at c.check_numbers.ensures
    ∙ verdict_same _ _ c.requires.numbers

-- the lists have room for what m trains read
pub check_numbers-requires : goal.check_numbers-requires
check_numbers-requires c =
    let lent = c.lists.ensures in
    rw (lent.departures, lent.driving, lent.delays, lent.passengers)
    (body_room _ _ _ c.args.layout.few c.requires
    (rw (lent.departures, lent.driving, lent.delays, lent.passengers) at lent.long))

-- the numbers are refused
pub returns-in_err-check_numbers : goal.returns-in_err-check_numbers
unfolding body_verdict
returns-in_err-check_numbers c =
    let same : c.from_residual.result ≡ c.check_numbers.result = search rules in
    rw same
    (then_stop _ _ c.in_err-check_numbers.was
    (numbers (goal.at.returns-in_err-check_numbers c).After-check_numbers))

-- the numbers pass: the filling bits decide
pub returns : goal.returns
unfolding body_verdict
returns c =
    then_pass _ _ _ (sym (numbers (goal.at.returns c).After-check_numbers) ∙ c.in_ok-check_numbers.was)
    c.check_filling.ensures
