-- `prepare_sheet` meets its contract: an accepted sheet fills both lists, a refused one none.
use Rattle.std.proofs.Common.{◌≡◌, refl, sym, ◌∙◌, Err, rules}
use Rattle.sheet.specs.Held.{held}
use Rattle.sheet.specs.Checks.{sheet_verdict}
use Rattle.sheet.specs.Accepted.{Lengths}
use Rattle.terms.proofs.Answers.{refused_answer}
use Rattle.prepare.proofs.Prepares.{train_given, fields_given, prepared_accepted, prepared_refused}
use Rattle.reader.specs.Decoded.{Decoded}
use Rattle.reader.proofs.Stored.{zeros}
use Rattle.prepare.proofs.prepare_sheet.Goals as goal
use Rattle.prepare.proofs.prepare_sheet.Goals.{After-decode}

-- four lists of zeros
blank : Lengths 64 2080 zeros
blank = record { departures = refl; driving = refl; delays = refl; passengers = refl }

-- decoded into lists of zeros
decoded : (c : After-decode) → Decoded c.args.sheet.now zeros (held c.decode.new.columns) c.decode.result
decoded c =
    let made = c.zeros-columns.ensures in
    rw (made.departures, made.driving, made.delays, made.passengers) at c.decode.ensures

-- the lists hold numbers in range
pub fill_timing-requires : goal.fill_timing-requires
fill_timing-requires c =
    let lent = c.lists.ensures in
    rw (lent.departures, lent.driving, lent.delays)
    (train_given _ _ _ _ (decoded (goal.at.fill_timing-requires c).After-decode) blank _ c.in_ok-head.was)

pub new-requires : goal.new-requires
new-requires c =
    fields_given _ _ _ _ (decoded (goal.at.new-requires c).After-decode) blank _ c.in_ok-head.was

-- both are filled
pub returns : goal.returns
returns c =
    let lent = c.lists.ensures in
    prepared_accepted _ _ _ _ (decoded (goal.at.returns c).After-decode) blank _ c.in_ok-head.was _ _
    (rw (lent.departures, lent.driving, lent.delays) at c.fill_timing.ensures)
    (rw (c.new.ensures.m, c.new.ensures.passengers) at c.sum_columns.ensures)

-- the sheet is refused
pub returns-in_err-head : goal.returns-in_err-head
returns-in_err-head c =
    let refused : c.from_residual.result ≡ Err c.in_err-head.field-0.0 = search rules in
    rw refused
    (prepared_refused _ _ _ _ _
    (sym (refused_answer (sheet_verdict _) _ (sym c.in_err-head.was ∙ c.decode.ensures.answer))))
