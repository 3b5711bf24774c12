-- `decode` meets its contract: the head's refusal if there is one, else the columns and the body's verdict.
use Rattle.std.proofs.Common.{◌≡◌, refl, sym, ◌∙◌, Err, rules}
use Rattle.terms.specs.Verdict.{Fine}
use Rattle.sheet.specs.Format.{trains_of, period_of}
use Rattle.sheet.specs.Checks.{head_verdict}
use Rattle.terms.proofs.Answers.{answer_refused}
use Rattle.reader.proofs.ReadingOf.{reading_accepted, accepted_reading}
use Rattle.reader.proofs.Columns.{columns_numbers}
use Rattle.reader.proofs.Decoded.{decoded_head_refused, decoded_body, head_of_fine, trains_of_fine}
use Rattle.reader.proofs.decoding.decode.Goals as goal
use Rattle.reader.proofs.decoding.decode.Goals.{In_ok-head}

-- what a head that passed tells
passed : (c : In_ok-head) →
    let s = c.args.sheet.now in
    let head = c.in_ok-head.head in
    (head_verdict s ≡ Fine) × (head.trains ≡ trains_of s) × (head.period ≡ period_of s)
passed c = accepted_reading (head_verdict _) _ _ (sym c.in_ok-head.was ∙ c.read_head.ensures)

-- the head is refused
pub returns-in_err-head : goal.returns-in_err-head
returns-in_err-head c =
    let same : c.from_residual.result ≡ c.read_head.result = search rules in
    rw same (decoded_head_refused _ _ c.in_err-head.was c.read_head.ensures)

-- the head passed
pub new-layout-requires : goal.new-layout-requires
new-layout-requires c =
    let told = passed (goal.at.new-layout-requires c).In_ok-head in
    trains_of_fine _ _ told.0 told.1

-- the lists are those that were lent
pub read_columns-requires : goal.read_columns-requires
read_columns-requires c =
    let told = passed (goal.at.read_columns-requires c).In_ok-head in
    head_of_fine _ _ told.0 (c.new-layout.ensures ∙ told.1)

-- the columns hold the sheet's numbers
pub check_body-requires : goal.check_body-requires
check_body-requires c =
    let told = passed (goal.at.check_body-requires c).In_ok-head in
    let read = c.read_columns.ensures in
    let trains = c.new-layout.ensures ∙ told.1 in
    record {
      head = head_of_fine _ _ told.0 trains;
      numbers = columns_numbers _ _ _ read _ _ trains refl;
    }

-- the body is refused
pub returns-in_err-check_body : goal.returns-in_err-check_body
returns-in_err-check_body c =
    let refused : c.from_residual-in_err-check_body.result ≡ Err c.in_err-check_body.field-0.0 = search rules in
    rw refused
    (decoded_body _ _ _ (passed (goal.at.returns-in_err-check_body c).In_ok-head).0
    (answer_refused _ _ (sym c.in_err-check_body.was ∙ c.check_body.ensures))
    c.read_columns.ensures)

-- nothing is refused
pub returns : goal.returns
returns c =
    let told = passed (goal.at.returns c).In_ok-head in
    decoded_body _ _ _ told.0
    (reading_accepted _ (sym c.in_ok-check_body.was ∙ c.check_body.ensures) told.1 told.2)
    c.read_columns.ensures
