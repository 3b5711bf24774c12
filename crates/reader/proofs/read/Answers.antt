-- `reader::read` meets its contract: the lengths, then the sheet.
use Rattle.std.proofs.Common.{◌≡◌, refl, sym, ◌∙◌, Err, rules}
use Rattle.terms.proofs.Checks.{then_stop}
use Rattle.sheet.proofs.Facts.{lengths_of_fine}
use Rattle.reader.specs.Read.{read_verdict}
use Rattle.reader.proofs.Stored.{read_refused}
use Rattle.reader.proofs.read.Goals as goal

-- a list has another length
pub returns-in_err-check_lengths : goal.returns-in_err-check_lengths
unfolding read_verdict
returns-in_err-check_lengths c =
    let refused : c.from_residual.result ≡ Err c.in_err-check_lengths.field-0.0 = search rules in
    read_refused _ _ refused (then_stop _ _ refl (sym c.in_err-check_lengths.was ∙ c.check_lengths.ensures))

-- the lengths passed
pub read_sheet-requires : goal.read_sheet-requires
read_sheet-requires c = lengths_of_fine _ _ _ _ (sym c.check_lengths.ensures ∙ c.in_ok-check_lengths.was)
