-- `prepare` meets its contract: what an earlier check refused, else what the sheet says.
use Rattle.std.proofs.Common.{◌≡◌, refl, sym, Err, rules}
use Rattle.terms.proofs.Checks.{then_stop, then_pass}
use Rattle.sheet.specs.Checks.{sheet_verdict}
use Rattle.prepare.proofs.Prepares.{prepared_refused, prepared_same}
use Rattle.prepare.proofs.prepare.Goals as goal

-- an earlier check refused
pub returns-in_err-earlier : goal.returns-in_err-earlier
returns-in_err-earlier c =
    let refused : c.from_residual.result ≡ Err c.in_err-earlier.field-0.0 = search rules in
    rw refused (prepared_refused _ _ _ _ _ (then_stop _ _ refl (sym c.in_err-earlier.was)))

-- the sheet decides
pub returns : goal.returns
returns c =
    prepared_same (then_pass _ (sheet_verdict _) _ c.in_ok-earlier.was refl) refl
    c.prepare_sheet.ensures
