-- `checks::check_numbers` meets its contract: the trains' refusal if there is one, else the passengers' verdict.
use Rattle.std.proofs.Common.{◌≡◌, sym, ◌∙◌, length-take-le, rules}
use Rattle.terms.proofs.Checks.{then_stop, then_pass}
use Rattle.sheet.specs.Format.{pairs_of}
use Rattle.sheet.specs.Checks.{numbers_verdict}
use Rattle.sheet.proofs.Lengths.{pairs_le}
use Rattle.sheet.proofs.Meaning.{passengers_first}
use Rattle.sheet.proofs.checks.check_numbers.Goals as goal

-- a train is refused
pub returns-in_err-check_trains : goal.returns-in_err-check_trains
unfolding numbers_verdict
returns-in_err-check_trains c =
    let same : c.from_residual.result ≡ c.check_trains.result = search rules in
    rw same (then_stop _ _ c.in_err-check_trains.was c.check_trains.ensures)

-- those of m trains are no more than the list holds, and few
pub check_passengers-requires : goal.check_passengers-requires
check_passengers-requires c =
    let room = c.requires in
    rw (c.pairs-n.ensures, length-take-le (pairs_of c.args.layout.m) _ room.passengers)
    (pairs_le c.args.layout.m c.args.layout.few)

-- the trains pass: the passengers decide
pub returns : goal.returns
unfolding numbers_verdict
returns c =
    then_pass _ _ _ (sym c.check_trains.ensures ∙ c.in_ok-check_trains.was)
    (rw c.pairs-n.ensures at c.check_passengers.ensures
    ∙ passengers_first _ _ c.requires.passengers)
