-- `read_sheet` meets its contract: a refused sheet changes nothing, an accepted one is copied.
use Rattle.std.proofs.Common.{◌≡◌, rules}
use Rattle.sheet.specs.Numbers.{lists}
use Rattle.reader.proofs.Stored.{read_of_refused, read_of_accepted}
use Rattle.reader.proofs.read_sheet.Goals as goal

-- the sheet is refused
pub returns-in_err-head : goal.returns-in_err-head
returns-in_err-head c =
    let same : c.from_residual.result ≡ c.decode.result = search rules in
    rw same (read_of_refused _ _ c.requires c.decode.ensures.answer c.in_err-head.was)

-- the sheet is accepted
pub returns : goal.returns
returns c =
    let blank = c.zeros-columns.ensures in
    let got = rw (blank.departures, blank.driving, blank.delays, blank.passengers) at c.decode.ensures in
    rw (← c.in_ok-head.was)
    (read_of_accepted _ _ c.requires _ _ got c.in_ok-head.was
    (λ i.
    lists (c.copy_from_slice.ensures.after i) (c.copy_from_slice-2.ensures.after i)
    (c.copy_from_slice-3.ensures.after i) (c.copy_from_slice-4.ensures.after i)))
