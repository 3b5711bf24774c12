-- `work_row` meets its contract: the part that is lent is the row, and it comes back where it was.
use Rattle.std.proofs.Common.{◌≡◌, ap, ◌∙◌, ◌+◌, ◌-◌, ◌≤◌, arith, length, ℕ, length-take, length-drop}
use Rattle.cells.specs.Place.{place}
use Rattle.cells.proofs.Places.{row_fits}
use Rattle.rows.proofs.Working.{row_put_back, row_room}
use Rattle.rows.proofs.work_row.Goals as goal
use Rattle.rows.proofs.work_row.Goals.{After-place-a}

-- where the row begins, and that it ends within the cells
spot : (c : After-place-a) →
    let m = c.args.book.now.sums.m in
    let k = c.args.first.0 in
    (c.place-a.result ≡ place m k k) × (c.place-a.result + (m + 1 - k) ≤ length c.args.cells.now)
spot c =
    let e = c.place-a.ensures ∙ ap (place c.args.book.now.sums.m c.args.first.0) c.leaves.ensures in
    let fits = row_fits _ _ c.requires.first c.requires.last c.args.book.now.given.times.trains in
    (e, omega (arith, e, fits, c.requires.long))

-- what the row is filled from can be added, and the part that is lent is as long as the row
pub fill_row-requires : goal.fill_row-requires
fill_row-requires c =
    let row = c.requires in
    let fits = (spot (goal.at.fill_row-requires c).After-place-a).1 in
    row_room _ _ _ _ _ _ _ c.args.book.now.given row.first row.last c.costs_along.ensures row.most
    (omega (arith, fits, length-drop {A = ℕ}, length-take {A = ℕ}))

-- the part put back is the row worked
pub returns : goal.returns
returns c =
    let row = c.requires in
    let here = spot (goal.at.returns c).After-place-a in
    row_put_back _ _ _ _ _ _ _ _ _ row.long c.args.book.now.given.times.trains row.first row.last
    (omega (arith, c.fill_row.auto.row, here.1, length-drop {A = ℕ}, length-take {A = ℕ})) c.costs_along.ensures
    c.fill_row.ensures _ here.0
