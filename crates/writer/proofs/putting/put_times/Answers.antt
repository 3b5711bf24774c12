-- `putting::put_times` meets its contract: each column has its room, and later columns leave earlier ones as they are.
use Rattle.std.proofs.Common.{refl, ◌∙◌, length}
use Rattle.sheet.specs.Format.{departure_column, driving_column}
use Rattle.writer.specs.Putting.{ColumnPut}
use Rattle.writer.proofs.Whole.{departures_room, driving_room, delays_room, times_put}
use Rattle.writer.proofs.putting.put_times.Goals as goal
use Rattle.writer.proofs.putting.put_times.Goals.{After-put_column, After-put_column-2}

-- after the first column and after the second
departures_put : (c : After-put_column) →
    let start = c.args in
    let d = start.numbers.departures.now in
    ColumnPut start.sheet.now departure_column (length d) d c.put_column.new.sheet
departures_put c = rw c.departures.ensures at c.put_column.ensures

driving_put : (c : After-put_column-2) →
    let r = c.args.numbers.driving.now in
    ColumnPut c.put_column.new.sheet driving_column (length r) r c.put_column-2.new.sheet
driving_put c = rw c.driving.ensures at c.put_column-2.ensures

-- the departures
pub put_column-requires : goal.put_column-requires
put_column-requires c = rw c.departures.ensures (departures_room _ _ _ _ _ _ c.requires refl)

-- the driving times
pub put_column-requires-2 : goal.put_column-requires-2
put_column-requires-2 c =
    rw c.driving.ensures
    (driving_room _ _ _ _ _ _ c.requires (departures_put (goal.at.put_column-requires-2 c).After-put_column).long)

-- the source delays
pub put_column-requires-3 : goal.put_column-requires-3
put_column-requires-3 c =
    rw c.delays.ensures
    (delays_room _ _ _ _ _ _ c.requires
    ((driving_put (goal.at.put_column-requires-3 c).After-put_column-2).long
    ∙ (departures_put (goal.at.put_column-requires-3 c).After-put_column).long))

-- later columns leave the earlier ones as they are
pub returns : goal.returns
returns c =
    times_put _ _ _ _ _ _ _ _ (departures_put (goal.at.returns c).After-put_column)
    (rw c.requires.driving at (driving_put (goal.at.returns c).After-put_column-2))
    (rw (c.delays.ensures, c.requires.delays) at c.put_column-3.ensures)
