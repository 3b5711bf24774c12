-- `read_columns` meets its contract: every field lies within the sheet, and each list begins with its column.
use Rattle.std.proofs.Common.{lit≤, rules}
use Rattle.reader.proofs.Columns.{train_room, passenger_room}
use Rattle.reader.proofs.decoding.read_columns.Goals as goal

-- the departures: 12 bits from bit 18
pub read_column-requires : goal.read_column-requires
read_column-requires c =
    rw c.departures.ensures
    (train_room _ _ c.args.layout.few c.requires 18 12 _ (lit≤ tt) (lit≤ tt) (search rules))

-- the driving times: 10 bits from bit 30
pub read_column-requires-2 : goal.read_column-requires-2
read_column-requires-2 c =
    rw c.driving.ensures
    (train_room _ _ c.args.layout.few c.requires 30 10 _ (lit≤ tt) (lit≤ tt) (search rules))

-- the delays: 11 bits from bit 40
pub read_column-requires-3 : goal.read_column-requires-3
read_column-requires-3 c =
    rw c.delays.ensures
    (train_room _ _ c.args.layout.few c.requires 40 11 _ (lit≤ tt) (lit≤ tt) (search rules))

-- the passengers: 14 bits each, behind the trains
pub read_column-requires-4 : goal.read_column-requires-4
read_column-requires-4 c =
    rw (c.passengers.ensures, c.pairs-n.ensures)
    (passenger_room _ _ c.args.layout.few c.requires _ (search rules))
