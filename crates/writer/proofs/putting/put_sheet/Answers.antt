-- `putting::put_sheet` meets its contract: head, times, passengers and filling make the sheet.
use Rattle.std.proofs.Common.{refl, ◌∙◌}
use Rattle.writer.proofs.Whole.{head_room, times_room, passengers_room, sheet_put}
use Rattle.writer.proofs.putting.put_sheet.Goals as goal

pub put_head-requires : goal.put_head-requires
put_head-requires c = head_room _ _ _ c.requires refl

-- the head left the length as it was
pub put_times-requires : goal.put_times-requires
put_times-requires c =
    rw c.requires.lengths.departures (times_room _ _ _ c.requires c.put_head.ensures.long)

-- and so did the times
pub put_column-requires : goal.put_column-requires
put_column-requires c =
    rw (c.passengers.ensures, c.new-layout.ensures)
    (passengers_room _ _ _ c.requires (c.put_times.ensures.long ∙ c.put_head.ensures.long))

-- the steps, one after the other, leave the sheet
pub returns : goal.returns
returns c =
    let trains = c.new-layout.ensures in
    sheet_put _ _ _ _ _ _ c.requires c.put_head.ensures
    (rw c.requires.lengths.departures at c.put_times.ensures)
    (rw (c.passengers.ensures, trains) at c.put_column.ensures)
    (rw trains at c.put_filling.ensures)
    (λ i. (c.type_inv.sheet i).fits)
