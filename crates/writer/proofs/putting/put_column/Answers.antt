-- One place more is put, and the fields of a column do not overlap.
use Rattle.std.proofs.Common.{refl}
use Rattle.writer.proofs.Columns.{column_next}
use Rattle.writer.proofs.putting.put_column.Goals as goal

pub loop-k-preserved : goal.loop-k-preserved
loop-k-preserved c =
    column_next c.loop-k.invariant c.requires.spaced refl c.put.ensures
