-- The bit is cleared, and then set where it becomes 1.
use Rattle.bits.proofs.Bytes.{bit_replaced}
use Rattle.bits.proofs.with_bit.Goals as goal

pub returns : goal.returns
returns c = bit_replaced _ _ _ c.ranges.byte.fits c.requires.0 c.requires.1
