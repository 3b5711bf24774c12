-- One bit of one byte is one bit of the bytes.
use Rattle.std.proofs.Common.{arith}
use Rattle.bits.proofs.Puts.{put_one}
use Rattle.bits.proofs.put_bit.Goals as goal

pub returns : goal.returns
returns c = put_one _ _ _ _ (omega arith) c.with_bit.ensures
