-- `putting::put_head` meets its contract: T does not touch m.
use Rattle.std.proofs.Common.{◌∙◌, inl, lit≤}
use Rattle.bits.proofs.Puts.{put_apart}
use Rattle.writer.proofs.putting.put_head.Goals as goal

-- m stays under T, and T holds
pub returns : goal.returns
returns c =
    let period = c.put-2.ensures in
    let trains = c.put.ensures in
    record {
      long = period.long ∙ trains.long;
      trains = put_apart period 0 7 (inl (lit≤ tt)) ∙ trains.holds;
      period = period.holds;
    }
