-- `sums::Sums::leaving` meets its contract: one number of the sums, and no more leave one train than board at all.
use Rattle.std.proofs.Common.{◌≡◌, arith, slice_index_or}
use Rattle.cells.specs.Sums.{leaving_in}
use Rattle.cells.proofs.Leavers.{leaving_le}
use Rattle.cells.proofs.sums.Sums.leaving.Goals as goal

pub returns : goal.returns
returns c =
    let p = c.requires in
    let sums = c.args.self.now in
    let most = leaving_le _ _ sums.given _ _ p.0 p.1 p.2 in
    let list = sums.list.now in
    let held : slice_index_or list c.place_of_sum.result 0 ≡ leaving_in list c.args.from.0 c.args.train.0 =
    unfold leaving_in in rw c.place_of_sum.ensures.0 in
    rw c.from.ensures (held, omega arith)
