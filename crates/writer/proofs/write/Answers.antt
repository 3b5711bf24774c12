-- `writer::write` meets its contract: all checks, then the sheet into the first bytes.
use Rattle.std.proofs.Common.{arith, ◌≡◌, sym, ◌∙◌, ◌≤◌, length, length-take-le}
use Rattle.terms.specs.Verdict.{Fine}
use Rattle.sheet.specs.Held.{lent}
use Rattle.sheet.proofs.Lengths.{bytes_le}
use Rattle.writer.specs.Write.{given, write_verdict}
use Rattle.writer.proofs.Facts.{accepts_of_fine}
use Rattle.writer.proofs.write.Goals as goal
use Rattle.writer.proofs.write.Goals.{After-bytes-n, In_ok-check_write}

-- all checks passed
fine : (c : In_ok-check_write) →
    let a = c.args in
    write_verdict (length a.sheet.now) (given a.head.trains a.head.period (lent a.numbers)) ≡ Fine
fine c = sym c.check_write.ensures ∙ c.in_ok-check_write.was

-- the sheet fits the buffer
room : (c : After-bytes-n) → c.bytes-n.result ≤ length c.args.sheet.now
room c =
    let accepts = accepts_of_fine _ _ (sym c.check_write.ensures ∙ c.in_ok-check_write.was) in
    omega (arith, rw c.new.ensures at c.bytes-n.ensures, accepts.room_is, bytes_le _ accepts.range.trains_most)

pub new-requires : goal.new-requires
new-requires c = (accepts_of_fine _ _ (fine (goal.at.new-requires c).In_ok-check_write)).range.trains_most

pub slice_bounds-put_sheet-end : goal.slice_bounds-put_sheet-end
slice_bounds-put_sheet-end c = room (goal.at.slice_bounds-put_sheet-end c).After-bytes-n

pub slice_bounds-put_sheet-end-2 : goal.slice_bounds-put_sheet-end-2
slice_bounds-put_sheet-end-2 c =
    sym (length-take-le _ _ (room (goal.at.slice_bounds-put_sheet-end-2 c).After-bytes-n))

-- the first bytes are as many as the sheet has
pub put_sheet-requires : goal.put_sheet-requires
put_sheet-requires c =
    let accepts = accepts_of_fine _ _ (fine (goal.at.put_sheet-requires c).In_ok-check_write) in
    record {
      long = length-take-le _ _ (room (goal.at.put_sheet-requires c).After-bytes-n)
          ∙ (rw c.new.ensures at c.bytes-n.ensures);
      lengths = accepts.lengths;
      range = accepts.range;
    }
