-- A verdict of write that is fine, in plain facts: the chain of checks and `Accepts` say the same.
-- Assumes nothing.
use Rattle.std.proofs.Common.{◌≡◌, ℕ}
use Rattle.terms.specs.Verdict.{Fine}
use Rattle.terms.proofs.Checks.{then_fine, fine_then, passed_of_fine, fine_of_passed}
use Rattle.sheet.proofs.Facts.{lengths_of_fine, fine_of_lengths, ranges_of_fine, fine_of_ranges, in_range_of_fine}
use Rattle.sheet.proofs.Facts.{ranges_of_in_range, fine_of_in_range}
use Rattle.writer.specs.Write.{Given, numbers_given, write_verdict, Accepts}

pub accepts_of_fine : (room : ℕ) (G : Given) → write_verdict room G ≡ Fine → Accepts room G
unfolding write_verdict
accepts_of_fine room G e =
    let a = then_fine _ _ e in
    let b = then_fine _ _ a.1 in
    let c = then_fine _ _ b.1 in
    record {
      room_is = (passed_of_fine _ a.0).0;
      lengths = lengths_of_fine _ _ _ _ c.0;
      range = in_range_of_fine (numbers_given G) (ranges_of_fine _ _ b.0) c.1;
    }

pub fine_of_accepts : (room : ℕ) (G : Given) → Accepts room G → write_verdict room G ≡ Fine
unfolding write_verdict
fine_of_accepts room G h =
    fine_then (fine_of_passed _ (h.room_is, tt))
    (fine_then (fine_of_ranges _ _ (ranges_of_in_range (numbers_given G) h.range))
    (fine_then (fine_of_lengths _ _ _ _ h.lengths)
    (fine_of_in_range (numbers_given G) h.range)))
