-- What read returns and what it leaves in the lent lists. Document 01, "Four operations", and "Numbers of refusal".
--   read_verdict s before   all checks of read, in their order, for the sheet s and the lent lists
--   Read s before after a   what read answers for the sheet s, and what it leaves of the lists
--   ReadTells s before a    the same answer in the paper's numbers; it follows from Read (reader/proofs/Stored)
-- Assumes nothing.
use Rattle.std.specs.Prelude.{ℕ, ◌≡◌, List}
use Rattle.lists.specs.Run.{padded}
use Rattle.terms.specs.declared.ListFault.TheVariants.{BufferLength}
use Rattle.terms.specs.declared.Refusal.TheVariants.{OfList}
use Rattle.terms.specs.Verdict.{Verdict, ◌and_then◌, if_fine, number_in, place_in}
use Rattle.reader.specs.Reading.{Reading, read_trains, read_period, reading_of}
use Rattle.sheet.specs.Format.{trains_of, period_of, departure_of, driving_of, delay_of, passengers_of, pairs_of}
use Rattle.sheet.specs.Numbers.{Lists}
use Rattle.sheet.specs.Checks.{lengths_verdict, sheet_verdict}
use Rattle.terms.specs.Answer.{answer_number, answer_place}

module _ (s : List ℕ) (before : Lists) where
  -- three lists of exactly 64 numbers and one of exactly 2,080; then the sheet
  unfoldable pub read_verdict : Verdict
  read_verdict = lengths_verdict (OfList BufferLength) 64 2080 before and_then sheet_verdict s

  -- accepted: fields first, the rest 0; m and T are returned. Refused: nothing changed
  pub record Read (after : Lists) (a : Reading) : Type 0 where
    pub answer : a ≡ reading_of read_verdict (trains_of s) (period_of s)
    pub departures : after.departures
        ≡ if_fine read_verdict (padded 64 (trains_of s) (departure_of s)) before.departures
    pub driving : after.driving ≡ if_fine read_verdict (padded 64 (trains_of s) (driving_of s)) before.driving
    pub delays : after.delays ≡ if_fine read_verdict (padded 64 (trains_of s) (delay_of s)) before.delays
    pub passengers : after.passengers
        ≡ if_fine read_verdict (padded 2080 (pairs_of (trains_of s)) (passengers_of s)) before.passengers

  -- accepted answers carry number and place 0, m and T; refused ones number and place, and 0 for m and T
  pub record ReadTells (a : Reading) : Type 0 where
    pub number : answer_number a ≡ number_in read_verdict
    pub place : answer_place a ≡ place_in read_verdict
    pub trains : read_trains a ≡ if_fine read_verdict (trains_of s) 0
    pub period : read_period a ≡ if_fine read_verdict (period_of s) 0
