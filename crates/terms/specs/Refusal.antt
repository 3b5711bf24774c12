-- The number, the place and the blanks of each refusal. Document 01, "Numbers of refusal".
--   number_of r   the number that the paper gives to the refusal r
--   place_of r    its place: a train, a row of cells being that of the train its run begins with, or a passenger field
--                 from 1; 0 where the paper states none
--   blanks_of r   whether a plan or a report that is refused for r blanks decisions and delays
-- Assumes nothing.
use Rattle.std.specs.Prelude.{ℕ, Bool, true, false}
use Rattle.terms.specs.declared.Train.{Train}
use Rattle.terms.specs.declared.ListFault.TheVariants.{BufferLength, ListLength}
use Rattle.terms.specs.declared.HeadFault.TheVariants.{NoHead, TrainCount, Period, TooShort, TooLong}
use Rattle.terms.specs.declared.TrainFault.TheVariants.{Departure, Driving, SourceDelay, Slack}
use Rattle.terms.specs.declared.ReportFault.TheVariants.{NoSuchTrain, NewDelay, CellOverLimit}
use Rattle.terms.specs.declared.Refusal.{Refusal}
use Rattle.terms.specs.declared.Refusal.TheVariants.{OfList, OfHead, OfTrain, Passengers, Filling, OfReport}

-- the train with this number
abbrev pub train : ℕ → Train
train i = record { 0 = i }

abbrev pub number_of : Refusal → ℕ
number_of (OfList BufferLength) = 10
number_of (OfList ListLength) = 10
number_of (OfHead NoHead) = 1
number_of (OfHead TrainCount) = 2
number_of (OfHead Period) = 3
number_of (OfHead TooShort) = 1
number_of (OfHead TooLong) = 4
number_of (OfTrain t Departure) = 5
number_of (OfTrain t Driving) = 13
number_of (OfTrain t SourceDelay) = 6
number_of (OfTrain t Slack) = 7
number_of (Passengers f) = 8
number_of Filling = 9
number_of (OfReport NoSuchTrain) = 11
number_of (OfReport (NewDelay t)) = 6
number_of (OfReport (CellOverLimit t)) = 12

abbrev pub place_of : Refusal → ℕ
place_of (OfList x) = 0
place_of (OfHead x) = 0
place_of (OfTrain t x) = t.0
place_of (Passengers f) = f
place_of Filling = 0
place_of (OfReport NoSuchTrain) = 0
place_of (OfReport (NewDelay t)) = t.0
place_of (OfReport (CellOverLimit t)) = t.0

-- refusal 10 writes nothing, any other blanks
abbrev pub blanks_of : Refusal → Bool
blanks_of (OfList BufferLength) = false
blanks_of (OfList ListLength) = false
blanks_of (OfHead x) = true
blanks_of (OfTrain t x) = true
blanks_of (Passengers f) = true
blanks_of Filling = true
blanks_of (OfReport x) = true
