-- The numbers that a call from C stores in the list lent for its answer. Document 01, "Four operations" and "Numbers of
-- refusal": accepted answers carry number and place 0, refused ones 0 behind the place.
--   read_numbers a     number, place, m and T
--   answer_numbers a   number, place and what an accepted answer carries: the total, or in write the length
-- Assumes nothing.
use Rattle.std.specs.Prelude.{ℕ, List, ◌∷◌, []}
use Rattle.terms.specs.Answer.{Answer, answer_number, answer_place, answer_carries}
use Rattle.reader.specs.Reading.{Reading, read_trains, read_period}

abbrev pub read_numbers : Reading → List ℕ
read_numbers a = answer_number a ∷ answer_place a ∷ read_trains a ∷ read_period a ∷ []

abbrev pub answer_numbers : Answer → List ℕ
answer_numbers a = answer_number a ∷ answer_place a ∷ answer_carries a ∷ []
