-- What read answers, and what its answer carries. Document 01, "Numbers of refusal": number and place as of any answer;
-- accepted answers carry m and T, refused ones 0 for both.
--   Reading                        m and T, or why the sheet is refused
--   read_trains a, read_period a   m and T of the answer a
--   reading_of v m T               the answer by the verdict v
-- Assumes nothing.
use Rattle.std.specs.Prelude.{ℕ, Result, Ok, Err}
use Rattle.terms.specs.declared.Refusal.{Refusal}
use Rattle.terms.specs.declared.Head.{Head}
use Rattle.terms.specs.Verdict.{Verdict}
use Rattle.terms.specs.Answer.{head, answer_of}

abbrev pub Reading : Type 0
Reading = Result Head Refusal

abbrev pub read_trains : Reading → ℕ
read_trains (Ok h) = h.trains
read_trains (Err r) = 0

abbrev pub read_period : Reading → ℕ
read_period (Ok h) = h.period
read_period (Err r) = 0

-- m and T where the verdict is fine, else its refusal
abbrev pub reading_of : Verdict → ℕ → ℕ → Reading
reading_of v m T = answer_of v (head m T)
