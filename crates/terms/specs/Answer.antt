-- What an answer carries, whatever it brings if accepted. Document 01, "Numbers of refusal": accepted answers carry
-- number and place 0; refused ones carry number and place, and 0 for the total or the length.
--   Answer, head m T                  what write, plan and report answer; m and T, which read answers
--   answer_number a, answer_place a   the number and the place of the answer a
--   answer_carries a                  the total, or in write the length of the sheet
--   answer_of v x                     the answer by the verdict v, x being what it brings if accepted
-- Assumes nothing.
use Rattle.std.specs.Prelude.{ℕ, Result, Ok, Err}
use Rattle.terms.specs.Refusal.{number_of, place_of}
use Rattle.terms.specs.declared.Refusal.{Refusal}
use Rattle.terms.specs.declared.Head.{Head}
use Rattle.terms.specs.Verdict.{Verdict}

-- a head of m trains and the period T
abbrev pub head : ℕ → ℕ → Head
head m T = record { trains = m; period = T }

abbrev pub Answer : Type 0
Answer = Result ℕ Refusal

abbrev pub answer_number : {A : Type 0} → Result A Refusal → ℕ
answer_number (Ok x) = 0
answer_number (Err r) = number_of r

abbrev pub answer_place : {A : Type 0} → Result A Refusal → ℕ
answer_place (Ok x) = 0
answer_place (Err r) = place_of r

abbrev pub answer_carries : Answer → ℕ
answer_carries (Ok n) = n
answer_carries (Err r) = 0

-- what an operation answers by the verdict v, x being what it brings if accepted
abbrev pub answer_of : {A : Type 0} → Verdict → A → Result A Refusal
answer_of (Ok u) x = Ok x
answer_of (Err r) x = Err r
