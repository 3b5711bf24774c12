-- What write returns and what it leaves in the lent bytes. Document 01, "Four operations", and "Numbers of refusal".
--   Given, given m T L       m, T and the four lists
--   numbers_given G          the line's numbers that they hold
--   write_verdict room G     all checks of write, in their order, for an output of `room` bytes
--   Accepts room G           the same as plain facts
--   Write G before after a   what write answers for G, and what it leaves of the lent bytes
--   WriteTells G before a    the same answer in the paper's numbers; it follows from Write (writer/proofs/Outcome)
-- Assumes nothing.
use Rattle.std.specs.Prelude.{ℕ, ◌≡◌, List, [], ◌∷◌, length, take, drop, Err}
use Rattle.terms.specs.declared.Refusal.{Refusal}
use Rattle.terms.specs.declared.ListFault.TheVariants.{BufferLength, ListLength}
use Rattle.terms.specs.declared.Refusal.TheVariants.{OfList}
use Rattle.terms.specs.Verdict.{Verdict, Fine, verdict_of, ◌and_then◌, if_fine, number_in, place_in, refuse◌unless◌is◌}
use Rattle.terms.specs.Answer.{Answer, answer_number, answer_place, answer_carries, answer_of}
use Rattle.sheet.specs.Format.{bytes_of, pairs_of}
use Rattle.sheet.specs.Numbers.{Numbers, Lists, numbers_in}
use Rattle.sheet.specs.Checks.{lengths_verdict, ranges_verdict, numbers_verdict}
use Rattle.sheet.specs.Accepted.{Lengths, InRange, SheetOf}

pub record Given : Type 0 where
  pub trains : ℕ
  pub period : ℕ
  pub lists : Lists

abbrev pub given : ℕ → ℕ → Lists → Given
given m T L = record { trains = m; period = T; lists = L }

abbrev pub numbers_given : Given → Numbers
numbers_given G = numbers_in G.trains G.period G.lists

-- the output buffer; m and T; the lists of m, m, m and m(m+1)/2 numbers; then the numbers
unfoldable pub write_verdict : ℕ → Given → Verdict
write_verdict room G =
    verdict_of ((refuse (OfList BufferLength) unless room is 3907) ∷ [])
    and_then ranges_verdict G.trains G.period
    and_then lengths_verdict (OfList ListLength) G.trains (pairs_of G.trains) G.lists
    and_then numbers_verdict G.trains (numbers_given G).times (numbers_given G).passengers

-- what write accepts, in plain facts
pub record Accepts (room : ℕ) (G : Given) : Type 0 where
  pub room_is : room ≡ 3907
  pub lengths : Lengths G.trains (pairs_of G.trains) G.lists
  pub range : InRange (numbers_given G)

-- accepted: the sheet first, the rest unchanged; its length is returned. Refused: nothing changed, length 0
pub record Write (G : Given) (before after : List ℕ) (a : Answer) : Type 0 where
  pub answer : a ≡ answer_of (write_verdict (length before) G) (bytes_of G.trains)
  pub sheet : write_verdict (length before) G ≡ Fine → SheetOf (numbers_given G) (take (bytes_of G.trains) after)
  pub rest : write_verdict (length before) G ≡ Fine
      → drop (bytes_of G.trains) after ≡ drop (bytes_of G.trains) before
  pub unchanged : (r : Refusal) → write_verdict (length before) G ≡ Err r → after ≡ before

-- accepted answers carry number and place 0 and the length; refused ones number and place, and length 0
pub record WriteTells (G : Given) (before : List ℕ) (a : Answer) : Type 0 where
  pub number : answer_number a ≡ number_in (write_verdict (length before) G)
  pub place : answer_place a ≡ place_in (write_verdict (length before) G)
  pub long : answer_carries a ≡ if_fine (write_verdict (length before) G) (bytes_of G.trains) 0
