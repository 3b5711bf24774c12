-- Demand 2, second half: each accepted sheet has one meaning and comes back bit for bit. The statements are about the
-- promises of read and write alone, so they hold of whatever keeps those promises.
--   ReadThenWrite   what read gives of an accepted sheet, write accepts, and it writes that sheet
--   WriteThenRead   what write wrote, read accepts, and it gives the same numbers
--   EqualFields     two accepted sheets with equal fields are equal
--   OneMeaning      all three
-- Assumes nothing.
use Rattle.terms.specs.Answer.{head, Answer}
use Rattle.std.specs.Prelude.{ℕ, ◌≡◌, List, length, take, Ok}
use Rattle.bits.specs.Field.{Bytes}
use Rattle.terms.specs.Verdict.{Fine}
use Rattle.reader.specs.Reading.{Reading}
use Rattle.sheet.specs.Format.{pairs_of}
use Rattle.sheet.specs.Numbers.{Lists, lists, numbers_of}
use Rattle.sheet.specs.Checks.{sheet_verdict}
use Rattle.sheet.specs.Accepted.{Lengths, SameNumbers}
use Rattle.writer.specs.Write.{Given, given, Write}
use Rattle.reader.specs.Read.{Read}

-- the first m places of three lists and the first m(m+1)/2 of the fourth, as write takes them
abbrev pub given_from : ℕ → ℕ → Lists → Given
given_from m T L =
    given m T
    (lists (take m L.departures) (take m L.driving) (take m L.delays) (take (pairs_of m) L.passengers))

abbrev pub ReadThenWrite : Type 0
ReadThenWrite =
    (s : List ℕ) (before after : Lists) (m T : ℕ) (buffer written : List ℕ) (w : Answer)
    → Bytes s
    → Read s before after (Ok (head m T))
    → length buffer ≡ 3907
    → Write (given_from m T after) buffer written w
    → (w ≡ Ok (length s)) × (take (length s) written ≡ s)

abbrev pub WriteThenRead : Type 0
WriteThenRead =
    (G : Given) (buffer written : List ℕ) (n : ℕ) (before after : Lists) (a : Reading)
    → Write G buffer written (Ok n)
    → Lengths 64 2080 before
    → Read (take n written) before after a
    → (a ≡ Ok (head G.trains G.period)) × (given_from G.trains G.period after ≡ G)

abbrev pub EqualFields : Type 0
EqualFields =
    (s t : List ℕ)
    → Bytes s
    → Bytes t
    → sheet_verdict s ≡ Fine
    → sheet_verdict t ≡ Fine
    → SameNumbers (numbers_of s) (numbers_of t)
    → s ≡ t

pub record OneMeaning : Type 0 where
  pub read_then_write : ReadThenWrite
  pub write_then_read : WriteThenRead
  pub equal_fields : EqualFields
