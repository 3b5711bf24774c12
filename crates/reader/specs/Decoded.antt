-- What taking a sheet apart needs and leaves. Document 01, "Four operations", read: fields first.
--   ColumnRoom s c n             n places of the column c can be read from the sheet s
--   HeadRead s m                 the sheet s has m trains and the length that m demands
--   Body s m L                   behind such a head, the numbers of the sheet stand in the lists L
--   ColumnsRead s before after   the lists hold the sheet's columns, fields first, the other places as before
--   Decoded s before after a     what decode answers for the sheet s, and what it leaves of the lists
-- Assumes nothing.
use Rattle.std.specs.Prelude.{ℕ, ◌+◌, ◌*◌, ◌≤◌, ◌<◌, ◌≡◌, List, length, Err}
use Rattle.lists.specs.Filled.{Filled}
use Rattle.bits.specs.Field.{Within}
use Rattle.terms.specs.declared.Refusal.{Refusal}
use Rattle.terms.specs.Verdict.{Fine}
use Rattle.reader.specs.Reading.{Reading, reading_of}
use Rattle.sheet.specs.declared.format.Column.{Column}
use Rattle.sheet.specs.Format.{trains_of, period_of, departure_column, driving_column, delay_column, passenger_column}
use Rattle.sheet.specs.Format.{entry, bytes_of, pairs_of}
use Rattle.sheet.specs.Numbers.{Lists, numbers_of, numbers_in}
use Rattle.sheet.specs.Checks.{head_verdict, sheet_verdict}
use Rattle.sheet.specs.Accepted.{SameNumbers}

-- n places of the column lie in the sheet
pub record ColumnRoom (s : List ℕ) (c : Column) (n : ℕ) : Type 0 where
  pub within : (k : ℕ) → k < n → Within s (c.first + c.step * k) c.width

-- the sheet has m trains and the length that m demands
pub record HeadRead (s : List ℕ) (m : ℕ) : Type 0 where
  pub trains : m ≡ trains_of s
  pub least : 1 ≤ m
  pub long : length s ≡ bytes_of m

-- behind such a head, the numbers of the sheet stand in the lists
pub record Body (s : List ℕ) (m : ℕ) (L : Lists) : Type 0 where
  pub head : HeadRead s m
  pub numbers : SameNumbers (numbers_in m (period_of s) L) (numbers_of s)

-- the fields of the sheet stand first in the lists, and the other places are as before
pub record ColumnsRead (s : List ℕ) (before after : Lists) : Type 0 where
  pub departures : Filled 0 (entry s departure_column) (trains_of s) before.departures after.departures
  pub driving : Filled 0 (entry s driving_column) (trains_of s) before.driving after.driving
  pub delays : Filled 0 (entry s delay_column) (trains_of s) before.delays after.delays
  pub passengers : Filled 0 (entry s (passenger_column (trains_of s))) (pairs_of (trains_of s)) before.passengers
      after.passengers

-- the answer by all checks; a head that passes leaves the columns in the lists, one that is refused changes nothing
pub record Decoded (s : List ℕ) (before after : Lists) (a : Reading) : Type 0 where
  pub answer : a ≡ reading_of (sheet_verdict s) (trains_of s) (period_of s)
  pub filled : head_verdict s ≡ Fine → ColumnsRead s before after
  pub kept : (q : Refusal) → head_verdict s ≡ Err q → after ≡ before
