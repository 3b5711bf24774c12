-- What rows and walk read, prepared from a sheet: its times and a list of sums. Document 01, "The line and its
-- numbers", and "The working cells". Trains and stations count from 1. Nothing is said of places past the last train,
-- nor of the slack at station 1, where no train waits for another.
--   HoldsTimes m T x timing   these are the times x of m trains, as slack and source delay, and the period T
--   HoldsSums m n sums        the list holds the sums of those who leave trains 1 to m, n being the passengers by pair
--   TimingOf N timing, SumsOf N sums     so it is with the numbers N
--   Prepared checks s timing sums r      what is answered for the sheet s after these checks, and stands there
-- Assumes nothing.
use Rattle.std.specs.Prelude.{ℕ, ◌+◌, ◌-◌, ◌≤◌, ◌≡◌, List}
use Rattle.terms.specs.Verdict.{Verdict, Fine}
use Rattle.reader.specs.Reading.{Reading, reading_of}
use Rattle.line.specs.Sum.{sum◌from◌to◌}
use Rattle.sheet.specs.Format.{trains_of, period_of}
use Rattle.sheet.specs.Numbers.{Times, Numbers, numbers_of}
use Rattle.sheet.specs.Pairs.{passengers_of_pair}
use Rattle.cells.specs.declared.timing.Timing.{Timing}
use Rattle.cells.specs.Timing.{slack_in, source_in, period_in}
use Rattle.cells.specs.Sums.{leaving_in}

pub record HoldsTimes (m T : ℕ) (x : Times) (timing : Timing) : Type 0 where
  -- the departure of train i, less the departure of train i - 1, less the driving time of train i - 1
  pub slack : (i : ℕ) → 2 ≤ i → i ≤ m → slack_in timing i ≡ x.departure i - x.departure (i - 1) - x.driving (i - 1)
  pub source : (i : ℕ) → 1 ≤ i → i ≤ m → source_in timing i ≡ x.delay i
  pub period : (s : ℕ) → 1 ≤ s → s ≤ m → period_in timing s ≡ T

pub record HoldsSums (m : ℕ) (n : ℕ → ℕ → ℕ) (sums : List ℕ) : Type 0 where
  -- those who board at k to l and leave at l + 1
  pub leaving : (k l : ℕ) → 1 ≤ k → k ≤ l → l ≤ m → leaving_in sums k l ≡ sum (λ i. n i (l + 1)) from k to l

abbrev pub TimingOf : Numbers → Timing → Type 0
TimingOf N timing = HoldsTimes N.trains N.period N.times timing

abbrev pub SumsOf : Numbers → List ℕ → Type 0
SumsOf N sums = HoldsSums N.trains (passengers_of_pair N) sums

-- the answer by the checks; where all pass, the lists hold the times and the sums of the sheet's numbers
pub record Prepared (checks : Verdict) (s : List ℕ) (timing : Timing) (sums : List ℕ) (r : Reading) : Type 0 where
  pub answer : r ≡ reading_of checks (trains_of s) (period_of s)
  pub times : checks ≡ Fine → TimingOf (numbers_of s) timing
  pub leavers : checks ≡ Fine → SumsOf (numbers_of s) sums
