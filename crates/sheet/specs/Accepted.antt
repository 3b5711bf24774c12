-- Accepted sheets as plain facts. Document 01, the table of "The line and its numbers", and "The bit sheet".
--   Lengths n k L        three lists of n numbers, one of k
--   TrainInRange N i     every number of train i lies in its range, and its slack is not under 0
--   InRange N            so it is with every train, and m, T and the passengers lie in their ranges
--   AcceptedSheet s      the sheet s passes every check
--   SameNumbers N M      the numbers N and M are equal at every train and every passenger field of the line
--   SheetOf N s          s is the sheet of the numbers N: every field holds its number, and the filling bits are 0
--   with_delay N i v, DelayReplaced s i v t     one source delay replaced, in the numbers and in the sheet
-- Assumes nothing.
use Rattle.std.specs.Prelude.{ℕ, ◌+◌, ◌-◌, ◌*◌, ◌≤◌, ◌≡◌, List, length}
use Rattle.lists.specs.Choice.{if_same}
use Rattle.bits.specs.Field.{Bytes, Put}
use Rattle.sheet.specs.Format.{trains_of, delay_column, bytes_of, pairs_of, filling_of}
use Rattle.sheet.specs.Numbers.{Numbers, Lists, numbers_of}
use Rattle.sheet.specs.Checks.{earliest_of}

pub record Lengths (n k : ℕ) (L : Lists) : Type 0 where
  pub departures : length L.departures ≡ n
  pub driving : length L.driving ≡ n
  pub delays : length L.delays ≡ n
  pub passengers : length L.passengers ≡ k

pub record TrainInRange (N : Numbers) (i : ℕ) : Type 0 where
  pub departure : N.times.departure i ≤ 2879
  pub driving : N.times.driving i ≤ 1023
  pub delay : N.times.delay i ≤ 1440
  -- the slack is 0 or more
  pub slack : earliest_of N.times.departure N.times.driving i ≤ N.times.departure i

pub record InRange (N : Numbers) : Type 0 where
  pub trains_least : 1 ≤ N.trains
  pub trains_most : N.trains ≤ 64
  pub period_least : 1 ≤ N.period
  pub period_most : N.period ≤ 1440
  pub train : (i : ℕ) → 1 ≤ i → i ≤ N.trains → TrainInRange N i
  pub passengers : (f : ℕ) → 1 ≤ f → f ≤ pairs_of N.trains → N.passengers f ≤ 10000

pub record AcceptedSheet (s : List ℕ) : Type 0 where
  pub long : length s ≡ bytes_of (trains_of s)
  pub numbers : InRange (numbers_of s)
  pub filling : filling_of s ≡ 0

pub record SameNumbers (N M : Numbers) : Type 0 where
  pub trains : N.trains ≡ M.trains
  pub period : N.period ≡ M.period
  pub departure : (i : ℕ) → 1 ≤ i → i ≤ M.trains → N.times.departure i ≡ M.times.departure i
  pub driving : (i : ℕ) → 1 ≤ i → i ≤ M.trains → N.times.driving i ≡ M.times.driving i
  pub delay : (i : ℕ) → 1 ≤ i → i ≤ M.trains → N.times.delay i ≡ M.times.delay i
  pub passengers : (f : ℕ) → 1 ≤ f → f ≤ pairs_of M.trains → N.passengers f ≡ M.passengers f

pub record SheetOf (N : Numbers) (s : List ℕ) : Type 0 where
  pub bytes : Bytes s
  pub long : length s ≡ bytes_of N.trains
  pub numbers : SameNumbers (numbers_of s) N
  pub filling : filling_of s ≡ 0

-- the numbers with the source delay of train i replaced by v
abbrev pub with_delay : Numbers → ℕ → ℕ → Numbers
with_delay N i v =
    record {
      trains = N.trains;
      period = N.period;
      times = record {
        departure = N.times.departure;
        driving = N.times.driving;
        delay = λ (j : ℕ). if_same j i v (N.times.delay j);
      };
      passengers = N.passengers;
    }

-- t, a list of bytes, is the sheet s with v in the field of train i's source delay and every other bit as it was
pub record DelayReplaced (s : List ℕ) (i v : ℕ) (t : List ℕ) : Type 0 where
  pub bytes : Bytes t
  pub put : Put s (delay_column.first + delay_column.step * (i - 1)) delay_column.width v t
