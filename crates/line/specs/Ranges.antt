-- The most that the numbers of a line and of its sums may be, asked of the trains in use alone. Document 01, "The line
-- and its numbers".
--   RunningInRange m R    at most 64 trains, each of which adds at most 1,440 minutes to a delay
--   LineInRange L         and periods of at most 1,440, and at most 10,000 passengers of a pair
--   BookInRange B         the same of a book: all who board at k or later and leave are at most everyone, and so are
--                         those aboard at a station
--   latest, everyone      the most that an arrival delay and a number of passengers can be
--   limit                 the most that a total can be
-- Assumes nothing.
use Rattle.std.specs.Prelude.{ℕ, ◌+◌, ◌*◌, ◌≤◌, ◌<◌}
use Rattle.line.specs.Sum.{sum◌from◌to◌}
use Rattle.line.specs.Line.{Running, Line}
use Rattle.line.specs.Cells.{Book}

-- 64 trains × 1,440
abbrev pub latest : ℕ
latest = 64 * 1440

-- 2,080 pairs × 10,000
abbrev pub everyone : ℕ
everyone = 2080 * 10000

-- No total can pass 1,916,928,000,000 passenger-minutes, that is 2,080 pairs × 10,000 × 64 × 1,440.
abbrev pub limit : ℕ
limit = everyone * latest

pub record RunningInRange (m : ℕ) (R : Running) : Type 0 where
  pub trains : m ≤ 64
  pub arrive : (i x : ℕ) → 1 ≤ i → i ≤ m → R.arrive i x ≤ x + 1440

pub record LineInRange (L : Line) : Type 0 where
  pub running : RunningInRange L.trains L.running
  pub period : (s : ℕ) → 1 < s → s ≤ L.trains → L.period s ≤ 1440
  pub passengers : (i j : ℕ) → 1 ≤ i → i < j → j ≤ L.trains + 1 → L.passengers i j ≤ 10000

pub record BookInRange (B : Book) : Type 0 where
  pub running : RunningInRange B.trains B.running
  pub period : (s : ℕ) → 1 < s → s ≤ B.trains → B.period s ≤ 1440
  pub leaving : (k : ℕ) → 1 ≤ k → k ≤ B.trains → sum (B.leaving k) from k to B.trains ≤ everyone
  pub aboard : (k l : ℕ) → 1 ≤ k → k < l → l ≤ B.trains → B.aboard k l ≤ everyone
