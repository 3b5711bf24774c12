-- The times of a line, by train: the slack at the station that it leaves, its source delay, and the period at that
-- station. They are prepared once from a sheet's numbers; everything that follows a delay or counts a missed connection
-- reads them. Document 01, "The line and its numbers". Trains and stations count from 1.
--   zero_times, no_times      the times of a train that are 0, and these for each of 64 trains
--   train_times timing i      the times of train i, which leaves station i
--   slack_in timing s, source_in timing i, period_in timing s     one of the three
--   with_times timing i x     the times with x as those of train i
--   with_source timing i v    the times with v as the source delay of train i
--   running_in timing         how the trains run
--   TimingGiven m timing      the numbers are in range for m trains
-- Assumes nothing.
use Rattle.std.specs.Prelude.{ℕ, ◌+◌, ◌-◌, ◌≤◌, get_or, set, replicate}
use Rattle.line.specs.Line.{Running}
use Rattle.cells.specs.declared.timing.TrainTimes.{TrainTimes}
use Rattle.cells.specs.declared.timing.Timing.{Timing}

abbrev pub zero_times : TrainTimes
zero_times = record { slack = 0; source = 0; period = 0 }

abbrev pub no_times : Timing
no_times = record { trains = replicate 64 zero_times }

abbrev pub train_times : Timing → ℕ → TrainTimes
train_times timing i = get_or timing.trains (i - 1) zero_times

unfoldable pub slack_in : Timing → ℕ → ℕ
slack_in timing s = (train_times timing s).slack

unfoldable pub source_in : Timing → ℕ → ℕ
source_in timing i = (train_times timing i).source

unfoldable pub period_in : Timing → ℕ → ℕ
period_in timing s = (train_times timing s).period

abbrev pub with_times : Timing → ℕ → TrainTimes → Timing
with_times timing i x = record { trains = set timing.trains (i - 1) x }

abbrev pub with_source : Timing → ℕ → ℕ → Timing
with_source timing i v = with_times timing i (record (train_times timing i) { source = v })

-- a train arrives with its departure delay and its source delay
abbrev pub running_in : Timing → Running
running_in timing = record { slack = slack_in timing; arrive = λ i x. x + source_in timing i }

-- no source delay and no period is over 1,440
pub record TimingGiven (m : ℕ) (timing : Timing) : Type 0 where
  pub trains : m ≤ 64
  pub source : (i : ℕ) → 1 ≤ i → i ≤ m → source_in timing i ≤ 1440
  pub period : (s : ℕ) → 1 ≤ s → s ≤ m → period_in timing s ≤ 1440
