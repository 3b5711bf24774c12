-- A line. Document 01, "The line and its numbers".
-- Trains and stations are numbered apart, from 1: train i leaves station i and reaches station i + 1. Times and delays
-- are whole minutes, passengers whole persons.
--   Running     how the trains of a line run
--   Line        the trains, how they run, what a missed connection costs, and the passengers
--   line_from   the line of document 01, by m, T, planned departures, driving times, source delays and passengers
-- Assumes nothing.
use Rattle.std.specs.Prelude.{ℕ, ◌+◌, ◌-◌}

pub record Running : Type 0 where
  -- of a station
  pub slack : ℕ → ℕ
  -- of a train and its departure delay: its arrival delay
  pub arrive : ℕ → ℕ → ℕ

pub record Line : Type 0 where
  pub trains : ℕ
  pub running : Running
  -- of a station: the minutes that each passenger counts who misses the connection there
  pub period : ℕ → ℕ
  -- of a pair of stations: the passengers who board at the first and leave at the second
  pub passengers : ℕ → ℕ → ℕ

-- The slack at station i is the departure of train i, less the departure of train i - 1, less the driving time of train
-- i - 1. Where that is negative it is 0 here; document 01 refuses such a sheet, so that nothing is planned on it. A
-- train arrives with its departure delay plus its source delay. A missed connection delays by the period T.
unfoldable pub line_from : ℕ → ℕ → (ℕ → ℕ) → (ℕ → ℕ) → (ℕ → ℕ) → (ℕ → ℕ → ℕ) → Line
line_from m T planned driving source passengers =
    record {
      trains = m;
      running = record {
        slack = λ i. planned i - planned (i - 1) - driving (i - 1);
        arrive = λ i x. x + source i;
      };
      period = λ s. T;
      passengers = passengers;
    }
