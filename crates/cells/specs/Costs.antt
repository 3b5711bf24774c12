-- What the two choices cost along the run that begins with train k, but for the cells that they rest on: by station the
-- excess, what keep costs and what go costs. Rows and walk both read it. Document 01, "The working cells". Stations
-- count from 1.
--   zero_cost, no_costs          the costs of a station that are 0, and these at each of 64 stations
--   cost_in costs l              the three of station l
--   excess_in costs l, keep_in costs l, go_in costs l     one of them
--   with_costs costs l cost      the costs with these three stored there
--   CostsAt B k l costs          they are those of station l on the run from k of the book B
--   CostsAlong B k costs         and so at every station from k on
-- Assumes nothing.
use Rattle.std.specs.Prelude.{ℕ, ◌-◌, ◌*◌, ◌≤◌, ◌≡◌, get_or, set, replicate}
use Rattle.line.specs.Cells.{Book, excess_on, arrival_on}
use Rattle.cells.specs.declared.costs.Cost.{Cost}
use Rattle.cells.specs.declared.costs.Costs.{Costs}

abbrev pub zero_cost : Cost
zero_cost = record { excess = 0; keep = 0; go = 0 }

abbrev pub no_costs : Costs
no_costs = record { stations = replicate 64 zero_cost }

abbrev pub cost_in : Costs → ℕ → Cost
cost_in costs l = get_or costs.stations (l - 1) zero_cost

unfoldable pub excess_in : Costs → ℕ → ℕ
excess_in costs l = (cost_in costs l).excess

unfoldable pub keep_in : Costs → ℕ → ℕ
keep_in costs l = (cost_in costs l).keep

unfoldable pub go_in : Costs → ℕ → ℕ
go_in costs l = (cost_in costs l).go

abbrev pub with_costs : Costs → ℕ → Cost → Costs
with_costs costs l cost = record { stations = set costs.stations (l - 1) cost }

-- at station l: the excess; those who leave train l by its arrival delay; those aboard by the period, and nobody is
-- aboard where the run begins
pub record CostsAt (B : Book) (k l : ℕ) (costs : Costs) : Type 0 where
  pub excess : excess_in costs l ≡ excess_on B.running k l
  pub keep : keep_in costs l ≡ B.leaving k l * arrival_on B.running k l
  pub go : go_in costs l ≡ B.period l * B.aboard k l

pub record CostsAlong (B : Book) (k : ℕ) (costs : Costs) : Type 0 where
  pub each : (l : ℕ) → k ≤ l → l ≤ B.trains → CostsAt B k l costs
