-- What the steps of preparing need of the lists that a sheet's numbers stand in. What they leave is in Prepared.
--   SlackGiven i departures driving          the slack at station i can be taken
--   TrainGiven i departures driving delays   and the source delay of train i
--   pair_in m passengers i j                 those who board at i and leave at j
--   FieldsGiven m passengers                 the fields of a line of m trains, each at most 10,000
-- Assumes nothing.
use Rattle.std.specs.Prelude.{ℕ, ◌+◌, ◌-◌, ◌≤◌, List, length}
use Rattle.lists.specs.Run.{nth}
use Rattle.sheet.specs.Format.{pairs_of}
use Rattle.sheet.specs.Pairs.{field_of_pair}

-- train i departs when its feeder is planned to arrive or later; train 1 has none
pub record SlackGiven (i : ℕ) (departures driving : List ℕ) : Type 0 where
  pub room : i ≤ length departures
  pub feeder : i ≤ length driving
  pub enough : 2 ≤ i → nth departures (i - 1) + nth driving (i - 1) ≤ nth departures i

pub record TrainGiven (i : ℕ) (departures driving delays : List ℕ) : Type 0 where
  pub least : 1 ≤ i
  pub most : i ≤ 64
  pub slack : SlackGiven i departures driving
  pub delay : i ≤ length delays

unfoldable pub pair_in : ℕ → List ℕ → ℕ → ℕ → ℕ
pair_in m passengers i j = nth passengers (field_of_pair m i j)

pub record FieldsGiven (m : ℕ) (passengers : List ℕ) : Type 0 where
  pub trains : m ≤ 64
  pub long : pairs_of m ≤ length passengers
  pub most : (f : ℕ) → 1 ≤ f → f ≤ pairs_of m → nth passengers f ≤ 10000
