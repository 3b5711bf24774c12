-- The passenger field of a pair of stations. Document 01, "The bit sheet": passengers by boarding station, within it by
-- leaving station. Stations and fields count from 1.
--   IsPair m i j               (i, j) is a pair of stations of a line of m trains
--   fields_up_to m k           how many fields have those who board at stations 1 to k: m for station 1, m - 1 for
--                              station 2, and so on
--   field_of_pair m i j        the field of the pair (i, j)
--   passengers_of_pair N i j   those who board at station i and leave at station j
-- Assumes nothing.
use Rattle.std.specs.Prelude.{ℕ, zero, suc, ◌+◌, ◌-◌, ◌≤◌, ◌<◌}
use Rattle.sheet.specs.Numbers.{Numbers}

pub record IsPair (m i j : ℕ) : Type 0 where
  pub least : 1 ≤ i
  pub apart : i < j
  pub most : j ≤ m + 1

unfoldable pub fields_up_to : ℕ → ℕ → ℕ
fields_up_to m zero = 0
fields_up_to m (suc k) = fields_up_to m k + (m - k)

unfoldable pub field_of_pair : ℕ → ℕ → ℕ → ℕ
field_of_pair m i j = fields_up_to m (i - 1) + (j - i)

-- those who board at station i and leave at station j
unfoldable pub passengers_of_pair : Numbers → ℕ → ℕ → ℕ
passengers_of_pair N i j = N.passengers (field_of_pair N.trains i j)
