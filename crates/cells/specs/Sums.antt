-- The sums of those who leave, by the station k where they board and the train l that they leave. Document 01, "The
-- working cells". Stations and trains count from 1, places from 0.
--   sums_count                  how many places the list has
--   place_of_sum k l            where the sum of station k and train l stands
--   leaving_in sums k l         those who board at station k or later and leave train l
--   boarded_in m sums k l       those who board at station k or later and leave train l or a later one
--   aboard_in m sums k l        those who board at stations k to l - 1 and leave after station l
--   SumsGiven m sums            its numbers are in range for m trains
--   Boarders m sums boarding    by station l, those who board at l or later
-- Assumes nothing.
use Rattle.std.specs.Prelude.{ℕ, ◌+◌, ◌-◌, ◌*◌, ◌≤◌, ◌≡◌, List, get_or}
use Rattle.lists.specs.Run.{nth}
use Rattle.line.specs.Sum.{sum◌from◌to◌}
use Rattle.line.specs.Ranges.{everyone}

abbrev pub sums_count : ℕ
sums_count = 4096

-- A row to each station of boarding, in it a place to each of 64 trains. The cells have a place of their own.
unfoldable pub place_of_sum : ℕ → ℕ → ℕ
place_of_sum k l = 64 * (k - 1) + (l - 1)

unfoldable pub leaving_in : List ℕ → ℕ → ℕ → ℕ
leaving_in sums k l = get_or sums (place_of_sum k l) 0

unfoldable pub boarded_in : ℕ → List ℕ → ℕ → ℕ → ℕ
boarded_in m sums k l = sum (leaving_in sums k) from l to m

-- Train by train, those who board at station k or later and leave it, less those who board at station l or later.
unfoldable pub aboard_in : ℕ → List ℕ → ℕ → ℕ → ℕ
aboard_in m sums k l = sum (λ t. leaving_in sums k t - leaving_in sums l t) from l to m

pub record SumsGiven (m : ℕ) (sums : List ℕ) : Type 0 where
  pub trains : m ≤ 64
  pub most : (k : ℕ) → 1 ≤ k → k ≤ m → boarded_in m sums k k ≤ everyone
  -- of those who leave train t no more board at l or later than at k or later
  pub falls : (k l t : ℕ) → 1 ≤ k → k ≤ l → l ≤ t → t ≤ m → leaving_in sums l t ≤ leaving_in sums k t

pub record Boarders (m : ℕ) (sums boarding : List ℕ) : Type 0 where
  pub held : (l : ℕ) → 1 ≤ l → l ≤ m → nth boarding l ≡ boarded_in m sums l l
