-- The checks of a sheet and of its numbers. Document 01, "Numbers of refusal, in the order of checking".
--   lengths_verdict why n k L     refused for why where the lists have other lengths than n, n, n and k
--   ranges_verdict m T            2 and 3
--   earliest_of departure driving i     the earliest minute at which train i may leave
--   train_checks i departure driving delay earliest     5, 13, 6, 7 for train i with these times
--   train_verdict x i             the same with the times x; on a sheet it is never 13 (proofs/Refusals)
--   passengers_verdict p f        8 for passenger field f
--   numbers_verdict m x p         train by train, then field by field
--   head_verdict s                1, 2, 3, then 1 or 4
--   filling_verdict s             9
--   sheet_verdict s               all checks of a sheet
-- Assumes nothing.
use Rattle.std.specs.Prelude.{ℕ, ◌+◌, ◌-◌, ◌≤◌, List, [], ◌∷◌, length}
use Rattle.lists.specs.Choice.{if_below}
use Rattle.terms.specs.declared.HeadFault.TheVariants.{NoHead, TrainCount, Period, TooShort, TooLong}
use Rattle.terms.specs.declared.TrainFault.TheVariants.{Departure, Driving, SourceDelay, Slack}
use Rattle.terms.specs.declared.Refusal.{Refusal}
use Rattle.terms.specs.declared.Refusal.TheVariants.{OfHead, OfTrain, Passengers, Filling}
use Rattle.terms.specs.Verdict.{Verdict, Check, refuse◌when◌below◌, refuse◌unless◌is◌, verdict_of, ◌and_then◌, first_of}
use Rattle.terms.specs.Refusal.{train}
use Rattle.sheet.specs.Format.{trains_of, period_of, passengers_of, pairs_of, bytes_of, filling_of}
use Rattle.sheet.specs.Numbers.{Times, Lists, times_of}

-- three lists of n numbers, one of k
unfoldable pub lengths_verdict : Refusal → ℕ → ℕ → Lists → Verdict
lengths_verdict why n k L =
    verdict_of (
    (refuse why unless length L.departures is n)
    ∷ (refuse why unless length L.driving is n)
    ∷ (refuse why unless length L.delays is n)
    ∷ (refuse why unless length L.passengers is k)
    ∷ [])

-- m is 0 or over 64; T is 0 or over 1,440
unfoldable pub ranges_verdict : ℕ → ℕ → Verdict
ranges_verdict m T =
    verdict_of (
    (refuse (OfHead TrainCount) when m below 1)
    ∷ (refuse (OfHead TrainCount) when 64 below m)
    ∷ (refuse (OfHead Period) when T below 1)
    ∷ (refuse (OfHead Period) when 1440 below T)
    ∷ [])

-- the earliest minute at which train i may leave: when the train before it is planned to arrive, that is its departure
-- and its driving time; for train 1 it is 0. The slack at station i is the departure of train i less this, so that it
-- is under 0 exactly where the departure is below this
unfoldable pub earliest_of : (ℕ → ℕ) → (ℕ → ℕ) → ℕ → ℕ
earliest_of departure driving i = if_below 1 i (departure (i - 1) + driving (i - 1)) 0

-- departure over 2,879; driving time over 1,023; source delay over 1,440; slack under 0
unfoldable pub train_checks : ℕ → ℕ → ℕ → ℕ → ℕ → List Check
train_checks i departure driving delay earliest =
    (refuse (OfTrain (train i) Departure) when 2879 below departure)
    ∷ (refuse (OfTrain (train i) Driving) when 1023 below driving)
    ∷ (refuse (OfTrain (train i) SourceDelay) when 1440 below delay)
    ∷ (refuse (OfTrain (train i) Slack) when departure below earliest)
    ∷ []

unfoldable pub train_verdict : Times → ℕ → Verdict
train_verdict x i =
    verdict_of
    (train_checks i (x.departure i) (x.driving i) (x.delay i) (earliest_of x.departure x.driving i))

-- passengers over 10,000
unfoldable pub passengers_verdict : (ℕ → ℕ) → ℕ → Verdict
passengers_verdict p f = verdict_of ((refuse (Passengers f) when 10000 below p f) ∷ [])

unfoldable pub numbers_verdict : ℕ → Times → (ℕ → ℕ) → Verdict
numbers_verdict m x p = first_of (train_verdict x) 1 m and_then first_of (passengers_verdict p) 1 (pairs_of m)

-- sheet under 3 bytes; m; T; sheet shorter, longer than m demands
unfoldable pub head_verdict : List ℕ → Verdict
head_verdict s =
    verdict_of ((refuse (OfHead NoHead) when length s below 3) ∷ [])
    and_then ranges_verdict (trains_of s) (period_of s)
    and_then verdict_of (
    (refuse (OfHead TooShort) when length s below bytes_of (trains_of s))
    ∷ (refuse (OfHead TooLong) when bytes_of (trains_of s) below length s)
    ∷ [])

-- a filling bit is 1
unfoldable pub filling_verdict : List ℕ → Verdict
filling_verdict s = verdict_of ((refuse Filling when 0 below filling_of s) ∷ [])

-- the numbers, then the filling bits
unfoldable pub body_verdict : List ℕ → Verdict
body_verdict s = numbers_verdict (trains_of s) (times_of s) (passengers_of s) and_then filling_verdict s

unfoldable pub sheet_verdict : List ℕ → Verdict
sheet_verdict s = head_verdict s and_then body_verdict s

-- what the checks of trains 1 to m read stands in the lists d, r and y of departures, driving times and delays
pub record TrainRoom (m : ℕ) (d r y : List ℕ) : Type 0 where
  pub least : 1 ≤ m
  pub most : m ≤ 64
  pub departures : m ≤ length d
  pub driving : m ≤ length r
  pub delays : m ≤ length y

-- and what the checks of the passengers read, in the fourth list
pub record Room (m : ℕ) (L : Lists) : Type 0 where
  pub trains : TrainRoom m L.departures L.driving L.delays
  pub passengers : pairs_of m ≤ length L.passengers
