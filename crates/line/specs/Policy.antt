-- What comes of a policy. Document 01, "Following a policy", as far as the total.
--   Decision, Policy      keep or go; one for each train from 2 to m, and what it says elsewhere makes no difference
--   arrival R p i         how late train i arrives under the policy p
--   excess R p s          what is left of the arrival delay of train s - 1 once the slack at station s is used up
--   departure R p i       how late train i departs
--   missed R p s          is the transfer at station s missed
--   Day                   the arrival delays and the missed transfers of a day, under a policy or otherwise
--   dropped D i j         is a transfer at any station strictly between i and j missed
--   counts L D i j        the minutes that each passenger of the pair (i, j) counts
--   pairs_total L D k l   the total of the pairs that board at station k or later and leave at a station after l
--   total L p             the total of all pairs
-- Assumes nothing.
use Rattle.std.specs.Prelude.{ℕ, zero, suc, ◌+◌, ◌-◌, ◌*◌, Bool, true, false, if◌then◌else◌}
use Rattle.lists.specs.Run.{run_of}
use Rattle.line.specs.Sum.{sum◌from◌to◌}
use Rattle.line.specs.Line.{Running, Line}

pub data Decision : Type 0 where
  Keep : Decision
  Go : Decision

abbrev pub Policy : Type 0
Policy = ℕ → Decision

-- Under keep, a train departs late by exactly the excess. Under go, it departs with delay 0.
abbrev pub departs : Decision → ℕ → ℕ
departs Keep e = e
departs Go e = 0

-- Under keep the transfer is maintained. Under go it is maintained when the excess is 0, and missed otherwise.
abbrev pub misses : Decision → ℕ → Bool
misses Keep e = false
misses Go zero = false
misses Go (suc e) = true

-- A train arrives by its departure delay. No train comes before train 1: it finds no excess and departs with delay 0 by
-- this rule too.
unfoldable pub arrival : Running → Policy → ℕ → ℕ
arrival R p zero = 0
arrival R p (suc i) = R.arrive (suc i) (departs (p (suc i)) (arrival R p i - R.slack (suc i)))

-- The arrival delay of train s - 1 less the slack, or 0 if that is negative.
unfoldable pub excess : Running → Policy → ℕ → ℕ
excess R p s = arrival R p (s - 1) - R.slack s

-- how late train i departs
unfoldable pub departure : Running → Policy → ℕ → ℕ
departure R p i = departs (p i) (excess R p i)

unfoldable pub missed : Running → Policy → ℕ → Bool
missed R p s = misses (p s) (excess R p s)

pub record Day : Type 0 where
  pub arrival : ℕ → ℕ
  pub missed : ℕ → Bool

-- the day under a policy
abbrev pub day_of : Running → Policy → Day
day_of R p = record { arrival = arrival R p; missed = missed R p }

-- f s for the first station s strictly between i and j (the j - 1 - i from i + 1 on) whose transfer is missed; `none`
-- where none is.
unfoldable pub at_first_missed : {A : Type 0} → Day → ℕ → ℕ → (ℕ → A) → A → A
at_first_missed D i j f none = run_of (λ s later. if D.missed s then f s else later) none (λ s. s) (i + 1) (j - 1 - i)

-- A pair (i, j) is dropped when a transfer at any station strictly between i and j is missed.
unfoldable pub dropped : Day → ℕ → ℕ → Bool
dropped D i j = at_first_missed D i j (λ s. true) false

-- Each of its passengers then counts the period of the first such station, which is T everywhere in document 01.
-- Otherwise each counts the arrival delay of train j - 1.
unfoldable pub counts : Line → Day → ℕ → ℕ → ℕ
counts L D i j = at_first_missed D i j L.period (D.arrival (j - 1))

-- t is the train that they leave, at station t + 1
unfoldable pub pairs_total : Line → Day → ℕ → ℕ → ℕ
pairs_total L D k l =
    sum (λ t. sum (λ i. L.passengers i (t + 1) * counts L D i (t + 1)) from k to t) from l to L.trains

-- The total is the sum over all pairs.
unfoldable pub total : Line → Policy → ℕ
total L p = pairs_total L (day_of L.running p) 1 1
