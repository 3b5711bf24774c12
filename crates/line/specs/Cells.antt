-- The working cells. Document 01, "The working cells": what a cell means, how it is worked, and what is read off.
-- Cell (k, l), 1 ≤ k ≤ l ≤ m, is c k l of a table c. The run from k begins with train k departing with delay 0 and
-- maintains every transfer after it.
--   Table                numbers by row and column
--   IsCell L k l n       n is what document 01 says that cell (k, l) is
--   leaving, aboard      the two sums of passengers by which a cell is worked
--   Book, book_of L      what cells are worked from: a line with these sums in the place of its passengers
--   excess_on R k l      the excess at station l on the run from k; 0 at l = k, where the run begins
--   arrival_on R k l     train l's arrival delay on the run from k
--   keep_cost, go_cost   the two choices at cell (k, l)
--   cell_by B c k l      what cell (k, l) has to be, by the cells that it rests on
--   Worked B t c d       the table d has rows 1 to t worked anew and the rows after t as they stand in c
--   choice B c k l       the decision at station l on the run from k, by the cells
--   decide B c           the policy that is read off the cells
-- Assumes nothing.
use Rattle.std.specs.Prelude.{ℕ, zero, suc, ◌+◌, ◌-◌, ◌*◌, ◌≤◌, ◌<◌, min, ◌≡◌, false}
use Rattle.lists.specs.Choice.{if_below}
use Rattle.line.specs.Sum.{sum◌from◌to◌}
use Rattle.line.specs.Line.{Running, Line}
use Rattle.line.specs.Policy.{Decision, Keep, Go, Policy, arrival, departure, missed, day_of, pairs_total}

abbrev pub Table : Type 0
Table = ℕ → ℕ → ℕ

-- ---- what a cell means

-- Train k departs with delay 0 and the transfers at stations k + 1 to l - 1 are maintained.
pub record Along (R : Running) (p : Policy) (k l : ℕ) : Type 0 where
  pub on_time : departure R p k ≡ 0
  pub maintained : (s : ℕ) → k < s → s < l → missed R p s ≡ false

-- Cell (k, l) is the least total of the pairs that board at station k or later and leave at a station after l, when
-- that is so: some policy attains it and none has less.
pub record IsCell (L : Line) (k l n : ℕ) : Type 0 where
  pub policy : Policy
  pub along : Along L.running policy k l
  pub attained : pairs_total L (day_of L.running policy) k l ≡ n
  pub least : (p : Policy) → Along L.running p k l → n ≤ pairs_total L (day_of L.running p) k l

-- ---- how a cell is worked

-- those who board at k to l and leave at l + 1
unfoldable pub leaving : Line → ℕ → ℕ → ℕ
leaving L k l = sum (λ i. L.passengers i (l + 1)) from k to l

-- those who board at k to l - 1 and leave after l
unfoldable pub aboard : Line → ℕ → ℕ → ℕ
aboard L k l = sum (λ t. sum (λ i. L.passengers i (t + 1)) from k to (l - 1)) from l to L.trains

pub record Book : Type 0 where
  pub trains : ℕ
  pub running : Running
  pub period : ℕ → ℕ
  pub leaving : ℕ → ℕ → ℕ
  pub aboard : ℕ → ℕ → ℕ

abbrev pub book_of : Line → Book
book_of L =
    record {
      trains = L.trains;
      running = L.running;
      period = L.period;
      leaving = leaving L;
      aboard = aboard L;
    }

-- the run from k as a policy: go up to train k, and keep after it
unfoldable pub run_from : ℕ → Policy
run_from k i = if_below k i Keep Go

-- Train k departs with delay 0; after k the run keeps, and train l departs late by exactly the excess.
unfoldable pub excess_on : Running → ℕ → ℕ → ℕ
excess_on R k l = departure R (run_from k) l

unfoldable pub arrival_on : Running → ℕ → ℕ → ℕ
arrival_on R k l = arrival R (run_from k) l

-- Keep: those who board at k to l and leave at l + 1, times train l's arrival delay on that run, plus cell (k, l + 1).
unfoldable pub keep_cost : Book → Table → ℕ → ℕ → ℕ
keep_cost B c k l = B.leaving k l * arrival_on B.running k l + c k (l + 1)

-- Go: the period times those who board at k to l - 1 and leave after l, plus cell (l, l).
unfoldable pub go_cost : Book → Table → ℕ → ℕ → ℕ
go_cost B c k l = B.period l * B.aboard k l + c l l

-- Each cell is the lesser of two choices. For l = k, and where the excess is 0, only keep is a choice. The first number
-- is the excess.
abbrev pub lesser : ℕ → ℕ → ℕ → ℕ
lesser zero keep go = keep
lesser (suc e) keep go = min keep go

unfoldable pub cell_by : Book → Table → ℕ → ℕ → ℕ
cell_by B c k l = lesser (excess_on B.running k l) (keep_cost B c k l) (go_cost B c k l)

-- A plan works rows 1 to m, a report of train t rows 1 to t, from the later rows as they stand. For l = m + 1 the value
-- is 0.
pub record Worked (B : Book) (t : ℕ) (c d : Table) : Type 0 where
  pub last : (k : ℕ) → d k (B.trains + 1) ≡ 0
  pub anew : (k l : ℕ) → 1 ≤ k → k ≤ t → k ≤ l → l ≤ B.trains → d k l ≡ cell_by B d k l
  pub stand : (k l : ℕ) → t < k → k ≤ l → l ≤ B.trains → d k l ≡ c k l

-- ---- what is read off

-- keep where the excess is 0; else the lesser choice, and keep when equal
abbrev pub prefer : ℕ → ℕ → ℕ → Decision
prefer zero keep go = Keep
prefer (suc e) keep go = if_below go keep Go Keep

unfoldable pub choice : Book → Table → ℕ → ℕ → Decision
choice B c k l = prefer (excess_on B.running k l) (keep_cost B c k l) (go_cost B c k l)

-- the first under keep, the second under go
abbrev pub under : Decision → ℕ → ℕ → ℕ
under Keep x y = x
under Go x y = y

-- The first train of the run that train i is on, where `rule k s` decides at station s on the run from k. The first run
-- begins with train 1.
unfoldable pub begins : (ℕ → ℕ → Decision) → ℕ → ℕ
begins rule zero = 1
begins rule (suc i) = under (rule (begins rule i) (suc i)) (begins rule i) (suc i)

-- at station s the rule decides for the run that train s - 1 is on
unfoldable pub policy_by : (ℕ → ℕ → Decision) → Policy
policy_by rule s = rule (begins rule (s - 1)) s

-- Decisions follow by comparing the two choices in the cells, and delays by following them: arrival R (decide B c).
unfoldable pub decide : Book → Table → Policy
decide B c = policy_by (choice B c)
