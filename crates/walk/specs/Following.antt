-- What the steps of the walk need and leave. Document 01, "Four operations", report: comparing the two choices.
--   decision_of          what a choice of the code decides
--   chosen_by            the choice at station l on the run from k, by the costs of that run and the cells
--   ChoiceGiven          what comparing them there needs
--   StepGiven, Stepped   one station of a book
--   WalkGiven            the whole walk; what it leaves is Walked
-- Assumes nothing.
use Rattle.std.specs.Prelude.{ℕ, ◌+◌, ◌≤◌, ◌<◌, ◌≡◌, List, length}
use Rattle.line.specs.Policy.{Decision, Keep, Go}
use Rattle.line.specs.Cells.{Table, Book, arrival_on, prefer, choice, under}
use Rattle.line.specs.Ranges.{limit}
use Rattle.cells.specs.declared.place.Table.{Table as Lent}
use Rattle.cells.specs.Limits.{CellsInRange}
use Rattle.cells.specs.declared.costs.Costs.{Costs}
use Rattle.cells.specs.Costs.{excess_in, keep_in, go_in, CostsAlong}
use Rattle.walk.specs.declared.Choice.{Choice}
use Rattle.walk.specs.declared.Choice.TheVariants.{Keep as Keeps, Go as Goes}

abbrev pub decision_of : Choice → Decision
decision_of Keeps = Keep
decision_of Goes = Go

abbrev pub chosen_by : Costs → Table → ℕ → ℕ → Decision
chosen_by costs c k l = prefer (excess_in costs l) (keep_in costs l + c k (l + 1)) (go_in costs l + c l l)

-- costs and cells that can be added
pub record ChoiceGiven (k l : ℕ) (costs : Costs) (t : Lent) : Type 0 where
  pub first : 1 ≤ k
  pub run : k ≤ l
  pub last : l ≤ 64
  pub keep_most : keep_in costs l ≤ limit
  pub go_most : go_in costs l ≤ limit
  pub range : CellsInRange t.m t.cells.now

-- the walk stands at station l, on the run from k, whose costs are worked
pub record StepGiven (B : Book) (k l : ℕ) (costs : Costs) (t : Lent) : Type 0 where
  pub first : 1 ≤ k
  pub run : k < l
  pub last : l ≤ B.trains
  pub along : CostsAlong B k costs
  pub range : CellsInRange t.m t.cells.now

-- what the station decides, the train that the run then begins with, how late train l arrives, the costs of that run
pub record Stepped (B : Book) (c : Table) (k l : ℕ) (d : Decision) (begins arrives : ℕ) (costs : Costs) : Type 0 where
  pub decides : d ≡ choice B c k l
  pub first : begins ≡ under d k l
  pub late : arrives ≡ arrival_on B.running begins l
  pub along : CostsAlong B begins costs

pub record WalkGiven (decisions delays : List ℕ) (t : Lent) : Type 0 where
  pub long_decisions : length decisions ≡ 64
  pub long_delays : length delays ≡ 64
  pub range : CellsInRange t.m t.cells.now
