-- The three demands, of the calls from C: by the number that a call returns and by what it stores. Document 00;
-- document 01, "Four operations".
--   Result       what a call of plan or report returns, and what the list for the answer then holds
--   from_c       plan and report as C calls them: the list for the answer is lent beside sheet and buffers
--   PlanStores   what an accepted plan stores in that list
--   Demands      the demands, of these calls
-- Assumes nothing.
use Rattle.std.specs.Prelude.{ℕ, ◌≡◌, List, ◌∷◌, [], length}
use Rattle.lists.specs.Run.{nth}
use Rattle.line.specs.Policy.{total}
use Rattle.sheet.specs.Numbers.{numbers_of}
use Rattle.cells.specs.Shown.{policy_in}
use Rattle.prepare.specs.LineOf.{line_of}
use Rattle.planner.specs.Buffers.{Buffers}
use Rattle.demands.specs.Calling.{Calling}
use Rattle.demands.specs.Answered.{Demand1}
use Rattle.demands.specs.Least.{Demand2}
use Rattle.demands.specs.Runs.{Demand3}
use Rattle.oblachura.specs.Calls.{PlanCall, lent, ReportCall}

pub record Result : Type 0 where
  pub returned : ℕ
  pub stored : List ℕ

-- Such a call returns the refusal number and stores number, place and total in a lent list of three 64-bit numbers.
abbrev pub from_c : Calling
from_c =
    record {
      Beside = List ℕ;
      Fits = λ list. length list ≡ 3;
      Result = Result;
      number = λ a. a.returned;
      place = λ a. nth a.stored 2;
      total = λ a. nth a.stored 3;
      plan = λ list s before after a. PlanCall s before list after a.stored a.returned;
      report = λ list s i v before t after a.
          ReportCall i v (lent s before) list (lent t after) a.stored a.returned;
    }

-- 0, 0 and the total of the decisions that it left
abbrev pub PlanStores : Type 0
PlanStores =
    (list s : List ℕ) (before after : Buffers) (stored : List ℕ)
    → PlanCall s before list after stored 0
    → stored ≡ 0 ∷ 0 ∷ total (line_of (numbers_of s)) (policy_in after.decisions) ∷ []

pub record Demands : Type 0 where
  pub first_demand : Demand1 from_c
  pub second_demand : Demand2 from_c
  pub third_demand : Demand3 from_c
  pub plan_stores : PlanStores
