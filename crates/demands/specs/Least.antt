-- Demand 2, first half: the least total, the earliest connection kept. The statements are about what plan promises,
-- called in any way (Calling).
--   LeastPlan L after n   what demand 2 says of one accepted plan of the line L that answers the total n
--   Demand2 C             the demand
-- Assumes nothing.
use Rattle.std.specs.Prelude.{ℕ, ◌≤◌, ◌≡◌, List, get_or}
use Rattle.lists.specs.Run.{padded}
use Rattle.line.specs.Line.{Line}
use Rattle.line.specs.Policy.{Keep, Policy, arrival, total}
use Rattle.line.specs.Plan.{FirstDifference}
use Rattle.line.specs.Cells.{IsCell}
use Rattle.sheet.specs.Numbers.{numbers_of}
use Rattle.cells.specs.Place.{place}
use Rattle.cells.specs.Shown.{shown, policy_in}
use Rattle.prepare.specs.LineOf.{line_of}
use Rattle.planner.specs.Buffers.{Buffers}
use Rattle.demands.specs.Calling.{Calling}

pub record LeastPlan (L : Line) (after : Buffers) (n : ℕ) : Type 0 where
  -- The total is that of the decisions shown,
  pub told : n ≡ total L (policy_in after.decisions)
  -- the least of all wait-or-depart policies.
  pub least : (q : Policy) → total L (policy_in after.decisions) ≤ total L q
  -- Among equals it is the one that keeps the earliest connection.
  pub earliest : (q : Policy) → total L q ≡ total L (policy_in after.decisions) → (t : ℕ)
      → FirstDifference L.trains (policy_in after.decisions) q t → policy_in after.decisions t ≡ Keep
  -- The bytes are those of these decisions, and the delays are what comes of them.
  pub decisions : after.decisions ≡ shown L.trains (policy_in after.decisions)
  pub delays : after.delays ≡ padded 64 L.trains (arrival L.running (policy_in after.decisions))
  -- Each cell in use is what document 01 says that it is.
  pub cells : (k l : ℕ) → 1 ≤ k → k ≤ l → l ≤ L.trains → IsCell L k l (get_or after.cells (place L.trains k l) 0)

pub record Demand2 (C : Calling) : Type 0 where
  pub accepted_plan_is_least : (x : C.Beside) (s : List ℕ) (before after : Buffers) (a : C.Result)
      → C.plan x s before after a → C.number a ≡ 0 → LeastPlan (line_of (numbers_of s)) after (C.total a)
