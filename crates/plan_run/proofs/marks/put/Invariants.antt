-- `marks::put` meets its contract: the places passed hold their marks. Assumes nothing.
use Rattle.std.proofs.Common.{List, ℕ, ◌≡◌, ◌+◌, ◌*◌, ◌<◌, get_or, length}
use Rattle.plan_run.proofs.marks.put.Given as goal

-- of 4100 cells the first k hold their marks
pub record Marked (cells : List ℕ) (k : ℕ) : Type 0 where
  pub long : length cells ≡ 4100
  pub marks : (j : ℕ) → j < k → get_or cells j 0 ≡ (j + 1) * 1000003

abbrev pub invariant-loop-k : goal.invariant-loop-k
invariant-loop-k l = Marked l.cells l.k
