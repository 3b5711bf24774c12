-- `diagonal_after` meets its contract. Invariant: the entries before i are held, and those up to the train are as they
-- were.
use Rattle.std.proofs.Common.{◌≡◌, ◌<◌, ◌≤◌, ℕ, length}
use Rattle.lists.specs.Run.{nth}
use Rattle.lists.proofs.Held.{Held}
use Rattle.cells.specs.Held.{table_held}
use Rattle.rows.proofs.diagonal_after.Given as goal

abbrev pub invariant-loop-i : goal.invariant-loop-i
invariant-loop-i l =
    (length l.diagonal ≡ 64) × Held l.diagonal (λ t. table_held l.table t t) l.initial.i l.i
    × ((t : ℕ) → 1 ≤ t → t < l.initial.i → nth l.diagonal t ≡ nth l.initial.diagonal t)
