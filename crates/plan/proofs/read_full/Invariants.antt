-- `read_full` stays within the buffer, and ends: each turn but the last fills one more place at least.
-- Assumes nothing.
use Rattle.std.proofs.Common.{◌≤◌, ◌-◌, length}
use Rattle.plan.proofs.read_full.Given as goal

abbrev pub invariant-loop-n : goal.invariant-loop-n
invariant-loop-n g l = l.n ≤ length l.buffer

abbrev pub decreases-loop-n : goal.decreases-loop-n
decreases-loop-n g l = length l.buffer - l.n
