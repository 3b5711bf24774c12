-- Of the cells passed no more than all have changed.
use Rattle.std.proofs.Common.{◌≤◌}
use Rattle.plan_run.proofs.changes.differing.Given as goal

abbrev pub invariant-loop-k : goal.invariant-loop-k
invariant-loop-k l = l.n ≤ l.k
