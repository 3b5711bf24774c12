-- `sums::Sums::boarded` meets its contract. Invariant: those who leave the trains after t are counted.
use Rattle.std.proofs.Common.{◌≡◌, ◌+◌, ◌≤◌}
use Rattle.cells.specs.Sums.{boarded_in}
use Rattle.cells.proofs.sums.Sums.boarded.Given as goal

abbrev pub invariant-loop-t : goal.invariant-loop-t
invariant-loop-t l = (l.t-start ≤ l.t) × (l.sum ≡ boarded_in l.self.m l.self.list.now l.from.0 (l.t + 1))
