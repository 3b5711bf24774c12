-- `times::fill_timing` meets its contract. Invariant: the times of the trains before i stand.
use Rattle.std.proofs.Common.{◌-◌}
use Rattle.sheet.specs.Held.{times_lent}
use Rattle.prepare.specs.Prepared.{HoldsTimes}
use Rattle.prepare.proofs.times.fill_timing.Given as goal

abbrev pub invariant-loop-i : goal.invariant-loop-i
invariant-loop-i l = HoldsTimes (l.i - 1) l.head.period (times_lent l.numbers) l.timing
