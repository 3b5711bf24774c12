-- `checks::check_trains` meets its contract. Invariant: the
-- trains from i on are still to be checked.
use Rattle.terms.proofs.Checks.{Searching}
use Rattle.sheet.specs.Held.{times_lent}
use Rattle.sheet.specs.Checks.{train_verdict}
use Rattle.sheet.proofs.checks.check_trains.Given as goal

abbrev pub invariant-loop-i : goal.invariant-loop-i
invariant-loop-i l = Searching (train_verdict (times_lent l.given)) 1 l.m l.i
