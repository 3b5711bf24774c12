-- `checks::check_passengers` meets its contract. Invariant: the fields behind the places passed are still to be
-- checked.
use Rattle.std.proofs.Common.{◌+◌, length}
use Rattle.lists.specs.Run.{nth}
use Rattle.terms.proofs.Checks.{Searching}
use Rattle.sheet.specs.Checks.{passengers_verdict}
use Rattle.sheet.proofs.checks.check_passengers.Given as goal

abbrev pub invariant-loop-k : goal.invariant-loop-k
invariant-loop-k l = Searching (passengers_verdict (nth l.passengers)) 1 (length l.passengers) (l.k + 1)
