-- `checks::check_train` meets its contract: the times of the train stand one place before its number.
use Rattle.sheet.specs.Checks.{train_verdict}
use Rattle.sheet.proofs.checks.check_train.Goals as goal

pub returns : goal.returns
unfolding train_verdict
returns c = rw (← c.index-k.ensures, ← c.earliest-earliest.ensures, ← c.from-departure.ensures) c.check_times.ensures
