-- `main` reads the number of trains of a planned sheet, and prints that many.
-- Assumes nothing.
use Rattle.plan.proofs.Head.{sheet_accepted}
use Rattle.plan.proofs.main.Goals as goal

pub trains-m-requires : goal.trains-m-requires
trains-m-requires c = sheet_accepted _ c.plan-answer.ensures c.in-Ok.is
