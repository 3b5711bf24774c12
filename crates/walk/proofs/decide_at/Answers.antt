-- `decide_at` meets its contract: the costs are those of the run, so what compares less is the choice.
use Rattle.walk.proofs.Walks.{step_chooses, stepped_keep, stepped_go}
use Rattle.walk.proofs.decide_at.Goals as goal

-- costs of the run can be added to cells within the limit
pub choose-choice-requires : goal.choose-choice-requires
choose-choice-requires c = step_chooses c.args.book.now _ _ _ _ c.requires

-- the run goes on
pub returns-in-Keep : goal.returns-in-Keep
returns-in-Keep c =
    rw (c.arrives-late.ensures, c.on-excess.ensures.excess, c.leaves.ensures, c.in-Keep.is)
    (stepped_keep c.args.book.now _ _ _ _ c.requires (rw c.in-Keep.is at c.choose-choice.ensures))

-- the train begins a run
pub returns-in-Go : goal.returns-in-Go
returns-in-Go c =
    rw (c.arrives-late-in-Go.ensures, c.in-Go.is)
    (stepped_go c.args.book.now _ _ _ _ c.requires (rw c.in-Go.is at c.choose-choice.ensures) _ c.costs_along.ensures)
