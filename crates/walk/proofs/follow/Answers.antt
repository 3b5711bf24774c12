-- `follow` meets its contract, by the invariant that stands in Invariants.antt.
use Rattle.std.proofs.Common.{arith}
use Rattle.walk.proofs.Walks.{walk_asks, walk_next, walk_end}
use Rattle.walk.proofs.follow.Goals as goal

-- the walk stands at station i
pub decide_at-step-requires : goal.decide_at-step-requires
decide_at-step-requires c =
    walk_asks c.args.book.now _ _ _ _ _ _ _ _ c.requires c.loop-i.invariant c.loop-i-test.true

-- there is one train
pub returns : goal.returns
returns c = walk_end _ _ _ _ _ _ _ c.loop-i.invariant c.loop-i-test.false

-- no train is left
pub returns-2 : goal.returns-2
returns-2 c =
    rw c.byte.ensures
    (walk_end _ _ _ _ _ _ _
    (walk_next _ _ _ _ _ _ _ c.loop-i.invariant _ _ _ _ c.decide_at-step.ensures _ c.index-k.ensures
    c.loop-i-test.true) (omega arith))
