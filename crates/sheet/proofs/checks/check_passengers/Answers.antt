-- `checks::check_passengers` meets its contract, by the invariant that stands in Invariants.antt.
use Rattle.std.proofs.Common.{◌≡◌, refl, ap, ◌+◌, ℕ, get_or, arith}
use Rattle.terms.proofs.Checks.{search_next, search_stop, search_end, hit, miss, no_more}
use Rattle.sheet.specs.Checks.{passengers_verdict}
use Rattle.lists.specs.Run.{nth}
use Rattle.sheet.proofs.checks.check_passengers.Goals as goal
use Rattle.sheet.proofs.checks.check_passengers.Goals.{In-loop-k}

-- what is read at a place is the number of the field there
same : (c : In-loop-k) → get_or c.args.passengers.now c.loop-k.k 0 ≡ nth c.args.passengers.now (c.loop-k.k + 1)
same c = ap (λ (i : ℕ). get_or c.args.passengers.now i 0) (omega arith)

-- a field was refused: it is the first
pub returns-then-count-gt10000 : goal.returns-then-count-gt10000
unfolding passengers_verdict
returns-then-count-gt10000 c =
    search_stop _ _ _ c.loop-k.invariant (omega arith) refl
    (hit _ _ _ _ (omega (arith, same (goal.at.returns-then-count-gt10000 c).In-loop-k)))

-- it passed: the fields after it are still to be checked
pub loop-k-preserved : goal.loop-k-preserved
unfolding passengers_verdict
loop-k-preserved c =
    search_next _ _ _ c.loop-k.invariant (omega arith) refl
    (miss _ _ _ _ _ (omega (arith, same (goal.at.loop-k-preserved c).In-loop-k)) no_more)

-- every field passed
pub returns : goal.returns
returns c = search_end _ _ _ c.loop-k.invariant (omega arith)
