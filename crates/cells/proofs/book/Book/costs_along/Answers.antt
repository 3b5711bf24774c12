-- `book::Book::costs_along` meets its contract, by the invariant that stands in Invariants.antt.
use Rattle.std.proofs.Common.{◌≡◌, ℕ, sym, ◌∙◌, ◌+◌, ◌-◌, ◌≤◌, arith, get_or}
use Rattle.lists.proofs.Held.{nth_index}
use Rattle.line.specs.Ranges.{everyone}
use Rattle.cells.specs.declared.book.Book.{Book as Holder}
use Rattle.cells.specs.Sums.{boarded_in}
use Rattle.cells.proofs.Along.{CostsTo, costs_next, costs_end, turn_boards, turn_leaves}
use Rattle.cells.proofs.book.Book.costs_along.Goals as goal
use Rattle.cells.proofs.book.Book.costs_along.Goals.{After-index-in-loop-i, After-put_costs}

-- who boards where train i leaves, or later, read at its place
boards_at : (book : Holder) (p i : ℕ) → p ≡ i - 1 → 1 ≤ i → i ≤ book.sums.m
    → get_or book.boarding p 0 ≡ boarded_in book.sums.m book.sums.list.now i i
boards_at book p i at least most = nth_index book.boarding p i at ∙ book.boarders.held i least most

-- they are among those counted, who are no more than everyone
boards : (c : After-index-in-loop-i) →
    (get_or c.args.self.now.boarding c.index-in-loop-i.result 0 ≤ c.loop-i.boarded) × (c.loop-i.boarded ≤ everyone)
boards c =
    let book = c.args.self.now in
    let here = boards_at book c.index-in-loop-i.result c.loop-i.i (omega arith) (omega arith) (omega arith) in
    let parts = turn_boards _ _ _ _ book.given _ _ _ _ c.loop-i.invariant (omega arith) (omega arith) (omega arith) in
    (omega arith, parts.1)

-- the stations up to i are done
next : (c : After-put_costs) →
    let book = c.args.self.now in
    CostsTo book.sums.m c.leaves-from.result.0 book.timing.now book.sums.list.now c.put_costs.new.self
    c.arrives-late.result (c.loop-i.boarded - c.leaving-leave.result) (c.loop-i.i + 1)
next c =
    let book = c.args.self.now in
    let here = boards_at book c.index-in-loop-i.result c.loop-i.i (omega arith) (omega arith) (omega arith) in
    let station = c.leaves-station.ensures in
    rw (c.put_costs.ensures, station)
    (costs_next _ _ _ _ book.given _ _ _ _ c.loop-i.invariant (omega arith) (omega arith) (omega arith)
    _ _ _ _ _ _ _
    (rw station at c.excess_at-excess.ensures) c.arrives-late.ensures c.leaving-leave.ensures.0 here
    (rw station at c.period_at.ensures) c.cost-keep.ensures.0 c.cost-go.ensures.0)

pub overflow_sub-aboard : goal.overflow_sub-aboard
overflow_sub-aboard c = (boards (goal.at.overflow_sub-aboard c).After-index-in-loop-i).0

pub cost-go-requires : goal.cost-go-requires
cost-go-requires c =
    let often = c.args.self.now.given.times.period c.loop-i.i (omega arith) (omega arith) in (
      omega (arith, boards (goal.at.cost-go-requires c).After-index-in-loop-i),
      omega (arith, rw c.leaves-station.ensures at c.period_at.ensures, often),
    )

-- some of those counted leave train i
pub overflow_sub-boarded : goal.overflow_sub-boarded
overflow_sub-boarded c =
    let parts = turn_leaves _ _ _ _ c.args.self.now.given _ _ _ _ c.loop-i.invariant (omega arith) (omega arith)
    (omega arith) in
    omega (arith, c.leaving-leave.ensures.0, parts)

pub loop-i-preserved : goal.loop-i-preserved
loop-i-preserved c = next (goal.at.loop-i-preserved c).After-put_costs

-- no station is left
pub returns-2 : goal.returns-2
returns-2 c =
    rw (sym c.leaves-from.ensures)
    (costs_end _ _ _ _ _ _ _ _ (next (goal.at.returns-2 c).After-put_costs) (omega arith))
