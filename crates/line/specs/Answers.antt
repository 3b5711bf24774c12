-- What is printed for a case of document 01, "Sums to check by hand", and what it says of a line, in the words of
-- document 01's definitions alone.
--   Rows, CaseAnswer          rows of cells in use; decisions, arrival delays, a total and rows
--   policy_from, table_from   decisions as a policy, rows as a table
--   PolicyAnswer L x          delays and total of x are what comes of following its decisions
--   PlanAnswer L x            besides, its decisions are the plan and its rows are what document 01 says that cells are
--   WorkedAnswer L t rows x   its rows are the rows given with rows 1 to t worked anew by the rule, and the rest of it
--                             is read off them
-- Assumes nothing.
use Rattle.std.specs.Prelude.{ℕ, ◌+◌, ◌-◌, ◌≤◌, ◌≡◌, List, [], map, length, get_or}
use Rattle.lists.specs.Run.{listed, nth}
use Rattle.line.specs.Line.{Line}
use Rattle.line.specs.Policy.{Decision, Keep, Policy, arrival, total}
use Rattle.line.specs.Plan.{IsPlan}
use Rattle.line.specs.Cells.{Table, IsCell, book_of, Worked, decide}

abbrev pub Rows : Type 0
Rows = List (List ℕ)

-- decisions from train 2 on, arrival delays from train 1 on, the total, and the rows of cells in use
pub record CaseAnswer : Type 0 where
  pub decisions : List Decision
  pub delays : List ℕ
  pub total : ℕ
  pub rows : Rows

-- train 2's decision is the first; keep after the last
abbrev pub policy_from : List Decision → Policy
policy_from ds i = get_or ds (i - 2) Keep

-- (k, l) is entry l - k + 1 of row k, and 0 after the last
abbrev pub table_from : Rows → Table
table_from rows k l = nth (get_or rows (k - 1) []) (l - k + 1)

-- a decision for each train from 2 to m, and what comes of following them
pub record PolicyAnswer (L : Line) (x : CaseAnswer) : Type 0 where
  pub decided : length x.decisions ≡ L.trains - 1
  pub delays : listed (arrival L.running (policy_from x.decisions)) 1 L.trains ≡ x.delays
  pub costs : total L (policy_from x.decisions) ≡ x.total

pub record PlanAnswer (L : Line) (x : CaseAnswer) : Type 0 where
  pub policy : PolicyAnswer L x
  pub plan : IsPlan L (policy_from x.decisions)
  pub cells : (k l : ℕ) → 1 ≤ k → k ≤ l → l ≤ L.trains → IsCell L k l (table_from x.rows k l)

-- Document 01, "Four operations": rows 1 to t are worked anew from the later rows as they stand; decisions follow from
-- train 2 by comparing the two choices in the cells, and delays by following them; the total is cell (1, 1).
pub record WorkedAnswer (L : Line) (t : ℕ) (before : Rows) (x : CaseAnswer) : Type 0 where
  -- row k has the m + 1 - k cells (k, k) to (k, m)
  pub in_use : map length x.rows ≡ listed (λ k. L.trains + 1 - k) 1 L.trains
  pub worked : Worked (book_of L) t (table_from before) (table_from x.rows)
  pub decisions : listed (decide (book_of L) (table_from x.rows)) 2 (L.trains - 1) ≡ x.decisions
  pub delays : listed (arrival L.running (policy_from x.decisions)) 1 L.trains ≡ x.delays
  pub corner : table_from x.rows 1 1 ≡ x.total
