-- What report returns and what it leaves of the sheet and of the lent buffers. Document 01, "Four operations", and
-- "Numbers of refusal". A report says that train i has the source delay v now; s is the sheet before it and t after it.
--   report_verdict s i v b            all checks of a report, in their order
--   Reported s i v before t after n   what an accepted report leaves that answers the total n
--   Report s i v before t after a     what report answers, and what it leaves of sheet and buffers
-- Assumes nothing.
use Rattle.std.specs.Prelude.{ℕ, ◌≡◌, List, Err}
use Rattle.terms.specs.declared.Refusal.{Refusal}
use Rattle.terms.specs.Verdict.{Verdict, ◌and_then◌}
use Rattle.terms.specs.Answer.{Answer}
use Rattle.line.specs.Cells.{book_of}
use Rattle.sheet.specs.Format.{trains_of}
use Rattle.sheet.specs.Numbers.{numbers_of}
use Rattle.sheet.specs.Checks.{sheet_verdict}
use Rattle.sheet.specs.Accepted.{DelayReplaced}
use Rattle.prepare.specs.LineOf.{line_of}
use Rattle.planner.specs.Buffers.{Buffers, buffers_verdict}
use Rattle.planner.specs.Settled.{Settled}
use Rattle.planner.specs.ReportChecks.{own_verdict}
use Rattle.planner.specs.Outcome.{Outcome}

-- the lengths, the sheet, then 11, 6 and 12
unfoldable pub report_verdict : List ℕ → ℕ → ℕ → Buffers → Verdict
report_verdict s i v b = buffers_verdict b and_then sheet_verdict s and_then own_verdict (trains_of s) i v b.cells

pub record Reported (s : List ℕ) (i v : ℕ) (before : Buffers) (t : List ℕ) (after : Buffers) (n : ℕ) : Type 0 where
  -- Accepted: that field of the sheet is replaced
  pub sheet : DelayReplaced s i v t
  -- and rows 1 to that train are worked anew from the later rows as they stand; decisions follow from train 2 by
  -- comparing the two choices in the cells (keep when equal), and delays by following them; the total is cell (1, 1).
  pub settled : Settled (book_of (line_of (numbers_of t))) i before after n

pub record Report (s : List ℕ) (i v : ℕ) (before : Buffers) (t : List ℕ) (after : Buffers) (a : Answer) : Type 0 where
  pub outcome : Outcome (report_verdict s i v before) (Reported s i v before t after) before after a
  -- A refused report leaves the sheet unchanged.
  pub kept : (r : Refusal) → report_verdict s i v before ≡ Err r → t ≡ s
