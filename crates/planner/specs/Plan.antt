-- What plan returns and what it leaves in the lent buffers. Document 01, "Four operations".
--   plan_verdict s b           all checks of plan, in their order, for the sheet s and the buffers b
--   Planned L before after n   what an accepted plan of the line L leaves that answers the total n
--   Plan s before after a      what plan answers for the sheet s, and what it leaves of the buffers
-- Assumes nothing.
use Rattle.std.specs.Prelude.{◌≡◌, List, ℕ}
use Rattle.lists.specs.Run.{padded}
use Rattle.terms.specs.Verdict.{Verdict, ◌and_then◌}
use Rattle.terms.specs.Answer.{Answer}
use Rattle.line.specs.Line.{Line}
use Rattle.line.specs.Policy.{Policy, arrival, total}
use Rattle.line.specs.Plan.{IsPlan}
use Rattle.line.specs.Cells.{book_of}
use Rattle.sheet.specs.Numbers.{numbers_of}
use Rattle.sheet.specs.Checks.{sheet_verdict}
use Rattle.cells.specs.Place.{RowsWorked}
use Rattle.cells.specs.Shown.{shown}
use Rattle.prepare.specs.LineOf.{line_of}
use Rattle.planner.specs.Buffers.{Buffers, buffers_verdict}
use Rattle.planner.specs.Outcome.{Outcome}

-- the lengths, then the sheet
unfoldable pub plan_verdict : List ℕ → Buffers → Verdict
plan_verdict s b = buffers_verdict b and_then sheet_verdict s

-- Accepted: cells in use filled; decision byte 1 is 0, bytes 2 to m the plan, the rest 0; arrival delays, the rest 0;
-- the total is returned. The plan is the one of document 01's objective.
pub record Planned (L : Line) (before after : Buffers) (n : ℕ) : Type 0 where
  pub policy : Policy
  pub plan : IsPlan L policy
  pub costs : n ≡ total L policy
  pub decisions : after.decisions ≡ shown L.trains policy
  pub delays : after.delays ≡ padded 64 L.trains (arrival L.running policy)
  pub cells : RowsWorked (book_of L) L.trains before.cells after.cells

-- The sheet is lent to be read, so that plan cannot change it.
abbrev pub Plan : List ℕ → Buffers → Buffers → Answer → Type 0
Plan s before after a = Outcome (plan_verdict s before) (Planned (line_of (numbers_of s)) before after) before after a
